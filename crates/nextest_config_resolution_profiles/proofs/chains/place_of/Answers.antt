use Rattle.std.proofs.Common.{◌∙◌, ap, subst, sym}
use Rattle.std.specs.List.{Contains}
use Rattle.nextest_config_resolution_profiles.proofs.Names.{name_is, names_are, none_has, one_apart}
use Rattle.nextest_config_resolution_profiles.proofs.chains.place_of.Goals as goal

pub returns-then-is_named-clause-found : goal.returns-then-is_named-clause-found
returns-then-is_named-clause-found c =
    let it = c.index-profiles-place.result in
    name_is c.args.profiles.now c.loop-place.place it c.loop-place-test.true ∙ ap (λ p. p.name) (sym c.index-profiles-place.is) ∙ c.if-is_named.ensures.yes

pub loop-place-preserved : goal.loop-place-preserved
loop-place-preserved c =
    let it = c.index-profiles-place.result in
    one_apart c.args.profiles.now c.args.name.now c.loop-place.place it c.loop-place-test.true c.loop-place.invariant
    (λ same. c.if-is_named.ensures.no (ap (λ p. p.name) c.index-profiles-place.is ∙ same))

pub returns-clause-missing : goal.returns-clause-missing
returns-clause-missing c = λ has.
    none_has c.args.profiles.now c.args.name.now c.loop-place.place c.loop-place-test.false c.loop-place.invariant
    (subst (λ ns. Contains ns c.args.name.now) (sym (names_are c.args.profiles.now)) has)
