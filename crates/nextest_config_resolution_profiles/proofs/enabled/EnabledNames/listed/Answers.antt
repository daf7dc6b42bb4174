use Rattle.std.proofs.Common.{Bor, IsTrue, List, ℕ, ◌∙◌, subst, sym}
use Rattle.std.specs.BTreeSet.{BTreeSet}
use Rattle.std.proofs.lemmas.Iterator.Consumers.{YieldsList-end, YieldsList-from_rest}
use Rattle.nextest_config_resolution_profiles.specs.Enabled.{AreNamesOf, has_name}
use Rattle.nextest_config_resolution_profiles.proofs.Enabling.{names_of_set}
use Rattle.nextest_config_resolution_profiles.proofs.enabled.EnabledNames.listed.Goals as goal

pub returns : goal.returns
returns c =
    let names = c.self.inside.names in
    let gives = c.into_iter-name-iterator.ensures.into_iter_gives in
    let rest = YieldsList-from_rest {shows = λ (name : Bor (List ℕ)). name.now} names.keys gives.0 in
    let end = YieldsList-end rest c.loop-name.yielded c.loop-name.name-iterator c.loop-name.yielded_by c.next.result c.next.new.self c.in-None.is c.next.ensures.steps in
    subst (λ (it : BTreeSet (List ℕ)). AreNamesOf (λ id. IsTrue (has_name it id)) c.loop-name.listed) c.self.view_is
    (subst (AreNamesOf (λ id. IsTrue (has_name names id))) (sym (c.loop-name.invariant ∙ end.0)) (names_of_set names gives.4))
