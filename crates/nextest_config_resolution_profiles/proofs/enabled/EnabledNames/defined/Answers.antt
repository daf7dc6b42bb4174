use Rattle.std.proofs.Common.{Bor, IsTrue, List, ℕ, ◌∙◌, ap, map, subst}
use Rattle.std.specs.BTreeSet.{BTreeSet}
use Rattle.std.specs.List.{filter_map}
use Rattle.std.proofs.lemmas.Iterator.Consumers.{YieldsList-end, YieldsList-from_rest}
use Rattle.nextest_config_resolution_profiles.specs.Enabled.{AreNamesOf, defined_as, has_name, seen_script}
use Rattle.nextest_config_resolution_profiles.proofs.Enabling.{defined_more, names_of_set}
use Rattle.nextest_config_resolution_profiles.proofs.enabled.EnabledNames.defined.Goals as goal

pub loop-id-preserved : goal.loop-id-preserved
loop-id-preserved c =
    defined_more c.args.scripts.now c.loop-id.yielded c.in-Some.id (map seen_script c.loop-id.found.items) (map seen_script c.push_defined.new.found.items) c.loop-id.invariant
    c.in_ok-push_defined.ensures

pub returns : goal.returns
returns c =
    let names = c.self.inside.names in
    let gives = c.into_iter-id-iterator.ensures.into_iter_gives in
    let rest = YieldsList-from_rest {shows = λ (name : Bor (List ℕ)). name.now} names.keys gives.0 in
    let end = YieldsList-end rest c.loop-id.yielded c.loop-id.id-iterator c.loop-id.yielded_by c.next.result c.next.new.self c.in-None.is c.next.ensures.steps in
    record {
      names = names.keys;
      are = subst (λ (it : BTreeSet (List ℕ)). AreNamesOf (λ id. IsTrue (has_name it id)) names.keys) c.self.view_is (names_of_set names gives.4);
      each = c.loop-id.invariant ∙ ap (filter_map (defined_as c.args.scripts.now)) end.0;
    }
