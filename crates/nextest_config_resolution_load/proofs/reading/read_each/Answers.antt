use Rattle.std.proofs.Common.{List, String, Global, Ok, map, sym, ap, ◌∙◌, subst, append-nil, nat_cmp}
use Rattle.std.specs.Cmp.Lexicographic.{slice_cmp}
use Rattle.std.specs.List.Sorted.{IsStrictlySortedBy}
use Rattle.toml.specs.View.{members_view, table_view}
use Rattle.toml.specs.declared.value.Value.{Value}
use Rattle.nextest_config_resolution_keys.specs.File.{profiles_in}
use Rattle.nextest_config_resolution_inheritance.specs.Inheritance.{Rise}
use Rattle.nextest_config_resolution_load.specs.Checks.{parents_of}
use Rattle.nextest_config_resolution_load.specs.Load.{named_of}
use Rattle.nextest_config_resolution_load.specs.declared.loaded_config.NamedProfile.{NamedProfile}
use Rattle.nextest_config_resolution_load.proofs.Configs.{same_names}
use Rattle.nextest_config_resolution_load.proofs.Profiles.{after, found_more, names_rise}
use Rattle.nextest_config_resolution_load.proofs.reading.read_each.Goals as goal

pub loop-name-preserved : goal.loop-name-preserved
loop-name-preserved c =
    found_more (table_view c.args.profiles.now) c.loop-name.found.items c.push.new.self.items c.as_str.result.now c.in_ok-profile.profile c.in-Some.name.now c.in-Some.given.now
    c.loop-name.name-iterator c.next.new.self c.in-Some.ensures.steps c.as_str.ensures.value c.in_ok-push.ensures.items c.in_ok-profile.ensures c.loop-name.invariant

pub returns-clause-rises : goal.returns-clause-rises
returns-clause-rises c =
    let found = map named_of c.loop-name.found.items in
    let whole = c.loop-name.invariant
    ∙ ap (λ (left : List (String Global × Value)). after found (profiles_in (members_view left))) c.in-None.ensures.steps.0 ∙ ap Ok (append-nil found) in
    subst (λ (them : List NamedProfile). Rise (parents_of (map named_of them))) (sym c.from.ensures)
    (subst (IsStrictlySortedBy (slice_cmp nat_cmp)) (sym (same_names found)) (names_rise c.args.profiles.now.entries found c.into_iter-name-iterator.ensures.into_iter_gives.5 whole))
