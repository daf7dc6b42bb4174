use Rattle.std.proofs.Common.{◌≡◌, List, Some, None, ap, sym, ◌∙◌, map, [], ◌∷◌, String, Global}
use Rattle.std.proofs.lemmas.List.{map-append}
use Rattle.std.specs.BTreeMap.{BTreeMap, insert_entry, is_at}
use Rattle.std.specs.Map.{lookup}
use Rattle.std.specs.Option.{option_copied_mut}
use Rattle.std.specs.String.{string_cmp}
use Rattle.toml.specs.Data.{Data}
use Rattle.toml.specs.View.{view}
use Rattle.toml.specs.declared.value.Value.{Value}
use Rattle.nextest_config_resolution_tree.specs.Gathered.{given_at}
use Rattle.nextest_config_resolution_tree.specs.declared.gathering.Layers.{Layers}
use Rattle.nextest_config_resolution_tree.proofs.Gathered.{Entry, given_insert, given_set}
use Rattle.nextest_config_resolution_tree.proofs.gathering.add_member.Goals as goal

pub returns-in_default : goal.returns-in_default
returns-in_default c = λ other.
    let entries = c.args.members.now.entries in
    let new : Layers = record { highest = c.args.value; lower = c.new.result } in
    let none : lookup (is_at (string_cmp c.args.key)) entries ≡ None = sym c.get_mut.ensures.value ∙ ap option_copied_mut c.in_default.is in
    ap (λ (all : List Entry). given_at other all) (c.in_ok-insert.ensures.entries ∙ ap (λ (all : BTreeMap (String Global) Layers). insert_entry string_cmp all.entries c.args.key new) c.get_mut.follows.holds-at-none)
    ∙ given_insert c.args.key new (view c.args.value) other (ap (λ (items : List Value). view c.args.value ∷ map view items) c.new.ensures.items) entries none

pub returns : goal.returns
returns c = λ other.
    let entries = c.args.members.now.entries in
    let old : Layers = c.in-Some.layers.now in
    let new : Layers = record { highest = old.highest; lower = c.push.new.self } in
    let there : lookup (is_at (string_cmp c.args.key)) entries ≡ Some old = sym c.get_mut.ensures.value ∙ ap option_copied_mut c.in-Some.is in
    ap (λ (all : List Entry). given_at other all) (c.get_mut.follows.holds new).0
    ∙ given_set c.args.key old new (view c.args.value) other
    (ap (λ (items : List Value). view old.highest ∷ map view items) c.in_ok-push.ensures.items ∙ ap (λ (more : List Data). view old.highest ∷ more) (map-append view old.lower.items (c.args.value ∷ [])))
    entries there
