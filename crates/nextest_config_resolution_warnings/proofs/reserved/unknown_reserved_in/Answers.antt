use Rattle.std.proofs.Common.{◌++◌, [], ◌∷◌, List, ℕ, filter, map, Global, String, string_bytes, sym, ap, ◌∙◌}
use Rattle.toml.specs.View.{table_view}
use Rattle.nextest_config_resolution_warnings.proofs.Named.{filter_further, names_of}
use Rattle.nextest_config_resolution_warnings.specs.Reserved.{is_unknown_reserved, names}
use Rattle.nextest_config_resolution_warnings.proofs.reserved.unknown_reserved_in.Goals as goal

pub loop-name-init : goal.loop-name-init
loop-name-init c =
    let ahead = filter is_unknown_reserved (map string_bytes c.into_iter-name-iterator.result) in
    ap (λ (found : List (List ℕ)). found ++ ahead) c.new-found.ensures
    ∙ ap (λ (keys : List (String Global)). filter is_unknown_reserved (map string_bytes keys))
    (c.into_iter-name-iterator.ensures.into_iter_gives ∙ c.keys-name-items.ensures.rest)
    ∙ ap (filter is_unknown_reserved) (names_of c.args.profiles.now.entries)

pub loop-name-preserved : goal.loop-name-preserved
loop-name-preserved c =
    let found = c.loop-name.found in
    filter_further is_unknown_reserved found c.push_unknown_reserved.new.found (filter is_unknown_reserved (names (table_view c.args.profiles.now)))
    (string_bytes c.in-Some.name.now) (map string_bytes c.next.new.self)
    (ap (λ (keys : List (String Global)). found ++ filter is_unknown_reserved (map string_bytes keys)) (sym c.in-Some.ensures.steps) ∙ c.loop-name.invariant)
    (c.in_ok-push_unknown_reserved.ensures ∙ ap (λ (name : List ℕ). found ++ filter is_unknown_reserved (name ∷ [])) c.as_str.ensures.value)
