use Rattle.std.proofs.Common.{◌≡◌, List, ◌∷◌, ◌++◌, ap, sym, ◌∙◌, subst, append_assoc, string_bytes}
use Rattle.std.specs.List.Sorted.{IsStrictlySortedBy}
use Rattle.std.specs.Map.{keys_of}
use Rattle.std.specs.String.{string_cmp}
use Rattle.toml.specs.Data.{Data}
use Rattle.toml.specs.View.{members_view, view}
use Rattle.nextest_config_resolution_tree.proofs.Keys.{key_cmp}
use Rattle.nextest_config_resolution_tree.proofs.Tables.{Pair, before_keys}
use Rattle.nextest_config_resolution_tree.specs.Gathered.{given_at, member_at}
use Rattle.nextest_config_resolution_tree.proofs.Gathered.{member_first, one}
use Rattle.nextest_config_resolution_tree.proofs.gathering.add_table.Goals as goal

pub loop-key-preserved : goal.loop-key-preserved
unfolding IsStrictlySortedBy
loop-key-preserved c =
    let pair : Pair = (c.in-Some.key, c.in-Some.value) in
    let left : List Pair = c.next.new.self in
    let all : c.loop-key.key-iterator ≡ pair ∷ left = c.in-Some.ensures.steps in
    let rises = subst (λ (pairs : List Pair). IsStrictlySortedBy string_cmp (keys_of pairs)) all c.loop-key.invariant.rises in
    record {
      gives = λ key.
          let now = given_at key c.loop-key.members.entries in
          let more = one (key_cmp key (string_bytes pair.0)) (view pair.1) in
          ap (λ (given : List Data). given ++ member_at key (members_view left)) (c.in_ok-add_member.ensures key)
          ∙ append_assoc now more (member_at key (members_view left))
          ∙ ap (λ (given : List Data). now ++ given) (sym (member_first key pair left (before_keys pair.0 left rises.0)))
          ∙ ap (λ (pairs : List Pair). now ++ member_at key (members_view pairs)) (sym all)
          ∙ c.loop-key.invariant.gives key;
      rises = rises.1;
    }
