use Rattle.std.proofs.Common.{◌≡◌, drop}
use Rattle.json.specs.Value.{items_view, members_view}
use Rattle.nextest_json.specs.Range.{are_items_in_range, are_members_in_range}
use Rattle.nextest_json.proofs.range.+range.Given as goal

-- whether the rest is in range is whether all is
abbrev pub invariant-are_items_in_range-loop-item : goal.invariant-are_items_in_range-loop-item
invariant-are_items_in_range-loop-item l = are_items_in_range (items_view (drop l.item-index l.items.items)) ≡ are_items_in_range (items_view l.items.items)

abbrev pub invariant-are_members_in_range-loop-member : goal.invariant-are_members_in_range-loop-member
invariant-are_members_in_range-loop-member l = are_members_in_range (members_view (drop l.member-index l.members.items)) ≡ are_members_in_range (members_view l.members.items)
