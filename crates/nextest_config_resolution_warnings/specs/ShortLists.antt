-- Data as it is in memory, where no list has 2 ^ 64 items.
use Rattle.std.specs.Prelude.{◌≡◌, ℕ, ◌<◌, ◌^◌, Some, ⊤}
use Rattle.toml.specs.Data.{Data, table, array, Items, no_items, item, Members, no_members, member, get_item}

-- each position of a list is below that, and so is each of the lists inside
abbrev mutual
  pub HasShortLists : Data → Type 0
  HasShortLists (array items) =
      ((position : ℕ) (value : Data) → get_item position items ≡ Some value → position < 2 ^ 64) × ItemsHaveShortLists items
  HasShortLists (table members) = MembersHaveShortLists members
  HasShortLists _ = ⊤

  pub ItemsHaveShortLists : Items → Type 0
  ItemsHaveShortLists no_items = ⊤
  ItemsHaveShortLists (item value more) = HasShortLists value × ItemsHaveShortLists more

  pub MembersHaveShortLists : Members → Type 0
  MembersHaveShortLists no_members = ⊤
  MembersHaveShortLists (member key value more) = HasShortLists value × MembersHaveShortLists more
