-- Binaries and tests, as filters look at them.
use Rattle.std.specs.Prelude.{ℕ, List}
use Rattle.nextest_filtering_ast.specs.declared.leaf.BuildPlatform.{BuildPlatform}
use Rattle.nextest_filtering_filters.specs.declared.query.BinaryQuery.{BinaryQuery}
use Rattle.nextest_filtering_filters.specs.declared.query.TestQuery.{TestQuery}

pub record Binary : Type 0 where
  pub package_id : List ℕ
  pub id : List ℕ
  pub kind : List ℕ
  pub name : List ℕ
  pub platform : BuildPlatform

pub record Test : Type 0 where
  pub binary : Binary
  pub name : List ℕ

-- what a query asks of
abbrev pub binary_of : BinaryQuery → Binary
binary_of query = record {
  package_id = query.package_id.now;
  id = query.binary_id.now;
  kind = query.kind.now;
  name = query.binary_name.now;
  platform = query.platform;
}

abbrev pub test_of : TestQuery → Test
test_of query = record { binary = binary_of query.binary_query; name = query.test_name.now }
