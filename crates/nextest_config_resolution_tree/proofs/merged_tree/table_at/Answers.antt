use Rattle.std.proofs.Common.{rules}
use Rattle.toml.specs.declared.value.Value.{the_lemmas}
use Rattle.toml.proofs.Views.{view-Table}
use Rattle.nextest_config_resolution_tree.proofs.merged_tree.table_at.Goals as goal

pub returns-in-Some-Table : goal.returns-in-Some-Table
returns-in-Some-Table c = search (rules, the_lemmas, view-Table)
