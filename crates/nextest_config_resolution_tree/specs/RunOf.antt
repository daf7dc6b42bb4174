-- What a merged tree and a run are.
use Rattle.std.specs.Prelude.{List}
use Rattle.nextest_config_resolution_tree.specs.Ends.{End, ends_of}
use Rattle.nextest_config_resolution_tree.specs.declared.merged_tree.MergedTree.{MergedTree}
use Rattle.nextest_config_resolution_tree.specs.declared.run.Run.{Run}

abbrev pub list_of : MergedTree → List End
list_of it = ends_of 0 it.entries.items

abbrev pub run_of : Run → List End
run_of it = ends_of it.depth it.entries.now
