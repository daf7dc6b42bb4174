use Rattle.std.proofs.Common.{◌≡◌, ℕ, zero, suc, [], ◌∷◌, drop, refl, ◌∙◌}
use Rattle.std.specs.List.{slice_get}
use Rattle.toml.specs.Data.{Data}
use Rattle.toml.specs.View.{view}
use Rattle.nextest_config_elements_toml.specs.Reading.{Path}
use Rattle.nextest_config_resolution_tree.specs.Runs.{first_key}
use Rattle.nextest_config_resolution_tree.proofs.run.key_at.Goals as goal

-- the first of what is left of a path
first_left : (depth : ℕ) (path : Path) (value : Data) → slice_get path depth ≡ first_key (drop depth path, value)
first_left zero [] value = refl
first_left zero (key ∷ path) value = refl
first_left (suc depth) [] value = refl
first_left (suc depth) (key ∷ path) value = first_left depth path value

pub returns-clause-key : goal.returns-clause-key
returns-clause-key c = c.get.ensures.key ∙ first_left c.args.depth c.args.entry.now.path (view c.args.entry.now.value)
