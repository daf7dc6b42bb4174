-- The steps of a path.
use Rattle.std.specs.Prelude.{ℕ, List, decimal}
use Rattle.nextest_json.specs.declared.steps.PathStep.{PathStep}
use Rattle.nextest_json.specs.declared.steps.PathStep.TheVariants as steps

-- a name, or a position in shortest decimal
abbrev pub step_text : PathStep → List ℕ
step_text (steps.Name name) = name.now
step_text (steps.Position position) = decimal position
