use Rattle.std.proofs.Common.{◌≡◌, drop}
use Rattle.std.specs.List.{position_from}
use Rattle.std.specs.Str.{bytes_eq}
use Rattle.test_runner_core_session.proofs.plan_run.place_of_script.Given as goal

-- no script so far has the id
abbrev pub invariant-loop-place : goal.invariant-loop-place
invariant-loop-place l = position_from (λ script. bytes_eq script l.id) l.place (drop l.place l.scripts) ≡ position_from (λ script. bytes_eq script l.id) 0 l.scripts
