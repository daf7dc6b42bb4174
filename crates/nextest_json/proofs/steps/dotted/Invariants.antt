use Rattle.std.proofs.Common.{◌≡◌, map, take, reverse, string_bytes}
use Rattle.std.specs.List.{join_with_byte}
use Rattle.nextest_json.specs.Paths.{step_text}
use Rattle.nextest_json.proofs.steps.dotted.Given as goal

-- what was passed is joined
abbrev pub invariant-loop-place : goal.invariant-loop-place
invariant-loop-place l = string_bytes l.text ≡ join_with_byte 46 (reverse (map step_text (take l.place l.steps)))
