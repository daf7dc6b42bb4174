use Rattle.std.proofs.Common.{◌≤◌, string_bytes, subst, ℕ}
use Rattle.std.proofs.lemmas.Str.{IsCharBoundary-from_take, IsUtf8-string_bytes}
use Rattle.test_runner_core_report_lines.proofs.Fronts.{length_known}
use Rattle.test_runner_core_report_lines.proofs.writing.all_or_nothing.Goals as goal

pub truncate-requires : goal.truncate-requires
truncate-requires c within =
    let text = c.args.text.now in
    let fits = subst (λ (n : ℕ). c.args.length ≤ n) (length_known text) within in
    let boundary = IsCharBoundary-from_take (string_bytes text) c.args.length (IsUtf8-string_bytes text) fits c.requires in
    (boundary.0, λ positive. boundary.1)
