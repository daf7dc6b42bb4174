use Rattle.std.proofs.Common.{◌≡◌, ◌+◌}
use Rattle.nextest_filtering_arguments.specs.Faults.{count}
use Rattle.nextest_filtering_arguments.proofs.text.report_spans.Given as goal

abbrev pub invariant-loop-span : goal.invariant-loop-span
invariant-loop-span l = (l.faults.input ≡ l.initial.faults.input) × (count l.faults ≡ count l.initial.faults + l.span-index)
