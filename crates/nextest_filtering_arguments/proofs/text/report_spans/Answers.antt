use Rattle.std.proofs.Common.{List, ℕ, sym, subst, refl}
use Rattle.nextest_filtering_arguments.specs.Faults.{IsSuffix}
use Rattle.nextest_filtering_arguments.proofs.Escapes.{span_at, escape_inside, escape_told}
use Rattle.nextest_filtering_arguments.proofs.text.report_spans.Goals as goal

pub span_within-place-requires : goal.span_within-place-requires
span_within-place-requires c = record {
  suffix = subst (λ (l : List ℕ). IsSuffix c.args.ahead.now l) (sym c.loop-span.invariant.0) c.requires.suffix;
  inside = escape_inside _ _ (span_at _ _ _ _ _ refl c.requires.spans c.loop-span-test.true);
}

pub report-requires : goal.report-requires
report-requires c = record {
  fault = escape_told _ _ _ _ c.span_within-place.ensures (subst (λ (l : List ℕ). IsSuffix c.args.ahead.now l) (sym c.loop-span.invariant.0) c.requires.suffix)
      (span_at _ _ _ _ record { offset = 0; length = 0 } refl c.requires.spans c.loop-span-test.true);
}
