use Rattle.std.proofs.Math.Path.{sym, ◌∙◌}
use Rattle.std.specs.Prelude.{◌∷◌, []}
use Rattle.nextest_filtering_arguments.proofs.Spans.{runs_out_at, suffix_token, suffix_at, suffix_trans}
use Rattle.nextest_filtering_syntax.proofs.Places.{stands_as}
use Rattle.nextest_filtering_syntax.proofs.Leaves.{predicate_finds_so, unopened_finds, unnamed_finds, name_rest}
use Rattle.nextest_filtering_syntax.proofs.leaf.predicate.Goals as goal

pub span-span-requires : goal.span-span-requires
span-span-requires c = record { suffix = suffix_at _ _ _ c.skip_blanks-start.ensures c.requires.suffix }

pub report-requires : goal.report-requires
report-requires c = record { fault = runs_out_at _ _ _ _ c.span-span.ensures c.requires.suffix c.skip_blanks-start.ensures }

pub returns-in_default-clause-finds : goal.returns-in_default-clause-finds
returns-in_default-clause-finds c = unnamed_finds _ _ _ _ c.skip_blanks-start.ensures c.in_default.ensures.none c.in_ok-report.ensures.ok

pub argument-requires-clause-start : goal.argument-requires-clause-start
argument-requires-clause-start c = suffix_at _ _ _ c.skip_blanks-start.ensures c.requires.suffix

pub argument-requires-clause-suffix : goal.argument-requires-clause-suffix
argument-requires-clause-suffix c =
    suffix_trans _ _ _ (suffix_token (40 ∷ []) _ _ (sym c.skip_blanks.ensures ∙ c.in-Some-behind.ensures.some)) (name_rest _ _ _ c.in-Some.ensures.some)

pub unopened-requires-clause-start : goal.unopened-requires-clause-start
unopened-requires-clause-start c = suffix_at _ _ _ c.skip_blanks-start.ensures c.requires.suffix

pub returns-in-Some-behind-clause-finds : goal.returns-in-Some-behind-clause-finds
returns-in-Some-behind-clause-finds c =
    predicate_finds_so _ _ _ _ _ _ _ _ _ c.skip_blanks-start.ensures c.in-Some.ensures.some c.skip_blanks.ensures c.in-Some-behind.ensures.some c.argument.ensures.finds

pub returns-in-None-clause-finds : goal.returns-in-None-clause-finds
returns-in-None-clause-finds c =
    unopened_finds _ _ _ _ _ _ _ _ c.skip_blanks-start.ensures c.in-Some.ensures.some c.skip_blanks.ensures c.in-None.ensures.none c.unopened.ensures.reported c.unopened.ensures.rest

pub argument-requires-clause-named : goal.argument-requires-clause-named
argument-requires-clause-named c =
    (c.in-Some.named.now, c.in-Some.ensures.some.0, suffix_token (40 ∷ []) _ _ (sym c.skip_blanks.ensures ∙ c.in-Some-behind.ensures.some))

pub returns-in-Some-behind-clause-stands : goal.returns-in-Some-behind-clause-stands
returns-in-Some-behind-clause-stands c =
    stands_as _ c.args.text.now _ _ _ c.argument.result c.skip_blanks-start.ensures (returns-in-Some-behind-clause-finds c) c.argument.ensures.spanned

pub returns-in-None-clause-stands : goal.returns-in-None-clause-stands
returns-in-None-clause-stands c =
    stands_as _ c.args.text.now _ _ _ c.unopened.result c.skip_blanks-start.ensures (returns-in-None-clause-finds c) c.unopened.ensures.spanned
