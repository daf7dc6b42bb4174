use Rattle.nextest_filtering_ast.specs.declared.leaf.ParsedLeaf.TheVariants as leaf
use Rattle.nextest_filtering_arguments.proofs.Spans.{place_at, suffix_at, suffix_trans}
use Rattle.std.specs.Prelude.{[], refl, codes}
use Rattle.std.proofs.Math.Path.{subst}
use Rattle.nextest_filtering_syntax.specs.Names.{name_word}
use Rattle.nextest_filtering_syntax.specs.Places.{IsNamed}
use Rattle.nextest_filtering_syntax.proofs.Places.{begins_so, spanned_so}
use Rattle.nextest_filtering_syntax.proofs.leaf.unopened.Goals as goal

pub span-place-requires : goal.span-place-requires
span-place-requires c = record { suffix = suffix_at _ _ _ c.skip_blanks.ensures (suffix_trans _ _ _ c.requires.suffix c.requires.start) }

pub report-requires : goal.report-requires
report-requires c = record { fault = place_at _ _ _ _ c.span-place.ensures (suffix_trans _ _ _ c.requires.suffix c.requires.start) c.skip_blanks.ensures }

pub returns-in-Default-clause-placed : goal.returns-in-Default-clause-placed
returns-in-Default-clause-placed c =
    begins_so _ _ _ _ _ (codes "default") _ c.in_ok-report.ensures.input c.span-span.ensures c.requires.start
    (subst (λ n. IsNamed (name_word n) c.args.start.now c.args.text.now) c.in-Default.is c.requires.named) ([], refl)

pub returns-in-Default-clause-spanned : goal.returns-in-Default-clause-spanned
returns-in-Default-clause-spanned c =
    spanned_so _ _ c.args.start.now _ (leaf.Default c.span-span.result) _ c.in_ok-report.ensures.input refl c.span-span.ensures
