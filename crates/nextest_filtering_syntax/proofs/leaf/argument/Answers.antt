use Rattle.nextest_filtering_ast.specs.declared.leaf.ParsedLeaf.TheVariants as leaf
use Rattle.nextest_filtering_arguments.proofs.Spans.{suffix_trans}
use Rattle.std.specs.Prelude.{codes, refl}
use Rattle.std.proofs.Math.Path.{subst}
use Rattle.nextest_filtering_syntax.specs.Names.{name_word}
use Rattle.nextest_filtering_syntax.specs.Places.{IsNamed}
use Rattle.nextest_filtering_syntax.proofs.Places.{begins_so, spanned_so}
use Rattle.nextest_filtering_syntax.proofs.leaf.argument.Goals as goal

pub no_argument-requires : goal.no_argument-requires
no_argument-requires c = record { suffix = suffix_trans _ _ _ c.requires.suffix c.requires.start }

pub no_argument-requires-in-All : goal.no_argument-requires-in-All
no_argument-requires-in-All c = record { suffix = suffix_trans _ _ _ c.requires.suffix c.requires.start }

pub no_argument-requires-in-None : goal.no_argument-requires-in-None
no_argument-requires-in-None c = record { suffix = suffix_trans _ _ _ c.requires.suffix c.requires.start }

pub returns-in_ok-rest-in-Default-clause-placed : goal.returns-in_ok-rest-in-Default-clause-placed
returns-in_ok-rest-in-Default-clause-placed c =
    begins_so _ _ _ _ _ (codes "default") _ c.in_ok-rest-in-Default.ensures.input c.span-span.ensures c.requires.start
    (subst (λ n. IsNamed (name_word n) c.args.start.now c.args.text.now) c.in-Default.is c.requires.named) c.in_ok-rest-in-Default.ensures.closes.behind

pub returns-in_ok-rest-in-Default-clause-spanned : goal.returns-in_ok-rest-in-Default-clause-spanned
returns-in_ok-rest-in-Default-clause-spanned c =
    spanned_so _ _ c.args.start.now _ (leaf.Default c.span-span.result) _ c.in_ok-rest-in-Default.ensures.input refl c.span-span.ensures
