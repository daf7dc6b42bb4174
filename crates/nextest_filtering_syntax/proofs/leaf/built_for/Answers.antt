use Rattle.std.proofs.Math.Path.{ap, ◌∙◌}
use Rattle.std.specs.Prelude.{length, refl, codes}
use Rattle.nextest_filtering_ast.specs.declared.leaf.ParsedLeaf.TheVariants as leaf
use Rattle.nextest_filtering_arguments.proofs.Spans.{suffix_in, suffix_trans}
use Rattle.nextest_filtering_syntax.proofs.Leaves.{platforms, argued_from, argued_not_from}
use Rattle.nextest_filtering_syntax.proofs.Places.{begins_so, spanned_so}
use Rattle.nextest_filtering_syntax.proofs.leaf.built_for.Goals as goal

pub platform-requires : goal.platform-requires
platform-requires c = record { suffix = suffix_trans _ _ _ c.requires.suffix c.requires.start }

pub close_argument-requires : goal.close_argument-requires
close_argument-requires c = record { suffix = suffix_in _ _ _ _ c.in_ok-found.ensures.input c.in_ok-found.ensures.reads.behind (suffix_trans _ _ _ c.requires.suffix c.requires.start) }

pub returns-in_default-clause-finds : goal.returns-in_default-clause-finds
returns-in_default-clause-finds c =
    argued_not_from _ _ _ _ _ _ _ _ _ _ platforms c.in_default.is (ap length c.give_up.ensures.list) c.in_ok-found.ensures.reads c.in_ok-rest.ensures.closes

pub returns-clause-finds : goal.returns-clause-finds
returns-clause-finds c =
    argued_from _ _ _ _ _ _ _ _ _ _ platforms c.in-Some.is refl c.in_ok-found.ensures.reads c.in_ok-rest.ensures.closes

pub returns-clause-placed : goal.returns-clause-placed
returns-clause-placed c =
    begins_so _ _ _ _ _ (codes "platform") _ (c.in_ok-rest.ensures.input ∙ c.in_ok-found.ensures.input) c.span-span.ensures c.requires.start c.requires.named
    (suffix_trans _ _ _ c.in_ok-rest.ensures.closes.behind c.in_ok-found.ensures.reads.behind)

pub returns-clause-spanned : goal.returns-clause-spanned
returns-clause-spanned c =
    spanned_so _ _ c.args.start.now _ (leaf.Platform c.in-Some.platform c.span-span.result) _ (c.in_ok-rest.ensures.input ∙ c.in_ok-found.ensures.input) refl c.span-span.ensures
