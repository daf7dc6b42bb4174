use Rattle.std.proofs.Math.Path.{ap, ◌∙◌}
use Rattle.std.specs.Prelude.{length}
use Rattle.nextest_filtering_arguments.proofs.Spans.{suffix_in, suffix_trans}
use Rattle.nextest_filtering_syntax.proofs.Leaves.{matchers, argued_from, argued_not_from, matcher_passes}
use Rattle.nextest_filtering_syntax.proofs.Places.{placed, spanned_so}
use Rattle.nextest_filtering_ast.specs.Grammar.{leaf_word}
use Rattle.nextest_filtering_syntax.proofs.leaf.about.Goals as goal

pub matcher-requires : goal.matcher-requires
matcher-requires c = record { suffix = suffix_trans _ _ _ c.requires.suffix c.requires.start }

pub returns-in_err-found-clause-finds : goal.returns-in_err-found-clause-finds
returns-in_err-found-clause-finds c = matcher_passes _ _ _ _ _ _ c.in_err-found.ensures.finds c.from_residual.ensures.1

pub close_argument-requires : goal.close_argument-requires
close_argument-requires c = record { suffix = suffix_in _ _ _ _ c.in_ok-found.ensures.input c.in_ok-found.ensures.finds.behind (suffix_trans _ _ _ c.requires.suffix c.requires.start) }

pub returns-in_default-clause-finds : goal.returns-in_default-clause-finds
returns-in_default-clause-finds c =
    argued_not_from _ _ _ _ _ _ _ _ _ _ (matchers c.args.subject) c.in_default.is (ap length c.give_up.ensures.list) c.in_ok-found.ensures.finds c.in_ok-rest.ensures.closes

pub returns-clause-finds : goal.returns-clause-finds
returns-clause-finds c =
    argued_from _ _ _ _ _ _ _ _ _ _ (matchers c.args.subject) c.in-Some.is c.leaf.ensures.leaf c.in_ok-found.ensures.finds c.in_ok-rest.ensures.closes

pub returns-clause-placed : goal.returns-clause-placed
returns-clause-placed c =
    placed _ _ _ _ _ _ _ _ (c.in_ok-rest.ensures.input ∙ c.in_ok-found.ensures.input) c.leaf.ensures.span (ap leaf_word c.leaf.ensures.leaf) c.span-span.ensures c.requires.start c.requires.named
    (suffix_trans _ _ _ c.in_ok-rest.ensures.closes.behind c.in_ok-found.ensures.finds.behind)

pub returns-clause-spanned : goal.returns-clause-spanned
returns-clause-spanned c =
    spanned_so _ _ c.args.start.now _ c.leaf.result _ (c.in_ok-rest.ensures.input ∙ c.in_ok-found.ensures.input) c.leaf.ensures.span c.span-span.ensures
