use Rattle.std.proofs.Common.{[], List, reverse, sym, ap, ◌∙◌}
use Rattle.std.proofs.lemmas.List.{append-nil}
use Rattle.nextest_filtering_syntax.specs.declared.tree.ParsedExpr.{ParsedExpr}
use Rattle.nextest_filtering_syntax.specs.Copies.{Symbol, made_of, shapes, symbols_of}
use Rattle.nextest_filtering_syntax.proofs.Copies.{made_whole}
use Rattle.nextest_filtering_syntax.proofs.copying.copied.Goals as goal

pub loop-symbol-init : goal.loop-symbol-init
loop-symbol-init c =
    let tree = c.args.tree.now in
    ap (λ (l : List Symbol). made_of (reverse l) (shapes c.new-made.result.items)) c.in_ok-symbols.ensures
    ∙ ap (λ (made : List ParsedExpr). made_of (reverse (symbols_of tree)) (shapes made)) c.new-made.ensures.items
    ∙ ap (λ (l : List Symbol). made_of l []) (sym (append-nil (reverse (symbols_of tree)))) ∙ made_whole tree [] []
