use Rattle.std.proofs.Common.{◌≡◌, ℕ, ◌<◌, List, length, arith, sym, subst, ◌∙◌}
use Rattle.std.specs.Prelude.{All, vec_len}
use Rattle.std.proofs.lemmas.Bool.{eqb-true}
use Rattle.nextest_filtering_ast.specs.Tree.{matcher_of}
use Rattle.nextest_filtering_compiling.specs.Asking.{IsSetFor}
use Rattle.nextest_filtering_compiling.proofs.Asked.{named_within, none_named, not_none, some_named}
use Rattle.nextest_filtering_compiling.proofs.compile.about_packages.Goals as goal

pub returns-then-is_empty : goal.returns-then-is_empty
returns-then-is_empty c known =
    none_named c.args.cx.now known c.args.span c.args.asks (matcher_of c.args.matcher.now) c.in_ok-named.named.items c.in_ok-named.ensures
    (let none : vec_len c.in_ok-named.named ≡ 0 = eqb-true (vec_len c.in_ok-named.named) 0 (sym c.is_empty.ensures ∙ c.if-is_empty.true) in omega (arith, c.in_ok-named.named.ok.0))

pub packages_asked-requires : goal.packages_asked-requires
packages_asked-requires c = record {
  named = subst (All (λ it. it < length c.args.cx.now.graph.packages)) (sym c.as_slice.ensures.value)
      (named_within c.args.cx.now.graph (matcher_of c.args.matcher.now) c.in_ok-named.named.items c.in_ok-named.ensures);
}

pub returns : goal.returns
returns c known =
    some_named c.args.cx.now known c.args.span c.args.asks (matcher_of c.args.matcher.now) c.in_ok-named.named.items c.in_ok-ids.ids c.in_ok-named.ensures
    (not_none (length c.in_ok-named.named.items) (vec_len c.in_ok-named.named) (sym c.is_empty.ensures ∙ c.if-is_empty.false) (omega (arith, c.in_ok-named.named.ok.0)))
    (subst (λ (named : List ℕ). IsSetFor c.args.cx.now.graph c.args.asks named c.in_ok-ids.ids) c.as_slice.ensures.value c.in_ok-ids.ensures)
