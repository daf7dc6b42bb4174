use Rattle.std.proofs.Common.{◌≡◌, ℕ, ◌+◌, ◌<◌, ◌≤◌, List, ◌∙◌, Global, Vec, get_or, length, subst, sym, ap}
use Rattle.nextest_filtering_filters.specs.Meaning.{Tells}
use Rattle.nextest_filtering_graph.specs.Graph.{Graph}
use Rattle.nextest_filtering_ast.specs.Meaning.{MatchesName}
use Rattle.nextest_filtering_ast.specs.Tree.{matcher_of}
use Rattle.nextest_filtering_compiling.proofs.Asked.{NamedBelow, named_all, named_none, named_one}
use Rattle.nextest_filtering_compiling.proofs.Looked.{not_so, tells_name}
use Rattle.nextest_filtering_compiling.proofs.packages.named_places.Goals.{then-branch+in_ok-push, else-branch}
use Rattle.nextest_filtering_compiling.proofs.packages.named_places.Goals as goal

pub loop-place-preserved : goal.loop-place-preserved
loop-place-preserved c =
    let graph = c.args.cx.now.graph in
    let m = matcher_of c.args.matcher.now in
    let none : List ℕ × List ℕ = c.package-item.result in
    let place : ℕ = c.loop-place.place in
    let answer = c.in_ok-is_match.field-0 in
    let same : c.packages-package-items.result.now ≡ graph.packages = c.packages-package-items.ensures.value ∙ ap (λ (g : Graph). g.packages) c.graph.ensures in
    let within : place < length graph.packages = subst (λ (l : List (List ℕ × List ℕ)). place < length l) same c.loop-place-test.true in
    let name : c.as_str.result.now ≡ (get_or graph.packages place none).1
    = c.as_str.ensures ∙ ap (λ (it : List ℕ × List ℕ). it.1) c.package-item.is ∙ ap (λ (l : List (List ℕ × List ℕ)). (get_or l place none).1) same in
    let told : Tells (MatchesName m (get_or graph.packages place none).1) answer
    = subst (λ (text : List ℕ). Tells (MatchesName m text) answer) name
    (tells_name m c.loop-place.names c.as_str.result.now answer c.loop-place.invariant.comparison c.loop-place.invariant.text c.in_ok-is_match.ensures.exact) in
    record {
      comparison = c.is_match.ensures.comparison ∙ c.loop-place.invariant.comparison;
      text = c.is_match.ensures.text ∙ c.loop-place.invariant.text;
      found = elim c.if-branch.branch [
        | then-branch+in_ok-push w ↦ subst (λ (v : Vec ℕ Global). NamedBelow graph m v.items (place + 1)) (sym w.places-is)
            (named_one graph m c.loop-place.places.items w.push.new.self.items place none within (told.0 w.if-branch.true) w.in_ok-push.ensures.items c.loop-place.invariant.found)
        | else-branch w ↦ subst (λ (v : Vec ℕ Global). NamedBelow graph m v.items (place + 1)) (sym w.places-is)
            (named_none graph m c.loop-place.places.items place none (not_so answer told w.if-branch.false) c.loop-place.invariant.found)
      ];
    }

pub returns : goal.returns
returns c =
    let graph = c.args.cx.now.graph in
    let same : c.packages-package-items.result.now ≡ graph.packages = c.packages-package-items.ensures.value ∙ ap (λ (g : Graph). g.packages) c.graph.ensures in
    named_all graph (matcher_of c.args.matcher.now) c.loop-place.places.items c.loop-place.place
    (subst (λ (l : List (List ℕ × List ℕ)). length l ≤ c.loop-place.place) same c.loop-place-test.false) c.loop-place.invariant.found
