use Rattle.std.proofs.Common.{◌≡◌, ℕ, ◌+◌, ◌<◌, ◌≤◌, List, ◌∙◌, get_or, length, subst, sym, ap}
use Rattle.nextest_filtering_graph.specs.Graph.{Graph}
use Rattle.nextest_filtering_compiling.proofs.Asked.{AreIdsBelow, asked_all, asked_none, asked_one}
use Rattle.nextest_filtering_compiling.proofs.Looked.{not_so}
use Rattle.nextest_filtering_compiling.proofs.packages.packages_asked.Goals.{then-is_asked+in_ok-from_str+in_ok-insert, else-is_asked}
use Rattle.nextest_filtering_compiling.proofs.packages.packages_asked.Goals as goal

pub loop-place-preserved : goal.loop-place-preserved
loop-place-preserved c =
    let graph = c.args.cx.now.graph in
    let none : List ℕ × List ℕ = c.package-item.result in
    let place : ℕ = c.loop-place.place in
    let same : c.packages-package-items.result.now ≡ graph.packages = c.packages-package-items.ensures.value ∙ ap (λ (g : Graph). g.packages) c.graph.ensures in
    let within : place < length graph.packages = subst (λ (l : List (List ℕ × List ℕ)). place < length l) same c.loop-place-test.true in
    elim c.if-is_asked.branch [
      | then-is_asked+in_ok-from_str+in_ok-insert w ↦ subst (AreIdsBelow graph c.args.asks c.args.named.now (place + 1)) (sym w.ids-is)
          (asked_one graph c.args.asks c.args.named.now place none c.loop-place.ids w.insert.new.self w.in_ok-from_str.field-0 within
          (w.in_ok-from_str.ensures.ok ∙ w.as_str.ensures ∙ ap (λ (it : List ℕ × List ℕ). it.0) c.package-item.is ∙ ap (λ (l : List (List ℕ × List ℕ)). (get_or l place none).0) same)
          (c.is_asked.ensures.0 w.if-is_asked.true) w.in_ok-insert.ensures.updates c.loop-place.invariant)
      | else-is_asked w ↦ subst (AreIdsBelow graph c.args.asks c.args.named.now (place + 1)) (sym w.ids-is)
          (asked_none graph c.args.asks c.args.named.now place c.loop-place.ids (not_so c.is_asked.result c.is_asked.ensures w.if-is_asked.false) c.loop-place.invariant)
    ]

pub returns : goal.returns
returns c =
    let graph = c.args.cx.now.graph in
    let same : c.packages-package-items.result.now ≡ graph.packages = c.packages-package-items.ensures.value ∙ ap (λ (g : Graph). g.packages) c.graph.ensures in
    asked_all graph c.args.asks c.args.named.now c.loop-place.place c.loop-place.ids
    (subst (λ (l : List (List ℕ × List ℕ)). length l ≤ c.loop-place.place) same c.loop-place-test.false) c.loop-place.invariant
