use Rattle.std.proofs.Common.{◌≡◌, List, map, ap, subst, ◌∙◌, arith}
use Rattle.std.specs.Prelude.{vec_len}
use Rattle.nextest_filtering_ast.specs.declared.leaf.ParsedLeaf.{ParsedLeaf}
use Rattle.nextest_filtering_compiling.specs.Bans.{bans_of}
use Rattle.nextest_filtering_compiling.specs.Compiling.{AreCompiled}
use Rattle.nextest_filtering_compiling.specs.Faults.{Have}
use Rattle.nextest_filtering_compiling.specs.Leaves.{behind, leaves_of}
use Rattle.nextest_filtering_compiling.proofs.Whole.{filtered_as, is_nothing}
use Rattle.nextest_filtering_compiling.proofs.filterset.compile.Goals as goal

pub returns : goal.returns
returns c =
    let cx = c.args.cx.now in
    let known = c.args.known_groups.now in
    let t = c.args.tree.now in
    let bans = c.in_ok-banned.banned in
    let faults = c.in_ok-made.field-0.faults in
    let first : map behind c.as_slice.result.now ≡ leaves_of t = ap (map behind) c.as_slice.ensures.value ∙ c.in_ok-leaves.ensures in
    let second : map behind c.as_slice-2.result.now ≡ leaves_of t = ap (map behind) c.as_slice-2.ensures.value ∙ c.in_ok-leaves.ensures in
    filtered_as cx c.args.kind known t bans.items faults.items c.in_ok-made.field-0.leaves.items c.in_ok-shape_of.field-0 c.new.result (c.in_ok-banned.ensures ∙ ap (bans_of c.args.kind) first)
    (is_nothing bans.items (vec_len bans) c.is_empty.result c.is_empty.ensures c.if-not-is_empty.false (omega (arith, bans.ok.0)))
    (subst (λ (leaves : List ParsedLeaf). Have cx known leaves faults.items) second c.in_ok-made.ensures.faults)
    (λ none. subst (λ (leaves : List ParsedLeaf). AreCompiled cx.graph leaves c.in_ok-made.field-0.leaves.items) second (c.in_ok-made.ensures.leaves none))
    (is_nothing faults.items (vec_len faults) c.is_empty-2.result c.is_empty-2.ensures c.if-not-is_empty-2.false (omega (arith, faults.ok.0))) c.in_ok-shape_of.ensures c.new.ensures.steps c.new.ensures.leaves
