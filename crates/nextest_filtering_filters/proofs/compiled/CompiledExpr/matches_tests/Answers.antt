use Rattle.std.proofs.Common.{Bool, Bor, List, ℕ, Some}
use Rattle.std.specs.List.{AllZip}
use Rattle.std.proofs.lemmas.Result.{IfOk-weaker}
use Rattle.nextest_filtering_filters.specs.Filter.{Compiled, filter_of}
use Rattle.nextest_filtering_filters.specs.Formula.{IsValue}
use Rattle.nextest_filtering_filters.specs.Meaning.{IsOn}
use Rattle.nextest_filtering_filters.specs.Query.{Binary, binary_of}
use Rattle.nextest_filtering_filters.proofs.Parts.{with_three}
use Rattle.nextest_filtering_filters.proofs.compiled.CompiledExpr.matches_tests.Goals as goal

pub returns : goal.returns
returns c =
    let made = c.in_ok-evaluator in
    IfOk-weaker c.matches_tests.result _ _
    (λ values are. with_three
    (λ (filter default : Compiled) (binary : Binary). AllZip
    (λ (name : Bor (List ℕ)) (value : Bool). IsValue (IsOn (filter_of filter) (filter_of default) (record { binary = binary; name = name.now }) (λ matcher. ⊥)) (Some value)) c.args.names.now values.items)
    made.evaluator.filter c.args.self.now made.evaluator.default c.args.ecx.now made.evaluator.binary (binary_of c.args.binary.now) made.ensures.filter made.ensures.default made.ensures.binary are)
    c.matches_tests.ensures.values
