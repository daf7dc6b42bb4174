use Rattle.std.proofs.lemmas.Result.{IfOk-weaker}
use Rattle.nextest_filtering_filters.specs.Formula.{IsValue}
use Rattle.nextest_filtering_filters.specs.Filter.{Compiled, filter_of}
use Rattle.nextest_filtering_filters.specs.Meaning.{CanBeOn}
use Rattle.nextest_filtering_filters.specs.Query.{Binary, binary_of}
use Rattle.nextest_filtering_filters.proofs.Parts.{with_three}
use Rattle.nextest_filtering_filters.proofs.compiled.CompiledExpr.matches_binary.Goals as goal

pub returns : goal.returns
returns c =
    let made = c.in_ok-evaluator in
    IfOk-weaker c.matches_binary.result _ _
    (λ value is. with_three (λ (filter default : Compiled) (binary : Binary). IsValue (CanBeOn (filter_of filter) (filter_of default) binary) value) made.evaluator.filter c.args.self.now made.evaluator.default
    c.args.ecx.now made.evaluator.binary (binary_of c.args.query.now) made.ensures.filter made.ensures.default made.ensures.binary is)
    c.matches_binary.ensures.value
