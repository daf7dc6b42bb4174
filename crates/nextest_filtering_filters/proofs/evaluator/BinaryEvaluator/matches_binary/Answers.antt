use Rattle.std.proofs.Common.{subst}
use Rattle.std.proofs.lemmas.Result.{IfOk-weaker}
use Rattle.nextest_filtering_filters.specs.Formula.{AreValues, Gives, IsValue}
use Rattle.nextest_filtering_filters.specs.Asking.{Asking, values_may}
use Rattle.nextest_filtering_filters.specs.Filter.{Compiled, filter_of}
use Rattle.nextest_filtering_filters.specs.Meaning.{CanBeOn, Either, MayBe, Never}
use Rattle.nextest_filtering_filters.specs.Query.{Binary, binary_of}
use Rattle.nextest_filtering_filters.proofs.Parts.{can_be, kept_asks_not, kept_of}
use Rattle.nextest_filtering_filters.proofs.evaluator.BinaryEvaluator.matches_binary.Goals as goal

pub default_values-requires : goal.default_values-requires
default_values-requires c =
    let known = c.self.invariant in
    record { none = kept_asks_not c.self.inside.main.filter c.self.inside.default_filter.now (binary_of c.self.inside.binary) c.self.inside.default known.3 known.1 }

pub returns-clause-value : goal.returns-clause-value
returns-clause-value c =
    let main = c.self.inside.main in
    let default = c.self.inside.default_filter.now in
    let binary = binary_of c.self.inside.binary in
    let known = c.self.invariant in
    let values = c.in_ok-default.default in
    IfOk-weaker c.on_binary.result _ _
    (λ value is. subst (λ (it : Asking). IsValue (CanBeOn (filter_of it.filter) (filter_of it.default) it.binary) value) c.self.view_is
    (can_be main.filter default binary values
    (kept_of main.filter default binary c.self.inside.default (λ (f : Compiled) (b : Binary). AreValues (Gives (MayBe b Either Either Never) (filter_of f)) values) known.3 c.in_ok-default.ensures.values)
    value (subst (λ (b : Binary). IsValue (Gives (MayBe b Either Either (values_may values)) (filter_of main.filter)) value) known.0 is)))
    c.on_binary.ensures.value
