use Rattle.std.proofs.Common.{[], ◌∙◌, ap, not, get_or, Bool, Bor, List, Some, ℕ, arith, false, subst}
use Rattle.std.proofs.lemmas.Result.{IfOk-weaker}
use Rattle.nextest_filtering_filters.specs.Asking.{Asking, IsLeafValue}
use Rattle.nextest_filtering_filters.specs.Filter.{filter_of}
use Rattle.nextest_filtering_filters.specs.Formula.{Gives, IsValue}
use Rattle.nextest_filtering_filters.specs.Query.{Binary, Test, binary_of}
use Rattle.nextest_filtering_filters.proofs.ByName.{IsOnName}
use Rattle.nextest_filtering_filters.proofs.Lists.{zip_end, zip_more_read, zip_weaker}
use Rattle.nextest_filtering_filters.proofs.Parts.{is_on, nothing_kept}
use Rattle.nextest_filtering_filters.proofs.evaluator.BinaryEvaluator.matches_tests.Goals as goal

pub returns-then-is_none-clause-values : goal.returns-then-is_none-clause-values
returns-then-is_none-clause-values c =
    let main = c.self.inside.main in
    let default = c.self.inside.default_filter.now in
    let binary = binary_of c.self.inside.binary in
    let known = c.self.invariant in
    let never = nothing_kept main.filter default binary c.self.inside.default (c.is_none.ensures ∙ ap not c.if-is_none.true) known.3 in
    IfOk-weaker c.on_names.result _ _
    (λ values are. zip_weaker
    (λ (name : Bor (List ℕ)) (value : Bool). IsValue (Gives (IsLeafValue main.binary name.now (λ m. ⊥) false) (filter_of main.filter)) (Some value))
    (λ (name : Bor (List ℕ)) (value : Bool). IsOnName c.args.self.now name.now value)
    (λ name value is.
    let test : Test = record { binary = binary; name = name.now } in
    subst (λ (it : Asking). IsOnName it name.now value) c.self.view_is
    (is_on main.filter default test (λ matcher. ⊥) false (λ asked. absurd cc) (Some value)
    (subst (λ (b : Binary). IsValue (Gives (IsLeafValue b name.now (λ m. ⊥) false) (filter_of main.filter)) (Some value)) known.0 is)))
    c.args.names.now values.items are)
    c.on_names.ensures.values

pub loop-name-preserved : goal.loop-name-preserved
loop-name-preserved c =
    let l = c.loop-name in
    let none : Bor (List ℕ) = record { ref_ptr = (0, 0); now = [] } in
    let name = (get_or c.args.names.now l.name-index none).now in
    record {
      values = zip_more_read (λ (name : Bor (List ℕ)) (value : Bool). IsOnName c.args.self.now name.now value) c.args.names.now l.values.items c.push.new.self.items l.name-index none c.in_ok-matches_name.field-0 c.loop-name-test.true
          c.in_ok-push.ensures.items (subst (λ (it : Asking). IsOnName it name c.in_ok-matches_name.field-0) l.invariant.same c.in_ok-matches_name.ensures.value) l.invariant.values;
      same = c.in_ok-matches_name.ensures.same ∙ l.invariant.same;
    }

pub returns-clause-values : goal.returns-clause-values
returns-clause-values c =
    let l = c.loop-name in
    zip_end (λ (name : Bor (List ℕ)) (value : Bool). IsOnName c.args.self.now name.now value) c.args.names.now l.values.items l.name-index (omega arith) l.invariant.values
