-- The levels of a finished test are those of what its attempts come to.
use Rattle.std.proofs.Common.{◌≡◌, ℕ, suc, arith, Bool, true, false, List, [], ◌∷◌, Option, Some, length, take, refl, sym, ap, subst, ◌∙◌}
use Rattle.std.specs.Prelude.{nat_lt, if◌then◌else◌, unwrap_or}
use Rattle.std.specs.Option.{option_map}
use Rattle.std.proofs.lemmas.Bool.Decides.{nat_tests}
use Rattle.nextest_config_elements_choices.specs.declared.timeouts.FlakyResult.{FlakyResult}
use Rattle.nextest_config_elements_choices.specs.declared.timeouts.FlakyResult.TheVariants as flaky_rule
use Rattle.nextest_run_events_counters.specs.Attempts.{last}
use Rattle.nextest_run_events_counters.specs.Description.{Description, Failure, description_of, success_after, level_of, final_level_of, ends_in_success, last_described}
use Rattle.nextest_run_events_counters.specs.Rows.{Finished}
use Rattle.nextest_run_events_outputs.specs.declared.output.ChildOutputDescription.{ChildOutputDescription}
use Rattle.nextest_run_events_outputs.specs.declared.output.LiveSpec.{LiveSpec}
use Rattle.nextest_run_events_results.specs.Result.{is_success}
use Rattle.test_runner_core_run_state.specs.Statuses.{Status}
use Rattle.test_runner_core_report_lines.specs.Due.{level_of_test, final_level_of_test}
use Rattle.test_runner_core_report_lines.specs.Laws.{HasLevels}

abbrev pub Told : Type 0
Told = Description LiveSpec ChildOutputDescription

-- a test that finished with so many attempts
abbrev pub finished_by : ℕ → FlakyResult → Status → Finished
finished_by many rule final = record { result = final.result; slow = final.is_slow; late = nat_lt 1 many; flaky = rule }

-- what is described is the finished test
pub record Describes (test : Finished) (final : Status) (told : Told) : Type 0 where
  pub level : level_of told ≡ level_of_test test
  pub final_level : final_level_of told ≡ final_level_of_test test
  pub success : ends_in_success told ≡ is_success test.result
  pub last : last_described told ≡ final

abbrev told_as : Bool → Status → List Status → FlakyResult → Status → Told
told_as success first retries rule final = if success then success_after (take (length retries) (first ∷ retries)) final rule else Failure first final retries

is_late : (n : ℕ) → nat_lt 1 (suc (suc n)) ≡ true
is_late n = grind (arith, nat_tests)

by_result : (success : Bool) (first : Status) (retries : List Status) (rule : FlakyResult) (final : Status) → is_success final.result ≡ success
    → Describes (finished_by (length (first ∷ retries)) rule final) final (told_as success first retries rule final)
by_result false first retries rule final came = record { level = rw came refl; final_level = rw came refl; success = sym came; last = refl }
by_result true first [] rule final came = record { level = rw came refl; final_level = rw came refl; success = sym came; last = refl }
by_result true first (next ∷ retries) flaky_rule.Pass final came =
    let late = is_late (length retries) in
    record { level = rw (came, late) refl; final_level = rw (came, late) refl; success = sym came; last = refl }
by_result true first (next ∷ retries) flaky_rule.Fail final came =
    let late = is_late (length retries) in
    record { level = rw (came, late) refl; final_level = rw (came, late) refl; success = sym came; last = refl }

pub describes : (statuses : List Status) (rule : FlakyResult) (final : Status) (told : Told)
    → Some told ≡ description_of statuses rule → last statuses ≡ Some final → Describes (finished_by (length statuses) rule final) final told
describes [] rule final told made found = absurd cc
describes (first ∷ retries) rule final told made found =
    let whole = made ∙ ap (option_map (λ (end : Status). told_as (is_success end.result) first retries rule end)) found in
    let is : told ≡ told_as (is_success final.result) first retries rule final = ap (λ (o : Option Told). unwrap_or o told) whole in
    subst (λ (t : Told). Describes (finished_by (length (first ∷ retries)) rule final) final t) (sym is) (by_result (is_success final.result) first retries rule final refl)

pub levels_are_described : HasLevels
levels_are_described attempts final told found made =
    let it = describes attempts.statuses attempts.flaky_result final told (sym made) found in
    record { level = it.level; final_level = it.final_level; success = it.success }
