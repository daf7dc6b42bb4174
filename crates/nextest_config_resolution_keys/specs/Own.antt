-- The keys that profiles alone have.
use Rattle.std.specs.Prelude.{◌≡◌, ℕ, List, [], ◌∷◌, codes, Option, None, Some, Ok}
use Rattle.std.proofs.Common.{refl, subst}
use Rattle.toml.specs.Data.{Members, as_str}
use Rattle.nextest_config_elements_choices.specs.declared.max_fail.MaxFail.{MaxFail}
use Rattle.nextest_config_elements_choices.specs.declared.status_level.FinalStatusLevel.{FinalStatusLevel}
use Rattle.nextest_config_elements_choices.specs.declared.status_level.StatusLevel.{StatusLevel}
use Rattle.nextest_config_elements_values.specs.declared.threads.TestThreads.{TestThreads}
use Rattle.nextest_config_elements_values.specs.declared.timeouts.GlobalTimeout.{GlobalTimeout}
use Rattle.nextest_config_elements_toml.specs.Reading.{Reading, leaf}
use Rattle.nextest_config_resolution_keys.specs.Bench.{bench_global_timeout, bench_global_timeout_fallback}
use Rattle.nextest_config_resolution_keys.specs.Junit.{junit_path, junit_report_name, junit_report_name_fallback}
use Rattle.nextest_config_resolution_keys.specs.Keys.{Key, value_of}
use Rattle.nextest_config_resolution_keys.specs.Output.{final_status_level, final_status_level_fallback, status_level, status_level_fallback}
use Rattle.nextest_config_resolution_keys.specs.Listed.{joined_parts, read_of}
use Rattle.nextest_config_resolution_keys.specs.Rows.{Row, both, made_of, nothing, row_of}
use Rattle.nextest_config_resolution_keys.specs.Run.{fail_fast, fail_fast_fallback, global_timeout, global_timeout_fallback, test_threads, test_threads_fallback}
use Rattle.nextest_config_resolution_keys.specs.declared.own.OwnValues.{OwnValues}

-- `inherits`: the name of the profile that holds where this one says nothing
abbrev pub inherits : Key (List ℕ)
inherits = record { path = codes "inherits" ∷ []; reading = leaf as_str }

-- ---- what profiles alone say: of a run, of themselves, and of the report

abbrev pub own_rows : List Row
own_rows = row_of bench_global_timeout ∷ row_of fail_fast ∷ row_of final_status_level ∷ row_of global_timeout ∷ row_of inherits ∷ row_of junit_path ∷ row_of junit_report_name ∷ row_of status_level ∷ row_of test_threads ∷ []

-- their values as a tuple, and by their names
abbrev pub OwnTuple : Type 0
OwnTuple = Option GlobalTimeout × (Option MaxFail × (Option FinalStatusLevel × (Option GlobalTimeout × (Option (List ℕ) × (Option (List ℕ) × (Option (List ℕ) × (Option StatusLevel × (Option TestThreads × Unit {0}))))))))

abbrev pub own_values : OwnTuple → OwnValues
own_values it = record {
  bench_global_timeout = it.0;
  fail_fast = it.1.0;
  final_status_level = it.1.1.0;
  global_timeout = it.1.1.1.0;
  inherits = it.1.1.1.1.0;
  junit_path = it.1.1.1.1.1.0;
  junit_report_name = it.1.1.1.1.1.1.0;
  status_level = it.1.1.1.1.1.1.1.0;
  test_threads = it.1.1.1.1.1.1.1.1.0;
}

-- what a table says of them: refused for the first place, by the bytes of the keys, at which one of
-- the keys refuses it
abbrev pub own_tuple_in : Members → Reading OwnTuple
own_tuple_in = both (value_of bench_global_timeout) (both (value_of fail_fast) (both (value_of final_status_level) (both (value_of global_timeout) (both (value_of inherits) (both (value_of junit_path) (both (value_of junit_report_name) (both (value_of status_level) (both (value_of test_threads) nothing))))))))

abbrev pub own_in : Members → Reading OwnValues
own_in given = made_of own_values (own_tuple_in given)

-- each key reads a table as its value
pub record IsOwn (given : Members) (it : OwnValues) : Type 0 where
  pub bench_global_timeout : value_of bench_global_timeout given ≡ Ok it.bench_global_timeout
  pub fail_fast : value_of fail_fast given ≡ Ok it.fail_fast
  pub final_status_level : value_of final_status_level given ≡ Ok it.final_status_level
  pub global_timeout : value_of global_timeout given ≡ Ok it.global_timeout
  pub inherits : value_of inherits given ≡ Ok it.inherits
  pub junit_path : value_of junit_path given ≡ Ok it.junit_path
  pub junit_report_name : value_of junit_report_name given ≡ Ok it.junit_report_name
  pub status_level : value_of status_level given ≡ Ok it.status_level
  pub test_threads : value_of test_threads given ≡ Ok it.test_threads

-- what they have where nothing sets them
abbrev pub own_fallbacks : OwnValues
own_fallbacks = record {
  bench_global_timeout = Some bench_global_timeout_fallback;
  fail_fast = Some fail_fast_fallback;
  final_status_level = Some final_status_level_fallback;
  global_timeout = Some global_timeout_fallback;
  inherits = None;
  junit_path = None;
  junit_report_name = Some junit_report_name_fallback;
  status_level = Some status_level_fallback;
  test_threads = Some test_threads_fallback;
}

-- where nothing is set
abbrev pub own_unset : OwnValues
own_unset = own_values (None, (None, (None, (None, (None, (None, (None, (None, (None, tt)))))))))

abbrev pub bench_global_timeout_of : OwnValues → Option GlobalTimeout
bench_global_timeout_of it = it.bench_global_timeout

abbrev pub fail_fast_of : OwnValues → Option MaxFail
fail_fast_of it = it.fail_fast

abbrev pub final_status_level_of : OwnValues → Option FinalStatusLevel
final_status_level_of it = it.final_status_level

abbrev pub global_timeout_of : OwnValues → Option GlobalTimeout
global_timeout_of it = it.global_timeout

abbrev pub inherits_of : OwnValues → Option (List ℕ)
inherits_of it = it.inherits

abbrev pub junit_path_of : OwnValues → Option (List ℕ)
junit_path_of it = it.junit_path

abbrev pub junit_report_name_of : OwnValues → Option (List ℕ)
junit_report_name_of it = it.junit_report_name

abbrev pub status_level_of : OwnValues → Option StatusLevel
status_level_of it = it.status_level

abbrev pub test_threads_of : OwnValues → Option TestThreads
test_threads_of it = it.test_threads

-- ---- each key by itself

own_tuple : (given : Members) (tuple : OwnTuple) → own_tuple_in given ≡ Ok tuple → IsOwn given (own_values tuple)
own_tuple given tuple is =
    let at_0 = joined_parts _ _ tuple is in
    let at_1 = joined_parts _ _ tuple.1 at_0.1 in
    let at_2 = joined_parts _ _ tuple.1.1 at_1.1 in
    let at_3 = joined_parts _ _ tuple.1.1.1 at_2.1 in
    let at_4 = joined_parts _ _ tuple.1.1.1.1 at_3.1 in
    let at_5 = joined_parts _ _ tuple.1.1.1.1.1 at_4.1 in
    let at_6 = joined_parts _ _ tuple.1.1.1.1.1.1 at_5.1 in
    let at_7 = joined_parts _ _ tuple.1.1.1.1.1.1.1 at_6.1 in
    let at_8 = joined_parts _ _ tuple.1.1.1.1.1.1.1.1 at_7.1 in
    record { bench_global_timeout = at_0.0; fail_fast = at_1.0; final_status_level = at_2.0; global_timeout = at_3.0; inherits = at_4.0; junit_path = at_5.0; junit_report_name = at_6.0; status_level = at_7.0; test_threads = at_8.0 }

pub own_read : (given : Members) (it : OwnValues) → own_in given ≡ Ok it → IsOwn given it
own_read given it is = let made = read_of own_values (own_tuple_in given) it is in subst (IsOwn given) made.is (own_tuple given made.values made.reads)

pub own_made : (given : Members) (it : OwnValues) → IsOwn given it → own_tuple_in given ≡ Ok (it.bench_global_timeout, (it.fail_fast, (it.final_status_level, (it.global_timeout, (it.inherits, (it.junit_path, (it.junit_report_name, (it.status_level, (it.test_threads, tt)))))))))
own_made given it is = rw (is.bench_global_timeout, is.fail_fast, is.final_status_level, is.global_timeout, is.inherits, is.junit_path, is.junit_report_name, is.status_level, is.test_threads) refl
