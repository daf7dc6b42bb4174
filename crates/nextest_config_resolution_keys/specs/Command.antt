-- The keys that tell which tests are run, and with which arguments.
use Rattle.std.specs.Prelude.{◌≡◌, ℕ, List, [], ◌∷◌, codes, Option, None, Some, Ok}
use Rattle.std.proofs.Common.{refl, subst}
use Rattle.toml.specs.Data.{Members, as_str}
use Rattle.nextest_config_elements_toml.specs.Reading.{Reading, leaf}
use Rattle.nextest_config_elements_deserialize.specs.Keys.{texts_of}
use Rattle.nextest_config_resolution_keys.specs.Keys.{Key, value_of}
use Rattle.nextest_config_resolution_keys.specs.Listed.{joined_parts, read_of}
use Rattle.nextest_config_resolution_keys.specs.Rows.{Row, both, made_of, nothing, row_of}
use Rattle.nextest_config_resolution_keys.specs.declared.command.CommandValues.{CommandValues}

-- `default-filter`: the filterset of the tests that are run where none is asked for
abbrev pub default_filter : Key (List ℕ)
default_filter = record { path = codes "default-filter" ∷ []; reading = leaf as_str }

-- `run-extra-args`: the arguments that tests are run with besides
abbrev pub run_extra_args : Key (List (List ℕ))
run_extra_args = record { path = codes "run-extra-args" ∷ []; reading = texts_of }

-- where nothing sets it: none
abbrev pub run_extra_args_fallback : List (List ℕ)
run_extra_args_fallback = []

-- ---- which tests are run, and with which arguments

abbrev pub command_rows : List Row
command_rows = row_of default_filter ∷ row_of run_extra_args ∷ []

-- their values as a tuple, and by their names
abbrev pub CommandTuple : Type 0
CommandTuple = Option (List ℕ) × (Option (List (List ℕ)) × Unit {0})

abbrev pub command_values : CommandTuple → CommandValues
command_values it = record {
  default_filter = it.0;
  run_extra_args = it.1.0;
}

-- what a table says of them: refused for the first place, by the bytes of the keys, at which one of
-- the keys refuses it
abbrev pub command_tuple_in : Members → Reading CommandTuple
command_tuple_in = both (value_of default_filter) (both (value_of run_extra_args) nothing)

abbrev pub command_in : Members → Reading CommandValues
command_in given = made_of command_values (command_tuple_in given)

-- each key reads a table as its value
pub record IsCommand (given : Members) (it : CommandValues) : Type 0 where
  pub default_filter : value_of default_filter given ≡ Ok it.default_filter
  pub run_extra_args : value_of run_extra_args given ≡ Ok it.run_extra_args

-- what they have where nothing sets them
abbrev pub command_fallbacks : CommandValues
command_fallbacks = record {
  default_filter = None;
  run_extra_args = Some run_extra_args_fallback;
}

-- where nothing is set
abbrev pub command_unset : CommandValues
command_unset = command_values (None, (None, tt))

abbrev pub default_filter_of : CommandValues → Option (List ℕ)
default_filter_of it = it.default_filter

abbrev pub run_extra_args_of : CommandValues → Option (List (List ℕ))
run_extra_args_of it = it.run_extra_args

-- ---- each key by itself

command_tuple : (given : Members) (tuple : CommandTuple) → command_tuple_in given ≡ Ok tuple → IsCommand given (command_values tuple)
command_tuple given tuple is =
    let at_0 = joined_parts _ _ tuple is in
    let at_1 = joined_parts _ _ tuple.1 at_0.1 in
    record { default_filter = at_0.0; run_extra_args = at_1.0 }

pub command_read : (given : Members) (it : CommandValues) → command_in given ≡ Ok it → IsCommand given it
command_read given it is = let made = read_of command_values (command_tuple_in given) it is in subst (IsCommand given) made.is (command_tuple given made.values made.reads)

pub command_made : (given : Members) (it : CommandValues) → IsCommand given it → command_tuple_in given ≡ Ok (it.default_filter, (it.run_extra_args, tt))
command_made given it is = rw (is.default_filter, is.run_extra_args) refl
