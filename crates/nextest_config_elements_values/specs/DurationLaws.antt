-- What the laws say.
use Rattle.std.specs.Prelude.{◌≡◌, ◌↔◌, ℕ, List, Some}
use Rattle.nextest_config_elements_values.specs.Duration.{IsDuration}
use Rattle.nextest_config_elements_values.specs.Nanos.{nanos_in}

-- a text is at most one duration
abbrev pub OneDuration : Type 0
OneDuration = (text : List ℕ) (one other : ℕ) → IsDuration text one → IsDuration text other → one ≡ other

-- the nanoseconds of a text are those of the duration that it is, and it has none where it is no
-- duration
abbrev pub NanosOfDurations : Type 0
NanosOfDurations = (text : List ℕ) (nanos : ℕ) → (nanos_in text ≡ Some nanos) ↔ IsDuration text nanos
