-- The bytes of a text.
use Rattle.std.specs.Prelude.{ℕ, List, string_bytes}
use Rattle.nextest_text.specs.declared.text.Source.{Source}
use Rattle.nextest_text.specs.declared.text.Source.TheVariants.{Own, Shared}

abbrev pub bytes_of : Source → List ℕ
bytes_of (Own string) = string_bytes string
bytes_of (Shared part) = part
