-- The items that were read so far, and those that are still to be read.
use Rattle.std.proofs.Common.{List, ◌++◌, Ok}
use Rattle.nextest_json.specs.Reading.{Reading, ◌>>=◌}

-- what was found so far before what reading the rest gives
abbrev pub behind : {A : Type 0} → List A → Reading (List A) → Reading (List A)
behind found read = read >>= λ more. Ok (found ++ more)
