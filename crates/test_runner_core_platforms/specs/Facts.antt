-- What is known of a platform.
use Rattle.std.specs.Prelude.{◌≡◌, ℕ, Bool, true, false, ◌&&◌, ◌||◌, List, [], ◌∷◌, Option, None, Some, option_map, find, Result, Ok, Err, ⊤}
use Rattle.std.specs.List.{list_any}
use Rattle.std.specs.Str.{bytes_eq}
use Rattle.test_runner_core_platforms.specs.declared.fact.Fact.{Fact}
use Rattle.test_runner_core_platforms.specs.declared.fact.PlatformFactsError.{PlatformFactsError}
use Rattle.test_runner_core_platforms.specs.declared.fact.PlatformFactsError.TheVariants.{RepeatedFact, OutOfMemory}

-- the triple of a platform, and the facts that are handed in
pub record Facts : Type 0 where
  pub triple : List ℕ
  pub known : List Fact

-- two values are the same, or both are left out
abbrev pub same_value : Option (List ℕ) → Option (List ℕ) → Bool
same_value None None = true
same_value None (Some other) = false
same_value (Some value) None = false
same_value (Some value) (Some other) = bytes_eq value other

-- the fact has that name and that value
abbrev pub is_of : List ℕ → Option (List ℕ) → Fact → Bool
is_of name value it = bytes_eq name it.name && same_value value it.value

-- whether a fact holds; none where it isn't handed in
abbrev pub answer_of : List Fact → List ℕ → Option (List ℕ) → Option Bool
answer_of known name value = option_map (λ it. it.holds) (find (is_of name value) known)

-- two facts have the same name and the same value
abbrev pub has_repeat : List Fact → Bool
has_repeat [] = false
has_repeat (it ∷ rest) = list_any (is_of it.name it.value) rest || has_repeat rest

-- The platform of that triple with these facts, or two of them repeat. Want of memory says nothing
-- of them.
abbrev pub MakesFacts : List ℕ → List Fact → Result Facts PlatformFactsError → Type 0
MakesFacts triple facts (Ok it) = (it.triple ≡ triple) × (it.known ≡ facts) × (has_repeat facts ≡ false)
MakesFacts triple facts (Err RepeatedFact) = has_repeat facts ≡ true
MakesFacts triple facts (Err OutOfMemory) = ⊤
