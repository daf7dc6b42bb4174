-- Which texts are platform specs, and which one each is. All is over bytes; blanks are free between
-- what stands here.
use Rattle.std.specs.Prelude.{◌≡◌, ◌≢◌, ℕ, ◌==◌, Bool, true, false, ◌||◌, ◌&&◌, List, [], ◌∷◌, ◌++◌, codes, nat_le, not}
use Rattle.std.specs.List.{AllByRecursion}
use Rattle.nextest_filtering_ast.specs.Grammar.{Behind, after_blanks}
use Rattle.test_runner_core_platforms.specs.Spec.{Condition, fact, fact_value, negation, all_of, any_of, Conditions, no_conditions, with_first, Spec, triple, condition}

-- ---- bytes

abbrev pub is_letter : ℕ → Bool
is_letter byte = (nat_le 65 byte && nat_le byte 90) || (nat_le 97 byte && nat_le byte 122)

abbrev pub is_digit : ℕ → Bool
is_digit byte = nat_le 48 byte && nat_le byte 57

-- a name begins with a letter or `_`, and goes on with these and digits
abbrev pub begins_name : ℕ → Bool
begins_name byte = is_letter byte || byte == 95

abbrev pub is_of_name : ℕ → Bool
is_of_name byte = begins_name byte || is_digit byte

-- a triple has `.` and `-` besides
abbrev pub is_of_triple : ℕ → Bool
is_of_triple byte = (is_of_name byte || byte == 46) || byte == 45

-- neither `"` nor `\`
abbrev pub is_of_value : ℕ → Bool
is_of_value byte = not (byte == 34 || byte == 92)

-- ---- words

abbrev pub AllAre : (ℕ → Bool) → List ℕ → Type 0
AllAre test = AllByRecursion (λ byte. test byte ≡ true)

abbrev pub IsName : List ℕ → Type 0
IsName [] = ⊥
IsName (first ∷ more) = (begins_name first ≡ true) × AllAre is_of_name more

-- the first byte of a text is such a one
abbrev pub starts : (ℕ → Bool) → List ℕ → Bool
starts test [] = false
starts test (byte ∷ rest) = test byte

-- a text begins with a whole name, and rest follows
pub record ReadsName (text name rest : List ℕ) : Type 0 where
  pub here : Behind name text rest
  pub is : IsName name
  pub ends : starts is_of_name rest ≡ false

-- a text begins with a value in quotes, and rest follows
pub record ReadsValue (text value rest : List ℕ) : Type 0 where
  pub here : Behind (codes "\"" ++ (value ++ codes "\"")) text rest
  pub each : AllAre is_of_value value

-- `=` or `(`
abbrev pub goes_on : ℕ → Bool
goes_on byte = byte == 61 || byte == 40

-- ---- conditions

mutual
  -- a text begins with a condition, and rest follows
  pub data IsCondition : List ℕ → Condition → List ℕ → Type 0 where
    -- a name that neither `=` nor `(` follows
    is_fact : (text name rest : List ℕ) → ReadsName text name rest → starts goes_on (after_blanks rest) ≡ false → IsCondition text (fact name) rest
    -- a name, `=`, and a value in quotes
    is_value : (text name r s value rest : List ℕ) → ReadsName text name r → Behind (codes "=") r s → ReadsValue s value rest → IsCondition text (fact_value name value) rest
    is_negation : (text r s u rest : List ℕ) (it : Condition) → ReadsName text (codes "not") r → Behind (codes "(") r s → IsCondition s it u → Behind (codes ")") u rest
        → IsCondition text (negation it) rest
    is_all : (text r s rest : List ℕ) (each : Conditions) → ReadsName text (codes "all") r → Behind (codes "(") r s → AreConditions s each rest → IsCondition text (all_of each) rest
    is_any : (text r s rest : List ℕ) (each : Conditions) → ReadsName text (codes "any") r → Behind (codes "(") r s → AreConditions s each rest → IsCondition text (any_of each) rest

  -- a text begins with conditions up to `)`, with a comma between each two, and perhaps one behind
  -- the last
  pub data AreConditions : List ℕ → Conditions → List ℕ → Type 0 where
    no_more : (text rest : List ℕ) → Behind (codes ")") text rest → AreConditions text no_conditions rest
    last_one : (text r rest : List ℕ) (it : Condition) → IsCondition text it r → Behind (codes ")") r rest → AreConditions text (with_first it no_conditions) rest
    one_more : (text r s rest : List ℕ) (it : Condition) (each : Conditions) → IsCondition text it r → Behind (codes ",") r s → AreConditions s each rest
        → AreConditions text (with_first it each) rest

-- ---- whole texts

-- a triple with blanks around it
pub record IsTriple (text name : List ℕ) : Type 0 where
  pub rest : List ℕ
  pub here : Behind name text rest
  pub blank : after_blanks rest ≡ []
  pub some : name ≢ []
  pub each : AllAre is_of_triple name

-- `cfg` with a condition in parentheses
pub record IsCfg (text : List ℕ) (it : Condition) : Type 0 where
  pub named : List ℕ
  pub opened : List ℕ
  pub read : List ℕ
  pub rest : List ℕ
  pub here : Behind (codes "cfg") text named
  pub opens : Behind (codes "(") named opened
  pub reads : IsCondition opened it read
  pub closes : Behind (codes ")") read rest
  pub blank : after_blanks rest ≡ []

-- the text is this spec
abbrev pub IsSpec : List ℕ → Spec → Type 0
IsSpec text (triple name) = IsTriple text name
IsSpec text (condition it) = IsCfg text it
