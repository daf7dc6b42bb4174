-- What a condition begins with.
use Rattle.std.proofs.Common.{◌≡◌, refl, ℕ, Bool, true, false, List, [], ◌∷◌, ap, sym, ◌∙◌, subst, inl, inr}
use Rattle.std.specs.Prelude.{codes, ◌==◌, Result, Ok, Err}
use Rattle.std.specs.Borrow.{Bor}
use Rattle.std.proofs.lemmas.Bool.{or_cases, eqb-true}
use Rattle.nextest_filtering_ast.specs.Grammar.{Behind, after_blanks}
use Rattle.test_runner_core_platforms.specs.Spec.{Condition, fact, fact_value, negation, all_of, any_of}
use Rattle.test_runner_core_platforms.specs.Grammar.{starts, ReadsName, ReadsValue, goes_on, IsCondition, is_fact, is_value, is_negation, is_all, is_any}
use Rattle.test_runner_core_platforms.specs.Opened.{name_of}
use Rattle.test_runner_core_platforms.specs.Parsing.{Begins, FindsFact, FindsStart, IsOpened, ReadsFactValue, ReadsOperation}
use Rattle.test_runner_core_platforms.specs.Single.{operation_only, value_only}
use Rattle.test_runner_core_platforms.specs.declared.opened.Operation.{Operation}
use Rattle.test_runner_core_platforms.specs.declared.opened.Operation.TheVariants as op
use Rattle.test_runner_core_platforms.specs.declared.parser.Start.{Start}
use Rattle.test_runner_core_platforms.specs.declared.parser.Start.TheVariants as begins
use Rattle.test_runner_core_platforms.specs.declared.part.Joint.TheVariants as joints
use Rattle.test_runner_core_platforms.specs.declared.part.Part.{Part}
use Rattle.test_runner_core_platforms.specs.declared.part.Part.TheVariants as part
use Rattle.test_runner_core_platforms.specs.declared.stop.Stop.{Stop}
use Rattle.test_runner_core_platforms.specs.declared.stop.Stop.TheVariants.{Bad, Memory}

-- ---- names

named : (text : List ℕ) (it : Condition) (rest : List ℕ) → IsCondition text it rest → (name r : List ℕ) × ReadsName text name r
named _ _ _ (is_fact text name rest read none) = (name, rest, read)
named _ _ _ (is_value text name r s value rest read equals quoted) = (name, r, read)
named _ _ _ (is_negation text r s u rest it read opens inside closes) = (codes "not", r, read)
named _ _ _ (is_all text r s rest each read opens inside) = (codes "all", r, read)
named _ _ _ (is_any text r s rest each read opens inside) = (codes "any", r, read)

pub no_condition : (text : List ℕ) → ((name r : List ℕ) → ReadsName text name r → ⊥) → (it : Condition) (rest : List ℕ) → IsCondition text it rest → ⊥
no_condition text none it rest read = let found = named text it rest read in none found.0 found.1 found.2

-- ---- operations

pub opened : (text name r s : List ℕ) (operation : Operation) → ReadsName text name r → Behind (codes "(") r s → name ≡ name_of operation → IsOpened text operation s
opened text name r s operation read opens is = (r, subst (λ (n : List ℕ). ReadsName text n r) is read, opens)

no_name : (name s : List ℕ) (it : Condition) (rest : List ℕ) → ((operation : Operation) → name ≡ name_of operation → ⊥) → ReadsOperation name s it rest → ⊥
no_name name s (fact other) rest none is = is
no_name name s (fact_value other value) rest none is = is
no_name name s (negation it) rest none is = none op.Not is.0
no_name name s (all_of each) rest none is = none (op.Joined joints.All) is.0
no_name name s (any_of each) rest none is = none (op.Joined joints.Any) is.0

pub no_operation : (text name r s : List ℕ) → ReadsName text name r → Behind (codes "(") r s → ((operation : Operation) → name ≡ name_of operation → ⊥)
    → (it : Condition) (rest : List ℕ) → IsCondition text it rest → ⊥
no_operation text name r s read opens none it rest is = no_name name s it rest none (operation_only text name r s it rest read opens is)

-- ---- facts

no_text : (name s : List ℕ) (it : Condition) (rest : List ℕ) → ((value r : List ℕ) → ReadsValue s value r → ⊥) → ReadsFactValue name s it rest → ⊥
no_text name s (fact other) rest none is = is
no_text name s (fact_value other value) rest none is = none value rest is.1
no_text name s (negation it) rest none is = is
no_text name s (all_of each) rest none is = is
no_text name s (any_of each) rest none is = is

pub value_found : (text name r s : List ℕ) (found : Result (Start × Bor (List ℕ)) Stop) → ReadsName text name r → Behind (codes "=") r s → FindsFact name s found → FindsStart text found
value_found text name r s (Ok found) read equals is =
    subst (λ (b : Start). Begins text b found.1.now) (sym is.1)
    (fact_value name is.0, refl, is_value text name r s is.0 found.1.now read equals is.2)
value_found text name r s (Err (Bad left)) read equals none = λ it rest is. no_text name s it rest none (value_only text name r s it rest read equals is)
value_found text name r s (Err Memory) read equals is = tt

ends_by : (r : List ℕ) (byte : ℕ) (t : List ℕ) (b : Bool) → after_blanks r ≡ byte ∷ t → goes_on byte ≡ b → ((s : List ℕ) → Behind (codes "(") r s → ⊥) → ((s : List ℕ) → Behind (codes "=") r s → ⊥) → b ≡ false
ends_by r byte t true e goes opens equals =
    elim (or_cases (byte == 61) (byte == 40) goes) [
      | inl one ↦ absurd (equals t (e ∙ ap (λ (n : ℕ). n ∷ t) (eqb-true byte 61 one)))
      | inr one ↦ absurd (opens t (e ∙ ap (λ (n : ℕ). n ∷ t) (eqb-true byte 40 one)))
    ]
ends_by r byte t false e goes opens equals = refl

ends_at : (r ahead : List ℕ) → after_blanks r ≡ ahead → ((s : List ℕ) → Behind (codes "(") r s → ⊥) → ((s : List ℕ) → Behind (codes "=") r s → ⊥) → starts goes_on ahead ≡ false
ends_at r [] e opens equals = refl
ends_at r (byte ∷ t) e opens equals = ends_by r byte t (goes_on byte) e refl opens equals

pub fact_found : (text name rest copy : List ℕ) → ReadsName text name rest → ((s : List ℕ) → Behind (codes "(") rest s → ⊥) → ((s : List ℕ) → Behind (codes "=") rest s → ⊥) → copy ≡ name
    → Begins text (begins.Whole (part.Fact copy)) rest
fact_found text name rest copy read opens equals same =
    (fact copy, refl, subst (λ (n : List ℕ). IsCondition text (fact n) rest) (sym same) (is_fact text name rest read (ends_at rest (after_blanks rest) refl opens equals)))

-- ---- either

pub begun_whole : (text : List ℕ) (begun : Start) (part : Part) (rest : List ℕ) → begun ≡ begins.Whole part → Begins text begun rest → Begins text (begins.Whole part) rest
begun_whole text begun part rest is it = subst (λ (b : Start). Begins text b rest) is it

pub begun_operation : (text : List ℕ) (begun : Start) (operation : Operation) (rest : List ℕ) → begun ≡ begins.Operation operation → Begins text begun rest → IsOpened text operation rest
begun_operation text begun operation rest is it = subst (λ (b : Start). Begins text b rest) is it
