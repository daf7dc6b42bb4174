-- What is read is shorter than the text.
use Rattle.std.proofs.Common.{ℕ, ◌<◌, List, [], ◌∷◌, ◌++◌, length, arith}
use Rattle.std.specs.Prelude.{codes}
use Rattle.nextest_filtering_ast.specs.Grammar.{Behind}
use Rattle.nextest_filtering_arguments.proofs.Spans.{shorter_token}
use Rattle.test_runner_core_platforms.specs.Spec.{Condition, Conditions}
use Rattle.test_runner_core_platforms.specs.Grammar.{IsName, ReadsName, ReadsValue, IsCondition, is_fact, is_value, is_negation, is_all, is_any, AreConditions, no_more, last_one, one_more}

some_bytes : (name : List ℕ) → IsName name → 0 < length name
some_bytes [] is = absurd is
some_bytes (first ∷ more) is = Prim.omega arith

pub shorter_name : (text name rest : List ℕ) → ReadsName text name rest → length rest < length text
shorter_name text name rest read = shorter_token name rest text read.here (some_bytes name read.is)

shorter_value : (text value rest : List ℕ) → ReadsValue text value rest → length rest < length text
shorter_value text value rest read = shorter_token (codes "\"" ++ (value ++ codes "\"")) rest text read.here (Prim.omega arith)

-- so is what stands behind the `(` of a name
pub shorter_opened : (text name r s : List ℕ) → ReadsName text name r → Behind (codes "(") r s → length s < length text
shorter_opened text name r s read opens = Prim.omega (arith, shorter_name text name r read, shorter_token (40 ∷ []) s r opens (Prim.omega arith))

mutual
  pub shorter_condition : (text : List ℕ) (it : Condition) (rest : List ℕ) → IsCondition text it rest → length rest < length text
  shorter_condition _ _ _ (is_fact text name rest named none) = shorter_name text name rest named
  shorter_condition _ _ _ (is_value text name r s value rest named equals read) =
      Prim.omega (arith, shorter_name text name r named, shorter_token (61 ∷ []) s r equals (Prim.omega arith), shorter_value s value rest read)
  shorter_condition _ _ _ (is_negation text r s u rest it named opens inside closes) =
      Prim.omega (arith, shorter_opened text (codes "not") r s named opens, shorter_condition s it u inside, shorter_token (41 ∷ []) rest u closes (Prim.omega arith))
  shorter_condition _ _ _ (is_all text r s rest each named opens inside) =
      Prim.omega (arith, shorter_opened text (codes "all") r s named opens, shorter_conditions s each rest inside)
  shorter_condition _ _ _ (is_any text r s rest each named opens inside) =
      Prim.omega (arith, shorter_opened text (codes "any") r s named opens, shorter_conditions s each rest inside)

  pub shorter_conditions : (text : List ℕ) (each : Conditions) (rest : List ℕ) → AreConditions text each rest → length rest < length text
  shorter_conditions _ _ _ (no_more text rest closes) = shorter_token (41 ∷ []) rest text closes (Prim.omega arith)
  shorter_conditions _ _ _ (last_one text r rest it read closes) = Prim.omega (arith, shorter_condition text it r read, shorter_token (41 ∷ []) rest r closes (Prim.omega arith))
  shorter_conditions _ _ _ (one_more text r s rest it each read parts more) =
      Prim.omega (arith, shorter_condition text it r read, shorter_token (44 ∷ []) s r parts (Prim.omega arith), shorter_conditions s each rest more)
