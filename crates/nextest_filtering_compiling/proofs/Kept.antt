-- What predicates are compiled to, one after another.
use Rattle.std.proofs.Common.{◌≡◌, List, [], ◌∷◌, ◌++◌, Option, None, Some, refl, ap, sym, subst, ◌∙◌}
use Rattle.std.specs.List.{AllZip}
use Rattle.std.proofs.lemmas.List.{append_assoc, append-nil}
use Rattle.nextest_filtering_arguments.specs.declared.error.ParseSingleError.{ParseSingleError}
use Rattle.nextest_filtering_filters.specs.declared.leaf.FiltersetLeaf.{FiltersetLeaf}
use Rattle.nextest_filtering_ast.specs.Tree.{leaf_of}
use Rattle.nextest_filtering_ast.specs.declared.leaf.ParsedLeaf.{ParsedLeaf}
use Rattle.nextest_filtering_compiling.specs.Outcomes.{IsKept, IsOutcome}
use Rattle.nextest_filtering_compiling.specs.Bans.{place_of}
use Rattle.nextest_filtering_compiling.specs.Compiling.{AreCompiled, IsCompiledLeaf}
use Rattle.nextest_filtering_compiling.specs.Context.{Context}
use Rattle.nextest_filtering_compiling.specs.Faults.{Have, LeafHas, faults_of_option}
use Rattle.nextest_filtering_compiling.specs.declared.compile.Outcome.{Outcome}
use Rattle.nextest_filtering_compiling.specs.declared.compile.Outcome.TheVariants as outcome
use Rattle.nextest_filtering_filters.specs.declared.known_groups.KnownGroups.{KnownGroups}

have_push : (cx : Context) (known : KnownGroups) (leaves : List ParsedLeaf) (it : ParsedLeaf) (faults : List ParseSingleError) (first : Option ParseSingleError)
    → Have cx known leaves faults → LeafHas cx known (place_of it) (leaf_of it) first → Have cx known (leaves ++ it ∷ []) (faults ++ faults_of_option first)
have_push cx known [] it faults first none has =
    (first, [], ap (λ (l : List ParseSingleError). l ++ faults_of_option first) none ∙ sym (append-nil (faults_of_option first)), has, refl)
have_push cx known (leaf ∷ leaves) it faults first (head, rest, same, has_head, have) has = (
  head,
  rest ++ faults_of_option first,
  ap (λ (l : List ParseSingleError). l ++ faults_of_option first) same ∙ append_assoc (faults_of_option head) rest (faults_of_option first),
  has_head,
  have_push cx known leaves it rest first have has,
)

-- the faults, with that of one more
pub keeps_faults : (cx : Context) (known : KnownGroups) (leaves : List ParsedLeaf) (it : ParsedLeaf) (outcome : Outcome) (made new_made : List FiltersetLeaf)
    (faults new_faults : List ParseSingleError) → IsOutcome cx known it outcome → IsKept outcome made faults new_made new_faults → Have cx known leaves faults
    → Have cx known (leaves ++ it ∷ []) new_faults
keeps_faults cx known leaves it (outcome.Leaf leaf) made new_made faults new_faults is kept have =
    subst (Have cx known (leaves ++ it ∷ [])) (append-nil faults ∙ sym kept.1) (have_push cx known leaves it faults None have is.0)
keeps_faults cx known leaves it (outcome.Fault fault) made new_made faults new_faults is kept have =
    subst (Have cx known (leaves ++ it ∷ [])) (sym kept) (have_push cx known leaves it faults (Some fault) have is)

zip_push : (R : ParsedLeaf → FiltersetLeaf → Type 0) (leaves : List ParsedLeaf) (made : List FiltersetLeaf) (it : ParsedLeaf) (one : FiltersetLeaf) → AllZip R leaves made → R it one
    → AllZip R (leaves ++ it ∷ []) (made ++ one ∷ [])
zip_push R [] [] it one all last = (last, tt)
zip_push R [] (m ∷ made) it one all last = absurd all
zip_push R (leaf ∷ leaves) [] it one all last = absurd all
zip_push R (leaf ∷ leaves) (m ∷ made) it one all last = (all.0, zip_push R leaves made it one all.1 last)

never_empty : (faults new : List ParseSingleError) (fault : ParseSingleError) → new ≡ faults ++ fault ∷ [] → new ≡ [] → ⊥
never_empty [] new fault is none = cc
never_empty (first ∷ faults) new fault is none = cc

-- what they are compiled to, with one more
pub keeps_made : (cx : Context) (known : KnownGroups) (leaves : List ParsedLeaf) (it : ParsedLeaf) (outcome : Outcome) (made new_made : List FiltersetLeaf)
    (faults new_faults : List ParseSingleError) → IsOutcome cx known it outcome → IsKept outcome made faults new_made new_faults
    → (faults ≡ [] → AreCompiled cx.graph leaves made)
    → new_faults ≡ [] → AreCompiled cx.graph (leaves ++ it ∷ []) new_made
keeps_made cx known leaves it (outcome.Leaf leaf) made new_made faults new_faults is kept all none =
    subst (AreCompiled cx.graph (leaves ++ it ∷ [])) (sym kept.0)
    (zip_push (λ (leaf : ParsedLeaf) (one : FiltersetLeaf). IsCompiledLeaf cx.graph (leaf_of leaf) one) leaves made it leaf (all (sym kept.1 ∙ none)) is.1)
keeps_made cx known leaves it (outcome.Fault fault) made new_made faults new_faults is kept all none = absurd (never_empty faults new_faults fault kept none)
