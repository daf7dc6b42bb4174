-- The values of formulas that wait.
use Rattle.std.proofs.Common.{◌≡◌, ℕ, suc, ◌+◌, ◌≤◌, ◌<◌, Bool, List, [], ◌∷◌, ◌++◌, length, drop, get_or, Option, None, Some, refl, sym, ap, ◌∙◌, subst, arith, length-append}
use Rattle.std.proofs.Math.Seq.{drop-cons}
use Rattle.nextest_filtering_filters.specs.Formula.{AreValues, Formula, both, either, leaf, negated}
use Rattle.nextest_filtering_filters.specs.Steps.{after, after_step, and_then}
use Rattle.nextest_filtering_filters.specs.Values.{IsSome, both_values, either_values, negated_values}
use Rattle.nextest_filtering_filters.specs.Waiting.{AreOf, Takes, Wait, over}
use Rattle.nextest_filtering_filters.specs.declared.step.FormulaStep.{FormulaStep}
use Rattle.nextest_filtering_filters.specs.declared.step.FormulaStep.TheVariants as step
use Rattle.nextest_filtering_filters.specs.declared.values.Values.{Values}
use Rattle.nextest_filtering_filters.proofs.Giving.{leaf_values, values_both, values_either, values_negated}

-- lists that end so are the same in front
same_ends : (one other : List Values) (x y : Values) → one ++ x ∷ [] ≡ other ++ y ∷ [] → (one ≡ other) × (x ≡ y)
same_ends [] [] x y is = (refl, cc)
same_ends [] (b ∷ other) x y is = absurd (let long = ap length is in omega (arith, long, length-append other (y ∷ [])))
same_ends (a ∷ one) [] x y is = absurd (let long = ap length is in omega (arith, long, length-append one (x ∷ [])))
same_ends (a ∷ one) (b ∷ other) x y is =
    let heads : a ≡ b = cc in
    let tails : one ++ x ∷ [] ≡ other ++ y ∷ [] = ap (λ (l : List Values). drop 1 l) is in
    let same = same_ends one other x y tails in
    (ap (λ (v : Values). v ∷ one) heads ∙ ap (λ (l : List Values). b ∷ l) same.0, same.1)

-- ---- one step

leaf_waits : (May : ℕ → Bool → Type 0) (number : ℕ) (old new : List Values) (values : Values) → AreValues (May number) values → IsSome values → new ≡ old ++ values ∷ []
    → Takes May (step.Leaf number) old new
leaf_waits May number old new values exact some is formulas next made waits =
    let same : leaf number ∷ formulas ≡ next = cc in
    subst (λ (f : List (Formula ℕ)). Wait May f new) same (old, (values, is, leaf_values May number values exact some, waits))

-- what waits last
pub last_waits : (May : ℕ → Bool → Type 0) (last : Formula ℕ) (formulas : List (Formula ℕ)) (front old : List Values) (values : Values) → old ≡ front ++ values ∷ [] → Wait May (last ∷ formulas) old
    → AreOf May last values × Wait May formulas front
last_waits May last formulas front old values is (others, (same, ends, of, waits)) =
    let one = same_ends others front same values (sym ends ∙ is) in
    (subst (AreOf May last) one.1 of, subst (Wait May formulas) one.0 waits)

not_waits : (May : ℕ → Bool → Type 0) (front old new : List Values) (inside : Values) → old ≡ front ++ inside ∷ [] → new ≡ front ++ negated_values inside ∷ []
    → Takes May step.Not old new
not_waits May front old new inside is ends [] next made waits = cc
not_waits May front old new inside is ends (last ∷ formulas) next made waits =
    let one = last_waits May last formulas front old inside is waits in
    let same : negated last ∷ formulas ≡ next = cc in
    subst (λ (f : List (Formula ℕ)). Wait May f new) same (front, (negated_values inside, ends, values_negated May last inside one.0, one.1))

either_waits : (May : ℕ → Bool → Type 0) (front middle old new : List Values) (left right : Values) → old ≡ middle ++ right ∷ [] → middle ≡ front ++ left ∷ []
    → new ≡ front ++ either_values left right ∷ [] → Takes May step.Either old new
either_waits May front middle old new left right is at ends [] next made waits = cc
either_waits May front middle old new left right is at ends (last ∷ []) next made waits = cc
either_waits May front middle old new left right is at ends (last ∷ first ∷ formulas) next made waits =
    let one = last_waits May last (first ∷ formulas) middle old right is waits in
    let two = last_waits May first formulas front middle left at one.1 in
    let same : either first last ∷ formulas ≡ next = cc in
    subst (λ (f : List (Formula ℕ)). Wait May f new) same (front, (either_values left right, ends, values_either May first last left right two.0 one.0, two.1))

both_waits : (May : ℕ → Bool → Type 0) (front middle old new : List Values) (left right : Values) → old ≡ middle ++ right ∷ [] → middle ≡ front ++ left ∷ []
    → new ≡ front ++ both_values left right ∷ [] → Takes May step.Both old new
both_waits May front middle old new left right is at ends [] next made waits = cc
both_waits May front middle old new left right is at ends (last ∷ []) next made waits = cc
both_waits May front middle old new left right is at ends (last ∷ first ∷ formulas) next made waits =
    let one = last_waits May last (first ∷ formulas) middle old right is waits in
    let two = last_waits May first formulas front middle left at one.1 in
    let same : both first last ∷ formulas ≡ next = cc in
    subst (λ (f : List (Formula ℕ)). Wait May f new) same (front, (both_values left right, ends, values_both May first last left right two.0 one.0, two.1))

pub takes_leaf : (May : ℕ → Bool → Type 0) (it : FormulaStep) (number : ℕ) (old new : List Values) (values : Values) → it ≡ step.Leaf number → AreValues (May number) values → IsSome values
    → new ≡ old ++ values ∷ [] → Takes May it old new
takes_leaf May it number old new values is exact some ends = subst (λ (s : FormulaStep). Takes May s old new) (sym is) (leaf_waits May number old new values exact some ends)

pub takes_not : (May : ℕ → Bool → Type 0) (it : FormulaStep) (front old new : List Values) (inside made : Values) → it ≡ step.Not → old ≡ front ++ inside ∷ [] → made ≡ negated_values inside
    → new ≡ front ++ made ∷ [] → Takes May it old new
takes_not May it front old new inside made is at same ends =
    subst (λ (s : FormulaStep). Takes May s old new) (sym is) (not_waits May front old new inside at (ends ∙ ap (λ (v : Values). front ++ v ∷ []) same))

pub takes_either : (May : ℕ → Bool → Type 0) (it : FormulaStep) (front middle old new : List Values) (left right made : Values) → it ≡ step.Either → old ≡ middle ++ right ∷ []
    → middle ≡ front ++ left ∷ [] → made ≡ either_values left right → new ≡ front ++ made ∷ [] → Takes May it old new
takes_either May it front middle old new left right made is at then_at same ends =
    subst (λ (s : FormulaStep). Takes May s old new) (sym is) (either_waits May front middle old new left right at then_at (ends ∙ ap (λ (v : Values). front ++ v ∷ []) same))

pub takes_both : (May : ℕ → Bool → Type 0) (it : FormulaStep) (front middle old new : List Values) (left right made : Values) → it ≡ step.Both → old ≡ middle ++ right ∷ []
    → middle ≡ front ++ left ∷ [] → made ≡ both_values left right → new ≡ front ++ made ∷ [] → Takes May it old new
takes_both May it front middle old new left right made is at then_at same ends =
    subst (λ (s : FormulaStep). Takes May s old new) (sym is) (both_waits May front middle old new left right at then_at (ends ∙ ap (λ (v : Values). front ++ v ∷ []) same))

-- ---- all steps

-- as many values wait as formulas
many_wait : (May : ℕ → Bool → Type 0) (formulas : List (Formula ℕ)) (waiting : List Values) → Wait May formulas waiting → length waiting ≡ length formulas
many_wait May [] waiting none = ap length none
many_wait May (last ∷ formulas) waiting (front, (values, is, of, waits)) =
    let more = many_wait May formulas front waits in
    omega (arith, ap length is, length-append front (values ∷ []), more)

-- What a walk over steps has got to: the formulas that wait, their values, and what the steps that
-- are left make of them.
pub record GotTo (May : ℕ → Bool → Type 0) (steps : List FormulaStep) (place : ℕ) (formula : Formula ℕ) (waiting : List Values) : Type 0 where
  pub formulas : List (Formula ℕ)
  pub ahead : after (drop place steps) formulas ≡ Some (formula ∷ [])
  pub waits : Wait May formulas waiting

pub got_nowhere : (May : ℕ → Bool → Type 0) (steps : List FormulaStep) (formula : Formula ℕ) (waiting : List Values) → after steps [] ≡ Some (formula ∷ []) → waiting ≡ [] → GotTo May steps 0 formula waiting
got_nowhere May steps formula waiting made none = record { formulas = []; ahead = made; waits = none }

-- what a step makes, where the steps make something
pub record Makes (it : FormulaStep) (more : List FormulaStep) (formulas : List (Formula ℕ)) (formula : Formula ℕ) : Type 0 where
  pub next : List (Formula ℕ)
  pub made : after_step it formulas ≡ Some next
  pub ahead : after more next ≡ Some (formula ∷ [])

makes : (it : FormulaStep) (more : List FormulaStep) (formulas : List (Formula ℕ)) (formula : Formula ℕ) → after (it ∷ more) formulas ≡ Some (formula ∷ []) → Makes it more formulas formula
makes it more formulas formula ahead = by_made (after_step it formulas) refl ahead
  where
    by_made : (made : Option (List (Formula ℕ))) → after_step it formulas ≡ made → and_then (after more) made ≡ Some (formula ∷ []) → Makes it more formulas formula
    by_made None is none = cc
    by_made (Some next) is some = record { next = next; made = is; ahead = some }

pub next_step : (steps : List FormulaStep) (place : ℕ) (formula : Formula ℕ) (other : FormulaStep) → place < length steps → (formulas : List (Formula ℕ)) → after (drop place steps) formulas ≡ Some (formula ∷ [])
    → Makes (get_or steps place other) (drop (suc place) steps) formulas formula
next_step steps place formula other less formulas ahead =
    makes (get_or steps place other) (drop (suc place) steps) formulas formula
    (subst (λ (l : List FormulaStep). after l formulas ≡ Some (formula ∷ [])) (drop-cons steps place other less) ahead)

enough : (it : FormulaStep) (formulas next : List (Formula ℕ)) → after_step it formulas ≡ Some next → over it ≤ length formulas
enough (step.Leaf number) formulas next made = omega arith
enough step.Not [] next made = cc
enough step.Not (last ∷ formulas) next made = omega arith
enough step.Either [] next made = cc
enough step.Either (last ∷ []) next made = cc
enough step.Either (last ∷ first ∷ formulas) next made = omega arith
enough step.Both [] next made = cc
enough step.Both (last ∷ []) next made = cc
enough step.Both (last ∷ first ∷ formulas) next made = omega arith

-- a step has the values that it is over
pub enough_wait : (May : ℕ → Bool → Type 0) (steps : List FormulaStep) (place : ℕ) (formula : Formula ℕ) (waiting : List Values) (other : FormulaStep) → place < length steps
    → GotTo May steps place formula waiting → over (get_or steps place other) ≤ length waiting
enough_wait May steps place formula waiting other less got =
    let step_made = next_step steps place formula other less got.formulas got.ahead in
    let few = enough (get_or steps place other) got.formulas step_made.next step_made.made in
    omega (arith, few, many_wait May got.formulas waiting got.waits)

-- and the walk goes on behind it
pub goes_on : (May : ℕ → Bool → Type 0) (steps : List FormulaStep) (place : ℕ) (formula : Formula ℕ) (waiting new : List Values) (other : FormulaStep) → place < length steps
    → GotTo May steps place formula waiting → Takes May (get_or steps place other) waiting new → GotTo May steps (place + 1) formula new
goes_on May steps place formula waiting new other less got takes =
    let step_made = next_step steps place formula other less got.formulas got.ahead in
    let count : suc place ≡ place + 1 = omega arith in
    record {
      formulas = step_made.next;
      ahead = subst (λ (n : ℕ). after (drop n steps) step_made.next ≡ Some (formula ∷ [])) count step_made.ahead;
      waits = takes got.formulas step_made.next step_made.made got.waits;
    }
