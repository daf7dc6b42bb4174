-- Formulas that are asked question by question.
use Rattle.std.proofs.Common.{◌≡◌, ◌<◌, ◌≤◌, ◌+◌, ℕ, zero, suc, Bool, true, false, not, ◌&&◌, ◌||◌, List, [], ◌∷◌, ◌++◌, Option, None, Some, length, reverse, take, refl, sym, ap, ◌∙◌, subst, arith, append_assoc, get_or, slice_get, length-append}
use Rattle.std.specs.Prelude.{IsTrue, MatchOption, ⊤, slice_index_or, if◌then◌else◌, option_to_list, IfSome}
use Rattle.std.specs.List.{All}
use Rattle.std.proofs.lemmas.List.{reverse-append}
use Rattle.std.proofs.lemmas.Option.{slice_get_read}
use Rattle.std.proofs.lemmas.List.Elements.{All-head, All-nil, All-pop, All-push, All-tail}
use Rattle.nextest_filtering_filters.specs.Formula.{Formula, Gives, both, both_gives, either, either_gives, leaf, leaf_gives, negated, negated_gives}
use Rattle.nextest_filtering_filters.specs.Making.{AreWithin, IsPendingWithin, IsWithin, Keeps, at_pending, exits_of, reach}
use Rattle.nextest_filtering_filters.specs.Questions.{at_exits, at_next, decided, exit_of, holds_by, outcomes, outcomes_behind}
use Rattle.nextest_filtering_filters.specs.Steps.{after, after_step, and_then}
use Rattle.nextest_filtering_filters.specs.Values.{may_by, one_value, values_at}
use Rattle.nextest_filtering_filters.specs.declared.questions.Exits.{Exits}
use Rattle.nextest_filtering_filters.specs.declared.questions.Next.{Next}
use Rattle.nextest_filtering_filters.specs.declared.questions.Next.TheVariants as to
use Rattle.nextest_filtering_filters.specs.declared.questions.Pending.{Pending}
use Rattle.nextest_filtering_filters.specs.declared.questions.Pending.TheVariants as pending
use Rattle.nextest_filtering_filters.specs.declared.questions.Question.{Question}
use Rattle.nextest_filtering_filters.specs.declared.step.FormulaStep.{FormulaStep}
use Rattle.nextest_filtering_filters.specs.declared.step.FormulaStep.TheVariants as step
use Rattle.nextest_filtering_filters.specs.declared.values.Values.{Values}
use Rattle.nextest_filtering_filters.proofs.Building.{after_more}

-- ---- what questions come to

behind_push : (answer : ℕ → Bool) (before : List Bool) (list : List Question) (it : Question)
    → let come = outcomes_behind answer before list in outcomes_behind answer before (list ++ it ∷ []) ≡ come ++ at_exits come it.exits (answer it.leaf) ∷ []
behind_push answer before [] it = refl
behind_push answer before (first ∷ list) it = behind_push answer (before ++ at_exits before first.exits (answer first.leaf) ∷ []) list it

-- what comes behind changes nothing in front
behind_keeps : (answer : ℕ → Bool) (before : List Bool) (list : List Question) → (rest : List Bool) × (outcomes_behind answer before list ≡ before ++ rest)
behind_keeps answer before [] = ([], sym (append-nil before))
  where
    append-nil : (l : List Bool) → l ++ [] ≡ l
    append-nil [] = refl
    append-nil (x ∷ l) = ap (λ (tail : List Bool). x ∷ tail) (append-nil l)
behind_keeps answer before (first ∷ list) =
    let own = at_exits before first.exits (answer first.leaf) in
    let later = behind_keeps answer (before ++ own ∷ []) list in
    (own ∷ later.0, later.1 ∙ append_assoc before (own ∷ []) later.0)

behind_append : (answer : ℕ → Bool) (before : List Bool) (list more : List Question) → outcomes_behind answer before (list ++ more) ≡ outcomes_behind answer (outcomes_behind answer before list) more
behind_append answer before [] more = refl
behind_append answer before (first ∷ list) more = behind_append answer (before ++ at_exits before first.exits (answer first.leaf) ∷ []) list more

behind_long : (answer : ℕ → Bool) (before : List Bool) (list : List Question) → length (outcomes_behind answer before list) ≡ length before + length list
behind_long answer before [] = omega arith
behind_long answer before (first ∷ list) =
    let own = at_exits before first.exits (answer first.leaf) in
    omega (arith, behind_long answer (before ++ own ∷ []) list, length-append before (own ∷ []))

pub as_many : (answer : ℕ → Bool) (list : List Question) → length (outcomes answer list) ≡ length list
as_many answer list = omega (arith, behind_long answer [] list)

-- more questions come to what the first ones do, and more
pub kept : (answer : ℕ → Bool) (list after : List Question) → Keeps list after → (rest : List Bool) × (outcomes answer after ≡ outcomes answer list ++ rest)
kept answer list after (more, is) =
    let later = behind_keeps answer (outcomes answer list) more in
    (later.0, ap (outcomes answer) is ∙ behind_append answer [] list more ∙ later.1)

-- ---- places

in_front : (come rest : List Bool) (place : ℕ) → place < length come → slice_index_or (come ++ rest) place false ≡ slice_index_or come place false
in_front [] rest place within = absurd (omega (arith, within))
in_front (x ∷ come) rest zero within = refl
in_front (x ∷ come) rest (suc place) within = in_front come rest place (omega (arith, within))

right_behind : (come rest : List Bool) (x : Bool) (place : ℕ) → place ≡ length come → slice_index_or (come ++ x ∷ rest) place false ≡ x
right_behind [] rest x zero at = refl
right_behind [] rest x (suc place) at = absurd (omega (arith, at))
right_behind (y ∷ come) rest x zero at = absurd (omega (arith, at))
right_behind (y ∷ come) rest x (suc place) at = right_behind come rest x place (omega (arith, at))

past : (come : List Bool) (place : ℕ) → length come ≤ place → slice_index_or come place false ≡ false
past [] place beyond = refl
past (x ∷ come) zero beyond = absurd (omega (arith, beyond))
past (x ∷ come) (suc place) beyond = past come place (omega (arith, beyond))

asked_behind : (answer : ℕ → Bool) (before : List Bool) (list : List Question) (place at : ℕ) (it : Question) → at ≡ length before + place → slice_get list place ≡ Some it
    → slice_index_or (outcomes_behind answer before list) at false ≡ at_exits (outcomes_behind answer before (take place list)) it.exits (answer it.leaf)
asked_behind answer before [] place at it is stands = cc
asked_behind answer before (first ∷ list) zero at it is stands =
    let same : first ≡ it = cc in
    let own = at_exits before first.exits (answer first.leaf) in
    let later = behind_keeps answer (before ++ own ∷ []) list in
    ap (λ (come : List Bool). slice_index_or come at false) (later.1 ∙ append_assoc before (own ∷ []) later.0) ∙ right_behind before later.0 own at (omega (arith, is))
    ∙ ap (λ (one : Question). at_exits before one.exits (answer one.leaf)) same
asked_behind answer before (first ∷ list) (suc place) at it is stands =
    let own = at_exits before first.exits (answer first.leaf) in
    asked_behind answer (before ++ own ∷ []) list place at it (omega (arith, is, length-append before (own ∷ []))) stands

-- a question comes to what its answer leads to
pub asked_at : (answer : ℕ → Bool) (list : List Question) (place : ℕ) (it : Question) → place < length list → it ≡ get_or list place it
    → slice_index_or (outcomes answer list) place false ≡ at_exits (outcomes answer (take place list)) it.exits (answer it.leaf)
asked_at answer list place it within is = asked_behind answer [] list place place it (omega arith) (slice_get_read list (length list) place it refl within is)

pub asked_nowhere : (answer : ℕ → Bool) (list : List Question) (place : ℕ) → length list ≤ place → slice_index_or (outcomes answer list) place false ≡ false
asked_nowhere answer list place beyond = past (outcomes answer list) place (omega (arith, beyond, as_many answer list))

-- where both exits of the first question are values, its answer decides
pub decided_by : (answer : ℕ → Bool) (list : List Question) (first : Next) (place : ℕ) (it : Question) (if_true if_false : Bool) → first ≡ to.Question place → place < length list → it ≡ get_or list place it
    → it.exits.if_true ≡ to.Value if_true → it.exits.if_false ≡ to.Value if_false
    → at_next (outcomes answer list) first ≡ decided (record { leaf = it.leaf; if_true = if_true; if_false = if_false }) (answer it.leaf)
decided_by answer list first place it if_true if_false asked within is so not_so =
    ap (at_next (outcomes answer list)) asked ∙ asked_at answer list place it within is ∙ by_answer (answer it.leaf)
  where
    by_answer : (holds : Bool) → at_exits (outcomes answer (take place list)) it.exits holds ≡ decided (record { leaf = it.leaf; if_true = if_true; if_false = if_false }) holds
    by_answer true = ap (at_next (outcomes answer (take place list))) so
    by_answer false = ap (at_next (outcomes answer (take place list))) not_so

-- ---- behind more questions

next_same : (come rest : List Bool) (it : Next) → IsWithin (length come) it → at_next (come ++ rest) it ≡ at_next come it
next_same come rest (to.Value value) within = refl
next_same come rest (to.Question place) within = in_front come rest place within

exits_same : (come rest : List Bool) (exits : Exits) (holds : Bool) → AreWithin (length come) exits → at_exits (come ++ rest) exits holds ≡ at_exits come exits holds
exits_same come rest exits true within = next_same come rest exits.if_true within.0
exits_same come rest exits false within = next_same come rest exits.if_false within.1

pending_same : (come rest : List Bool) (last : Bool) (it : Pending) (holds : Bool) → IsPendingWithin (length come) it → at_pending (come ++ rest) last it holds ≡ at_pending come last it holds
pending_same come rest last (pending.Exits exits) holds within = exits_same come rest exits holds within
pending_same come rest last (pending.Both if_false) true within = refl
pending_same come rest last (pending.Both if_false) false within = next_same come rest if_false within
pending_same come rest last (pending.Either if_true) true within = next_same come rest if_true within
pending_same come rest last (pending.Either if_true) false within = refl

-- each of them is within, one after another
abbrev Each : ℕ → List Pending → Type 0
Each count [] = ⊤
Each count (it ∷ all) = IsPendingWithin count it × Each count all

each_more : (count : ℕ) (all : List Pending) (it : Pending) → Each count all → IsPendingWithin count it → Each count (all ++ it ∷ [])
each_more count [] it each one = (one, tt)
each_more count (first ∷ all) it each one = (each.0, each_more count all it each.1 one)

each_turned : (count : ℕ) (all : List Pending) → All (IsPendingWithin count) all → Each count (reverse all)
each_turned count [] each = tt
each_turned count (first ∷ all) each =
    subst (Each count) (sym (reverse-append (first ∷ []) all))
    (each_more count (reverse all) first (each_turned count all (All-tail (IsPendingWithin count) first all each)) (All-head (IsPendingWithin count) first all each))

reach_same : (answer : ℕ → Bool) (come rest : List Bool) (all : List Pending) (last : Bool) (formulas : List (Formula ℕ)) → Each (length come) all
    → reach answer (come ++ rest) all last formulas ≡ reach answer come all last formulas
reach_same answer come rest [] last formulas within = refl
reach_same answer come rest (it ∷ all) last [] within = refl
reach_same answer come rest (it ∷ all) last (next ∷ formulas) within =
    ap (λ (value : Bool). reach answer (come ++ rest) all value formulas) (pending_same come rest last it (holds_by answer next) within.0)
    ∙ reach_same answer come rest all (at_pending come last it (holds_by answer next)) formulas within.1

-- ---- one step back

if_one : {T : Type 0} (holds : Bool) (value : T) → (if holds then value else value) ≡ value
if_one true value = refl
if_one false value = refl

empty : (all : List Pending) → length all ≡ 0 → all ≡ []
empty [] none = refl
empty (it ∷ all) none = absurd (omega (arith, none))

at_taken : (come : List Bool) (last : Next) (it : Pending) (holds : Bool) → at_pending come (at_next come last) it holds ≡ at_exits come (exits_of last (Some it)) holds
at_taken come last (pending.Exits exits) holds = refl
at_taken come last (pending.Both if_false) true = refl
at_taken come last (pending.Both if_false) false = refl
at_taken come last (pending.Either if_true) true = refl
at_taken come last (pending.Either if_true) false = refl

-- the last of what is pending is taken off
reach_taken : (answer : ℕ → Bool) (come : List Bool) (before after : List Pending) (popped : Option Pending) (last : Next) (next : Formula ℕ) (formulas : List (Formula ℕ)) → before ≡ after ++ option_to_list popped
    → (popped ≡ None → length before ≡ 0)
    → reach answer come (reverse before) (at_next come last) (next ∷ formulas) ≡ reach answer come (reverse after) (at_exits come (exits_of last popped) (holds_by answer next)) formulas
reach_taken answer come before after None last next formulas is none =
    let value = at_next come last in
    let nothing = none refl in
    let left : length after ≡ 0 = omega (arith, nothing, ap length is, length-append after []) in
    ap (λ (l : List Pending). reach answer come (reverse l) value (next ∷ formulas)) (empty before nothing) ∙ ap (at_next come) (sym (if_one (holds_by answer next) last))
    ∙ sym (ap (λ (l : List Pending). reach answer come (reverse l) (at_exits come (exits_of last None) (holds_by answer next)) formulas) (empty after left))
reach_taken answer come before after (Some it) last next formulas is none =
    ap (λ (l : List Pending). reach answer come l (at_next come last) (next ∷ formulas)) (ap reverse is ∙ reverse-append after (it ∷ []))
    ∙ ap (λ (value : Bool). reach answer come (reverse after) value formulas) (at_taken come last it (holds_by answer next))

-- the exits where nothing is so, and where two are pending
turned : (come : List Bool) (exits : Exits) (holds : Bool) → at_exits come (record { if_true = exits.if_false; if_false = exits.if_true }) holds ≡ at_exits come exits (not holds)
turned come exits true = refl
turned come exits false = refl

both_of : (come : List Bool) (exits : Exits) (left right : Bool) → (if left then at_exits come exits right else at_next come exits.if_false) ≡ at_exits come exits (left && right)
both_of come exits true right = refl
both_of come exits false right = refl

either_of : (come : List Bool) (exits : Exits) (left right : Bool) → (if left then at_next come exits.if_true else at_exits come exits right) ≡ at_exits come exits (left || right)
either_of come exits true right = refl
either_of come exits false right = refl

-- what formulas come to by what is left behind a step
abbrev pub Reaches : (ℕ → Bool) → List Bool → List Bool → List Pending → List Pending → Bool → Bool → FormulaStep → Type 0
Reaches answer come later before after last value it =
    (formulas next : List (Formula ℕ)) → after_step it formulas ≡ Some next → reach answer later (reverse after) value formulas ≡ reach answer come (reverse before) last next

module _ (answer : ℕ → Bool) (come : List Bool) (before middle : List Pending) (popped : Option Pending) (last : Next) (is : before ≡ middle ++ option_to_list popped) (none : popped ≡ None → length before ≡ 0) where
  abbrev exits : Exits
  exits = exits_of last popped

  pub back_leaf : (rest : List Bool) (number : ℕ) (value : Bool) → All (IsPendingWithin (length come)) middle → value ≡ at_exits come exits (answer number)
      → Reaches answer come (come ++ rest) before middle (at_next come last) value (step.Leaf number)
  back_leaf rest number value within same formulas next made =
      let front : leaf number ∷ formulas ≡ next = cc in
      reach_same answer come rest (reverse middle) value formulas (each_turned (length come) middle within)
      ∙ ap (λ (v : Bool). reach answer come (reverse middle) v formulas) same
      ∙ sym (reach_taken answer come before middle popped last (leaf number) formulas is none)
      ∙ ap (reach answer come (reverse before) (at_next come last)) front

  pub back_not : (after : List Pending) → after ≡ middle ++ pending.Exits (record { if_true = exits.if_false; if_false = exits.if_true }) ∷ []
      → Reaches answer come come before after (at_next come last) (at_next come last) step.Not
  back_not after pushed [] next made = cc
  back_not after pushed (inside ∷ formulas) next made =
      let front : negated inside ∷ formulas ≡ next = cc in
      let top = pending.Exits (record { if_true = exits.if_false; if_false = exits.if_true }) in
      ap (λ (l : List Pending). reach answer come l (at_next come last) (inside ∷ formulas)) (ap reverse pushed ∙ reverse-append middle (top ∷ []))
      ∙ ap (λ (v : Bool). reach answer come (reverse middle) v formulas) (turned come exits (holds_by answer inside))
      ∙ sym (reach_taken answer come before middle popped last (negated inside) formulas is none)
      ∙ ap (reach answer come (reverse before) (at_next come last)) front

  two_more : (one other : Pending) (between after : List Pending) → between ≡ middle ++ one ∷ [] → after ≡ between ++ other ∷ [] → reverse after ≡ other ∷ one ∷ reverse middle
  two_more one other between after first second =
      ap reverse second ∙ reverse-append between (other ∷ []) ∙ ap (λ (l : List Pending). other ∷ l) (ap reverse first ∙ reverse-append middle (one ∷ []))

  pub back_both : (between after : List Pending) → between ≡ middle ++ pending.Both exits.if_false ∷ [] → after ≡ between ++ pending.Exits exits ∷ []
      → Reaches answer come come before after (at_next come last) (at_next come last) step.Both
  back_both between after first second [] next made = cc
  back_both between after first second (right ∷ []) next made = cc
  back_both between after first second (right ∷ left ∷ formulas) next made =
      let front : both left right ∷ formulas ≡ next = cc in
      ap (λ (l : List Pending). reach answer come l (at_next come last) (right ∷ left ∷ formulas)) (two_more (pending.Both exits.if_false) (pending.Exits exits) between after first second)
      ∙ ap (λ (v : Bool). reach answer come (reverse middle) v formulas) (both_of come exits (holds_by answer left) (holds_by answer right))
      ∙ sym (reach_taken answer come before middle popped last (both left right) formulas is none)
      ∙ ap (reach answer come (reverse before) (at_next come last)) front

  pub back_either : (between after : List Pending) → between ≡ middle ++ pending.Either exits.if_true ∷ [] → after ≡ between ++ pending.Exits exits ∷ []
      → Reaches answer come come before after (at_next come last) (at_next come last) step.Either
  back_either between after first second [] next made = cc
  back_either between after first second (right ∷ []) next made = cc
  back_either between after first second (right ∷ left ∷ formulas) next made =
      let front : either left right ∷ formulas ≡ next = cc in
      ap (λ (l : List Pending). reach answer come l (at_next come last) (right ∷ left ∷ formulas)) (two_more (pending.Either exits.if_true) (pending.Exits exits) between after first second)
      ∙ ap (λ (v : Bool). reach answer come (reverse middle) v formulas) (either_of come exits (holds_by answer left) (holds_by answer right))
      ∙ sym (reach_taken answer come before middle popped last (either left right) formulas is none)
      ∙ ap (reach answer come (reverse before) (at_next come last)) front

pub leaf_back : (answer : ℕ → Bool) (list after : List Question) (before middle : List Pending) (popped : Option Pending) (last made : Next) (exits : Exits) (number : ℕ) → before ≡ middle ++ option_to_list popped
    → (popped ≡ None → length before ≡ 0) → All (IsPendingWithin (length list)) middle → exits ≡ exits_of last popped → Keeps list after → at_next (outcomes answer after) made ≡ at_exits (outcomes answer list) exits (answer number)
    → Reaches answer (outcomes answer list) (outcomes answer after) before middle (at_next (outcomes answer list) last) (at_next (outcomes answer after) made) (step.Leaf number)
leaf_back answer list after before middle popped last made exits number is none within same keeps told =
    let come = outcomes answer list in
    let grown = kept answer list after keeps in
    subst (λ (later : List Bool). Reaches answer come later before middle (at_next come last) (at_next (outcomes answer after) made) (step.Leaf number)) (sym grown.1)
    (back_leaf answer come before middle popped last is none grown.0 number (at_next (outcomes answer after) made) (subst (λ (count : ℕ). All (IsPendingWithin count) middle) (sym (as_many answer list)) within)
    (told ∙ ap (λ (e : Exits). at_exits come e (answer number)) same))

pub none_of : (popped : Option Pending) (Nothing : Type 0) (Some : Pending → Type 0) → MatchOption popped Nothing Some → popped ≡ None → Nothing
none_of None Nothing Something found is = found
none_of (Some it) Nothing Something found is = cc

-- ---- leaves that are known, and exits that are one

pub known_answer : (values : Values) (number : ℕ) (answer value : Bool) → one_value values ≡ Some value → may_by (λ (n : ℕ). values) number answer → answer ≡ value
known_answer values number answer value = by_values values.may_hold values.may_fail answer
  where
    by_values : (holds fails answer : Bool) → one_value (record { may_hold = holds; may_fail = fails }) ≡ Some value → may_by (λ (n : ℕ). record { may_hold = holds; may_fail = fails }) number answer → answer ≡ value
    by_values true true answer one may = cc
    by_values true false true one may = cc
    by_values true false false one may = cc
    by_values false fails true one may = cc
    by_values false fails false one may = cc

pub one_exit : (come : List Bool) (exits : Exits) (holds : Bool) → exits.if_true ≡ exits.if_false → at_next come exits.if_true ≡ at_exits come exits holds
one_exit come exits true same = refl
one_exit come exits false same = ap (at_next come) same

-- a new question
pub new_question : (answer : ℕ → Bool) (list after : List Question) (it : Question) (place : ℕ) → place ≡ length list → after ≡ list ++ it ∷ []
    → slice_index_or (outcomes answer after) place false ≡ at_exits (outcomes answer list) it.exits (answer it.leaf)
new_question answer list after it place at pushed =
    ap (λ (l : List Question). slice_index_or (outcomes answer l) place false) pushed ∙ ap (λ (l : List Bool). slice_index_or l place false) (behind_push answer [] list it)
    ∙ right_behind (outcomes answer list) [] (at_exits (outcomes answer list) it.exits (answer it.leaf)) place (omega (arith, at, as_many answer list))

-- ---- within

pub exit_within : (count : ℕ) (exits : Exits) (holds : Bool) → AreWithin count exits → IsWithin count (exit_of exits holds)
exit_within count exits true within = within.0
exit_within count exits false within = within.1

pub more_within : (count more : ℕ) (it : Next) → count ≤ more → IsWithin count it → IsWithin more it
more_within count more (to.Value value) less within = tt
more_within count more (to.Question place) less within = omega (arith, less, within)

pub pending_more : (count more : ℕ) (it : Pending) → count ≤ more → IsPendingWithin count it → IsPendingWithin more it
pending_more count more (pending.Exits exits) less within = (more_within count more exits.if_true less within.0, more_within count more exits.if_false less within.1)
pending_more count more (pending.Both if_false) less within = more_within count more if_false less within
pending_more count more (pending.Either if_true) less within = more_within count more if_true less within

pub exits_within : (count : ℕ) (last : Next) (popped : Option Pending) → IsWithin count last → IfSome popped (IsPendingWithin count) → AreWithin count (exits_of last popped)
exits_within count last None within own = (within, within)
exits_within count last (Some (pending.Exits exits)) within own = own
exits_within count last (Some (pending.Both if_false)) within own = (within, own)
exits_within count last (Some (pending.Either if_true)) within own = (own, within)

pub taken_within : (count : ℕ) (before middle : List Pending) (popped : Option Pending) (last : Next) (exits : Exits) → before ≡ middle ++ option_to_list popped → All (IsPendingWithin count) before → IsWithin count last
    → exits ≡ exits_of last popped → All (IsPendingWithin count) middle × AreWithin count exits
taken_within count before middle popped last exits is all within same =
    let parts = All-pop (IsPendingWithin count) before middle popped is all in (parts.0, subst (AreWithin count) (sym same) (exits_within count last popped within parts.1))

pub pushed_within : (count : ℕ) (front after : List Pending) (it : Pending) → after ≡ front ++ it ∷ [] → All (IsPendingWithin count) front → IsPendingWithin count it → All (IsPendingWithin count) after
pushed_within count front after it is all own = subst (All (IsPendingWithin count)) (sym is) (All-push (IsPendingWithin count) front it all own)

-- ---- all steps

-- What a walk back over steps has got to: the formulas that those in front make come to what the
-- whole one is.
pub record GotBack (leaves : List Values) (whole : Formula ℕ) (left : List FormulaStep) (list : List Question) (pending : List Pending) (first : Next) : Type 0 where
  pub within : IsWithin (length list) first
  pub all_within : All (IsPendingWithin (length list)) pending
  pub formulas : List (Formula ℕ)
  pub made : after left [] ≡ Some formulas
  pub reaches : (answer : ℕ → Bool) → ((number : ℕ) → may_by (values_at leaves) number (answer number))
      → reach answer (outcomes answer list) (reverse pending) (at_next (outcomes answer list) first) formulas ≡ holds_by answer whole

its_own : (come : List Bool) (holds : Bool) → at_exits come (record { if_true = to.Value true; if_false = to.Value false }) holds ≡ holds
its_own come true = refl
its_own come false = refl

abbrev pub last_exits : Pending
last_exits = pending.Exits (record { if_true = to.Value true; if_false = to.Value false })

pub got_all : (leaves : List Values) (whole : Formula ℕ) (left : List FormulaStep) (list : List Question) (all : List Pending) → after left [] ≡ Some (whole ∷ []) → list ≡ [] → all ≡ last_exits ∷ []
    → GotBack leaves whole left list all (to.Value false)
got_all leaves whole left list all made none one =
    record {
      within = tt;
      all_within = pushed_within (length list) [] all last_exits one (All-nil (IsPendingWithin (length list))) (tt, tt);
      formulas = whole ∷ [];
      made = made;
      reaches = λ answer may.
          ap (λ (l : List Pending). reach answer (outcomes answer list) (reverse l) false (whole ∷ [])) one ∙ its_own (outcomes answer list) (holds_by answer whole);
    }

-- the formulas in front of a step
record Front (front : List FormulaStep) (it : FormulaStep) (formulas : List (Formula ℕ)) : Type 0 where
  before : List (Formula ℕ)
  made : after front [] ≡ Some before
  step : after_step it before ≡ Some formulas

front_of : (front : List FormulaStep) (it : FormulaStep) (formulas : List (Formula ℕ)) → after (front ++ it ∷ []) [] ≡ Some formulas → Front front it formulas
front_of front it formulas made = by_front (after front []) refl (sym (after_more front (it ∷ []) []) ∙ made)
  where
    by_step : (before : List (Formula ℕ)) → after front [] ≡ Some before → (next : Option (List (Formula ℕ))) → after_step it before ≡ next → and_then (after []) next ≡ Some formulas → Front front it formulas
    by_step before is None step given = cc
    by_step before is (Some next) step given = record { before = before; made = is; step = step ∙ given }

    by_front : (found : Option (List (Formula ℕ))) → after front [] ≡ found → and_then (after (it ∷ [])) found ≡ Some formulas → Front front it formulas
    by_front None is given = cc
    by_front (Some before) is given = by_step before is (after_step it before) refl given

pub got_back : (leaves : List Values) (whole : Formula ℕ) (left front : List FormulaStep) (it : FormulaStep) (list after_list : List Question) (pending after_pending : List Pending) (first made : Next) → left ≡ front ++ it ∷ []
    → IsWithin (length after_list) made → All (IsPendingWithin (length after_list)) after_pending
    → ((answer : ℕ → Bool) → ((number : ℕ) → may_by (values_at leaves) number (answer number))
    → Reaches answer (outcomes answer list) (outcomes answer after_list) pending after_pending (at_next (outcomes answer list) first) (at_next (outcomes answer after_list) made) it)
    → GotBack leaves whole left list pending first → GotBack leaves whole front after_list after_pending made
got_back leaves whole left front it list after_list pending after_pending first made ends within all_within step got =
    let found = front_of front it got.formulas (subst (λ (l : List FormulaStep). after l [] ≡ Some got.formulas) ends got.made) in
    record {
      within = within;
      all_within = all_within;
      formulas = found.before;
      made = found.made;
      reaches = λ answer may. step answer may found.before got.formulas found.step ∙ got.reaches answer may;
    }

-- at the front
pub got_to_front : (leaves : List Values) (whole : Formula ℕ) (left : List FormulaStep) (list : List Question) (pending : List Pending) (first : Next) → length left ≡ 0 → GotBack leaves whole left list pending first → (answer : ℕ → Bool)
    → ((number : ℕ) → may_by (values_at leaves) number (answer number)) → at_next (outcomes answer list) first ≡ holds_by answer whole
got_to_front leaves whole left list pending first none got answer may =
    let come = outcomes answer list in
    let nothing : Some [] ≡ Some got.formulas = subst (λ (l : List FormulaStep). after l [] ≡ Some got.formulas) (no_steps left none) got.made in
    let last : got.formulas ≡ [] = cc in
    sym (reach_end come (reverse pending)) ∙ ap (reach answer come (reverse pending) (at_next come first)) (sym last) ∙ got.reaches answer may
  where
    no_steps : (l : List FormulaStep) → length l ≡ 0 → l ≡ []
    no_steps [] zero_long = refl
    no_steps (s ∷ l) zero_long = absurd (omega (arith, zero_long))

    reach_end : (come : List Bool) (all : List Pending) → reach answer come all (at_next come first) [] ≡ at_next come first
    reach_end come [] = refl
    reach_end come (p ∷ all) = refl

-- ---- by the answers of leaves

-- a leaf by its own values
pub same_may : (values : ℕ → Values) (number : ℕ) (own : Values) (value : Bool) → own ≡ values number → may_by values number value → may_by (λ (n : ℕ). own) number value
same_may values number own true is may = subst (λ (v : Values). IsTrue v.may_hold) (sym is) may
same_may values number own false is may = subst (λ (v : Values). IsTrue v.may_fail) (sym is) may

pub gives_by : {L : Type 0} (May : L → Bool → Type 0) (change : ℕ → L) (answer : ℕ → Bool) → ((number : ℕ) → May (change number) (answer number)) → (formula : Formula ℕ)
    → Gives (λ number. May (change number)) formula (holds_by answer formula)
gives_by May change answer may (leaf number) = leaf_gives number (answer number) (may number)
gives_by May change answer may (negated inside) = negated_gives inside (holds_by answer inside) (gives_by May change answer may inside)
gives_by May change answer may (either left right) =
    either_gives left right (holds_by answer left) (holds_by answer right) (gives_by May change answer may left) (gives_by May change answer may right)
gives_by May change answer may (both left right) =
    both_gives left right (holds_by answer left) (holds_by answer right) (gives_by May change answer may left) (gives_by May change answer may right)
