-- Where no place is in any set, none comes into one.
use Rattle.std.proofs.Common.{◌≡◌, ℕ, zero, suc, ◌+◌, ◌<◌, Bool, true, false, List, [], ◌∷◌, ◌++◌, length, drop, get_or, replicate, subst, sym, ◌∙◌, refl, ap, arith}
use Rattle.std.specs.Prelude.{⊤, ◌||◌}
use Rattle.std.proofs.lemmas.Bool.{false≢true}
use Rattle.std.proofs.lemmas.List.{length-append}
use Rattle.nextest_filtering_globs.specs.declared.token.GlobToken.{GlobToken}
use Rattle.nextest_filtering_globs.specs.declared.token.GlobToken.TheVariants as token
use Rattle.nextest_filtering_globs.specs.Inside.{fits, next_places, later, either_of, none_of, Level, State, state, further, state_after_close, step, run, IsStack}
use Rattle.nextest_filtering_globs.proofs.Loops.{all_false, from_here}
use Rattle.nextest_filtering_globs.proofs.Walks.{Walked}

-- whether a place is in the set, or was found before
abbrev pub some_there : Bool → List Bool → Bool
some_there found [] = found
some_there found (here ∷ places) = some_there (found || here) places

found_before : (places : List Bool) → some_there true places ≡ true
found_before [] = refl
found_before (here ∷ places) = found_before places

pub none_there : (places : List Bool) → some_there false places ≡ false → places ≡ none_of places
none_there [] h = refl
none_there (true ∷ places) h = absurd (false≢true (sym h ∙ found_before places))
none_there (false ∷ places) h = ap (λ x. false ∷ x) (none_there places h)

pub none_found : (places : List Bool) → places ≡ none_of places → some_there false places ≡ false
none_found [] h = refl
none_found (true ∷ places) h = absurd cc
none_found (false ∷ places) h = none_found places cc

-- one place more was looked at
pub looked_at : (found : Bool) (places : List Bool) (i : ℕ) → i < length places
    → some_there false places ≡ some_there found (drop i places)
    → some_there false places ≡ some_there (found || get_or places i false) (drop (i + 1) places)
looked_at found places i h e = e ∙ ap (some_there found) (from_here places i false h)

-- so many places, and none of them
abbrev nowhere : ℕ → List Bool
nowhere n = replicate n false

none_again : (n : ℕ) → none_of (nowhere n) ≡ nowhere n
none_again zero = refl
none_again (suc n) = ap (λ x. false ∷ x) (none_again n)

moved_nowhere : (goes : ℕ → Bool) (text : List ℕ)
    → next_places goes false text (nowhere (suc (length text))) ≡ nowhere (suc (length text))
moved_nowhere goes [] = refl
moved_nowhere goes (c ∷ more) = ap (λ x. false ∷ x) (moved_nowhere goes more)

later_nowhere : (n : ℕ) → later false (nowhere n) ≡ nowhere n
later_nowhere zero = refl
later_nowhere (suc n) = ap (λ x. false ∷ x) (later_nowhere n)

either_nowhere : (n : ℕ) → either_of (nowhere n) (nowhere n) ≡ nowhere n
either_nowhere zero = refl
either_nowhere (suc n) = ap (λ x. false ∷ x) (either_nowhere n)

-- no place is in the sets of opened braces
abbrev AllNowhere : ℕ → List Level → Type 0
AllNowhere n [] = ⊤
AllNowhere n (inner ∷ outer) = (inner.start ≡ nowhere n) × (inner.reached ≡ nowhere n) × AllNowhere n outer

-- no place is in any set
abbrev IsNowhere : ℕ → State → Type 0
IsNowhere n it = (it.current ≡ nowhere n) × AllNowhere n it.levels

either_both : (n : ℕ) (places others : List Bool) → places ≡ nowhere n → others ≡ nowhere n
    → either_of places others ≡ nowhere n
either_both n places others e k =
    ap (λ x. either_of x others) e ∙ (ap (either_of (nowhere n)) k ∙ either_nowhere n)

further_nowhere : (n : ℕ) (current : List Bool) (levels : List Level) → current ≡ nowhere n → AllNowhere n levels
    → IsNowhere n (further current levels)
further_nowhere n current [] e h = (e, h)
further_nowhere n current (inner ∷ outer) e h =
    (h.0, (h.0, either_both n inner.reached current h.1 e, h.2))

closed_nowhere : (n : ℕ) (current : List Bool) (levels : List Level) → current ≡ nowhere n → AllNowhere n levels
    → IsNowhere n (state_after_close current levels)
closed_nowhere n current [] e h = (e, h)
closed_nowhere n current (inner ∷ outer) e h = (either_both n current inner.reached e h.1, h.2)

fits_nowhere : (text : List ℕ) (goes : ℕ → Bool) (current : List Bool) → current ≡ nowhere (suc (length text))
    → next_places goes false text current ≡ nowhere (suc (length text))
fits_nowhere text goes current e = ap (next_places goes false text) e ∙ moved_nowhere goes text

step_nowhere : (text : List ℕ) (t : GlobToken) (it : State) → IsNowhere (suc (length text)) it
    → IsNowhere (suc (length text)) (step text t it)
step_nowhere text (token.Literal c) it h = (fits_nowhere text (fits (token.Literal c)) it.current h.0, h.1)
step_nowhere text token.Any it h = (fits_nowhere text (fits token.Any) it.current h.0, h.1)
step_nowhere text token.ZeroOrMore it h = (ap (later false) h.0 ∙ later_nowhere (suc (length text)), h.1)
step_nowhere text (token.Class negated ranges) it h =
    (fits_nowhere text (fits (token.Class negated ranges)) it.current h.0, h.1)
step_nowhere text token.Open it h = (h.0, (h.0, ap none_of h.0 ∙ none_again (suc (length text)), h.1))
step_nowhere text token.Or it h = further_nowhere (suc (length text)) it.current it.levels h.0 h.1
step_nowhere text token.Close it h = closed_nowhere (suc (length text)) it.current it.levels h.0 h.1

run_nowhere : (text : List ℕ) (tokens : List GlobToken) (it : State) → IsNowhere (suc (length text)) it
    → IsNowhere (suc (length text)) (run text tokens it)
run_nowhere text [] it h = h
run_nowhere text (first ∷ more) it h = run_nowhere text more (step text first it) (step_nowhere text first it h)

-- an empty stack has no brace
no_levels : (n : ℕ) (levels : List Level) (stack : List Bool) → IsStack (suc n) levels stack → stack ≡ [] → levels ≡ []
no_levels n [] stack h e = refl
no_levels n (inner ∷ outer) stack h e =
    absurd (omega (arith, ap length e, ap length h.1, length-append (h.0 ++ inner.start) inner.reached, h.3))

-- with no place and no brace left, the set is what comes out at the end
pub walked_over : (text : List ℕ) (tokens : List GlobToken) (start : List Bool) (left : List GlobToken)
    (current stack : List Bool) → Walked text tokens start left current stack → stack ≡ [] → current ≡ none_of current
    → current ≡ (run text tokens (state start [])).current
walked_over text tokens start left current stack walked empty none =
    let n = suc (length text) in
    let wide : length current ≡ n = omega (arith, walked.wide) in
    let now : current ≡ nowhere n = none ∙ (all_false current ∙ ap nowhere wide) in
    let levels : walked.levels ≡ [] =
    no_levels (length text) walked.levels stack (subst (λ k. IsStack k walked.levels stack) wide walked.stacked) empty in
    let over : (run text left (state current [])).current ≡ nowhere n = (run_nowhere text left (state current []) (now, tt)).0 in
    now ∙ (sym over ∙ (ap (λ x. (run text left (state current x)).current) (sym levels) ∙ ap (λ x. x.current) (sym walked.same)))
