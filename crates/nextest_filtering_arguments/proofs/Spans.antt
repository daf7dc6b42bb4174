-- Rests of the input, and spans in it.
use Rattle.std.specs.Prelude.{◌≡◌, refl, ℕ, ◌+◌, ◌-◌, ◌<◌, ◌≤◌, List, [], ◌∷◌, ◌++◌, length, take, drop, if◌then◌else◌, Bool, true, false}
use Rattle.std.proofs.Common.{arith, length-append}
use Rattle.std.proofs.Math.Path.{ap, sym, subst, ◌∙◌}
use Rattle.std.proofs.Math.Seq.{drop-append_seam, take-append_seam}
use Rattle.std.proofs.lemmas.List.{append_assoc}
use Rattle.nextest_filtering_escapes.specs.Text.{is_blank}
use Rattle.nextest_filtering_ast.specs.Grammar.{after_blanks}
use Rattle.nextest_filtering_ast.specs.declared.leaf.SourceSpan.{SourceSpan}
use Rattle.nextest_filtering_arguments.specs.Blanks.{has_blank_front}
use Rattle.nextest_filtering_arguments.specs.Faults.{IsSuffix, here, Lies, IsPlace, RunsOut, BeginsBare, bytes_in_span, past}

-- a rest of a rest is one
pub suffix_trans : (a b c : List ℕ) → IsSuffix a b → IsSuffix b c → IsSuffix a c
suffix_trans a b c (x, e) (y, f) = (y ++ x, f ∙ (ap (λ l. y ++ l) e ∙ sym (append_assoc y x a)))

-- what stands behind a front is a rest
pub suffix_behind : (front rest text : List ℕ) → text ≡ front ++ rest → IsSuffix rest text
suffix_behind front rest text e = (front, e)

-- a byte more in front
suffix_by : (byte : ℕ) (rest : List ℕ) (b : Bool) → IsSuffix (after_blanks rest) rest → IsSuffix (if b then after_blanks rest else byte ∷ rest) (byte ∷ rest)
suffix_by byte rest true (front, e) = (byte ∷ front, ap (λ l. byte ∷ l) e)
suffix_by byte rest false known = ([], refl)

-- what is left without blanks at the front is a rest
pub suffix_unblanked : (text : List ℕ) → IsSuffix (after_blanks text) text
suffix_unblanked [] = ([], refl)
suffix_unblanked (byte ∷ rest) = suffix_by byte rest (is_blank byte) (suffix_unblanked rest)

-- a rest is no longer
pub suffix_len : (rest text : List ℕ) → IsSuffix rest text → length rest ≤ length text
suffix_len rest text (front, e) = Prim.omega (arith, ap length e, length-append front rest)

-- a span of so many bytes of a rest lies in the input
pub here_lies : (input rest : List ℕ) (n : ℕ) → IsSuffix rest input → n ≤ length rest → Lies input (here input rest n)
here_lies input rest n (front, e) short = Prim.omega (arith, ap length e, length-append front rest)

-- it begins behind what stands before the rest
starts : (input rest front : List ℕ) → input ≡ front ++ rest → length input - length rest ≡ length front
starts input rest front e = Prim.omega (arith, ap length e, length-append front rest)

-- what stands from there on is the rest
from_here : (input rest : List ℕ) → IsSuffix rest input → drop (length input - length rest) input ≡ rest
from_here input rest (front, e) = ap (λ k. drop k input) (starts input rest front e) ∙ (ap (drop (length front)) e ∙ drop-append_seam front rest)

-- it holds the first bytes of the rest
pub here_spans : (input rest : List ℕ) (n : ℕ) → IsSuffix rest input → bytes_in_span input (here input rest n) ≡ take n rest
here_spans input rest n within = ap (take n) (from_here input rest within)

-- what follows a word or a sign is a rest
pub suffix_token : (front rest text : List ℕ) → after_blanks text ≡ front ++ rest → IsSuffix rest text
suffix_token front rest text e = suffix_trans rest (after_blanks text) text (front, e) (suffix_unblanked text)

-- and shorter
pub shorter_token : (front rest text : List ℕ) → after_blanks text ≡ front ++ rest → 0 < length front → length rest < length text
shorter_token front rest text e some =
    Prim.omega (arith, some, ap length e, length-append front rest, suffix_len (after_blanks text) text (suffix_unblanked text))

-- what is left without blanks of a rest is one
pub suffix_within : (text input : List ℕ) → IsSuffix text input → IsSuffix (after_blanks text) input
suffix_within text input known = suffix_trans (after_blanks text) text input (suffix_unblanked text) known

-- where a text without its blanks stands, a rest of the input stands
pub suffix_at : (ahead text input : List ℕ) → ahead ≡ after_blanks text → IsSuffix text input → IsSuffix ahead input
suffix_at ahead text input is within = subst (λ l. IsSuffix l input) (sym is) (suffix_within text input within)

-- the span of what a rest begins with
pub told : (input rest behind : List ℕ) (span : SourceSpan) (front : List ℕ) → span ≡ here input rest (length front) → IsSuffix rest input → rest ≡ front ++ behind
    → Lies input span × (bytes_in_span input span ≡ front)
told input rest behind span front is within e = (
  subst (Lies input) (sym is) (here_lies input rest (length front) within (Prim.omega (arith, ap length e, length-append front behind))),
  ap (bytes_in_span input) is ∙ (here_spans input rest (length front) within ∙ (ap (take (length front)) e ∙ take-append_seam front behind)),
)

-- and what stands behind it
pub told_past : (input rest behind : List ℕ) (span : SourceSpan) (front : List ℕ) → span ≡ here input rest (length front) → IsSuffix rest input → rest ≡ front ++ behind
    → past input span ≡ behind
told_past input rest behind span front is (before, whole) e =
    let parted : input ≡ (before ++ front) ++ behind = whole ∙ ap (λ l. before ++ l) e ∙ sym (append_assoc before front behind) in
    let ends : length input - length rest + length front ≡ length (before ++ front) = Prim.omega (arith, starts input rest before whole, length-append before front) in
    ap (past input) is ∙ (ap (λ n. drop n input) ends ∙ (ap (drop (length (before ++ front))) parted ∙ drop-append_seam (before ++ front) behind))

-- a rest of what is a rest of the input, which stayed
pub suffix_in : (rest text input now : List ℕ) → now ≡ input → IsSuffix rest text → IsSuffix text input → IsSuffix rest now
suffix_in rest text input now same within known = subst (IsSuffix rest) (sym same) (suffix_trans rest text input within known)

-- all of the input is a rest of it
pub suffix_all : (text input : List ℕ) → input ≡ text → IsSuffix text input
suffix_all text input is = ([], is)

-- what is left without blanks at the front begins with none
bare_by : (byte : ℕ) (rest : List ℕ) (b : Bool) → is_blank byte ≡ b → has_blank_front (after_blanks rest) ≡ false → has_blank_front (if b then after_blanks rest else byte ∷ rest) ≡ false
bare_by byte rest true is known = known
bare_by byte rest false is known = is

unblanked_bare : (text : List ℕ) → has_blank_front (after_blanks text) ≡ false
unblanked_bare [] = refl
unblanked_bare (byte ∷ rest) = bare_by byte rest (is_blank byte) refl (unblanked_bare rest)

-- nor does a span that begins there
begins_bare : (input text : List ℕ) → IsSuffix (after_blanks text) input → has_blank_front (drop (length input - length (after_blanks text)) input) ≡ false
begins_bare input text within = ap has_blank_front (from_here input (after_blanks text) within) ∙ unblanked_bare text

-- an empty span there
place_here : (input text : List ℕ) → IsSuffix (after_blanks text) input → IsPlace input (here input (after_blanks text) 0) × BeginsBare input (here input (after_blanks text) 0)
place_here input text within = ((here_lies input (after_blanks text) 0 within (Prim.omega arith), refl), begins_bare input text within)

pub place_at : (input ahead text : List ℕ) (span : SourceSpan) → span ≡ here input ahead 0 → IsSuffix text input → ahead ≡ after_blanks text → IsPlace input span × BeginsBare input span
place_at input ahead text span is within skipped =
    subst (λ (s : SourceSpan). IsPlace input s × BeginsBare input s) (sym (is ∙ ap (λ (l : List ℕ). here input l 0) skipped))
    (place_here input text (suffix_within text input within))

-- a span of all that stands there
runs_out_here : (input text : List ℕ) → IsSuffix (after_blanks text) input
    → RunsOut input (here input (after_blanks text) (length (after_blanks text))) × BeginsBare input (here input (after_blanks text) (length (after_blanks text)))
runs_out_here input text within = (Prim.omega (arith, suffix_len (after_blanks text) input within), begins_bare input text within)

pub runs_out_at : (input ahead text : List ℕ) (span : SourceSpan) → span ≡ here input ahead (length ahead) → IsSuffix text input → ahead ≡ after_blanks text → RunsOut input span × BeginsBare input span
runs_out_at input ahead text span is within skipped =
    subst (λ (s : SourceSpan). RunsOut input s × BeginsBare input s) (sym (is ∙ ap (λ (l : List ℕ). here input l (length l)) skipped))
    (runs_out_here input text (suffix_within text input within))
