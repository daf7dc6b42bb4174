-- Where a span ends, a text may be cut.
use Rattle.std.proofs.Common.{◌≡◌, refl, ℕ, zero, suc, subst, inl, inr, ◌+◌, ◌<◌, ◌≤◌, Bool, true, false, List, [], ◌∷◌, ◌++◌, length, take, drop, get_or, ap, sym, ◌∙◌, arith}
use Rattle.std.specs.Prelude.{codes, IsCharBoundary}
use Rattle.std.specs.Str.{IsUtf8}
use Rattle.std.proofs.lemmas.Bool.{cases_lt}
use Rattle.std.proofs.lemmas.Bool.Decides.{nat_tests}
use Rattle.std.proofs.lemmas.Str.{IsCharBoundary-start, IsCharBoundary-end, IsCharBoundary-before_ascii, IsCharBoundary-after_ascii}
use Rattle.nextest_filtering_ast.specs.Grammar.{Behind}
use Rattle.test_runner_core_platforms.specs.Grammar.{is_of_name, is_of_triple, is_of_value, AllAre, starts, ReadsValue}
use Rattle.test_runner_core_platforms.specs.Parsing.{is_in, IsSplit}
use Rattle.test_runner_core_platforms.specs.Single.{one_span, quote_last, tail}
use Rattle.test_runner_core_platforms.specs.declared.span.Span.{Span}
use Rattle.test_runner_core_platforms.specs.declared.span.Span.TheVariants as span

each_at : (test : ℕ → Bool) (text : List ℕ) (m : ℕ) → m < length text → AllAre test (take (suc m) text) → test (get_or text m 0) ≡ true
each_at test [] m less all = absurd (Prim.omega arith)
each_at test (x ∷ text) zero less all = all.0
each_at test (x ∷ text) (suc m) less all = each_at test text m (Prim.omega arith) all.1

starts_at : (test : ℕ → Bool) (text : List ℕ) (n : ℕ) → n < length text → starts test (drop n text) ≡ test (get_or text n 0)
starts_at test [] n less = absurd (Prim.omega arith)
starts_at test (x ∷ text) zero less = refl
starts_at test (x ∷ text) (suc n) less = starts_at test text n (Prim.omega arith)

small_name : (byte : ℕ) → is_of_name byte ≡ true → byte < 128
small_name byte is = Prim.grind (arith, nat_tests)

small_triple : (byte : ℕ) → is_of_triple byte ≡ true → byte < 128
small_triple byte is = Prim.grind (arith, nat_tests)

small_end : (byte : ℕ) → is_of_value byte ≡ false → byte < 128
small_end byte is = Prim.grind (arith, nat_tests)

-- a text may be cut behind such bytes, where each is ASCII
cut_behind : (test : ℕ → Bool) (text : List ℕ) (n : ℕ) → IsUtf8 text → n ≤ length text → ((byte : ℕ) → test byte ≡ true → byte < 128) → AllAre test (take n text) → IsCharBoundary text n
cut_behind test text zero utf8 within small all = IsCharBoundary-start text utf8
cut_behind test text (suc m) utf8 within small all =
    let less : m < length text = Prim.omega arith in
    let one : m + 1 ≡ suc m = Prim.omega arith in
    subst (IsCharBoundary text) one (IsCharBoundary-after_ascii text m utf8 less (small (get_or text m 0) (each_at test text m less all)))

-- so it may before an ASCII byte, and at its end
cut_before : (test : ℕ → Bool) (text : List ℕ) (n : ℕ) → n ≤ length text → ((byte : ℕ) → test byte ≡ false → byte < 128) → starts test (drop n text) ≡ false → IsCharBoundary text n
cut_before test text n within small ends =
    elim (cases_lt n (length text)) [
      | inl less ↦ IsCharBoundary-before_ascii text n less (small (get_or text n 0) (sym (starts_at test text n less) ∙ ends))
      | inr more ↦
          let last : length text ≡ n = Prim.omega arith in
          subst (IsCharBoundary text) last (IsCharBoundary-end text)
    ]

pub cut : (span : Span) (text : List ℕ) (n : ℕ) → IsUtf8 text → n ≤ length text → AllAre (is_in span) (take n text) → starts (is_in span) (drop n text) ≡ false → IsCharBoundary text n
cut span.Name text n utf8 within all ends = cut_behind is_of_name text n utf8 within small_name all
cut span.Triple text n utf8 within all ends = cut_behind is_of_triple text n utf8 within small_triple all
cut span.Value text n utf8 within all ends = cut_before is_of_value text n within small_end ends

-- a value that no quote ends is none
pub no_value : (text inside v e : List ℕ) → Behind (codes "\"") text inside → IsSplit span.Value inside v e → ((rest : List ℕ) → e ≡ codes "\"" ++ rest → ⊥) → (part rest : List ℕ) → ReadsValue text part rest → ⊥
no_value text inside v e opens split none part rest read =
    let is : inside ≡ part ++ (34 ∷ rest) = ap tail (sym opens ∙ read.here) ∙ quote_last part rest in
    let one = one_span is_of_value v part e (34 ∷ rest) split.each read.each split.ends refl (sym split.whole ∙ is) in
    none rest one.1
