-- What stands in front of a text stays there.
use Rattle.std.proofs.Common.{◌≡◌, ℕ, List, [], ◌∷◌, ◌++◌, length, take, refl, Result, Ok, Err, String, string_bytes, sym, subst, ap, ◌∙◌, append_assoc}
use Rattle.std.specs.Prelude.{◌/◌, ◌%◌, slice_index, OnOk, OnErr}
use Rattle.std.proofs.Math.Seq.{take-append_seam}
use Rattle.std.specs.Str.{IsUtf8}
use Rattle.std.specs.String.{string_len}
use Rattle.std.proofs.lemmas.Str.{IsUtf8-string_bytes}
use Rattle.hex.specs.Hex.{encode_with, encode_lower, lower_digits}
use Rattle.test_runner_core_report_lines.specs.Writing.{Extends, kept_by}

pub extends_then : (old middle new : List ℕ) → Extends old middle → Extends middle new → Extends old new
extends_then old middle new first second =
    record { more = first.more ++ second.more; grown = second.grown ∙ ap (λ (t : List ℕ). t ++ second.more) first.grown ∙ append_assoc old first.more second.more }

-- the prefix of so many bytes is the old text
pub front_taken : (old new : List ℕ) (length_old : ℕ) → length_old ≡ length old → Extends old new → take length_old new ≡ old
front_taken old new length_old count kept =
    ap (λ (n : ℕ). take n new) count ∙ ap (λ (t : List ℕ). take (length old) t) kept.grown ∙ take-append_seam old kept.more

-- a text has as many bytes as it says
pub length_known : {Z : Type 0} (s : String Z) → string_len s ≡ length (string_bytes s)
length_known s = s.bytes.ok.0

-- the old text is UTF-8
pub front_utf8 : {Z : Type 0} (s : String Z) (new : List ℕ) (length_old : ℕ) → length_old ≡ length (string_bytes s) → Extends (string_bytes s) new → IsUtf8 (take length_old new)
front_utf8 s new length_old count kept = subst IsUtf8 (sym (front_taken (string_bytes s) new length_old count kept)) (IsUtf8-string_bytes s)

-- the hex of two parts
pub hex_append : (table front rest : List ℕ) → encode_with table (front ++ rest) ≡ encode_with table front ++ encode_with table rest
unfolding encode_with
hex_append table [] rest = refl
hex_append table (byte ∷ front) rest =
    ap (λ (t : List ℕ). slice_index table (byte / 16) ∷ slice_index table (byte % 16) ∷ t) (hex_append table front rest)

-- one more part of the bytes is written
pub hex_more : (rest front behind whole old new : List ℕ) → rest ≡ front ++ behind → new ≡ old ++ encode_lower front → old ++ encode_lower rest ≡ whole
    → new ++ encode_lower behind ≡ whole
hex_more rest front behind whole old new split grown so_far =
    ap (λ (t : List ℕ). t ++ encode_lower behind) grown
    ∙ append_assoc old (encode_lower front) (encode_lower behind)
    ∙ ap (λ (t : List ℕ). old ++ t) (sym (ap encode_lower split ∙ hex_append lower_digits front behind))
    ∙ so_far

-- where adding answered this, all that it added stands, or the text is as it was
pub all_stands : {T E : Type 0} (added result : Result T E) (IsNew : List ℕ → Type 0) (count : ℕ) (middle new : List ℕ) → result ≡ added → new ≡ kept_by added count middle
    → OnOk added (IsNew middle) → OnOk result (IsNew new)
all_stands (Ok value) result IsNew count middle new same kept is = subst (λ (r : Result _ _). OnOk r (IsNew new)) (sym same) (subst IsNew (sym kept) is)
all_stands (Err fault) result IsNew count middle new same kept is = subst (λ (r : Result _ _). OnOk r (IsNew new)) (sym same) tt

pub nothing_stands : {T E : Type 0} (added result : Result T E) (count : ℕ) (old middle new : List ℕ) → result ≡ added → new ≡ kept_by added count middle
    → count ≡ length old → Extends old middle → OnErr result (new ≡ old)
nothing_stands (Ok value) result count old middle new same kept is grown = subst (λ (r : Result _ _). OnErr r (new ≡ old)) (sym same) tt
nothing_stands (Err fault) result count old middle new same kept is grown =
    subst (λ (r : Result _ _). OnErr r (new ≡ old)) (sym same) (kept ∙ front_taken old middle count is grown)
