-- Whether a byte stands in a text, where a search tells the first place of one.
use Rattle.std.proofs.Common.{◌≡◌, ◌<◌, ℕ, Bool, false, List, length, get_or, Option, None, Some, is_some, sym, ap, ◌∙◌, inl, inr, arith}
use Rattle.std.proofs.lemmas.Bool.{cases_Bool}
use Rattle.std.proofs.lemmas.List.{get_or_default}
use Rattle.std.proofs.lemmas.List.Folds.{list_any-from_Any, list_any_none}
use Rattle.std.specs.List.{list_any}
use Rattle.memchr.specs.Find.{IsFirstByte}

pub found_any : (test : ℕ → Bool) (text : List ℕ) (found : Option ℕ) → IsFirstByte test text found → is_some found ≡ list_any test text
found_any test text None nowhere = sym (list_any_none test text each)
  where
    each : (k d : ℕ) → k < length text → test (get_or text k d) ≡ false
    each k d inside =
        elim (cases_Bool (test (get_or text k d))) [
          | inr apart ↦ apart
          | inl it ↦ absurd (nowhere k (omega arith) inside (ap test (get_or_default text k 0 d inside) ∙ it))
        ]
found_any test text (Some k) first = sym (list_any-from_Any test text (k, get_or text k 0, first.0.high, get_or_default text k (get_or text k 0) 0 first.0.high, first.1))
