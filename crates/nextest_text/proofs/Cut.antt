-- Texts that are cut one after another from the text of all of them.
use Rattle.std.proofs.Common.{◌≡◌, ◌≤◌, ◌<◌, ◌+◌, ◌-◌, ℕ, List, ◌∷◌, ◌++◌, length, take, drop, get_or, IsUtf8, ap, sym, ◌∙◌, subst, arith, Bor}
use Rattle.std.proofs.lemmas.List.{length-append, length-drop, length-map, drop-drop, drop_more, get_or-map}
use Rattle.std.proofs.lemmas.Str.{IsUtf8-drop, IsCharBoundary-from_take, IsCharBoundary-from_rest}
use Rattle.std.proofs.Math.Seq.{take-append_seam, drop-append_seam}
use Rattle.nextest_text.specs.Parts.{part_of, IsPart, IsLeft, lent_texts}

-- a text with which what is left begins, and what is left behind it
pub record OneMore (whole : List ℕ) (start : ℕ) (text left : List ℕ) : Type 0 where
  pub inside : IsPart whole start (start + length text)
  pub same : part_of whole start (start + length text) ≡ text
  pub next : IsLeft whole (start + length text) left

pub one_more : (whole : List ℕ) (start : ℕ) (text left : List ℕ) → IsUtf8 whole → IsUtf8 text → IsLeft whole start (text ++ left) → OneMore whole start text left
one_more whole start text left all one at =
    let seam : take (length text) (drop start whole) ≡ text = ap (take (length text)) at.behind ∙ take-append_seam text left in
    let long : length text ≤ length (drop start whole) = omega (arith, ap length at.behind, length-append text left) in
    let within : start + length text ≤ length whole = omega (arith, long, length-drop start whole, at.cut.0) in
    let here = IsCharBoundary-from_take (drop start whole) (length text) (IsUtf8-drop whole start all at.cut) long (subst IsUtf8 (sym seam) one) in
    let cut = IsCharBoundary-from_rest whole start (length text) at.cut.0 here in
    let count : start + length text - start ≡ length text = omega arith in
    record {
      inside = (omega arith, at.cut, cut);
      same = ap (λ n. take n (drop start whole)) count ∙ seam;
      next = record { cut = cut; behind = sym (drop-drop (length text) start whole) ∙ ap (drop (length text)) at.behind ∙ drop-append_seam text left };
    }

-- the text at an index, and those behind it
pub text_here : (texts : List (Bor (List ℕ))) (index : ℕ) (default : Bor (List ℕ)) → index < length texts
    → drop index (lent_texts texts) ≡ (get_or texts index default).now ∷ drop (index + 1) (lent_texts texts)
text_here texts index default within =
    drop_more (lent_texts texts) index default.now (omega (arith, length-map texts (λ text. text.now)))
    ∙ ap (λ first. first ∷ drop (index + 1) (lent_texts texts)) (get_or-map (λ text. text.now) texts index default default.now within)
