-- Parts have one text.
use Rattle.std.proofs.Common.{◌≡◌, ℕ, List, [], ◌∷◌, ◌++◌, refl, sym, ap, ◌∙◌}
use Rattle.test_runner_core_report_lines.proofs.OneText.{one_done, one_shown}
use Rattle.test_runner_core_report_lines.proofs.SomeText.{some_done, some_shown}
use Rattle.test_runner_core_reporter.specs.Laws.{HaveOneText, HaveSomeText}
use Rattle.test_runner_core_reporter.specs.Parts.{Done, IsPart, Part, Said, Shown}

one_part : (part : Part) (one other : List ℕ) → IsPart part one → IsPart part other → one ≡ other
one_part (Done shows test) one other first second = one_done shows test one other first second
one_part (Shown shows test) one other first second = one_shown shows test one other first second
one_part (Said words) one other first second = first ∙ sym second

pub one_text : HaveOneText
one_text [] one other first second = first ∙ sym second
one_text (part ∷ parts) one other (head, (tail, (is, behind, whole))) (same, (rest, (is_same, behind_same, whole_same))) =
    whole ∙ ap (λ (t : List ℕ). t ++ tail) (one_part part head same is is_same)
    ∙ ap (λ (t : List ℕ). same ++ t) (one_text parts tail rest behind behind_same) ∙ sym whole_same

some_part : (part : Part) → ¬ ¬ ((text : List ℕ) × IsPart part text)
some_part (Done shows test) never = some_done shows test never
some_part (Shown shows test) never = some_shown shows test never
some_part (Said words) never = never (words, refl)

pub some_text : HaveSomeText
some_text [] never = never ([], refl)
some_text (part ∷ parts) never = some_part part (λ (first, is). some_text parts (λ (rest, are). never (first ++ rest, (first, (rest, (is, are, refl))))))
