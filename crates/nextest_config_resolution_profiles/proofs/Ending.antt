-- A chain whose last profile sets a setting.
use Rattle.std.proofs.Common.{◌≡◌, ◌<◌, List, [], ◌∷◌, ◌++◌, Option, true, false, is_some, get_or, length, sym, ap, ◌∙◌, arith}
use Rattle.std.proofs.Math.Seq.{get_or-append_seam}
use Rattle.std.proofs.lemmas.List.{length-append}
use Rattle.std.proofs.lemmas.Bool.{false≢true}
use Rattle.nextest_config_resolution_settings.specs.Nearest.{SetsNone}

pub set_at_end : {L V : Type 0} (set_by : L → Option V) (front : List L) (last : L) → is_some (set_by last) ≡ true → SetsNone set_by (front ++ last ∷ []) → ⊥
set_at_end set_by front last sets unset =
    let within : length front < length (front ++ last ∷ []) = omega (arith, length-append front (last ∷ [])) in
    let none : is_some (set_by (get_or (front ++ last ∷ []) (length front) last)) ≡ false = ap is_some (unset (length front) last within) in
    false≢true (sym none ∙ ap (λ layer. is_some (set_by layer)) (get_or-append_seam front last [] last) ∙ sets)
