-- What is found, a step further.
use Rattle.std.proofs.Common.{◌+◌, ◌<◌, drop, get_or, length, ◌≡◌, ℕ, List, [], ◌∷◌, ◌++◌, refl, take, sym, ap, ◌∙◌, append_assoc}
use Rattle.std.proofs.lemmas.List.{map-append, take_more}
use Rattle.toml.proofs.Views.{items_view-drop}
use Rattle.toml.specs.Data.{item}
use Rattle.toml.specs.View.{items_view, view}
use Rattle.toml.specs.declared.value.Value.{Value}
use Rattle.nextest_config_elements_toml.specs.Reading.{Path}
use Rattle.nextest_config_elements_toml.specs.declared.key_path.KeyPath.{KeyPath}
use Rattle.nextest_config_resolution_warnings.specs.Steps.{path_of, paths_below, text_of}
use Rattle.nextest_config_resolution_warnings.specs.Unknown.{behind, key_path}
use Rattle.nextest_config_resolution_warnings.specs.declared.step.KeyStep.{KeyStep}

-- paths below a step are paths behind its key
one_step : (steps : List KeyStep) (step : KeyStep) (paths : List Path) → paths_below (steps ++ step ∷ []) paths ≡ paths_below steps (behind (text_of step) paths)
one_step steps step [] = refl
one_step steps step (path ∷ paths) =
    let along : path_of (steps ++ step ∷ []) ++ path ≡ path_of steps ++ (text_of step ∷ path) =
    ap (λ (way : Path). way ++ path) (map-append text_of steps (step ∷ [])) ∙ append_assoc (path_of steps) (text_of step ∷ []) path in
    ap (λ (p : Path). key_path p ∷ paths_below (steps ++ step ∷ []) paths) along
    ∙ ap (λ (ps : List KeyPath). key_path (path_of steps ++ (text_of step ∷ path)) ∷ ps) (one_step steps step paths)

-- what was found below a step stands in front of what is ahead
pub found_further : (steps : List KeyStep) (step : KeyStep) (key : List ℕ) (before now whole : List KeyPath) (here ahead : List Path)
    → text_of step ≡ key → before ++ paths_below steps (behind key here ++ ahead) ≡ whole → now ≡ before ++ paths_below (steps ++ step ∷ []) here
    → now ++ paths_below steps ahead ≡ whole
found_further steps step key before now whole here ahead same known more =
    let parted : paths_below steps (behind key here ++ ahead) ≡ paths_below steps (behind key here) ++ paths_below steps ahead =
    map-append (λ (path : Path). key_path (path_of steps ++ path)) (behind key here) ahead in
    let stepped : paths_below (steps ++ step ∷ []) here ≡ paths_below steps (behind key here) =
    one_step steps step here ∙ ap (λ (k : List ℕ). paths_below steps (behind k here)) same in
    ap (λ (l : List KeyPath). l ++ paths_below steps ahead) (more ∙ ap (λ (l : List KeyPath). before ++ l) stepped)
    ∙ append_assoc before (paths_below steps (behind key here)) (paths_below steps ahead)
    ∙ ap (λ (l : List KeyPath). before ++ l) (sym parted)
    ∙ known

-- an item of a list, and those behind it
pub item_first : (items : List Value) (at : ℕ) (value : Value) → at < length items → value ≡ get_or items at value
    → items_view (drop at items) ≡ item (view value) (items_view (drop (at + 1) items))
item_first items at value within is =
    items_view-drop items at value within ∙ ap (λ (it : Value). item (view it) (items_view (drop (at + 1) items))) (sym is)

-- the key of one step more
pub step_further : (steps : List KeyStep) (at : ℕ) (step : KeyStep) (before now : Path) (text : List ℕ) → at < length steps
    → before ≡ path_of (take at steps) → text ≡ text_of (get_or steps at step) → now ≡ before ++ text ∷ [] → now ≡ path_of (take (at + 1) steps)
step_further steps at step before now text within known is more =
    more
    ∙ ap (λ (way : Path). way ++ text ∷ []) known
    ∙ ap (λ (key : List ℕ). path_of (take at steps) ++ key ∷ []) is
    ∙ sym (map-append text_of (take at steps) (get_or steps at step ∷ []))
    ∙ ap path_of (sym (take_more steps at step within))
