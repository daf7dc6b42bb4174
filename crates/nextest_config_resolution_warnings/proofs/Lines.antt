-- The texts of what was told, one more.
use Rattle.std.proofs.Common.{◌≡◌, ℕ, List, [], ◌∷◌, ◌++◌, map, sym, ap, ◌∙◌}
use Rattle.std.proofs.lemmas.List.{map-append}
use Rattle.nextest_config_resolution_sources.specs.declared.source.ConfigSource.{ConfigSource}
use Rattle.nextest_config_resolution_warnings.specs.Warnings.{text_at, text_of}
use Rattle.nextest_config_resolution_warnings.specs.declared.config_warning.ConfigWarning.{ConfigWarning}

pub line_more : (before now : List (List ℕ)) (told : List (ConfigSource × ConfigWarning)) (source : ConfigSource) (warning : ConfigWarning) (path text : List ℕ)
    → before ≡ map text_of told → path ≡ source.path → text ≡ text_at path warning → now ≡ before ++ text ∷ [] → now ≡ map text_of (told ++ (source, warning) ∷ [])
line_more before now told source warning path text had stands is adds =
    adds
    ∙ ap (λ (lines : List (List ℕ)). lines ++ text ∷ []) had
    ∙ ap (λ (line : List ℕ). map text_of told ++ line ∷ []) (is ∙ ap (λ (at : List ℕ). text_at at warning) stands)
    ∙ sym (map-append text_of told ((source, warning) ∷ []))
