-- How a path prints, key by key.
use Rattle.std.proofs.Common.{◌≡◌, ℕ, List, [], ◌∷◌, ◌++◌, sym, ap}
use Rattle.std.proofs.lemmas.List.{append-nil}
use Rattle.std.specs.List.{flat_map}
use Rattle.nextest_config_elements_toml.specs.Paths.{dotted_text}

-- a further key, behind its dot
abbrev pub dotted : List ℕ → List ℕ
dotted key = 46 ∷ key

pub dotted_text-first : (first : List ℕ) (more : List (List ℕ)) → dotted_text (first ∷ more) ≡ first ++ flat_map dotted more
dotted_text-first first [] = sym (append-nil first)
dotted_text-first first (next ∷ more) = ap (λ (text : List ℕ). first ++ (46 ∷ text)) (dotted_text-first next more)
