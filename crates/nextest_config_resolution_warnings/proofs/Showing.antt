-- How a text prints, a character further, and how the keys of a path do.
use Rattle.std.proofs.Common.{◌≡◌, ℕ, List, [], ◌∷◌, ◌++◌, chars, sym, ap, ◌∙◌, append_assoc, append-nil}
use Rattle.std.specs.Prelude.{IsUtf8, encode_utf8}
use Rattle.std.specs.List.{flat_map}
use Rattle.std.proofs.lemmas.Str.{chars-nil, chars_past_char}
use Rattle.nextest_config_resolution_warnings.specs.Shown.{one_line_of, shown_character, shown_keys}

-- one character more
pub shown_more : (whole done rest ahead : List ℕ) (character : ℕ) → IsUtf8 rest → whole ≡ done ++ one_line_of rest → rest ≡ encode_utf8 character ++ ahead
    → whole ≡ (done ++ shown_character character) ++ one_line_of ahead
shown_more whole done rest ahead character utf8 known parted =
    known
    ∙ ap (λ (cs : List ℕ). done ++ flat_map shown_character cs) (chars_past_char rest ahead character utf8 parted)
    ∙ sym (append_assoc done (shown_character character) (one_line_of ahead))

-- none more
pub shown_none : (whole done rest : List ℕ) → whole ≡ done ++ one_line_of rest → rest ≡ [] → done ≡ whole
shown_none whole done rest known none =
    sym (append-nil done) ∙ ap (λ (cs : List ℕ). done ++ flat_map shown_character cs) (sym (ap chars none ∙ chars-nil)) ∙ sym known

-- a key behind another
abbrev pub dotted : List ℕ → List ℕ
dotted key = 46 ∷ one_line_of key

-- the keys of a path are the first, and the others each behind a dot
pub shown_keys-first : (first : List ℕ) (more : List (List ℕ)) → shown_keys (first ∷ more) ≡ one_line_of first ++ flat_map dotted more
shown_keys-first first [] = sym (append-nil (one_line_of first))
shown_keys-first first (next ∷ more) = ap (λ (text : List ℕ). one_line_of first ++ (46 ∷ text)) (shown_keys-first next more)
