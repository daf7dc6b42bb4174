-- How a list of texts is read, one by one.
use Rattle.std.proofs.Common.{◌≡◌, ℕ, ◌+◌, List, [], ◌∷◌, ◌++◌, None, Ok, Err, decimal, refl, sym, ap, ◌∙◌}
use Rattle.std.proofs.lemmas.List.{append_assoc}
use Rattle.toml.specs.Data.{Data, Items, item, string, as_str}
use Rattle.nextest_config_elements_toml.specs.Reading.{Reading, texts_in}

-- texts, and then those that are read
abbrev pub joined : List (List ℕ) → Reading (List (List ℕ)) → Reading (List (List ℕ))
joined texts (Ok more) = Ok (texts ++ more)
joined texts (Err path) = Err path

pub joined_none : (read : Reading (List (List ℕ))) → read ≡ joined [] read
joined_none (Ok more) = refl
joined_none (Err path) = refl

text_first : (text : List ℕ) (texts : List (List ℕ)) (read : Reading (List (List ℕ)))
    → joined texts (joined (text ∷ []) read) ≡ joined (texts ++ text ∷ []) read
text_first text texts (Ok more) = ap Ok (sym (append_assoc texts (text ∷ []) more))
text_first text texts (Err path) = refl

-- one more item of a list
string_first : (place : ℕ) (text : List ℕ) (read : Reading (List (List ℕ))) (more : Items) → texts_in (place + 1) more ≡ read
    → texts_in place (item (string text) more) ≡ joined (text ∷ []) read
string_first place text (Ok texts) more is = rw is refl
string_first place text (Err path) more is = rw is refl

pub texts_more : (place : ℕ) (text : List ℕ) (texts : List (List ℕ)) (more : Items)
    → joined texts (texts_in place (item (string text) more)) ≡ joined (texts ++ text ∷ []) (texts_in (place + 1) more)
texts_more place text texts more =
    ap (joined texts) (string_first place text (texts_in (place + 1) more) more refl) ∙ text_first text texts (texts_in (place + 1) more)

pub texts_refused : (place : ℕ) (given : Data) (texts : List (List ℕ)) (more : Items) → as_str given ≡ None
    → joined texts (texts_in place (item given more)) ≡ Err (decimal place ∷ [])
texts_refused place given texts more none = rw none refl
