-- How the names of features are read, one by one.
use Rattle.std.proofs.Common.{◌≡◌, ℕ, ◌+◌, ◌<◌, length, get_or, take, Bool, true, false, if◌then◌else◌, List, [], ◌∷◌, ◌++◌, None, Ok, Err, String, Global, string_bytes, refl, sym, ap, ◌∙◌}
use Rattle.std.proofs.lemmas.List.{append_assoc, take_more}
use Rattle.std.proofs.lemmas.List.Elements.{filter-append}
use Rattle.std.specs.Prelude.{is_none}
use Rattle.toml.specs.Data.{Data, Members, member, boolean, as_bool}
use Rattle.toml.specs.View.{members_view, view}
use Rattle.toml.specs.declared.value.Value.{Value}
use Rattle.nextest_config_elements_toml.specs.Reading.{Reading}
use Rattle.nextest_config_elements_versions.specs.Demand.{keys_in}
use Rattle.nextest_config_elements_versions.specs.Features.{feature_of, unknown_in}

-- names, and then those that are read
abbrev pub joined : List (List ℕ) → Reading (List (List ℕ)) → Reading (List (List ℕ))
joined names (Ok more) = Ok (names ++ more)
joined names (Err path) = Err path

pub joined_none : (read : Reading (List (List ℕ))) → read ≡ joined [] read
joined_none (Ok more) = refl
joined_none (Err path) = refl

name_first : (name : List ℕ) (names : List (List ℕ)) (read : Reading (List (List ℕ)))
    → joined names (joined (name ∷ []) read) ≡ joined (names ++ name ∷ []) read
name_first name names (Ok more) = ap Ok (sym (append_assoc names (name ∷ []) more))
name_first name names (Err path) = refl

-- one more key of a table
true_first : (name : List ℕ) (read : Reading (List (List ℕ))) (more : Members) → keys_in more ≡ read
    → keys_in (member name (boolean true) more) ≡ joined (name ∷ []) read
true_first name (Ok names) more is = rw is refl
true_first name (Err path) more is = rw is refl

false_first : (name : List ℕ) (read : Reading (List (List ℕ))) (more : Members) → keys_in more ≡ read
    → keys_in (member name (boolean false) more) ≡ read
false_first name (Ok names) more is = rw is refl
false_first name (Err path) more is = rw is refl

pub keys_more : (asked : Bool) (name : List ℕ) (names : List (List ℕ)) (more : Members)
    → joined names (keys_in (member name (boolean asked) more)) ≡ joined (if asked then names ++ name ∷ [] else names) (keys_in more)
keys_more true name names more = ap (joined names) (true_first name (keys_in more) more refl) ∙ name_first name names (keys_in more)
keys_more false name names more = ap (joined names) (false_first name (keys_in more) more refl)

pub key_more : (names : List (List ℕ)) (told : List ℕ) (added : List (List ℕ)) (asked : Bool) (key : String Global) (given : Value) (ahead more : List (String Global × Value))
    → ahead ≡ (key, given) ∷ more → view given ≡ boolean asked → told ≡ string_bytes key → added ≡ (if asked then names ++ told ∷ [] else names)
    → joined names (keys_in (members_view ahead)) ≡ joined added (keys_in (members_view more))
key_more names told added asked key given ahead more here is says adds =
    rw (here, is, adds, says) (keys_more asked (string_bytes key) names (members_view more))

pub keys_refused : (name : List ℕ) (given : Data) (names : List (List ℕ)) (more : Members) → as_bool given ≡ None
    → joined names (keys_in (member name given more)) ≡ Err (name ∷ [])
keys_refused name given names more none = rw none refl

-- one more name, which may be no feature's
pub unknown_more : (names : List (List ℕ)) (place : ℕ) (name told : List ℕ) (before after : List (List ℕ)) → place < length names
    → name ≡ get_or names place name → told ≡ name → before ≡ unknown_in (take place names) → after ≡ before ++ unknown_in (told ∷ [])
    → after ≡ unknown_in (take (place + 1) names)
unknown_more names place name told before after within is says known adds =
    let whole : take (place + 1) names ≡ take place names ++ told ∷ [] =
    take_more names place name within ∙ ap (λ (it : List ℕ). take place names ++ it ∷ []) (sym is ∙ sym says) in
    adds ∙ ap (λ (it : List (List ℕ)). it ++ unknown_in (told ∷ [])) known
    ∙ sym (ap unknown_in whole ∙ filter-append (λ (it : List ℕ). is_none (feature_of it)) (take place names) (told ∷ []))
