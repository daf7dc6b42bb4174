-- The rules of one more profile of a chain.
use Rattle.std.proofs.Common.{◌≡◌, ℕ, ◌+◌, ◌<◌, List, [], ◌∷◌, ◌++◌, length, get_or, take, sym, ap, ◌∙◌, append-nil}
use Rattle.std.proofs.lemmas.Grind.{flat_map-append}
use Rattle.std.proofs.lemmas.List.{map_push, take_more}
use Rattle.nextest_config_resolution_inheritance.specs.Inheritance.{Name, name_at, names_at}
use Rattle.nextest_config_resolution_load.specs.declared.loaded_config.NamedProfile.{NamedProfile}
use Rattle.nextest_config_resolution_profiles.proofs.Names.{all_of}
use Rattle.nextest_config_resolution_settings.specs.Rules.{rules_of, rules_of_profile}

-- the names at one more place
names_more : (profiles : List NamedProfile) (places : List ℕ) (i d : ℕ) → i < length places
    → names_at (all_of profiles) (take (i + 1) places) ≡ names_at (all_of profiles) (take i places) ++ name_at (all_of profiles) (get_or places i d) ∷ []
names_more profiles places i d within = ap (names_at (all_of profiles)) (take_more places i d within) ∙ map_push (name_at (all_of profiles)) (take i places) (get_or places i d)

-- the rules of one more name
rules_more : {X : Type 0} (written : X → Name) (all : List X) (names : List Name) (name : Name) → rules_of written all (names ++ name ∷ []) ≡ rules_of written all names ++ rules_of_profile written all name
rules_more written all names name =
    flat_map-append (rules_of_profile written all) names (name ∷ [])
    ∙ ap (λ (last : List _). rules_of written all names ++ last) (append-nil (rules_of_profile written all name))

pub ruled_more : {X : Type 0} (written : X → Name) (profiles : List NamedProfile) (places : List ℕ) (i d : ℕ) (all before after : List X) (name : Name) → i < length places
    → name ≡ name_at (all_of profiles) (get_or places i d) → before ≡ rules_of written all (names_at (all_of profiles) (take i places)) → after ≡ before ++ rules_of_profile written all name
    → after ≡ rules_of written all (names_at (all_of profiles) (take (i + 1) places))
ruled_more written profiles places i d all before after name within named so_far added =
    let names = names_at (all_of profiles) (take i places) in
    added ∙ ap (λ (front : List _). front ++ rules_of_profile written all name) so_far
    ∙ ap (λ (n : Name). rules_of written all names ++ rules_of_profile written all n) named
    ∙ sym (ap (rules_of written all) (names_more profiles places i d within) ∙ rules_more written all names (name_at (all_of profiles) (get_or places i d)))
