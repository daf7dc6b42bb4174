-- Fronts of what is told.
use Rattle.std.proofs.Common.{◌≡◌, ℕ, ◌+◌, ◌<◌, List, [], ◌∷◌, ◌++◌, length, get_or, map, take, drop, refl, sym, ap, ◌∙◌, subst, append-nil, append_assoc}
use Rattle.std.proofs.lemmas.Grind.{flat_map-append}
use Rattle.std.proofs.lemmas.List.{drop_more, map-append, take-append-drop, take_more}
use Rattle.std.specs.List.{flat_map}
use Rattle.nextest_config_resolution_sources.specs.declared.source.ConfigSource.{ConfigSource}
use Rattle.nextest_config_resolution_warnings.specs.Warn.{HasWarned, Keeps, Warns, WarnsPrefix}
use Rattle.nextest_config_resolution_warnings.specs.declared.config_warning.ConfigWarning.{ConfigWarning}

-- a warning and the source of its file
abbrev pub Told : Type 0
Told = ConfigSource × ConfigWarning

-- those up to an index were told, and the next wasn't
pub front_so_far : {W A : Type 0} (has_warned : HasWarned W) (old before new : W) (warning : A → Told) (all : List A) (index : ℕ)
    → Warns has_warned old before (map warning (take index all)) → Keeps has_warned before new → WarnsPrefix has_warned old new (map warning all)
front_so_far has_warned old before new warning all index told kept = (
  map warning (take index all),
  map warning (drop index all),
  ap (λ l. map warning l) (sym (take-append-drop index all)) ∙ map-append warning (take index all) (drop index all),
  λ earlier had. kept (earlier ++ map warning (take index all)) (told earlier had),
)

-- a front of the first is one of both
front_of_first : {W : Type 0} (has_warned : HasWarned W) (old new : W) (first second : List Told)
    → WarnsPrefix has_warned old new first → WarnsPrefix has_warned old new (first ++ second)
front_of_first has_warned old new first second (front, rest, parted, told) =
    (front, rest ++ second, ap (λ (l : List Told). l ++ second) parted ∙ append_assoc front rest second, told)

-- all of the first, and then all of the second
all_behind : {W : Type 0} (has_warned : HasWarned W) (old between new : W) (first second : List Told)
    → Warns has_warned old between first → Warns has_warned between new second → Warns has_warned old new (first ++ second)
all_behind has_warned old between new first second all more = λ earlier had.
    subst (λ (l : List Told). has_warned new l) (append_assoc earlier first second) (more (earlier ++ first) (all earlier had))

-- all of the first, and then a front of the second
front_behind : {W : Type 0} (has_warned : HasWarned W) (old between new : W) (first second : List Told)
    → Warns has_warned old between first → WarnsPrefix has_warned between new second → WarnsPrefix has_warned old new (first ++ second)
front_behind has_warned old between new first second all (front, rest, parted, told) = (
  first ++ front,
  rest,
  ap (λ (l : List Told). first ++ l) parted ∙ sym (append_assoc first front rest),
  all_behind has_warned old between new first front all told,
)

-- what is told of each up to an index, and of the next
pub each_so_far : {W A : Type 0} (has_warned : HasWarned W) (old between new : W) (warnings : A → List Told) (all : List A) (index : ℕ) (it : A) → index < length all
    → it ≡ get_or all index it → Warns has_warned old between (flat_map warnings (take index all)) → Warns has_warned between new (warnings it)
    → Warns has_warned old new (flat_map warnings (take (index + 1) all))
each_so_far has_warned old between new warnings all index it within is told more =
    subst (Warns has_warned old new)
    (ap (λ (last : List Told). flat_map warnings (take index all) ++ last) (sym (append-nil (warnings it)))
    ∙ sym (flat_map-append warnings (take index all) (it ∷ []))
    ∙ ap (λ (last : _). flat_map warnings (take index all ++ last ∷ [])) is
    ∙ ap (flat_map warnings) (sym (take_more all index it within)))
    (all_behind has_warned old between new (flat_map warnings (take index all)) (warnings it) told more)

-- and of the next a front
pub each_front : {W A : Type 0} (has_warned : HasWarned W) (old between new : W) (warnings : A → List Told) (all : List A) (index : ℕ) (it : A) → index < length all
    → it ≡ get_or all index it → Warns has_warned old between (flat_map warnings (take index all)) → WarnsPrefix has_warned between new (warnings it)
    → WarnsPrefix has_warned old new (flat_map warnings all)
each_front has_warned old between new warnings all index it within is told more =
    let rest = drop (index + 1) all in
    subst (WarnsPrefix has_warned old new)
    (sym (flat_map-append warnings (take index all) (it ∷ rest))
    ∙ ap (flat_map warnings) (ap (λ (first : _). take index all ++ first ∷ rest) is ∙ ap (λ (them : List _). take index all ++ them) (sym (drop_more all index it within)) ∙ take-append-drop index all))
    (front_behind has_warned old between new (flat_map warnings (take index all)) (warnings it ++ flat_map warnings rest) told
    (front_of_first has_warned between new (warnings it) (flat_map warnings rest) more))

-- none of these
pub front_none : {W : Type 0} (has_warned : HasWarned W) (it : W) (all : List Told) → WarnsPrefix has_warned it it all
front_none has_warned it all = ([], all, refl, λ earlier had. subst (has_warned it) (sym (append-nil earlier)) had)
