-- Filters, as they are asked of a binary.
use Rattle.std.proofs.Common.{◌≡◌, ◌<◌, ◌≤◌, ◌+◌, ℕ, Bool, true, false, List, [], ◌∷◌, ◌++◌, length, get_or, take, map, slice_set, refl, ap, sym, ◌∙◌, subst}
use Rattle.std.specs.List.{All}
use Rattle.std.proofs.lemmas.List.{map-append, set-get_or, take_all, take_more}
use Rattle.std.proofs.lemmas.List.Elements.{All-cons, All-get_or, All-head, All-more, All-nil, All-tail}
use denote.Ref.{Bor}
use Rattle.nextest_filtering_filters.specs.Asking.{Asking}
use Rattle.nextest_filtering_filters.specs.Filter.{Compiled, filter_of}
use Rattle.nextest_filtering_filters.specs.Formula.{Formula}
use Rattle.nextest_filtering_filters.specs.Meaning.{CanBeOn, IsOn, Tells}
use Rattle.nextest_filtering_filters.specs.Query as query
use Rattle.nextest_filtering_filters.specs.declared.leaf.FiltersetLeaf.{FiltersetLeaf}
use Rattle.nextest_filtering_ast.specs.Tree.{Matcher}
use Rattle.test_runner_core_workspace.specs.declared.record.Binary.{Binary}
use Rattle.test_runner_core_listing.specs.Answers.{Answers, AnswerAs, AnswerOn, CanHold, HoldsOn, asking_of, lent_compiled, query_of, seen_test}

-- ---- they are made one by one

-- one more of them is
pub one_asked : (default : Compiled) (binary : query.Binary) (filters : List (Bor Compiled)) (i : ℕ) (filter : Bor Compiled) (it : Asking) (before after : List Asking)
    → i < length filters → filter ≡ get_or filters i filter → it.filter ≡ filter.now → it.default ≡ default → it.binary ≡ binary
    → before ≡ map (asking_of default binary) (lent_compiled (take i filters)) → after ≡ before ++ it ∷ []
    → after ≡ map (asking_of default binary) (lent_compiled (take (i + 1) filters))
one_asked default binary filters i filter it before after within is of_filter of_default of_binary so_far adds =
    let ask : Compiled → Asking = asking_of default binary in
    let front = take i filters in
    let one : it ≡ asking_of default binary filter.now = λ j. record { filter = of_filter j; default = of_default j; binary = of_binary j } in
    adds
    ∙ ap (λ (some : List Asking). some ++ it ∷ []) so_far
    ∙ ap (λ (last : Asking). map ask (lent_compiled front) ++ last ∷ []) one
    ∙ sym (map-append ask (lent_compiled front) (filter.now ∷ []))
    ∙ ap (λ (some : List Compiled). map ask some) (sym (map-append (λ (lends : Bor Compiled). lends.now) front (filter ∷ [])))
    ∙ ap (λ (last : Bor Compiled). map ask (lent_compiled (front ++ last ∷ []))) is
    ∙ ap (λ (some : List (Bor Compiled)). map ask (lent_compiled some)) (sym (take_more filters i filter within))

-- and these are all
pub all_asked : (default : Compiled) (binary : query.Binary) (filters : List (Bor Compiled)) (i : ℕ) (asked : List Asking) → length filters ≤ i → asked ≡ map (asking_of default binary) (lent_compiled (take i filters))
    → asked ≡ map (asking_of default binary) (lent_compiled filters)
all_asked default binary filters i asked over so_far = so_far ∙ ap (λ (some : List (Bor Compiled)). map (asking_of default binary) (lent_compiled some)) (take_all i filters over)

-- ---- they answer as the filters do

all_across : {X A B : Type 0} (f : X → A) (g : X → B) (P : A → Type 0) (Q : B → Type 0) → ((x : X) → P (f x) → Q (g x)) → (xs : List X) → All P (map f xs) → All Q (map g xs)
all_across f g P Q there [] all = All-nil Q
all_across f g P Q there (x ∷ xs) all = All-cons Q (g x) (map g xs) (there x (All-head P (f x) (map f xs) all)) (all_across f g P Q there xs (All-tail P (f x) (map f xs) all))

tells_across : {X A B : Type 0} (f : X → A) (g : X → B) (P : A → Type 0) (Q : B → Type 0) → ((x : X) → P (f x) → Q (g x)) → ((x : X) → Q (g x) → P (f x)) → (xs : List X) (told : Bool)
    → Tells (All P (map f xs)) told → Tells (All Q (map g xs)) told
tells_across f g P Q there back xs told tells = ((λ e. all_across f g P Q there xs (tells.0 e)), (λ all. tells.1 (all_across g f Q P back xs all)))

pub answer_on : (filters : List Compiled) (default : Compiled) (Member : query.Test → Matcher → Type 0) (chosen : Answers) (binary : Binary) (asked : List Asking)
    → asked ≡ map (asking_of default (query_of binary)) filters → AnswerAs filters default Member chosen → AnswerOn asked binary Member chosen
answer_on filters default Member chosen binary asked is are =
    let ask : Compiled → Asking = asking_of default (query_of binary) in
    let made : AnswerOn (map (asking_of default (query_of binary)) filters) binary Member chosen = record {
      lists = tells_across filter_of ask (λ (filter : Formula FiltersetLeaf). CanBeOn filter (filter_of default) (query_of binary) true) CanHold (λ x so. so) (λ x so. so) filters (chosen.lists binary) (are.lists binary);
      selects = λ name.
          let test = seen_test binary name in
          tells_across filter_of ask (λ (filter : Formula FiltersetLeaf). IsOn filter (filter_of default) test (Member test) true) (HoldsOn name Member) (λ x so. so) (λ x so. so) filters (chosen.selects binary name)
          (are.selects binary name);
    } in
    subst (λ (it : List Asking). AnswerOn it binary Member chosen) (sym is) made

-- and as they are now
pub answer_still : (Member : query.Test → Matcher → Type 0) (now initial : List Asking) (binary : Binary) (chosen : Answers) → now ≡ initial → AnswerOn initial binary Member chosen → AnswerOn now binary Member chosen
answer_still Member now initial binary chosen same are = subst (λ (it : List Asking). AnswerOn it binary Member chosen) (sym same) are

-- ---- they are asked one after another

-- one that stayed as it was stands where it stood
pub put_back : {X : Type 0} (xs initial : List X) (i : ℕ) (d new : X) → new ≡ get_or xs i d → xs ≡ initial → slice_set xs i new ≡ initial
put_back {X} xs initial i d new same stays = ap (λ (x : X). slice_set xs i x) same ∙ set-get_or xs i d ∙ stays

-- one more is so
pub one_more : {X : Type 0} (P : X → Type 0) (xs initial : List X) (i : ℕ) (d : X) → i < length xs → xs ≡ initial → All P (take i initial) → P (get_or xs i d) → All P (take (i + 1) initial)
one_more {X} P xs initial i d within stays all so =
    subst (λ (some : List X). All P (take (i + 1) some)) stays (All-more P xs i d within (subst (λ (some : List X). All P (take i some)) (sym stays) all) so)

-- one isn't, so not all are
pub not_all : {X : Type 0} (P : X → Type 0) (xs initial : List X) (i : ℕ) (d : X) (told : Bool) → i < length xs → xs ≡ initial → Tells (P (get_or xs i d)) told → told ≡ false → Tells (All P initial) false
not_all {X} P xs initial i d told within stays tells fails = (
  (λ e. absurd cc),
  (λ all. sym fails ∙ tells.1 (All-get_or P xs i d within (subst (λ (some : List X). All P some) (sym stays) all))),
)

-- all are
pub all_are : {X : Type 0} (P : X → Type 0) (xs : List X) (i : ℕ) → length xs ≤ i → All P (take i xs) → Tells (All P xs) true
all_are {X} P xs i over all = ((λ e. subst (λ (some : List X). All P some) (take_all i xs over) all), (λ every. refl))
