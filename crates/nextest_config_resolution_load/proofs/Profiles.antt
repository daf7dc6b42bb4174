-- The profiles of a merged tree, one after another.
use Rattle.std.proofs.Common.{◌≡◌, ℕ, List, [], ◌∷◌, ◌++◌, map, codes, Ok, Err, refl, sym, ap, ◌∙◌, subst, append_assoc, nat_cmp, Less, String, Global, string_bytes}
use Rattle.std.proofs.lemmas.Bool.{false≢true, true≢false}
use Rattle.std.proofs.lemmas.List.{map_push}
use Rattle.std.specs.Cmp.Lexicographic.{slice_cmp}
use Rattle.std.specs.List.{AllByRecursion}
use Rattle.std.specs.List.Sorted.{IsStrictlySortedBy}
use Rattle.std.specs.Result.{is_ok}
use Rattle.std.specs.Map.{keys_of}
use Rattle.std.specs.String.{string_cmp}
use Rattle.toml.specs.View.{members_view, view}
use Rattle.toml.specs.declared.value.Value.{Value}
use Rattle.toml.specs.Data.{Data, Members, no_members, member}
use Rattle.nextest_config_elements_toml.specs.Reading.{Path, Reading, under}
use Rattle.nextest_config_elements_toml.specs.declared.value_error.ValueError.{ValueError}
use Rattle.nextest_config_elements_toml.specs.declared.value_error.ValueError.TheVariants as value_error
use Rattle.nextest_config_resolution_load.specs.Load.{named_of}
use Rattle.nextest_config_resolution_load.specs.Reading.{GivesSeen, profile_at}
use Rattle.nextest_config_resolution_load.specs.declared.loaded_config.NamedProfile.{NamedProfile}
use Rattle.nextest_config_resolution_tree.specs.Tree.{keys}
use Rattle.nextest_config_resolution_keys.specs.File.{Named, profiles_in}
use Rattle.nextest_config_resolution_keys.specs.Profile.{profile_of}
use Rattle.nextest_config_resolution_keys.specs.declared.profile_config.ProfileConfig.{ProfileConfig}

-- profiles behind others
abbrev pub after : List Named → Reading (List Named) → Reading (List Named)
after done (Ok more) = Ok (done ++ more)
after done (Err path) = Err path

none_before : (reading : Reading (List Named)) → reading ≡ after [] reading
none_before (Ok more) = refl
none_before (Err path) = refl

-- one profile is read
abbrev named_or : Named → Reading Named → Named
named_or otherwise (Ok it) = it
named_or otherwise (Err path) = otherwise

abbrev path_or : Path → Reading Named → Path
path_or otherwise (Ok it) = otherwise
path_or otherwise (Err path) = path

-- a member's profile, by what is read of it and of those behind it
abbrev joined : List ℕ → Reading ProfileConfig → Reading (List Named) → Reading (List Named)
joined name (Ok config) (Ok more) = Ok ((name, config) ∷ more)
joined name (Ok config) (Err path) = Err path
joined name (Err path) more = Err (name ∷ path)

joined_is : (name : List ℕ) (given : Data) (more : Members) → profiles_in (member name given more) ≡ joined name (profile_of given) (profiles_in more)
joined_is name given more = by_parts (profile_of given) (profiles_in more) refl refl where
  by_parts : (first : Reading ProfileConfig) (second : Reading (List Named)) → profile_of given ≡ first → profiles_in more ≡ second
      → profiles_in (member name given more) ≡ joined name first second
  by_parts (Ok config) (Ok others) e f = rw (e, f) refl
  by_parts (Ok config) (Err path) e f = rw (e, f) refl
  by_parts (Err path) second e f = rw e refl

one_more : (done : List Named) (name : List ℕ) (given : Data) (more : Reading (List Named)) (it : Named) → profile_at name given ≡ Ok it
    → after done (joined name (profile_of given) more) ≡ after (done ++ it ∷ []) more
one_more done name given more it e = by_parts (profile_of given) more refl e where
  by_parts : (first : Reading ProfileConfig) (second : Reading (List Named)) → profile_of given ≡ first → profile_at name given ≡ Ok it
      → after done (joined name first second) ≡ after (done ++ it ∷ []) second
  by_parts (Ok config) (Ok others) f e =
      let is : profile_at name given ≡ Ok (name, config) = rw f refl in
      let same : (name, config) ≡ it = ap (named_or it) (sym is ∙ e) in
      ap (λ first. Ok (done ++ first ∷ others)) same ∙ ap Ok (sym (append_assoc done (it ∷ []) others))
  by_parts (Ok config) (Err path) f e = refl
  by_parts (Err path) second f e =
      let is : profile_at name given ≡ Err (codes "profile" ∷ name ∷ path) = rw f refl in
      absurd (false≢true (ap is_ok (sym is ∙ e)))

one_refused : (done : List Named) (name : List ℕ) (given : Data) (more : Reading (List Named)) (path : Path) → profile_at name given ≡ Err path
    → under (codes "profile") (after done (joined name (profile_of given) more)) ≡ Err path
one_refused done name given more path e = by_parts (profile_of given) refl e where
  by_parts : (first : Reading ProfileConfig) → profile_of given ≡ first → profile_at name given ≡ Err path
      → under (codes "profile") (after done (joined name first more)) ≡ Err path
  by_parts (Ok config) f e =
      let is : profile_at name given ≡ Ok (name, config) = rw f refl in
      absurd (true≢false (ap is_ok (sym is ∙ e)))
  by_parts (Err inner) f e =
      let is : profile_at name given ≡ Err (codes "profile" ∷ name ∷ inner) = rw f refl in
      ap (λ keys. Err keys) (ap (path_or path) (sym is ∙ e))

-- one more member
pub read_more : (done : List Named) (name : List ℕ) (given : Data) (more : Members) (it : Named) → profile_at name given ≡ Ok it
    → after done (profiles_in (member name given more)) ≡ after (done ++ it ∷ []) (profiles_in more)
read_more done name given more it e = ap (after done) (joined_is name given more) ∙ one_more done name given (profiles_in more) it e

-- as a loop comes to it
pub found_more : (all : Members) (found added : List NamedProfile) (told : List ℕ) (one : NamedProfile) (key : String Global) (given : Value) (entries more : List (String Global × Value))
    → entries ≡ (key, given) ∷ more → told ≡ string_bytes key → added ≡ found ++ one ∷ [] → profile_at told (view given) ≡ Ok (named_of one)
    → profiles_in all ≡ after (map named_of found) (profiles_in (members_view entries)) → profiles_in all ≡ after (map named_of added) (profiles_in (members_view more))
found_more all found added told one key given entries more here says adds is rest =
    rest
    ∙ ap (λ (left : List (String Global × Value)). after (map named_of found) (profiles_in (members_view left))) here
    ∙ read_more (map named_of found) (string_bytes key) (view given) (members_view more) (named_of one) (subst (λ (name : List ℕ). profile_at name (view given) ≡ Ok (named_of one)) says is)
    ∙ ap (λ (done : List Named). after done (profiles_in (members_view more))) (sym (map_push named_of found one) ∙ ap (map named_of) (sym adds))

-- a member is refused
pub refused_here : (all : Members) (done : List Named) (name : List ℕ) (given : Data) (more : Members) (told : ValueError) → profiles_in all ≡ after done (profiles_in (member name given more))
    → GivesSeen named_of (Err told) (profile_at name given) → GivesSeen (map named_of) (Err told) (under (codes "profile") (profiles_in all))
refused_here all done name given more (value_error.Refused bad) rest e =
    ap (under (codes "profile")) (rest ∙ ap (after done) (joined_is name given more)) ∙ one_refused done name given (profiles_in more) bad.path.keys e
refused_here all done name given more value_error.OutOfMemory rest e = tt

-- the names of what is read are the keys
abbrev named_in : Reading (List Named) → List (List ℕ) → List (List ℕ)
named_in (Ok all) otherwise = map (λ it. it.0) all
named_in (Err path) otherwise = otherwise

names_joined : (name : List ℕ) (keys : List (List ℕ)) (first : Reading ProfileConfig) (more : Reading (List Named)) → named_in more keys ≡ keys
    → named_in (joined name first more) (name ∷ keys) ≡ name ∷ keys
names_joined name keys (Ok config) (Ok others) e = ap (λ names. name ∷ names) e
names_joined name keys (Ok config) (Err path) e = refl
names_joined name keys (Err path) more e = refl

names_in : (members : Members) → named_in (profiles_in members) (keys members) ≡ keys members
names_in no_members = refl
names_in (member name given more) =
    ap (λ reading. named_in reading (name ∷ keys more)) (joined_is name given more) ∙ names_joined name (keys more) (profile_of given) (profiles_in more) (names_in more)

pub names_read : (members : Members) (all : List Named) → profiles_in members ≡ Ok all → map (λ it. it.0) all ≡ keys members
names_read members all e = sym (ap (λ reading. named_in reading (keys members)) e) ∙ names_in members

-- the keys of a table rise
before_all : (key : String Global) (pairs : List (String Global × Value)) → AllByRecursion (λ other. string_cmp key other ≡ Less) (keys_of pairs)
    → AllByRecursion (λ other. slice_cmp nat_cmp (string_bytes key) other ≡ Less) (keys (members_view pairs))
before_all key [] before = tt
before_all key (pair ∷ pairs) before = (before.0, before_all key pairs before.1)

keys_rise : (pairs : List (String Global × Value)) → IsStrictlySortedBy string_cmp (keys_of pairs) → IsStrictlySortedBy (slice_cmp nat_cmp) (keys (members_view pairs))
unfolding IsStrictlySortedBy
keys_rise [] rise = tt
keys_rise (pair ∷ pairs) rise = (before_all pair.0 pairs rise.0, keys_rise pairs rise.1)

-- so do the names of the profiles in it
pub names_rise : (pairs : List (String Global × Value)) (all : List Named) → IsStrictlySortedBy string_cmp (keys_of pairs) → profiles_in (members_view pairs) ≡ Ok all
    → IsStrictlySortedBy (slice_cmp nat_cmp) (map (λ it. it.0) all)
names_rise pairs all rise e = subst (IsStrictlySortedBy (slice_cmp nat_cmp)) (sym (names_read (members_view pairs) all e)) (keys_rise pairs rise)
