-- The name of a predicate tells which one it is.
use Rattle.std.specs.Prelude.{◌≡◌, refl, ℕ, Bool, true, false, List, [], ◌∷◌, ◌++◌, codes, bytes_eq, if◌then◌else◌}
use Rattle.std.specs.List.{AllByRecursion}
use Rattle.std.proofs.Common.{arith, rules}
use Rattle.std.proofs.Math.Path.{ap, sym, ◌∙◌}
use Rattle.nextest_filtering_ast.specs.declared.leaf.BuildPlatform.{BuildPlatform}
use Rattle.nextest_filtering_ast.specs.Tree.{Subject, package_name, dependencies, dependents, kind, binary_name, binary_id, test_name, group, Matcher, Leaf, matching, built_for, default_filter, everything, nothing}
use Rattle.nextest_filtering_ast.specs.Grammar.{leaf_word}
use Rattle.nextest_filtering_arguments.specs.Matchers.{subject_of}
use Rattle.nextest_filtering_arguments.specs.declared.subject.Subject.TheVariants as subject
use Rattle.nextest_filtering_arguments.proofs.Fronts.{same_behind, same_rest, same_first}
use Rattle.nextest_filtering_syntax.specs.declared.name.Name.{Name}
use Rattle.nextest_filtering_syntax.specs.declared.name.Name.TheVariants as name
use Rattle.nextest_filtering_syntax.specs.Names.{is_name_byte, goes_on, name_word, ReadsName}

-- where a name goes on, none ends by another reading
pub longer_name : (word text rest : List ℕ) {b : Bool} → text ≡ word ++ rest → b ≡ goes_on rest → b ≡ true → (x : List ℕ) → text ≡ word ++ x → goes_on x ≡ false → ⊥
longer_name word text rest e goes there x f ends = Prim.grind (arith, ap goes_on (same_behind word text rest x e f))

-- each byte may stand in a name
abbrev IsName : List ℕ → Type 0
IsName = AllByRecursion (λ byte. is_name_byte byte ≡ true)

pub true_is_not_false : true ≡ false → ⊥
true_is_not_false e = Prim.search rules

-- a name and what follows it are told apart in one way
one_name : (a b x y : List ℕ) → IsName a → IsName b → goes_on x ≡ false → goes_on y ≡ false → a ++ x ≡ b ++ y → (a ≡ b) × (x ≡ y)
one_name [] [] x y na nb gx gy e = (refl, e)
one_name [] (d ∷ b) x y na nb gx gy e = absurd (true_is_not_false (sym nb.0 ∙ (sym (ap goes_on e) ∙ gx)))
one_name (c ∷ a) [] x y na nb gx gy e = absurd (true_is_not_false (sym na.0 ∙ (ap goes_on e ∙ gy)))
one_name (c ∷ a) (d ∷ b) x y na nb gx gy e =
    let rest = one_name a b x y na.1 nb.1 gx gy (same_rest c d _ _ _ refl e) in
    (ap (λ h. h ∷ a) (same_first c d _ _ _ refl e) ∙ ap (λ l. d ∷ l) rest.0, rest.1)

-- what a predicate is, by its name
pub data Kind : Type 0 where
  about : Subject → Kind
  on_platform : Kind
  on_default : Kind
  on_all : Kind
  on_none : Kind
  unknown : Kind

abbrev pub kind_at : List ℕ → Kind
kind_at word =
    if bytes_eq word (codes "package") then about package_name
    else if bytes_eq word (codes "deps") then about dependencies
    else if bytes_eq word (codes "rdeps") then about dependents
    else if bytes_eq word (codes "kind") then about kind
    else if bytes_eq word (codes "binary") then about binary_name
    else if bytes_eq word (codes "binary_id") then about binary_id
    else if bytes_eq word (codes "test") then about test_name
    else if bytes_eq word (codes "group") then about group
    else if bytes_eq word (codes "platform") then on_platform
    else if bytes_eq word (codes "default") then on_default
    else if bytes_eq word (codes "all") then on_all
    else if bytes_eq word (codes "none") then on_none
    else unknown

abbrev pub kind_of : Leaf → Kind
kind_of (matching s m) = about s
kind_of (built_for p) = on_platform
kind_of default_filter = on_default
kind_of everything = on_all
kind_of nothing = on_none

abbrev pub kind_named : Name → Kind
kind_named (name.About s) = about (subject_of s)
kind_named name.Platform = on_platform
kind_named name.Default = on_default
kind_named name.All = on_all
kind_named name.None = on_none

leaf_kind : (it : Leaf) → kind_at (leaf_word it) ≡ kind_of it
leaf_kind (matching package_name m) = refl
leaf_kind (matching dependencies m) = refl
leaf_kind (matching dependents m) = refl
leaf_kind (matching kind m) = refl
leaf_kind (matching binary_name m) = refl
leaf_kind (matching binary_id m) = refl
leaf_kind (matching test_name m) = refl
leaf_kind (matching group m) = refl
leaf_kind (built_for p) = refl
leaf_kind (default_filter) = refl
leaf_kind (everything) = refl
leaf_kind (nothing) = refl

leaf_is_name : (it : Leaf) → IsName (leaf_word it)
leaf_is_name (matching package_name m) = (refl, (refl, (refl, (refl, (refl, (refl, (refl, tt)))))))
leaf_is_name (matching dependencies m) = (refl, (refl, (refl, (refl, tt))))
leaf_is_name (matching dependents m) = (refl, (refl, (refl, (refl, (refl, tt)))))
leaf_is_name (matching kind m) = (refl, (refl, (refl, (refl, tt))))
leaf_is_name (matching binary_name m) = (refl, (refl, (refl, (refl, (refl, (refl, tt))))))
leaf_is_name (matching binary_id m) = (refl, (refl, (refl, (refl, (refl, (refl, (refl, (refl, (refl, tt)))))))))
leaf_is_name (matching test_name m) = (refl, (refl, (refl, (refl, tt))))
leaf_is_name (matching group m) = (refl, (refl, (refl, (refl, (refl, tt)))))
leaf_is_name (built_for p) = (refl, (refl, (refl, (refl, (refl, (refl, (refl, (refl, tt))))))))
leaf_is_name (default_filter) = (refl, (refl, (refl, (refl, (refl, (refl, (refl, tt)))))))
leaf_is_name (everything) = (refl, (refl, (refl, tt)))
leaf_is_name (nothing) = (refl, (refl, (refl, (refl, tt))))

name_kind : (it : Name) → kind_at (name_word it) ≡ kind_named it
name_kind (name.About subject.Package) = refl
name_kind (name.About subject.Deps) = refl
name_kind (name.About subject.Rdeps) = refl
name_kind (name.About subject.Kind) = refl
name_kind (name.About subject.Binary) = refl
name_kind (name.About subject.BinaryId) = refl
name_kind (name.About subject.Test) = refl
name_kind (name.About subject.Group) = refl
name_kind (name.Platform) = refl
name_kind (name.Default) = refl
name_kind (name.All) = refl
name_kind (name.None) = refl

name_is_name : (it : Name) → IsName (name_word it)
name_is_name (name.About subject.Package) = (refl, (refl, (refl, (refl, (refl, (refl, (refl, tt)))))))
name_is_name (name.About subject.Deps) = (refl, (refl, (refl, (refl, tt))))
name_is_name (name.About subject.Rdeps) = (refl, (refl, (refl, (refl, (refl, tt)))))
name_is_name (name.About subject.Kind) = (refl, (refl, (refl, (refl, tt))))
name_is_name (name.About subject.Binary) = (refl, (refl, (refl, (refl, (refl, (refl, tt))))))
name_is_name (name.About subject.BinaryId) = (refl, (refl, (refl, (refl, (refl, (refl, (refl, (refl, (refl, tt)))))))))
name_is_name (name.About subject.Test) = (refl, (refl, (refl, (refl, tt))))
name_is_name (name.About subject.Group) = (refl, (refl, (refl, (refl, (refl, tt)))))
name_is_name (name.Platform) = (refl, (refl, (refl, (refl, (refl, (refl, (refl, (refl, tt))))))))
name_is_name (name.Default) = (refl, (refl, (refl, (refl, (refl, (refl, (refl, tt)))))))
name_is_name (name.All) = (refl, (refl, (refl, tt)))
name_is_name (name.None) = (refl, (refl, (refl, (refl, tt))))

-- the predicate that a text begins with has the name that it begins with
pub named_so : (it : Name) (leaf : Leaf) (text rest named : List ℕ) → ReadsName it text rest → text ≡ leaf_word leaf ++ named → goes_on named ≡ false
    → (kind_of leaf ≡ kind_named it) × (named ≡ rest)
named_so it leaf text rest named reads e ends =
    let one = one_name (leaf_word leaf) (name_word it) named rest (leaf_is_name leaf) (name_is_name it) ends reads.1 (sym e ∙ reads.0) in
    (sym (leaf_kind leaf) ∙ (ap kind_at one.0 ∙ name_kind it), one.1)

-- a predicate has some name
pub has_name : (leaf : Leaf) (text named : List ℕ) → text ≡ leaf_word leaf ++ named → goes_on named ≡ false → (it : Name) × ReadsName it text named
has_name (matching package_name m) text named e ends = (name.About subject.Package, (e, ends))
has_name (matching dependencies m) text named e ends = (name.About subject.Deps, (e, ends))
has_name (matching dependents m) text named e ends = (name.About subject.Rdeps, (e, ends))
has_name (matching kind m) text named e ends = (name.About subject.Kind, (e, ends))
has_name (matching binary_name m) text named e ends = (name.About subject.Binary, (e, ends))
has_name (matching binary_id m) text named e ends = (name.About subject.BinaryId, (e, ends))
has_name (matching test_name m) text named e ends = (name.About subject.Test, (e, ends))
has_name (matching group m) text named e ends = (name.About subject.Group, (e, ends))
has_name (built_for p) text named e ends = (name.Platform, (e, ends))
has_name (default_filter) text named e ends = (name.Default, (e, ends))
has_name (everything) text named e ends = (name.All, (e, ends))
has_name (nothing) text named e ends = (name.None, (e, ends))

-- which predicate it is
pub is_matching : (s : Subject) (leaf : Leaf) → kind_of leaf ≡ about s → (m : Matcher) × (leaf ≡ matching s m)
is_matching s (matching t m) e = (m, ap (λ k. matching (subject_in k) m) e) where
  subject_in : Kind → Subject
  subject_in (about x) = x
  subject_in on_platform = t
  subject_in on_default = t
  subject_in on_all = t
  subject_in on_none = t
  subject_in unknown = t
is_matching s (built_for p) e = absurd (Prim.cc e)
is_matching s default_filter e = absurd (Prim.cc e)
is_matching s everything e = absurd (Prim.cc e)
is_matching s nothing e = absurd (Prim.cc e)

pub is_built_for : (leaf : Leaf) → kind_of leaf ≡ on_platform → (p : BuildPlatform) × (leaf ≡ built_for p)
is_built_for (matching t m) e = absurd (Prim.cc e)
is_built_for (built_for p) e = (p, refl)
is_built_for default_filter e = absurd (Prim.cc e)
is_built_for everything e = absurd (Prim.cc e)
is_built_for nothing e = absurd (Prim.cc e)

pub is_default : (leaf : Leaf) → kind_of leaf ≡ on_default → leaf ≡ default_filter
is_default (matching t m) e = absurd (Prim.cc e)
is_default (built_for p) e = absurd (Prim.cc e)
is_default default_filter e = refl
is_default everything e = absurd (Prim.cc e)
is_default nothing e = absurd (Prim.cc e)

pub is_everything : (leaf : Leaf) → kind_of leaf ≡ on_all → leaf ≡ everything
is_everything (matching t m) e = absurd (Prim.cc e)
is_everything (built_for p) e = absurd (Prim.cc e)
is_everything default_filter e = absurd (Prim.cc e)
is_everything everything e = refl
is_everything nothing e = absurd (Prim.cc e)

pub is_nothing : (leaf : Leaf) → kind_of leaf ≡ on_none → leaf ≡ nothing
is_nothing (matching t m) e = absurd (Prim.cc e)
is_nothing (built_for p) e = absurd (Prim.cc e)
is_nothing default_filter e = absurd (Prim.cc e)
is_nothing everything e = absurd (Prim.cc e)
is_nothing nothing e = refl
