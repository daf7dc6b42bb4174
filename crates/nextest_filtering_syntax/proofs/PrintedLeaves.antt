-- A predicate that a text begins with is the only one.
use Rattle.std.proofs.Common.{◌≡◌, ℕ, ◌<◌, List, [], ◌∷◌, ◌++◌, length, sym, ap, subst, ◌∙◌, inl, inr, arith}
use Rattle.nextest_filtering_ast.specs.Tree.{Comparison, equal, contains, glob, regex, Matcher, Subject, Leaf, matching, built_for, default_filter, everything, nothing}
use Rattle.nextest_filtering_ast.specs.Grammar.{after_blanks, ReadsSigned, ReadsMatcher, leaf_word, ReadsArgument, ReadsLeaf}
use Rattle.nextest_filtering_arguments.specs.Faults.{IsSuffix}
use Rattle.nextest_filtering_arguments.proofs.Fronts.{same_rest}
use Rattle.nextest_filtering_arguments.proofs.Spans.{suffix_trans, suffix_token, shorter_token, suffix_len}
use Rattle.nextest_filtering_syntax.proofs.Names.{kind_of, named_so, has_name, is_matching, is_built_for, is_default, is_everything, is_nothing}
use Rattle.nextest_filtering_syntax.proofs.Arguments.{one_matcher, one_platform}
use Rattle.nextest_filtering_syntax.proofs.Leaves.{opens_ends}

-- ---- what stands behind a predicate

signed_behind : (comparison : Comparison) (text argument rest : List ℕ) → ReadsSigned comparison text argument rest → IsSuffix rest argument
signed_behind equal text argument rest (raw, behind, first, place, spelled) = suffix_trans rest behind argument (suffix_token raw rest behind place) (suffix_token (61 ∷ []) behind argument first)
signed_behind contains text argument rest (raw, behind, first, place, spelled) = suffix_trans rest behind argument (suffix_token raw rest behind place) (suffix_token (126 ∷ []) behind argument first)
signed_behind glob text argument rest (raw, behind, first, place, spelled) = suffix_trans rest behind argument (suffix_token raw rest behind place) (suffix_token (35 ∷ []) behind argument first)
signed_behind regex text argument rest (raw, place, stands) = suffix_token (47 ∷ raw ++ 47 ∷ []) rest argument place

matcher_behind : (subject : Subject) (m : Matcher) (argument rest : List ℕ) → ReadsMatcher subject m argument rest → IsSuffix rest argument
matcher_behind subject m argument rest (compares, inl (sign, signed)) = signed_behind m.comparison m.text argument rest signed
matcher_behind subject m argument rest (compares, inr (sign, kind_is, alone)) = suffix_token alone.raw rest argument alone.place

argument_behind : (it : Leaf) (argument rest : List ℕ) → ReadsArgument it argument rest → IsSuffix rest argument
argument_behind (matching subject m) argument rest reads = matcher_behind subject m argument rest reads
argument_behind (built_for platform) argument rest (raw, place, spelled) = suffix_token raw rest argument place
argument_behind default_filter argument rest is = ([], is)
argument_behind everything argument rest is = ([], is)
argument_behind nothing argument rest is = ([], is)

-- what stands behind the `(` of a predicate
opened_behind : (it : Leaf) (text rest : List ℕ) → (read : ReadsLeaf it text rest) → IsSuffix read.opened text
opened_behind it text rest read =
    suffix_trans read.opened read.named text (suffix_token (40 ∷ []) read.opened read.named read.opens) (suffix_token (leaf_word it) read.named text read.name)

pub leaf_behind : (it : Leaf) (text rest : List ℕ) → ReadsLeaf it text rest → IsSuffix rest text × (length rest < length text)
leaf_behind it text rest read =
    let within = suffix_trans read.read read.opened text (argument_behind it read.opened read.read read.argument) (opened_behind it text rest read) in (
      suffix_trans rest read.read text (suffix_token (41 ∷ []) rest read.read read.closes) within,
      Prim.omega (arith, shorter_token (41 ∷ []) rest read.read read.closes (Prim.omega arith), suffix_len read.read text within),
    )

-- ---- names

-- two predicates that a text begins with have one name, and one argument follows
same_kind : (it other : Leaf) (text rest end : List ℕ) (read : ReadsLeaf it text rest) (found : ReadsLeaf other text end)
    → (kind_of other ≡ kind_of it) × (found.opened ≡ read.opened)
same_kind it other text rest end read found =
    let ends = opens_ends read.named read.opened read.opens in
    let known = has_name it (after_blanks text) read.named read.name ends in
    let mine = named_so known.0 it (after_blanks text) read.named read.named known.1 read.name ends in
    let its = named_so known.0 other (after_blanks text) read.named found.named known.1 found.name (opens_ends found.named found.opened found.opens) in
    (its.0 ∙ sym mine.0, same_rest 40 40 _ _ _ found.opens (ap after_blanks its.1 ∙ read.opens))

-- ---- one predicate

-- behind one argument of no bytes stands one `)`
same_close : (argument end x stop y : List ℕ) → argument ≡ end → after_blanks end ≡ 41 ∷ x → argument ≡ stop → after_blanks stop ≡ 41 ∷ y → y ≡ x
same_close argument end x stop y is closes is_too closes_too = same_rest 41 41 _ _ _ closes_too (ap after_blanks (sym is_too ∙ is) ∙ closes)

one_argument : (it other : Leaf) (argument end x stop y : List ℕ) → kind_of other ≡ kind_of it → ReadsArgument it argument end → after_blanks end ≡ 41 ∷ x
    → ReadsArgument other argument stop → after_blanks stop ≡ 41 ∷ y → (other ≡ it) × (y ≡ x)
one_argument (matching subject m) other argument end x stop y same reads closes reads_too closes_too =
    let is = is_matching subject other same in
    let one = one_matcher subject m is.0 argument end x stop y reads closes (subst (λ (l : Leaf). ReadsArgument l argument stop) is.1 reads_too) closes_too in
    (is.1 ∙ ap (λ (n : Matcher). matching subject n) one.0, one.1)
one_argument (built_for platform) other argument end x stop y same reads closes reads_too closes_too =
    let is = is_built_for other same in
    let one = one_platform platform is.0 argument end x stop y reads closes (subst (λ (l : Leaf). ReadsArgument l argument stop) is.1 reads_too) closes_too in
    (is.1 ∙ ap built_for one.0, one.1)
one_argument default_filter other argument end x stop y same reads closes reads_too closes_too =
    let is = is_default other same in
    (is, same_close argument end x stop y reads closes (subst (λ (l : Leaf). ReadsArgument l argument stop) is reads_too) closes_too)
one_argument everything other argument end x stop y same reads closes reads_too closes_too =
    let is = is_everything other same in
    (is, same_close argument end x stop y reads closes (subst (λ (l : Leaf). ReadsArgument l argument stop) is reads_too) closes_too)
one_argument nothing other argument end x stop y same reads closes reads_too closes_too =
    let is = is_nothing other same in
    (is, same_close argument end x stop y reads closes (subst (λ (l : Leaf). ReadsArgument l argument stop) is reads_too) closes_too)

pub one_leaf : (it other : Leaf) (text rest end : List ℕ) → ReadsLeaf it text rest → ReadsLeaf other text end → (other ≡ it) × (end ≡ rest)
one_leaf it other text rest end read found =
    let same = same_kind it other text rest end read found in
    one_argument it other read.opened read.read rest found.read end same.0 read.argument read.closes
    (subst (λ (l : List ℕ). ReadsArgument other l found.read) same.1 found.argument) found.closes
