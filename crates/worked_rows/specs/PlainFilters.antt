-- Filters without a language, and that they are filters.
use Rattle.std.specs.Prelude.{◌≡◌, ◌==◌, ℕ, Bool, true, false, List, length, Option, None, Some, codes, unwrap_or, if◌then◌else◌}
use Rattle.std.specs.Str.{bytes_eq}
use Rattle.std.proofs.Common.{refl, sym, ap, subst, ◌∙◌}
use Rattle.nextest_config_resolution_filters.specs.Filters.{AreAlike, FiltersLaws}
use Rattle.nextest_filtering_arguments.specs.declared.ban.FiltersetKind.{FiltersetKind}
use Rattle.nextest_filtering_filters.specs.declared.known_groups.KnownGroups.{KnownGroups}
use Rattle.nextest_filtering_filters.specs.Query.{Binary, Test}
use Rattle.worked_rows.specs.declared.plain_filter.PlainFilter.{PlainFilter}
use Rattle.worked_rows.specs.declared.plain_filter.PlainFilter.TheVariants as plain

-- the filter of a text; the empty text is none
abbrev pub plain_of : List ℕ → Option PlainFilter
plain_of text =
    if bytes_eq text (codes "all()") then Some plain.Everything
    else if bytes_eq text (codes "none()") then Some plain.Nothing
    else if length text == 0 then None
    else Some (plain.Named text)

abbrev pub is_named : PlainFilter → Bool
is_named plain.Everything = false
is_named plain.Nothing = false
is_named (plain.Named name) = true

-- its value on a binary, and on a test
abbrev pub binary_value : PlainFilter → Option Bool
binary_value plain.Everything = Some true
binary_value plain.Nothing = Some false
binary_value (plain.Named name) = None

abbrev pub name_value : PlainFilter → List ℕ → Bool
name_value plain.Everything name = true
name_value plain.Nothing name = false
name_value (plain.Named own) name = bytes_eq name own

abbrev pub test_value : PlainFilter → Test → Bool
test_value filter test = name_value filter test.name

-- ---- the laws

abbrev IsPlain : Unit {0} → FiltersetKind → KnownGroups → List ℕ → PlainFilter → Type 0
IsPlain cx kind known text it = plain_of text ≡ Some it

abbrev PlainOnBinary : PlainFilter → PlainFilter → Binary → Option Bool → Type 0
PlainOnBinary filter default binary value = value ≡ binary_value filter

abbrev PlainOnTest : PlainFilter → PlainFilter → Test → Bool → Type 0
PlainOnTest filter default test value = value ≡ test_value filter test

abbrev Stands : Option Bool → Type 0
Stands None = ⊥
Stands (Some it) = Unit {0}

abbrev Holds : Bool → Type 0
Holds true = Unit {0}
Holds false = ⊥

sure_of_tests : (filter : PlainFilter) (test : Test) (sure value : Bool) → Some sure ≡ binary_value filter → value ≡ test_value filter test → value ≡ sure
sure_of_tests plain.Everything test sure value on is = is ∙ sym (ap (λ (o : Option Bool). unwrap_or o sure) on)
sure_of_tests plain.Nothing test sure value on is = is ∙ sym (ap (λ (o : Option Bool). unwrap_or o sure) on)
sure_of_tests (plain.Named name) test sure value on is = absurd (subst Stands on tt)

sure_of_binaries : (filter : PlainFilter) (value : Option Bool) → is_named filter ≡ false → value ≡ binary_value filter → (sure : Bool) × (value ≡ Some sure)
sure_of_binaries plain.Everything value named is = (true, is)
sure_of_binaries plain.Nothing value named is = (false, is)
sure_of_binaries (plain.Named name) value named is = absurd (subst Holds named tt)

alike : (one other : PlainFilter) → one ≡ other → AreAlike PlainOnBinary PlainOnTest (λ it. false) is_named (λ it. true) one other
alike one other same = record {
  groups = refl;
  runtime = ap is_named same;
  serves = refl;
  on_binary = λ default binary value is. is ∙ ap binary_value same;
  on_test = λ default test value is. is ∙ ap (λ (it : PlainFilter). test_value it test) same;
  default_on_binary = λ filter binary value is. is;
  default_on_test = λ filter test value is. is;
}

pub plain_filter_laws : FiltersLaws IsPlain PlainOnBinary PlainOnTest (λ it. false) is_named (λ it. true)
plain_filter_laws = record {
  one_meaning = λ cx purpose known text one other first second. alike one other (ap (λ (o : Option PlainFilter). unwrap_or o one) (sym first ∙ second));
  default_serves = λ cx known text it is. refl;
  default_has_no_groups = λ cx known text it is. refl;
  override_has_no_groups = λ cx known text it is. refl;
  sure_of_tests = λ filter default test sure value none on is. sure_of_tests filter test sure value on is;
  sure_of_binaries = λ filter default binary value named is. sure_of_binaries filter value named is;
  one_on_binary = λ filter default binary a b serves first second. first ∙ sym second;
  one_on_test = λ filter default test a b serves none first second. first ∙ sym second;
  some_on_binary = λ filter default binary read default_read serves. (binary_value filter, refl);
  some_on_test = λ filter default test read default_read serves none. (test_value filter test, refl);
}
