-- Arguments that texts are made into.
use Rattle.std.proofs.Common.{◌≡◌, refl, ℕ, ◌+◌, Bool, false, List, [], ◌∷◌, ◌++◌, length, Option, Some, None, Result, Ok, Err, sym, ap, subst, ◌∙◌, arith}
use Rattle.std.specs.Borrow.{Bor}
use Rattle.nextest_filtering_escapes.specs.Regex.{IsRegexText, HasNoRegex, HasRegexText, IsOnlyRegex}
use Rattle.nextest_filtering_escapes.proofs.Slashes.{one_regex}
use Rattle.nextest_filtering_ast.specs.declared.leaf.BuildPlatform.{BuildPlatform}
use Rattle.nextest_filtering_ast.specs.declared.leaf.BuildPlatform.TheVariants.{Host, Target}
use Rattle.nextest_filtering_ast.specs.declared.matcher.NameMatcher.{NameMatcher}
use Rattle.nextest_filtering_ast.specs.declared.matcher.NameMatcher.TheVariants as matcher
use Rattle.nextest_filtering_ast.specs.Tree.{Comparison, regex, Matcher, matcher_of, IsRegex}
use Rattle.nextest_filtering_ast.specs.Words.{platform_word}
use Rattle.nextest_filtering_ast.specs.Grammar.{after_blanks, Spells, IsPattern}
use Rattle.nextest_filtering_arguments.specs.declared.stop.Stop.{Stop}
use Rattle.nextest_filtering_arguments.specs.declared.stop.Stop.TheVariants.{NoTree, Memory}
use Rattle.nextest_filtering_arguments.specs.Faults.{IsSuffix}
use Rattle.nextest_filtering_arguments.specs.Texts.{IsTextArgument}
use Rattle.nextest_filtering_arguments.specs.Matchers.{IsArgument, IsNoArgument, FindsMatcher, IsMade, ReadsCompared, ReadsPattern, ReadsPlatform, platform_itself}
use Rattle.nextest_filtering_arguments.proofs.Spans.{suffix_trans}
use Rattle.nextest_filtering_arguments.proofs.Cutting.{unblanked_stops}

-- ---- texts

pub matcher_same : (m : Matcher) (comparison : Comparison) (implicit : Bool) (text : List ℕ) → m.comparison ≡ comparison → m.implicit ≡ implicit → m.text ≡ text
    → m ≡ record { comparison = comparison; implicit = implicit; text = text }
matcher_same m comparison implicit text a b c = Prim.rw (sym a, sym b, sym c) refl

pub compared_reads : (comparison : Comparison) (implicit : Bool) (text meant rest : List ℕ) (old mid new : ℕ) (found : Option NameMatcher)
    → IsTextArgument text old mid meant rest → IsMade comparison implicit meant mid new found → IsArgument matcher_of (ReadsCompared comparison implicit) text old new found rest
compared_reads comparison implicit text meant rest old mid new (Some m) it (same, is, compares) =
    let grown = it.more in
    record {
      more = Prim.omega (arith, grown, same);
      behind = it.behind;
      reads = λ none.
          let read = it.reads (Prim.omega (arith, grown, same, none)) in (
            m,
            refl,
            read.1,
            subst (λ (v : Matcher). ReadsCompared comparison implicit v text read.1) (sym is) (refl, refl, compares, (read.0, read.2, read.3)),
            read.4 ∙ sym (unblanked_stops rest it.stops),
          );
      only = λ value end x has closes.
          let known = it.only has.3.0 value.text end x has.3.1 has.3.2 closes in
          (same ∙ known.0, (m, refl, matcher_same value comparison implicit meant has.0 has.1 known.1 ∙ sym is), known.2 ∙ sym (unblanked_stops rest it.stops));
    }
compared_reads comparison implicit text meant rest old mid new None it (more, never) =
    let grown = it.more in
    record {
      more = Prim.omega (arith, grown, more);
      behind = it.behind;
      reads = λ none. absurd (Prim.omega (arith, grown, more, none));
      only = λ value end x has closes.
          let known = it.only has.3.0 value.text end x has.3.1 has.3.2 closes in
          absurd (never (subst (IsPattern comparison) known.1 has.2));
    }

-- ---- platforms

pub same_platform : (a b : BuildPlatform) → platform_word a ≡ platform_word b → a ≡ b
same_platform Host Host is = refl
same_platform Host Target is = absurd (Prim.omega (arith, ap length is))
same_platform Target Host is = absurd (Prim.omega (arith, ap length is))
same_platform Target Target is = refl

pub platform_found : (text meant rest : List ℕ) (old new : ℕ) (platform : BuildPlatform) → IsTextArgument text old new meant rest → meant ≡ platform_word platform
    → IsArgument platform_itself ReadsPlatform text old new (Some platform) rest
platform_found text meant rest old new platform it is = record {
  more = it.more;
  behind = it.behind;
  reads = λ none.
      let read = it.reads none in
      (platform, refl, read.1, (read.0, read.2, subst (Spells read.0) is read.3), read.4 ∙ sym (unblanked_stops rest it.stops));
  only = λ value end x has closes.
      let known = it.only has.0 (platform_word value) end x has.1 has.2 closes in
      (known.0, (platform, refl, same_platform value platform (known.1 ∙ is)), known.2 ∙ sym (unblanked_stops rest it.stops));
}

pub platform_none : (text meant rest : List ℕ) (old mid new : ℕ) → IsTextArgument text old mid meant rest → ((platform : BuildPlatform) → meant ≡ platform_word platform → ⊥)
    → new ≡ mid + 1 → IsArgument platform_itself ReadsPlatform text old new None rest
platform_none text meant rest old mid new it never told =
    let grown = it.more in
    record {
      more = Prim.omega (arith, grown, told);
      behind = it.behind;
      reads = λ none. absurd (Prim.omega (arith, grown, told, none));
      only = λ value end x has closes.
          let known = it.only has.0 (platform_word value) end x has.1 has.2 closes in
          absurd (never value (sym known.1));
    }

-- ---- regular expressions

slashed_behind : (text raw rest : List ℕ) → text ≡ raw ++ 47 ∷ rest → IsSuffix rest text
slashed_behind text raw rest whole = suffix_trans rest (47 ∷ rest) text (47 ∷ [], refl) (raw, whole)

-- the one regular expression that stands there
same_regex : (text raw rest spelled : List ℕ) → IsOnlyRegex text raw rest → IsRegexText raw spelled → (m : Matcher) (end : List ℕ) → ReadsPattern m text end
    → (m.text ≡ spelled) × (end ≡ rest)
same_regex text raw rest spelled sole stands m end (kind, sign, reads, (other, whole, has)) =
    let same = sole other m.text end has whole in
    (one_regex raw m.text spelled (subst (λ (l : List ℕ). IsRegexText l m.text) same.0 has) stands, same.1)

pub pattern_found : (text raw rest spelled source pattern : List ℕ) (n : ℕ) → text ≡ raw ++ 47 ∷ rest → HasRegexText raw → IsOnlyRegex text raw rest
    → (HasRegexText raw → IsRegexText raw spelled) → source ≡ spelled → pattern ≡ source → IsRegex source
    → IsArgument matcher_of ReadsPattern text n n (Some (matcher.Regex pattern)) rest
pattern_found text raw rest spelled source pattern n whole ends sole stands source_is is reads =
    let spelling : IsRegexText raw pattern = subst (IsRegexText raw) (sym (is ∙ source_is)) (stands ends) in
    record {
      more = Prim.omega arith;
      behind = slashed_behind text raw rest whole;
      reads = λ _. (matcher.Regex pattern, refl, rest, (refl, refl, subst IsRegex (sym is) reads, (raw, whole, spelling)), refl);
      only = λ value end x has closes.
          let same = same_regex text raw rest pattern sole spelling value end has in
          (refl, (matcher.Regex pattern, refl, matcher_same value regex false pattern has.0 has.1 same.0), ap after_blanks same.1);
    }

pub pattern_unclosed : (text : List ℕ) (old new : ℕ) → HasNoRegex text → new ≡ old + 1 → IsNoArgument ReadsPattern text old new
pattern_unclosed text old new none told = record {
  more = Prim.omega (arith, told);
  never = λ value end x has closes. none has.3.0 value.text end has.3.2 has.3.1;
}

pub pattern_refused : (text raw rest spelled source : List ℕ) (old new : ℕ) → text ≡ raw ++ 47 ∷ rest → HasRegexText raw → IsOnlyRegex text raw rest
    → (HasRegexText raw → IsRegexText raw spelled) → source ≡ spelled → (IsRegex source → ⊥) → new ≡ old + 1
    → IsArgument matcher_of ReadsPattern text old new None rest
pattern_refused text raw rest spelled source old new whole ends sole stands source_is never told = record {
  more = Prim.omega arith;
  behind = slashed_behind text raw rest whole;
  reads = λ none. absurd (Prim.omega (arith, told, none));
  only = λ value end x has closes.
      let same = same_regex text raw rest spelled sole (stands ends) value end has in
      absurd (never (subst IsRegex (same.0 ∙ sym source_is) has.2));
}

-- ---- the same argument, seen from further in front

carry : {F V : Type 0} (value_of : F → V) (R S : V → List ℕ → List ℕ → Type 0) (a b : List ℕ) (old new : ℕ) (found : Option F) (rest : List ℕ) → IsSuffix a b
    → ((v : V) (end : List ℕ) → R v a end → S v b end) → ((v : V) (end : List ℕ) → S v b end → R v a end)
    → IsArgument value_of R a old new found rest → IsArgument value_of S b old new found rest
carry value_of R S a b old new found rest suffix there back it = record {
  more = it.more;
  behind = suffix_trans rest a b it.behind suffix;
  reads = λ none. let read = it.reads none in (read.0, read.1, read.2, there (value_of read.0) read.2 read.3, read.4);
  only = λ value end x has closes. it.only value end x (back value end has) closes;
}

pub carry_argument : (R S : Matcher → List ℕ → List ℕ → Type 0) (a b : List ℕ) (old new : ℕ) (found : Option NameMatcher) (rest : List ℕ) → IsSuffix a b
    → ((v : Matcher) (end : List ℕ) → R v a end → S v b end) → ((v : Matcher) (end : List ℕ) → S v b end → R v a end)
    → IsArgument matcher_of R a old new found rest → IsArgument matcher_of S b old new found rest
carry_argument R S a b old new found rest suffix there back it = carry matcher_of R S a b old new found rest suffix there back it

pub carry_finds : (R S : Matcher → List ℕ → List ℕ → Type 0) (a b : List ℕ) (old new : ℕ) (result : Result (Option NameMatcher × Bor (List ℕ)) Stop) → IsSuffix a b
    → ((v : Matcher) (end : List ℕ) → R v a end → S v b end) → ((v : Matcher) (end : List ℕ) → S v b end → R v a end)
    → FindsMatcher R a old new result → FindsMatcher S b old new result
carry_finds R S a b old new (Ok found) suffix there back it = carry matcher_of R S a b old new found.0 found.1.now suffix there back it
carry_finds R S a b old new (Err NoTree) suffix there back it = record { more = it.more; never = λ value end x has closes. it.never value end x (back value end has) closes }
carry_finds R S a b old new (Err Memory) suffix there back it = tt
