-- Looking at names by a matcher.
use Rattle.std.proofs.Common.{◌≡◌, ◌↔◌, ◌<◌, ℕ, Bool, true, List, Option, Some, None, IfOk, Result, Ok, Err, refl, sym, ap, ◌∙◌, subst}
use Rattle.std.specs.Prelude.{is_some, chars}
use Rattle.std.specs.List.{All}
use Rattle.std.specs.Option.{IsSomeAnd, option_map}
use Rattle.regex.specs.Patterns.{Reads, SameCaptures, default_config, find_str}
use Rattle.regex.specs.Strings.{IsReadFromSource, matcher_pattern, regex_config, regex_pattern, regex_source}
use Rattle.regex.specs.declared.string.matcher.Matcher.{Matcher}
use Rattle.regex.specs.declared.string.regex.Regex.{Regex}
use Rattle.regex_hir.specs.Re.{Re}
use Rattle.regex_syntax.specs.Grammar.{read}
use Rattle.regex_syntax.proofs.CapturesLemmas.{find_str_alike, spans}
use Rattle.nextest_filtering_globs.specs.declared.token.GlobToken.{GlobToken}
use Rattle.nextest_filtering_globs.specs.Meaning.{Matches}
use Rattle.nextest_filtering_globs.specs.Syntax.{IsGlob}
use Rattle.nextest_filtering_globs.proofs.Unique.{one_list}
use Rattle.nextest_filtering_ast.specs.Inside.{IsFor}
use Rattle.nextest_filtering_ast.specs.Meaning.{IsFoundIn}

-- ---- regular expressions

with_all : {T : Type 0} (o : Option T) (P Q : T → Type 0) → ((x : T) → P x → Q x) → IsSomeAnd o P → IsSomeAnd o Q
with_all None P Q holds none = none
with_all (Some x) P Q holds some = holds x some

with_both : {T : Type 0} (o : Option T) (P Q : T → Type 0) (R : Type 0) → ((x : T) → P x → Q x → R) → IsSomeAnd o P → IsSomeAnd o Q → R
with_both None P Q R holds none other = absurd none
with_both (Some x) P Q R holds some other = holds x some other

-- what looks for a regular expression looks for what its text is read as
pub pattern_for : (r : Regex) (text : List ℕ) (m : Matcher) → regex_source r ≡ text → regex_config r ≡ default_config → IsReadFromSource r → matcher_pattern m ≡ regex_pattern r → IsFor text m
unfolding Reads
pattern_for r text m is_source is_config is_read same =
    with_all (read default_config (chars text)) _ _ (λ x holds. subst (λ (p : Re). SameCaptures p x.0.value) (sym same) holds.1) (rw (is_source, is_config) at is_read)

-- two searches that are alike find a match in the same texts
found_alike : (a b : Re) (name : List ℕ) → SameCaptures a b → All (λ x. x < 256) name → is_some (find_str a name 0) ≡ is_some (find_str b name 0)
found_alike a b name same bytes =
    sym (some_mapped (find_str a name 0)) ∙ ap is_some (find_str_alike a b same name bytes 0) ∙ some_mapped (find_str b name 0)
  where
    some_mapped : (o : _) → is_some (option_map spans o) ≡ is_some o
    some_mapped None = refl
    some_mapped (Some x) = refl

pub found_is : (text name : List ℕ) (m : Matcher) (result : Bool) → IsFor text m → All (λ x. x < 256) name → result ≡ is_some (find_str (matcher_pattern m) name 0) → (result ≡ true) ↔ IsFoundIn text name
found_is text name m result is_for bytes is = (
  (λ found. with_all (read default_config (chars text)) _ _ (λ x same. sym (found_alike (matcher_pattern m) x.0.value name same bytes) ∙ sym is ∙ found) is_for),
  (λ found. is ∙ with_both (read default_config (chars text)) _ _ (is_some (find_str (matcher_pattern m) name 0) ≡ true)
      (λ x same holds. found_alike (matcher_pattern m) x.0.value name same bytes ∙ holds) is_for found),
)

-- ---- globs

-- a glob's text has one list of tokens
pub by_tokens : (text name : List ℕ) (tokens : List GlobToken) (answer : Bool) → IsGlob text tokens → (answer ≡ true) ↔ Matches tokens (chars name)
    → (answer ≡ true) ↔ ((other : List GlobToken) × IsGlob text other × Matches other (chars name))
by_tokens text name tokens answer is exact = (
  (λ matches. (tokens, is, exact.0 matches)),
  (λ found. exact.1 (subst (λ (t : List GlobToken). Matches t (chars name)) (one_list 0 found.0 tokens (chars text) found.1 is) found.2)),
)

pub by_tokens_of : {E : Type 0} (text name : List ℕ) (tokens : List GlobToken) (result : Result Bool E) → IfOk result (λ _. IsGlob text tokens)
    → IfOk result (λ answer. (answer ≡ true) ↔ Matches tokens (chars name)) → IfOk result (λ answer. (answer ≡ true) ↔ ((other : List GlobToken) × IsGlob text other × Matches other (chars name)))
by_tokens_of text name tokens (Ok answer) is exact = by_tokens text name tokens answer is exact
by_tokens_of text name tokens (Err e) is exact = tt
