-- Each glob is a tree, written flat.
use Rattle.std.proofs.Common.{◌≡◌, ℕ, zero, suc, ◌+◌, ◌-◌, List, [], ◌∷◌, ◌++◌, subst, sym, ◌∙◌, refl, ap, arith}
use Rattle.std.specs.Prelude.{nat_lt}
use Rattle.std.proofs.lemmas.Bool.{false≢true}
use Rattle.std.proofs.lemmas.List.{append_assoc}
use Rattle.nextest_filtering_globs.specs.declared.token.GlobToken.{GlobToken}
use Rattle.nextest_filtering_globs.specs.declared.token.GlobToken.TheVariants as token
use Rattle.nextest_filtering_globs.specs.Syntax.{Spells, SpellsFrom, depth_behind}
use Rattle.nextest_filtering_globs.specs.Inside.{ClosesFrom, HasBrace}
use Rattle.nextest_filtering_globs.specs.Meaning.{Token, literal, any, zero_or_more, class, alternates, Tokens, no_tokens, next_token, Alternatives, last_alternative, next_alternative, flat_token, flat, flat_alternatives}

-- tokens with so many braces open: the rest of an alternative, the further ones, and what follows
-- their brace
abbrev pub Pieces : ℕ → List GlobToken → Type 0
Pieces zero tokens = (tree : Tokens) × (flat tree ≡ tokens)
Pieces (suc depth) tokens = (all : Alternatives) × (behind : List GlobToken) × (tokens ≡ flat_alternatives all ++ behind)
    × Pieces depth behind

pub in_front : Token → Alternatives → Alternatives
in_front t (last_alternative tokens) = last_alternative (next_token t tokens)
in_front t (next_alternative first more) = next_alternative (next_token t first) more

pub in_front_is : (t : Token) (all : Alternatives) → flat_alternatives (in_front t all) ≡ flat_token t ++ flat_alternatives all
unfolding in_front
in_front_is t (last_alternative tokens) = append_assoc (flat_token t) (flat tokens) (token.Close ∷ [])
in_front_is t (next_alternative first more) =
    append_assoc (flat_token t) (flat first) (token.Or ∷ flat_alternatives more)

pub one_more : (depth : ℕ) (t : Token) (tokens : List GlobToken) → Pieces depth tokens
    → Pieces depth (flat_token t ++ tokens)
one_more zero t tokens h = (next_token t h.0, ap (λ x. flat_token t ++ x) h.1)
one_more (suc depth) t tokens h = (
  in_front t h.0,
  h.1,
  ap (λ x. flat_token t ++ x) h.2 ∙ (sym (append_assoc (flat_token t) (flat_alternatives h.0) h.1)
      ∙ ap (λ x. x ++ h.1) (sym (in_front_is t h.0))),
  h.3,
)

opened : (depth : ℕ) (tokens : List GlobToken) → Pieces (suc depth) tokens → Pieces depth (token.Open ∷ tokens)
opened depth tokens h =
    subst (λ x. Pieces depth (token.Open ∷ x)) (sym h.2) (one_more depth (alternates h.0) h.1 h.3)

separated : (depth : ℕ) (tokens : List GlobToken) → Pieces (suc depth) tokens → Pieces (suc depth) (token.Or ∷ tokens)
separated depth tokens h = (next_alternative no_tokens h.0, h.1, ap (λ x. token.Or ∷ x) h.2, h.3)

closed_here : (depth : ℕ) (tokens : List GlobToken) → Pieces depth tokens → Pieces (suc depth) (token.Close ∷ tokens)
closed_here depth tokens h = (last_alternative no_tokens, tokens, refl, h)

next_depth : (depth : ℕ) → depth + 1 ≡ suc depth
next_depth depth = omega arith

last_depth : (depth : ℕ) → suc depth - 1 ≡ depth
last_depth depth = omega arith

pub pieces : (depth : ℕ) (tokens : List GlobToken) → ClosesFrom depth tokens → Pieces depth tokens
pieces zero [] h = (no_tokens, refl)
pieces (suc depth) [] h = absurd (omega (arith, h))
pieces depth (token.Literal c ∷ more) h = one_more depth (literal c) more (pieces depth more h.1)
pieces depth (token.Any ∷ more) h = one_more depth any more (pieces depth more h.1)
pieces depth (token.ZeroOrMore ∷ more) h = one_more depth zero_or_more more (pieces depth more h.1)
pieces depth (token.Class negated ranges ∷ more) h = one_more depth (class negated ranges) more (pieces depth more h.1)
pieces depth (token.Open ∷ more) h =
    opened depth more (subst (λ d. Pieces d more) (next_depth depth) (pieces (depth + 1) more h.1))
pieces zero (token.Or ∷ more) h = absurd (false≢true h.0)
pieces (suc depth) (token.Or ∷ more) h = separated depth more (pieces (suc depth) more h.1)
pieces zero (token.Close ∷ more) h = absurd (false≢true h.0)
pieces (suc depth) (token.Close ∷ more) h =
    closed_here depth more (subst (λ d. Pieces d more) (last_depth depth) (pieces (suc depth - 1) more h.1))

has_brace : (depth : ℕ) (t : GlobToken) (text rest : List ℕ) → Spells (nat_lt 0 depth) t text rest → HasBrace depth t
has_brace depth (token.Literal c) text rest h = tt
has_brace depth token.Any text rest h = tt
has_brace depth token.ZeroOrMore text rest h = tt
has_brace depth (token.Class negated ranges) text rest h = tt
has_brace depth token.Open text rest h = tt
has_brace depth token.Or text rest h = h.1
has_brace depth token.Close text rest h = h.1

-- what a text spells closes its braces
pub spelled_closes : (depth : ℕ) (tokens : List GlobToken) (text : List ℕ) → SpellsFrom depth tokens text
    → ClosesFrom depth tokens
spelled_closes depth [] text h = h.1
spelled_closes depth (first ∷ more) text h =
    (has_brace depth first text h.0 h.1, spelled_closes (depth_behind depth first) more h.0 h.2)
