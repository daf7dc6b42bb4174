-- How far a text was read, and one token more.
use Rattle.std.proofs.Common.{◌≡◌, ℕ, ◌+◌, ◌≤◌, arith, List, [], ◌∷◌, ◌++◌, subst, sym}
use Rattle.std.proofs.lemmas.List.{append_assoc, append-nil}
use Rattle.std.specs.Prelude.{nat_lt}
use Rattle.nextest_filtering_globs.specs.declared.token.GlobToken.{GlobToken}
use Rattle.nextest_filtering_globs.specs.declared.token.GlobToken.TheVariants as token
use Rattle.nextest_filtering_globs.specs.Syntax.{Spells, SpellsFrom, depth_behind}
use Rattle.nextest_filtering_globs.proofs.Beginnings.{never_empty}
use Rattle.nextest_filtering_globs.proofs.Unique.{one_left}

-- a token opens one brace at most
pub deepest : (depth : ℕ) (t : GlobToken) → depth_behind depth t ≤ depth + 1
deepest depth (token.Literal c) = omega arith
deepest depth token.Any = omega arith
deepest depth token.ZeroOrMore = omega arith
deepest depth (token.Class negated ranges) = omega arith
deepest depth token.Open = omega arith
deepest depth token.Or = omega arith
deepest depth token.Close = omega arith

-- these tokens were read, so many braces are open, and this is left
pub record ReadTo (text : List ℕ) (tokens : List GlobToken) (depth : ℕ) (left : List ℕ) : Type 0 where
  pub onward : (more : List GlobToken) → SpellsFrom depth more left → SpellsFrom 0 (tokens ++ more) text
  pub back : (all : List GlobToken) → SpellsFrom 0 all text → (more : List GlobToken) × SpellsFrom depth more left

pub read_none : (text : List ℕ) → ReadTo text [] 0 text
read_none text = record { onward = λ more h. h; back = λ all h. (all, h) }

pub read_more : (text left rest : List ℕ) (tokens : List GlobToken) (t : GlobToken) (depth : ℕ)
    → ReadTo text tokens depth left → Spells (nat_lt 0 depth) t left rest
    → ReadTo text (tokens ++ t ∷ []) (depth_behind depth t) rest
read_more text left rest tokens t depth read h = record {
  onward = λ more k. subst (λ x. SpellsFrom 0 x text) (sym (append_assoc tokens (t ∷ []) more))
      (read.onward (t ∷ more) (rest, h, k));
  back = λ all k. let more = read.back all k in one_left depth t left rest more.0 h more.1;
}

pub read_all : (text left : List ℕ) (tokens : List GlobToken) (depth : ℕ) → ReadTo text tokens depth left → left ≡ []
    → depth ≡ 0 → SpellsFrom 0 tokens text
read_all text left tokens depth read e zero =
    subst (λ x. SpellsFrom 0 x text) (append-nil tokens) (read.onward [] (e, zero))

open_end : (depth : ℕ) (left : List ℕ) (more : List GlobToken) → left ≡ [] → (depth ≡ 0 → ⊥) → SpellsFrom depth more left
    → ⊥
open_end depth left [] e deep h = deep h.1
open_end depth left (t ∷ more) e deep h = never_empty (nat_lt 0 depth) t left h.0 e h.1

-- a text is refused where it ends inside of braces
pub end_refused : (text left : List ℕ) (tokens : List GlobToken) (depth : ℕ) → ReadTo text tokens depth left → left ≡ []
    → (depth ≡ 0 → ⊥) → (all : List GlobToken) → SpellsFrom 0 all text → ⊥
end_refused text left tokens depth read e deep all h =
    let more = read.back all h in
    open_end depth left more.0 e deep more.1

no_token : (depth first : ℕ) (left behind : List ℕ) (more : List GlobToken) → left ≡ first ∷ behind
    → ((t : GlobToken) (r : List ℕ) → Spells (nat_lt 0 depth) t (first ∷ behind) r → ⊥) → SpellsFrom depth more left → ⊥
no_token depth first left behind [] e none h = let k = h.0 in cc
no_token depth first left behind (t ∷ more) e none h =
    none t h.0 (subst (λ y. Spells (nat_lt 0 depth) t y h.0) e h.1)

-- a text is refused where no token is behind those that were read
pub token_refused : (text left behind : List ℕ) (tokens : List GlobToken) (depth first : ℕ)
    → ReadTo text tokens depth left → left ≡ first ∷ behind
    → ((t : GlobToken) (r : List ℕ) → Spells (nat_lt 0 depth) t (first ∷ behind) r → ⊥)
    → (all : List GlobToken) → SpellsFrom 0 all text → ⊥
token_refused text left behind tokens depth first read e none all h =
    let more = read.back all h in
    no_token depth first left behind more.0 e none more.1
