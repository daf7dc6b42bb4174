-- How far the tokens of a glob were taken.
use Rattle.std.proofs.Common.{◌≡◌, ℕ, ◌+◌, ◌<◌, Bool, List, [], ◌∷◌, ◌++◌, length, drop, get_or, subst, sym, ◌∙◌, refl, ap, arith}
use Rattle.std.proofs.lemmas.Bool.{false≢true}
use Rattle.std.proofs.lemmas.List.{length-append}
use Rattle.nextest_filtering_globs.specs.declared.token.GlobToken.{GlobToken}
use Rattle.nextest_filtering_globs.specs.declared.token.GlobToken.TheVariants as token
use Rattle.nextest_filtering_globs.specs.Syntax.{depth_behind}
use Rattle.nextest_filtering_globs.specs.Inside.{Level, state, step, run, Changes, ClosesFrom, HasRoom, IsBalanced, IsStack}
use Rattle.nextest_filtering_globs.proofs.Loops.{from_here}

-- with the tokens that are left the same comes out as of all from the start, and they close the
-- braces that are open
pub record Walked (text : List ℕ) (tokens : List GlobToken) (start : List Bool) (left : List GlobToken)
    (current stack : List Bool) : Type 0 where
  pub levels : List Level
  pub stacked : IsStack (length current) levels stack
  pub wide : length current ≡ length text + 1
  pub same : run text tokens (state start []) ≡ run text left (state current levels)
  pub closes : ClosesFrom (length levels) left

pub walked_none : (text : List ℕ) (tokens : List GlobToken) (start stack : List Bool) → length start ≡ length text + 1
    → IsBalanced tokens → stack ≡ [] → Walked text tokens start tokens start stack
walked_none text tokens start stack wide h e =
    record { levels = []; stacked = e; wide = wide; same = refl; closes = h }

pub walked_all : (text : List ℕ) (tokens : List GlobToken) (start : List Bool) (left : List GlobToken)
    (current stack : List Bool) → left ≡ [] → Walked text tokens start left current stack
    → current ≡ (run text tokens (state start [])).current
walked_all text tokens start left current stack e walked =
    sym (ap (λ x. x.current) (walked.same ∙ ap (λ x. run text x (state current walked.levels)) e))

-- a brace that goes on or closes is there
has_room : (text : List ℕ) (t : GlobToken) (more : List GlobToken) (levels : List Level) (width : ℕ) (stack : List Bool)
    → IsStack width levels stack → ClosesFrom (length levels) (t ∷ more)
    → HasRoom t width (length stack)
has_room text (token.Literal c) more levels width stack h k = tt
has_room text token.Any more levels width stack h k = tt
has_room text token.ZeroOrMore more levels width stack h k = tt
has_room text (token.Class negated ranges) more levels width stack h k = tt
has_room text token.Open more levels width stack h k = tt
has_room text token.Or more [] width stack h k = absurd (false≢true k.0)
has_room text token.Or more (inner ∷ outer) width stack h k =
    omega (arith, ap length h.1, length-append (h.0 ++ inner.start) inner.reached, length-append h.0 inner.start, h.2, h.3)
has_room text token.Close more [] width stack h k = absurd (false≢true k.0)
has_room text token.Close more (inner ∷ outer) width stack h k =
    omega (arith, ap length h.1, length-append (h.0 ++ inner.start) inner.reached, length-append h.0 inner.start, h.2, h.3)

pub walked_room : (text : List ℕ) (tokens : List GlobToken) (start : List Bool) (t : GlobToken) (more left : List GlobToken)
    (current stack : List Bool) → left ≡ t ∷ more → Walked text tokens start left current stack
    → HasRoom t (length current) (length stack)
walked_room text tokens start t more left current stack e walked =
    has_room text t more walked.levels (length current) stack walked.stacked
    (subst (ClosesFrom (length walked.levels)) e walked.closes)

-- as many braces are open as the tokens say
depth_kept : (text : List ℕ) (t : GlobToken) (more : List GlobToken) (current : List Bool) (levels : List Level)
    → ClosesFrom (length levels) (t ∷ more)
    → depth_behind (length levels) t ≡ length (step text t (state current levels)).levels
depth_kept text (token.Literal c) more current levels k = refl
depth_kept text token.Any more current levels k = refl
depth_kept text token.ZeroOrMore more current levels k = refl
depth_kept text (token.Class negated ranges) more current levels k = refl
depth_kept text token.Open more current levels k = omega arith
depth_kept text token.Or more current [] k = absurd (false≢true k.0)
depth_kept text token.Or more current (inner ∷ outer) k = refl
depth_kept text token.Close more current [] k = absurd (false≢true k.0)
depth_kept text token.Close more current (inner ∷ outer) k = omega arith

-- one token more
walked_one : (text : List ℕ) (tokens : List GlobToken) (start : List Bool) (t : GlobToken) (more left : List GlobToken)
    (current stack current_after stack_after : List Bool) → left ≡ t ∷ more
    → length current_after ≡ length current → Walked text tokens start left current stack
    → Changes (step text t) current stack current_after stack_after
    → Walked text tokens start more current_after stack_after
walked_one text tokens start t more left current stack current_after stack_after e kept walked changes =
    let next = step text t (state current walked.levels) in
    let after = changes walked.levels walked.stacked in
    let begun : ClosesFrom (length walked.levels) (t ∷ more) = subst (ClosesFrom (length walked.levels)) e walked.closes in
    let same : next ≡ state current_after next.levels = ap (λ x. state x next.levels) (sym after.0) in
    record {
      levels = next.levels;
      stacked = subst (λ n. IsStack n next.levels stack_after) (sym kept) after.1;
      wide = kept ∙ walked.wide;
      same = walked.same
          ∙ (ap (λ x. run text x (state current walked.levels)) e ∙ ap (run text more) same);
      closes = subst (λ d. ClosesFrom d more) (depth_kept text t more current walked.levels begun) begun.1;
    }

-- the token at a place of the list
pub walked_at : (text : List ℕ) (tokens : List GlobToken) (start : List Bool) (i : ℕ) (t : GlobToken)
    (current stack current_after stack_after : List Bool) → i < length tokens → t ≡ get_or tokens i t
    → length current_after ≡ length current → Walked text tokens start (drop i tokens) current stack
    → Changes (step text t) current stack current_after stack_after
    → Walked text tokens start (drop (i + 1) tokens) current_after stack_after
walked_at text tokens start i t current stack current_after stack_after h is kept walked changes =
    let more = drop (i + 1) tokens in
    walked_one text tokens start t more (drop i tokens) current stack current_after stack_after
    (from_here tokens i t h ∙ ap (λ x. x ∷ more) (sym is)) kept walked changes
