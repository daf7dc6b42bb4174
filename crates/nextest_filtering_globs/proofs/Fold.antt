-- What the tokens of a tree make of sets of places, and what a whole glob matches by them.
use Rattle.std.proofs.Common.{◌≡◌, ℕ, Bool, true, List, [], ◌∷◌, ◌++◌, IsTrue, subst, sym, ◌∙◌, refl, ap}
use Rattle.std.specs.Prelude.{◌↔◌}
use Rattle.std.proofs.lemmas.List.{append-nil}
use Rattle.nextest_filtering_globs.specs.declared.token.GlobToken.{GlobToken}
use Rattle.nextest_filtering_globs.specs.declared.token.GlobToken.TheVariants as token
use Rattle.nextest_filtering_globs.specs.Syntax.{SpellsFrom}
use Rattle.nextest_filtering_globs.specs.Meaning.{Token, literal, any, zero_or_more, class, alternates, Tokens, no_tokens, next_token, Alternatives, last_alternative, next_alternative, flat_token, flat, flat_alternatives, MatchesAll, Matches}
use Rattle.nextest_filtering_globs.specs.Inside.{Level, State, level, state, step, run, none_of, either_of, start_of, has_last, IsBalanced}
use Rattle.nextest_filtering_globs.proofs.Sets.{Has, start_covers, start_has, has_start, last_has, has_at_end}
use Rattle.nextest_filtering_globs.proofs.Ends.{ends_one, ends_all, ends_some, covers_all, all_reached, reached_all}
use Rattle.nextest_filtering_globs.proofs.Trees.{pieces, spelled_closes}

pub run-append : (text : List ℕ) (xs ys : List GlobToken) (it : State) → run text (xs ++ ys) it ≡ run text ys (run text xs it)
run-append text [] ys it = refl
run-append text (x ∷ xs) ys it = run-append text xs ys (step text x it)

mutual
  pub run_one : (text : List ℕ) (t : Token) (places : List Bool) (levels : List Level)
      → run text (flat_token t) (state places levels) ≡ state (ends_one text t places) levels
  run_one text (literal c) places levels = refl
  run_one text any places levels = refl
  run_one text zero_or_more places levels = refl
  run_one text (class negated ranges) places levels = refl
  run_one text (alternates all) places levels = run_some text all places (none_of places) levels

  pub run_all : (text : List ℕ) (ts : Tokens) (places : List Bool) (levels : List Level)
      → run text (flat ts) (state places levels) ≡ state (ends_all text ts places) levels
  run_all text no_tokens places levels = refl
  run_all text (next_token first more) places levels =
      run-append text (flat_token first) (flat more) (state places levels)
      ∙ (ap (run text (flat more)) (run_one text first places levels)
      ∙ run_all text more (ends_one text first places) levels)

  pub run_some : (text : List ℕ) (all : Alternatives) (places reached : List Bool) (levels : List Level)
      → run text (flat_alternatives all) (state places (level places reached ∷ levels))
      ≡ state (ends_some text all places reached) levels
  run_some text (last_alternative tokens) places reached levels =
      run-append text (flat tokens) (token.Close ∷ []) (state places (level places reached ∷ levels))
      ∙ ap (run text (token.Close ∷ [])) (run_all text tokens places (level places reached ∷ levels))
  run_some text (next_alternative first more) places reached levels =
      run-append text (flat first) (token.Or ∷ flat_alternatives more) (state places (level places reached ∷ levels))
      ∙ (ap (run text (token.Or ∷ flat_alternatives more)) (run_all text first places (level places reached ∷ levels))
      ∙ run_some text more places (either_of reached (ends_all text first places)) levels)

-- the places of a whole glob
tree_places : (text : List ℕ) (tree : Tokens) (tokens : List GlobToken) → flat tree ≡ tokens
    → (run text tokens (state (start_of text) [])).current ≡ ends_all text tree (start_of text)
tree_places text tree tokens e =
    ap (λ x. (run text x (state (start_of text) [])).current) (sym e)
    ∙ ap (λ x. x.current) (run_all text tree (start_of text) [])

matched : (text : List ℕ) (tree : Tokens) → has_last (ends_all text tree (start_of text)) ≡ true → MatchesAll tree text
matched text tree h =
    let start = start_of text in
    let there = all_reached text tree start [] (start_covers text)
    (last_has text (ends_all text tree start) (covers_all text tree start (start_covers text)) h) in
    subst (MatchesAll tree) (sym (append-nil there.word) ∙ start_has text (there.word ++ []) there.begun) there.meant

matching : (text : List ℕ) (tree : Tokens) → MatchesAll tree text → has_last (ends_all text tree (start_of text)) ≡ true
matching text tree m =
    let start = start_of text in
    has_at_end text (ends_all text tree start) (covers_all text tree start (start_covers text))
    (reached_all text tree start [] text (start_covers text)
    (subst (λ x. Has text start x) (sym (append-nil text)) (has_start text)) m)

-- what tokens match, each of their trees does
pub meant : (tokens : List GlobToken) (tree : Tokens) (text : List ℕ) → flat tree ≡ tokens → Matches tokens text
    → MatchesAll tree text
meant tokens tree text e m =
    matched text tree
    (ap has_last (sym (tree_places text tree tokens e) ∙ tree_places text m.0 tokens m.1) ∙ matching text m.0 m.2)

-- the answer by sets of places is what the glob matches
pub balanced_answers : (tokens : List GlobToken) (text : List ℕ) (places : List Bool) → IsBalanced tokens
    → places ≡ (run text tokens (state (start_of text) [])).current
    → IsTrue (has_last places) ↔ Matches tokens text
balanced_answers tokens text places h e =
    let tree = pieces 0 tokens h in (
      λ b. (tree.0, tree.1, matched text tree.0 (ap has_last (sym (tree_places text tree.0 tokens tree.1)) ∙ (ap has_last (sym e) ∙ b))),
      λ m. ap has_last (e ∙ tree_places text m.0 tokens m.1) ∙ matching text m.0 m.2,
    )

-- the same of the tokens that a text spells
pub answers : (tokens : List GlobToken) (spelled text : List ℕ) (places : List Bool) → SpellsFrom 0 tokens spelled
    → places ≡ (run text tokens (state (start_of text) [])).current
    → IsTrue (has_last places) ↔ Matches tokens text
answers tokens spelled text places h e = balanced_answers tokens text places (spelled_closes 0 tokens spelled h) e
