-- The parts of a panic message's head, one behind the other.
use Rattle.std.proofs.Common.{◌≡◌, ◌≢◌, ℕ, List, [], ◌∷◌, ◌++◌, Option, Some, None, MatchOption, Bor, codes, refl, sym, ap, subst, ◌∙◌, inl, inr, append_assoc}
use Rattle.nextest_run_events_slices.specs.Places.{BeginsWith, IsName, IsNumber, IsId, IsPanicHead}
use Rattle.nextest_run_events_slices.proofs.Names.{same_named}
use Rattle.nextest_run_events_slices.proofs.Numbers.{same_numbered}

-- what ends a head, and a rest behind it
abbrev pub verb_then : List ℕ → List ℕ
verb_then rest = codes "panicked at " ++ rest

module _ (text : List ℕ) where
  -- an id that is read where no parenthesis stands is empty
  pub plain_id : ((left : List ℕ) → text ≢ codes "(" ++ left) → (rest : List ℕ) → BeginsWith IsId text rest → text ≡ rest
  plain_id other rest begins =
      elim begins.1 [
        | inl empty ↦ begins.2 ∙ ap (λ front. front ++ rest) empty
        | inr numbered ↦ absurd (other (numbered.0 ++ (41 ∷ 32 ∷ rest)) (begins.2 ∙ ap (λ front. front ++ rest) numbered.2 ∙ simp append_assoc))
      ]

  -- one that is read where a parenthesis stands is a number
  pub numbered_id : (left rest : List ℕ) → text ≡ codes "(" ++ left → BeginsWith IsId text (verb_then rest) → BeginsWith IsNumber left (41 ∷ 32 ∷ verb_then rest)
  numbered_id left rest e begins =
      elim begins.1 [
        | inl empty ↦ let wrong : codes "(" ++ left ≡ verb_then rest = sym e ∙ begins.2 ∙ ap (λ front. front ++ verb_then rest) empty in absurd (cc)
        | inr numbered ↦
            let whole : text ≡ codes "(" ++ (numbered.0 ++ (41 ∷ 32 ∷ verb_then rest)) = begins.2 ∙ ap (λ front. front ++ verb_then rest) numbered.2 ∙ simp append_assoc in
            let inner : left ≡ numbered.0 ++ (41 ∷ 32 ∷ verb_then rest) = cc in
            (numbered.0, numbered.1, inner)
      ]

  pub id_numbered : (left rest : List ℕ) → text ≡ codes "(" ++ left → BeginsWith IsNumber left (41 ∷ 32 ∷ rest) → BeginsWith IsId text rest
  id_numbered left rest e begins = (
    codes "(" ++ (begins.0 ++ codes ") "),
    inr (begins.0, begins.1, refl),
    e ∙ ap (λ l. codes "(" ++ l) begins.2 ∙ simp append_assoc,
  )

  pub verb_plain : (r : Option (Bor (List ℕ))) → ((left : List ℕ) → text ≢ codes "(" ++ left)
      → MatchOption r ((rest : List ℕ) → text ≢ verb_then rest) (λ rest. text ≡ verb_then rest.now)
      → MatchOption r ((rest : List ℕ) → ¬ (BeginsWith IsId text (verb_then rest))) (λ rest. BeginsWith IsId text (verb_then rest.now))
  verb_plain None other found = λ rest begins. found rest (plain_id other (verb_then rest) begins)
  verb_plain (Some x) other found = ([], inl refl, found)

  pub no_number : (left : List ℕ) → text ≡ codes "(" ++ left → ((rest : List ℕ) → ¬ (BeginsWith IsNumber left (41 ∷ 32 ∷ rest))) → (rest : List ℕ) → ¬ (BeginsWith IsId text (verb_then rest))
  no_number left e not rest begins = not (verb_then rest) (numbered_id left rest e begins)

  pub verb_numbered : (left verb : List ℕ) (r : Option (Bor (List ℕ))) → text ≡ codes "(" ++ left → BeginsWith IsNumber left (41 ∷ 32 ∷ verb)
      → MatchOption r ((rest : List ℕ) → verb ≢ verb_then rest) (λ rest. verb ≡ verb_then rest.now)
      → MatchOption r ((rest : List ℕ) → ¬ (BeginsWith IsId text (verb_then rest))) (λ rest. BeginsWith IsId text (verb_then rest.now))
  verb_numbered left verb None e numbered found = λ rest begins.
      let other = numbered_id left rest e begins in
      let same : 32 ∷ verb ≡ 32 ∷ verb_then rest = (same_numbered numbered.0 other.0 (32 ∷ verb) (32 ∷ verb_then rest) numbered.1 other.1 (sym numbered.2 ∙ other.2)).1 in
      let inner : verb ≡ verb_then rest = cc in
      found rest inner
  verb_numbered left verb (Some x) e numbered found = id_numbered left (verb_then x.now) e (subst (λ v. BeginsWith IsNumber left (41 ∷ 32 ∷ v)) found numbered)

  -- what stands behind an id and the verb is the same for each id
  pub same_id : (rest left : List ℕ) → BeginsWith IsId text (verb_then rest) → BeginsWith IsId text (verb_then left) → rest ≡ left
  same_id rest left one other = elim one.1 [
    | inl empty ↦
        let here : text ≡ verb_then rest = one.2 ∙ ap (λ front. front ++ verb_then rest) empty in
        let there : text ≡ verb_then left = plain_id (λ l e. let wrong : verb_then rest ≡ codes "(" ++ l = sym here ∙ e in (cc)) (verb_then left) other in
        let both : verb_then rest ≡ verb_then left = sym here ∙ there in
        (cc)
    | inr numbered ↦
        let whole : text ≡ codes "(" ++ (numbered.0 ++ (41 ∷ 32 ∷ verb_then rest)) = one.2 ∙ ap (λ front. front ++ verb_then rest) numbered.2 ∙ simp append_assoc in
        let second = numbered_id (numbered.0 ++ (41 ∷ 32 ∷ verb_then rest)) left whole other in
        let same : 32 ∷ verb_then rest ≡ 32 ∷ verb_then left = (same_numbered numbered.0 second.0 (32 ∷ verb_then rest) (32 ∷ verb_then left) numbered.1 second.1 second.2).1 in
        (cc)
  ]

-- the parts that a head's reading goes by
pub record AreParts (text rest : List ℕ) : Type 0 where
  pub named : List ℕ
  pub numbered : List ℕ
  pub opens : text ≡ codes "thread '" ++ named
  pub name : BeginsWith IsName named (39 ∷ 32 ∷ numbered)
  pub id : BeginsWith IsId numbered (verb_then rest)

pub parts_of : (text rest : List ℕ) → BeginsWith IsPanicHead text rest → AreParts text rest
parts_of text rest begins =
    let head = begins.1 in
    record {
      named = head.name ++ (39 ∷ 32 ∷ (head.id ++ verb_then rest));
      numbered = head.id ++ verb_then rest;
      opens = begins.2 ∙ ap (λ front. front ++ rest) head.reads ∙ simp append_assoc;
      name = (head.name, head.named, refl);
      id = (head.id, head.numbered, refl);
    }

pub head_of : (text rest : List ℕ) → AreParts text rest → BeginsWith IsPanicHead text rest
head_of text rest parts = (
  codes "thread '" ++ (parts.name.0 ++ (codes "' " ++ (parts.id.0 ++ codes "panicked at "))),
  record { name = parts.name.0; id = parts.id.0; named = parts.name.1; numbered = parts.id.1; reads = refl },
  parts.opens ∙ ap (λ n. codes "thread '" ++ n) (parts.name.2 ∙ ap (λ n. parts.name.0 ++ (39 ∷ 32 ∷ n)) parts.id.2) ∙ simp append_assoc,
)

module _ (text : List ℕ) (named : List ℕ) (opens : text ≡ codes "thread '" ++ named) where
  pub same_opened : (rest : List ℕ) (parts : AreParts text rest) → parts.named ≡ named
  same_opened rest parts =
      let both : codes "thread '" ++ parts.named ≡ codes "thread '" ++ named = sym parts.opens ∙ opens in
      (cc)

  pub no_head_unnamed : ((rest : List ℕ) → ¬ (BeginsWith IsName named (39 ∷ rest))) → (rest : List ℕ) → ¬ (BeginsWith IsPanicHead text rest)
  no_head_unnamed not rest begins =
      let parts = parts_of text rest begins in
      not (32 ∷ parts.numbered) (subst (λ n. BeginsWith IsName n (39 ∷ 32 ∷ parts.numbered)) (same_opened rest parts) parts.name)

  module _ (quoted : List ℕ) (is_named : BeginsWith IsName named (39 ∷ quoted)) where
    pub same_quoted : (rest : List ℕ) (parts : AreParts text rest) → quoted ≡ 32 ∷ parts.numbered
    same_quoted rest parts =
        let other = subst (λ n. BeginsWith IsName n (39 ∷ 32 ∷ parts.numbered)) (same_opened rest parts) parts.name in
        (same_named is_named.0 other.0 quoted (32 ∷ parts.numbered) is_named.1 other.1 (sym is_named.2 ∙ other.2)).1

    pub no_head_unspaced : ((rest : List ℕ) → quoted ≢ codes " " ++ rest) → (rest : List ℕ) → ¬ (BeginsWith IsPanicHead text rest)
    no_head_unspaced not rest begins = let parts = parts_of text rest begins in not parts.numbered (same_quoted rest parts)

    pub head_behind : (numbered : List ℕ) (r : Option (Bor (List ℕ))) → quoted ≡ codes " " ++ numbered
        → MatchOption r ((rest : List ℕ) → ¬ (BeginsWith IsId numbered (verb_then rest))) (λ rest. BeginsWith IsId numbered (verb_then rest.now))
        → MatchOption r ((rest : List ℕ) → ¬ (BeginsWith IsPanicHead text rest)) (λ rest. BeginsWith IsPanicHead text rest.now)
    head_behind numbered None spaced found = λ rest begins.
        let parts = parts_of text rest begins in
        let both : 32 ∷ numbered ≡ 32 ∷ parts.numbered = sym spaced ∙ same_quoted rest parts in
        let inner : parts.numbered ≡ numbered = cc in
        found rest (subst (λ n. BeginsWith IsId n (verb_then rest)) inner parts.id)
    head_behind numbered (Some x) spaced found = head_of text x.now (record {
      named = named;
      numbered = numbered;
      opens = opens;
      name = subst (λ q. BeginsWith IsName named (39 ∷ q)) spaced is_named;
      id = found;
    })

pub no_head_unopened : (text : List ℕ) → ((rest : List ℕ) → text ≢ codes "thread '" ++ rest) → (rest : List ℕ) → ¬ (BeginsWith IsPanicHead text rest)
no_head_unopened text not rest begins = let parts = parts_of text rest begins in not parts.named parts.opens

-- what stands behind a head is the same for each head
pub same_headed : (text rest left : List ℕ) → BeginsWith IsPanicHead text rest → BeginsWith IsPanicHead text left → rest ≡ left
same_headed text rest left one other =
    let first = parts_of text rest one in
    let second = parts_of text left other in
    let both : 32 ∷ first.numbered ≡ 32 ∷ second.numbered = same_quoted text first.named first.opens (32 ∷ first.numbered) first.name left second in
    let same : second.numbered ≡ first.numbered = cc in
    same_id first.numbered rest left first.id (subst (λ n. BeginsWith IsId n (verb_then left)) same second.id)
