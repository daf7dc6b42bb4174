-- Rows that are joined along links.
use Rattle.std.proofs.Common.{◌≡◌, ℕ, ◌+◌, ◌*◌, ◌<◌, ◌≤◌, ◌⊎◌, List, get_or, take, length, ◌∙◌, sym, subst, inl, inr, arith, mul-le-mul_right}
use Rattle.std.specs.Prelude.{◌↔◌, Contains}
use Rattle.std.proofs.lemmas.List.Elements.{Contains-push_cases}
use Rattle.std.proofs.lemmas.List.{take_more}
use Rattle.nextest_filtering_graph.specs.Reaching.{Reaches, stay, onward, LinksBelow}
use Rattle.nextest_filtering_graph.specs.Rows.{HasBit, AreRows, AreClosed, AreReached}

-- a path and a path behind it
pub reaches_then : (links : List (ℕ × ℕ)) (i j k : ℕ) → Reaches links i j → Reaches links j k → Reaches links i k
reaches_then links i j k (stay at) second = second
reaches_then links i j k (onward from next to link rest) second = onward from next k link (reaches_then links next to k rest second)

-- a row of rows lies within the words
pub row_within : (links : List (ℕ × ℕ)) (width count : ℕ) (words : List ℕ) (i : ℕ) → AreRows links width count words → i < count → i * width + width ≤ length words
row_within links width count words i rows within =
    let fits : (i + 1) * width ≤ count * width = mul-le-mul_right width (omega arith) in
    omega (arith, rows.sized)

-- rows of which one was joined to another that it reaches
pub rows_after : (links : List (ℕ × ℕ)) (width count : ℕ) (old new : List ℕ) (from to : ℕ) → AreRows links width count old
    → Reaches links from to → to < count → length new ≡ length old
    → ((i j : ℕ) → j < 64 * width → HasBit new width i j ↔ (HasBit old width i j ⊎ ((i ≡ from) × HasBit old width to j)))
    → AreRows links width count new
rows_after links width count old new from to rows reaches within same joined = record {
  sized = same ∙ rows.sized;
  room = rows.room;
  sound = λ i j row bit has. elim ((joined i j (omega (arith, rows.room))).0 has) [
    | inl before ↦ rows.sound i j row bit before
    | inr more ↦ subst (λ (n : ℕ). Reaches links n j) (sym more.0) (reaches_then links from to j reaches (rows.sound to j within bit more.1))
  ];
  stays = λ i row. (joined i i (omega (arith, rows.room))).1 (inl (rows.stays i row));
}

-- one more link along which rows are closed
pub closed_more : (links : List (ℕ × ℕ)) (width count : ℕ) (words : List ℕ) (n : ℕ) (d : ℕ × ℕ) → n < length links
    → AreClosed (take n links) width count words
    → ((k : ℕ) → k < count → HasBit words width (get_or links n d).1 k → HasBit words width (get_or links n d).0 k)
    → AreClosed (take (n + 1) links) width count words
closed_more links width count words n d within before here i j k link small has =
    elim (Contains-push_cases (take n links) (get_or links n d) (i, j) (subst (λ (xs : List (ℕ × ℕ)). Contains xs (i, j)) (take_more links n d within) link)) [
      | inl earlier ↦ before i j k earlier small has
      | inr same ↦ subst (λ (it : ℕ × ℕ). HasBit words width it.0 k) same (here k small (subst (λ (it : ℕ × ℕ). HasBit words width it.1 k) (sym same) has))
    ]

-- rows that are closed along all links have all that is reached
pub all_reached : (links : List (ℕ × ℕ)) (width count : ℕ) (words : List ℕ) → LinksBelow count links → AreRows links width count words
    → AreClosed links width count words → (i k : ℕ) → Reaches links i k → k < count → HasBit words width i k
all_reached links width count words below rows closed i k (stay at) within = rows.stays at within
all_reached links width count words below rows closed i k (onward from next to link rest) within =
    closed from next to link within (all_reached links width count words below rows closed next to rest within)

pub reached : (links : List (ℕ × ℕ)) (width count : ℕ) (words : List ℕ) → LinksBelow count links → AreRows links width count words
    → AreClosed links width count words → AreReached links width count words
reached links width count words below rows closed i j row bit =
    (λ has. rows.sound i j row bit has, λ path. all_reached links width count words below rows closed i j path bit)

-- rows by which each place reaches itself alone
pub rows_of_one : (links : List (ℕ × ℕ)) (width count : ℕ) (words : List ℕ) → length words ≡ count * width → count ≤ 64 * width
    → ((i j : ℕ) → j < 64 * width → HasBit words width i j → i ≡ j)
    → ((i : ℕ) → i < count → HasBit words width i i)
    → AreRows links width count words
rows_of_one links width count words sized room only stays = record {
  sized = sized;
  room = room;
  sound = λ i j row bit has. subst (λ (n : ℕ). Reaches links i n) (only i j (omega arith) has) (stay i);
  stays = stays;
}
