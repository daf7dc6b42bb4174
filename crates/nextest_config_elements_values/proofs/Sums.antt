-- A text that is parts: its first part, and what is left.
use Rattle.std.proofs.Common.{◌≡◌, ℕ, ◌+◌, ◌<◌, ◌≤◌, List, [], ◌∷◌, ◌++◌, length, refl, sym, ap, ◌∙◌, subst, arith}
use Rattle.std.specs.Prelude.{sum_by}
use Rattle.std.specs.List.{AllByRecursion, flat_map}
use Rattle.std.proofs.lemmas.List.Sums.{sum_by-cons}
use Rattle.nextest_config_elements_values.specs.Duration.{Part, IsPart, text_of_part, nanos_of}
use Rattle.nextest_config_elements_values.specs.Ahead.{behind_part, StartsWith, Reads}
use Rattle.nextest_config_elements_values.proofs.Parts.{seen, parts_end, first_starts, one_start, start_is}

pub start_some : (text : List ℕ) (nanos : ℕ) → StartsWith text nanos → 0 < length text
start_some [] nanos start = absurd (omega (arith, start.some))
start_some (first ∷ further) nanos start = omega arith

-- a part in front of what is read
pub reads_more : (text : List ℕ) (nanos left : ℕ) → StartsWith text nanos → Reads (behind_part text) left → Reads text (nanos + left)
reads_more text nanos left start reads =
    let first = start_is text nanos start in
    let part = first.0 in
    let sums : sum_by nanos_of (part ∷ reads.parts) ≡ nanos_of part + sum_by nanos_of reads.parts = sum_by-cons nanos_of part reads.parts in
    record {
      parts = part ∷ reads.parts;
      each = (first.1, reads.each);
      whole = first.3 ∙ ap (λ (rest : List ℕ). text_of_part part ++ rest) reads.whole;
      adds_up = ap (λ (n : ℕ). n + left) first.2 ∙ ap (λ (n : ℕ). nanos_of part + n) reads.adds_up ∙ sym sums;
    }

-- parts, taken apart
first_of : (text : List ℕ) (part : Part) (further : List Part) → IsPart part → AllByRecursion IsPart further
    → text ≡ text_of_part part ++ flat_map text_of_part further → StartsWith text (nanos_of part) × (behind_part text ≡ flat_map text_of_part further)
first_of text part further is each whole =
    let rest = flat_map text_of_part further in
    let end = parts_end further each in (
      subst (λ (it : List ℕ). StartsWith it (nanos_of part)) (sym whole) (first_starts part rest is end),
      ap behind_part whole ∙ (seen part rest is end).left,
    )

less_of : (text : List ℕ) (nanos all : ℕ) → StartsWith text nanos → (parts : List Part) → AllByRecursion IsPart parts
    → text ≡ flat_map text_of_part parts → all ≡ sum_by nanos_of parts → (left : ℕ) × (all ≡ nanos + left) × Reads (behind_part text) left
less_of text nanos all start [] each whole adds = absurd (omega (arith, start_some text nanos start, ap length whole))
less_of text nanos all start (part ∷ further) each whole adds =
    let first = first_of text part further each.0 each.1 whole in
    let same : nanos ≡ nanos_of part = one_start text nanos (nanos_of part) start first.0 in (
      sum_by nanos_of further,
      adds ∙ sum_by-cons nanos_of part further ∙ ap (λ (n : ℕ). n + sum_by nanos_of further) (sym same),
      record { parts = further; each = each.1; whole = first.1; adds_up = refl },
    )

pub reads_less : (text : List ℕ) (nanos all : ℕ) → StartsWith text nanos → Reads text all
    → (left : ℕ) × (all ≡ nanos + left) × Reads (behind_part text) left
reads_less text nanos all start reads = less_of text nanos all start reads.parts reads.each reads.whole reads.adds_up

-- what is read and isn't empty starts with a part
start_of : (text : List ℕ) (all : ℕ) → 0 < length text → (parts : List Part) → AllByRecursion IsPart parts
    → text ≡ flat_map text_of_part parts → all ≡ sum_by nanos_of parts → (nanos : ℕ) × StartsWith text nanos × (nanos ≤ all)
start_of text all some [] each whole adds = absurd (omega (arith, ap length whole))
start_of text all some (part ∷ further) each whole adds =
    let first = first_of text part further each.0 each.1 whole in
    let sums = sum_by-cons nanos_of part further in
    (nanos_of part, first.0, omega (arith, adds, sums))

pub reads_start : (text : List ℕ) (all : ℕ) → 0 < length text → Reads text all → (nanos : ℕ) × StartsWith text nanos × (nanos ≤ all)
reads_start text all some reads = start_of text all some reads.parts reads.each reads.whole reads.adds_up

-- nothing is no part
none_of : (text : List ℕ) (all : ℕ) → length text ≡ 0 → (parts : List Part) → AllByRecursion IsPart parts
    → text ≡ flat_map text_of_part parts → all ≡ sum_by nanos_of parts → all ≡ 0
none_of text all none [] each whole adds = adds
none_of text all none (part ∷ further) each whole adds =
    let first = first_of text part further each.0 each.1 whole in
    absurd (omega (arith, start_some text (nanos_of part) first.0))

pub part_some : (text : List ℕ) (part : Part) (further : List Part) → AllByRecursion IsPart (part ∷ further)
    → text ≡ text_of_part part ++ flat_map text_of_part further → 0 < length text
part_some text part further each whole = start_some text (nanos_of part) (first_of text part further each.0 each.1 whole).0

pub reads_none : (text : List ℕ) (all : ℕ) → length text ≡ 0 → Reads text all → all ≡ 0
reads_none text all none reads = none_of text all none reads.parts reads.each reads.whole reads.adds_up

pub nothing_reads : (text : List ℕ) → length text ≡ 0 → Reads text 0
nothing_reads [] none = record { parts = []; each = tt; whole = refl; adds_up = refl }
nothing_reads (first ∷ further) none = absurd (omega arith)

-- parts add up to one sum
one_of : (parts : List Part) (text : List ℕ) (all other : ℕ) → AllByRecursion IsPart parts → text ≡ flat_map text_of_part parts
    → all ≡ sum_by nanos_of parts → Reads text other → all ≡ other
one_of [] text all other each whole adds reads = adds ∙ sym (reads_none text other (ap length whole) reads)
one_of (part ∷ further) text all other each whole adds reads =
    let first = first_of text part further each.0 each.1 whole in
    let less = reads_less text (nanos_of part) other first.0 reads in
    let rest : sum_by nanos_of further ≡ less.0 = one_of further (behind_part text) (sum_by nanos_of further) less.0 each.1 first.1 refl less.2 in
    adds ∙ sum_by-cons nanos_of part further ∙ ap (λ (n : ℕ). nanos_of part + n) rest ∙ sym less.1

pub one_sum : (text : List ℕ) (one other : ℕ) → Reads text one → Reads text other → one ≡ other
one_sum text one other left right = one_of left.parts text one other left.each left.whole left.adds_up right
