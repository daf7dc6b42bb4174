-- The longest run of bytes that pass at the start of a text, and what follows it.
use Rattle.std.proofs.Common.{◌≡◌, ℕ, ◌<◌, Bool, true, false, not, List, [], ◌∷◌, ◌++◌, length, get_or, take, drop, refl, sym, ap, ◌∙◌, arith}
use Rattle.std.specs.List.{list_all, position_or_len}
use Rattle.std.proofs.Math.Numerals.{one-add}
use Rattle.std.proofs.Math.Seq.{take-append_seam, drop-append_seam, take-length, drop-length}
use Rattle.std.proofs.lemmas.Bool.{and_parts, and_from}
use Rattle.std.proofs.lemmas.List.{take-append-drop}
use Rattle.std.proofs.lemmas.List.Sums.{position_or_len_is}
use Rattle.nextest_config_elements_values.specs.Ahead.{run, behind}

-- the run ends where a byte fails, or at the end
pub ends_at : (test : ℕ → Bool) (text : List ℕ) (i : ℕ) → i < length text → ((k : ℕ) → k < i → test (get_or text k 0) ≡ true)
    → test (get_or text i 0) ≡ false → position_or_len (λ byte. not (test byte)) text ≡ i
ends_at test text i within passes fails =
    position_or_len_is (λ byte. not (test byte)) text i 0 (omega arith) (λ k below. ap not (passes k below)) (λ _. ap not fails)

pub ends_last : (test : ℕ → Bool) (text : List ℕ) → ((k : ℕ) → k < length text → test (get_or text k 0) ≡ true)
    → position_or_len (λ byte. not (test byte)) text ≡ length text
ends_last test text passes =
    position_or_len_is (λ byte. not (test byte)) text (length text) 0 (omega arith) (λ k below. ap not (passes k below))
    (λ past. absurd (omega arith))

pub whole_run : (test : ℕ → Bool) (text : List ℕ) → ((k : ℕ) → k < length text → test (get_or text k 0) ≡ true)
    → (text ≡ run test text) × ([] ≡ behind test text)
whole_run test text passes =
    let last = ends_last test text passes in
    (sym (ap (λ (n : ℕ). take n text) last ∙ take-length text), sym (ap (λ (n : ℕ). drop n text) last ∙ drop-length text))

-- the first byte of a text passes
abbrev pub starts : (ℕ → Bool) → List ℕ → Bool
starts test [] = false
starts test (first ∷ further) = test first

-- bytes that pass, before one that doesn't, are the run
run_length : (test : ℕ → Bool) (front rest : List ℕ) → list_all test front ≡ true → starts test rest ≡ false
    → position_or_len (λ byte. not (test byte)) (front ++ rest) ≡ length front
run_length test [] [] all stops = refl
run_length test [] (first ∷ rest) all stops = rw stops refl
run_length test (first ∷ front) rest all stops =
    let both = and_parts (test first) (list_all test front) all in
    let further = run_length test front rest both.1 stops in
    rw both.0 (omega (arith, further))

pub run_front : (test : ℕ → Bool) (front rest : List ℕ) → list_all test front ≡ true → starts test rest ≡ false
    → run test (front ++ rest) ≡ front
run_front test front rest all stops = rw (run_length test front rest all stops) (take-append_seam front rest)

pub behind_front : (test : ℕ → Bool) (front rest : List ℕ) → list_all test front ≡ true → starts test rest ≡ false
    → behind test (front ++ rest) ≡ rest
behind_front test front rest all stops = rw (run_length test front rest all stops) (drop-append_seam front rest)

-- a text is its run and what follows
pub run_behind : (test : ℕ → Bool) (text : List ℕ) → text ≡ run test text ++ behind test text
run_behind test text = sym (take-append-drop (position_or_len (λ byte. not (test byte)) text) text)

-- the bytes of a run pass
run_passes_on : (test : ℕ → Bool) (first : ℕ) (further : List ℕ) → list_all test (run test further) ≡ true → (b : Bool) → test first ≡ b
    → list_all test (run test (first ∷ further)) ≡ true
run_passes_on test first further on true passes = rw (passes, one-add) (and_from (test first) (list_all test (run test further)) passes on)
run_passes_on test first further on false fails = rw fails refl

pub run_passes : (test : ℕ → Bool) (text : List ℕ) → list_all test (run test text) ≡ true
run_passes test [] = refl
run_passes test (first ∷ further) = run_passes_on test first further (run_passes test further) (test first) refl
