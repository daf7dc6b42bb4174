-- What the bytes that wait say of the items of all that is ahead.
use Rattle.std.proofs.Common.{◌≡◌, ◌≢◌, ℕ, ◌+◌, ◌≤◌, Bool, true, false, cond, ltb, leb, eqb, ◌&&◌, ◌||◌, List, [], ◌∷◌, ◌++◌, length, Option, Some, None, refl, sym, ap, ◌∙◌, subst, arith, length-append, append-nil}
use Rattle.std.specs.List.{onto_first}
use Rattle.std.specs.Option.{option_map_or}
use Rattle.std.proofs.lemmas.Bool.Decides.{nat_tests}
use Rattle.test_runner_core_log_reader.specs.declared.limits.TheConstants.{LINE_LIMIT, LOG_LIMIT}
use Rattle.test_runner_core_log_reader.specs.declared.fault.LineFault.{LineFault}
use Rattle.test_runner_core_log_reader.specs.declared.fault.LineFault.TheVariants as faults
use Rattle.test_runner_core_log_reader.specs.Feeds.{IsPlain}
use Rattle.test_runner_core_log_reader.specs.Items.{Item, Line, Refused, line_fault, items_of, parts, items}

pub is_no_feed : (byte : ℕ) → byte ≢ 10 → eqb byte 10 ≡ false
is_no_feed byte other = grind (arith, nat_tests)

-- a text has a first part
pub parts_first : (bytes : List ℕ) → (first : List ℕ) × (more : List (List ℕ)) × (parts bytes ≡ first ∷ more)
parts_first [] = ([], [], refl)
parts_first (byte ∷ bytes) = by_byte (eqb byte 10) (parts_first bytes)
  where
    by_byte : (feed : Bool) → ((first : List ℕ) × (more : List (List ℕ)) × (parts bytes ≡ first ∷ more))
        → (first : List ℕ) × (more : List (List ℕ)) × (cond feed ([] ∷ parts bytes) (onto_first byte (parts bytes)) ≡ first ∷ more)
    by_byte true found = ([], parts bytes, refl)
    by_byte false found = (byte ∷ found.0, found.1, ap (onto_first byte) found.2)

-- plain bytes belong to the first part of what follows
pub parts_plain : (plain rest first : List ℕ) (more : List (List ℕ)) → IsPlain plain → parts rest ≡ first ∷ more → parts (plain ++ rest) ≡ (plain ++ first) ∷ more
parts_plain [] rest first more h e = e
parts_plain (byte ∷ plain) rest first more h e =
    ap (λ (feed : Bool). cond feed ([] ∷ parts (plain ++ rest)) (onto_first byte (parts (plain ++ rest)))) (is_no_feed byte h.0)
    ∙ ap (onto_first byte) (parts_plain plain rest first more h.1 e)

pub parts_line : (line rest : List ℕ) → IsPlain line → parts (line ++ 10 ∷ rest) ≡ line ∷ parts rest
parts_line line rest h = parts_plain line (10 ∷ rest) [] (parts rest) h refl ∙ ap (λ (l : List ℕ). l ∷ parts rest) (append-nil line)

-- a line that a line feed ends
abbrev then_items : ℕ → List ℕ → List (List ℕ) → Option LineFault → List Item
then_items before line rest fault = option_map_or (λ f. Refused f ∷ []) fault (Line line ∷ items_of (before + length line + 1) rest)

pub items_line : (before : ℕ) (line rest : List ℕ) → IsPlain line
    → items before (line ++ 10 ∷ rest) ≡ option_map_or (λ f. Refused f ∷ []) (line_fault before (length line) true) (Line line ∷ items (before + length line + 1) rest)
items_line before line rest h =
    let found = parts_first rest in
    ap (items_of before) (parts_line line rest h)
    ∙ ap (λ (ps : List (List ℕ)). items_of before (line ∷ ps)) found.2
    ∙ ap (λ (ps : List (List ℕ)). then_items before line ps (line_fault before (length line) true)) (sym found.2)

-- the bytes that wait at the end of the log
pub items_end : (before : ℕ) (last : List ℕ) → IsPlain last → items before last ≡ option_map_or (λ f. Refused f ∷ []) (line_fault before (length last) false) []
items_end before last h =
    ap (items_of before) (ap parts (sym (append-nil last)) ∙ parts_plain last [] [] [] h refl)
    ∙ ap (λ (line : List ℕ). items_of before (line ∷ [])) (append-nil last)

-- a fault of plain bytes that no further byte mends
abbrev pub IsOverLimit : LineFault → Type 0
IsOverLimit faults.LineTooLong = Unit {0}
IsOverLimit faults.LogTooLong = Unit {0}
IsOverLimit faults.NoLineEnd = ⊥

fault_stays : (before few many : ℕ) (ended : Bool) (fault : LineFault) → few ≤ many → IsOverLimit fault → line_fault before few false ≡ Some fault → line_fault before many ended ≡ Some fault
fault_stays before few many ended fault less limit h =
    by_tests (ltb LINE_LIMIT few && leb (before + LINE_LIMIT) LOG_LIMIT) (ltb LOG_LIMIT (before + few + 0)) (false || eqb few 0) refl refl fault limit h
  where
    by_tests : (a b c : Bool) → (ltb LINE_LIMIT few && leb (before + LINE_LIMIT) LOG_LIMIT) ≡ a → ltb LOG_LIMIT (before + few + 0) ≡ b → (fault : LineFault) → IsOverLimit fault
        → cond a (Some faults.LineTooLong) (cond b (Some faults.LogTooLong) (cond c None (Some faults.NoLineEnd))) ≡ Some fault → line_fault before many ended ≡ Some fault
    by_tests true b c ea eb fault limit h =
        let now : (ltb LINE_LIMIT many && leb (before + LINE_LIMIT) LOG_LIMIT) ≡ true = grind (arith, nat_tests) in
        ap (λ (t : Bool). cond t (Some faults.LineTooLong) (cond (ltb LOG_LIMIT (before + many + cond ended 1 0)) (Some faults.LogTooLong) (cond (ended || eqb many 0) None (Some faults.NoLineEnd)))) now ∙ h
    by_tests false true c ea eb fault limit h =
        let line : (ltb LINE_LIMIT many && leb (before + LINE_LIMIT) LOG_LIMIT) ≡ false = grind (arith, nat_tests) in
        let log : ltb LOG_LIMIT (before + many + cond ended 1 0) ≡ true = grind (arith, nat_tests) in
        ap (λ (t : Bool). cond t (Some faults.LineTooLong) (cond (ltb LOG_LIMIT (before + many + cond ended 1 0)) (Some faults.LogTooLong) (cond (ended || eqb many 0) None (Some faults.NoLineEnd)))) line
        ∙ ap (λ (t : Bool). cond t (Some faults.LogTooLong) (cond (ended || eqb many 0) None (Some faults.NoLineEnd))) log ∙ h
    by_tests false false true ea eb fault limit h = cc
    by_tests false false false ea eb fault limit h = let e : faults.NoLineEnd ≡ fault = cc in absurd (subst IsOverLimit (sym e) limit)

pub items_limit : (before : ℕ) (waiting rest : List ℕ) (fault : LineFault) → IsPlain waiting → IsOverLimit fault → line_fault before (length waiting) false ≡ Some fault
    → items before (waiting ++ rest) ≡ Refused fault ∷ []
items_limit before waiting rest fault plain limit h =
    let found = parts_first rest in
    ap (items_of before) (parts_plain waiting rest found.0 found.1 plain found.2)
    ∙ by_more found.1 (λ ended. fault_stays before (length waiting) (length (waiting ++ found.0)) ended fault (omega (arith, length-append waiting found.0)) limit h)
  where
    by_more : (more : List (List ℕ)) → ((ended : Bool) → line_fault before (length (waiting ++ (parts_first rest).0)) ended ≡ Some fault)
        → items_of before ((waiting ++ (parts_first rest).0) ∷ more) ≡ Refused fault ∷ []
    by_more [] stays = ap (λ (o : Option LineFault). option_map_or (λ f. Refused f ∷ []) o []) (stays false)
    by_more (next ∷ more) stays = ap (then_items before (waiting ++ (parts_first rest).0) (next ∷ more)) (stays true)
