-- What a reading of a text with escapes knows, escape by escape.
use Rattle.std.proofs.lemmas.Str.{encode_same, len_utf8_bounds, length-encode}
use Rattle.std.proofs.Common.{◌≡◌, ◌≢◌, ℕ, ◌+◌, ◌-◌, ◌<◌, ◌≤◌, Bool, true, false, not, eqb, Option, List, [], ◌∷◌, ◌++◌, length, get_or, Some, None, refl, sym, ap, ◌∙◌, subst, arith, inl, inr, suc}
use Rattle.std.specs.Prelude.{encode_utf8}
use Rattle.std.specs.List.{AllByRecursion, flat_map}
use Rattle.std.specs.Str.Parse.{AllDigits}
use Rattle.std.proofs.lemmas.Bool.{and_parts, and_from, not_from_false, ne_eqb, false≢true}
use Rattle.std.proofs.lemmas.List.{append-nil, append_assoc, length-append}
use Rattle.nextest_filtering_escapes.specs.declared.escapes.EscapeSpan.{EscapeSpan}
use Rattle.nextest_filtering_escapes.specs.Text.{Piece, Plain, Escaped, Unicode, IsPiece, IsText, spelling, meaning, is_plain, is_end}
use Rattle.nextest_filtering_escapes.specs.Ends.{IsUnended, is_unended}
use Rattle.nextest_filtering_escapes.specs.Spans.{IsBadEscape, IsSpanOf, Rise}
use Rattle.nextest_filtering_escapes.specs.Reading.{ReadsEscape}
use Rattle.nextest_filtering_escapes.specs.Parts.{Part, Good, Bad, IsLoosePiece, IsPart, AreParts, IsRead, part_bytes, part_text, span_at, spans_of}
use Rattle.nextest_filtering_escapes.proofs.Fronts.{digit_not}
use Rattle.nextest_filtering_escapes.proofs.Pieces.{text_behind, text_first, same_piece, first_byte}

-- ---- pieces where a plain `)` or `,` stands for itself

pub record IsLoose (raw text : List ℕ) : Type 0 where
  pub pieces : List Piece
  pub each : AllByRecursion IsLoosePiece pieces
  pub spelled : raw ≡ flat_map spelling pieces
  pub meant : text ≡ flat_map meaning pieces

loose_none : IsLoose [] []
loose_none = record { pieces = []; each = tt; spelled = refl; meant = refl }

loose_more : (p : Piece) (raw text : List ℕ) → IsLoosePiece p → IsLoose raw text → IsLoose (spelling p ++ raw) (meaning p ++ text)
loose_more p raw text is rest = record {
  pieces = p ∷ rest.pieces;
  each = (is, rest.each);
  spelled = ap (λ (x : List ℕ). spelling p ++ x) rest.spelled;
  meant = ap (λ (x : List ℕ). meaning p ++ x) rest.meant;
}

loosened : (p : Piece) → IsPiece p → IsLoosePiece p
loosened (Plain byte) is = λ same. let wrong : is_plain 92 ≡ true = subst (λ (b : ℕ). is_plain b ≡ true) same is in false≢true wrong
loosened (Escaped letter meant) is = is
loosened (Unicode digits scalar) is = is

-- no byte is a `\`
abbrev pub IsBare : List ℕ → Type 0
IsBare bytes = AllByRecursion (λ byte. byte ≢ 92) bytes

pub bare_from : (bytes : List ℕ) → ((i : ℕ) → i < length bytes → get_or bytes i 0 ≢ 92) → IsBare bytes
bare_from [] none = tt
bare_from (byte ∷ bytes) none = (none 0 (omega arith), bare_from bytes (λ i small. none (suc i) (omega arith)))

loose_bare : (bytes raw text : List ℕ) → IsBare bytes → IsLoose raw text → IsLoose (bytes ++ raw) (bytes ++ text)
loose_bare [] raw text bare rest = rest
loose_bare (byte ∷ bytes) raw text bare rest = loose_more (Plain byte) (bytes ++ raw) (bytes ++ text) bare.0 (loose_bare bytes raw text bare.1 rest)

pub loose_all : (bytes : List ℕ) → IsBare bytes → IsLoose bytes bytes
loose_all [] bare = loose_none
loose_all (byte ∷ bytes) bare = loose_more (Plain byte) bytes bytes bare.0 (loose_all bytes bare.1)

-- ---- with no end inside, such pieces are pieces

digits_ended : (digits more : List ℕ) → AllDigits 16 digits → is_unended false ((digits ++ 125 ∷ []) ++ more) ≡ true → is_unended false more ≡ true
digits_ended [] more are goes = goes
digits_ended (byte ∷ digits) more are goes =
    let next = (and_parts (not (is_end byte)) _ goes).1 in
    digits_ended digits more are.1 (ap (λ (b : Bool). is_unended b ((digits ++ 125 ∷ []) ++ more)) (sym (digit_not byte 92 are.0 refl)) ∙ next)

pub piece_tight : (p : Piece) (more : List ℕ) → IsLoosePiece p → is_unended false (spelling p ++ more) ≡ true → IsPiece p × (is_unended false more ≡ true)
piece_tight (Plain byte) more is goes =
    let parts = and_parts (not (is_end byte)) _ goes in
    let bare = ne_eqb byte 92 is in (
      and_from (not (eqb byte 92)) (not (is_end byte)) (not_from_false (eqb byte 92) bare) parts.0,
      ap (λ (b : Bool). is_unended b more) (sym bare) ∙ parts.1,
    )
piece_tight (Escaped letter meant) more is goes = (is, goes)
piece_tight (Unicode digits scalar) more is goes = (is, digits_ended digits more is.0.2 goes)

pieces_tight : (ps : List Piece) → AllByRecursion IsLoosePiece ps → is_unended false (flat_map spelling ps) ≡ true → AllByRecursion IsPiece ps
pieces_tight [] each goes = tt
pieces_tight (p ∷ ps) each goes = let first = piece_tight p (flat_map spelling ps) each.0 goes in (first.0, pieces_tight ps each.1 first.1)

pub text_from_loose : (raw text : List ℕ) → IsLoose raw text → IsUnended raw → IsText raw text
text_from_loose raw text loose goes = record {
  pieces = loose.pieces;
  each = pieces_tight loose.pieces loose.each (ap (λ (x : List ℕ). is_unended false x) (sym loose.spelled) ∙ goes);
  spelled = loose.spelled;
  meant = loose.meant;
}

-- ---- what follows plain bytes of a text is a text

abbrev pub SomeText : List ℕ → Type 0
SomeText raw = (text : List ℕ) × IsText raw text

behind_plain : (byte : ℕ) (bytes text : List ℕ) → byte ≢ 92 → IsText (byte ∷ bytes) text → SomeText bytes
behind_plain byte bytes text bare has = at has.pieces has.each has.spelled where
  at : (ps : List Piece) → AllByRecursion IsPiece ps → byte ∷ bytes ≡ flat_map spelling ps → SomeText bytes
  at [] each spelled = cc
  at (Plain b ∷ ps) each spelled = (flat_map meaning ps, record { pieces = ps; each = each.1; spelled = cc; meant = refl })
  at (Escaped l m ∷ ps) each spelled = absurd (bare (cc))
  at (Unicode d s ∷ ps) each spelled = absurd (bare (cc))

behind_bare : (plain raw text : List ℕ) → IsBare plain → IsText (plain ++ raw) text → SomeText raw
behind_bare [] raw text bare has = (text, has)
behind_bare (byte ∷ plain) raw text bare has =
    let next = behind_plain byte (plain ++ raw) text bare.0 has in
    behind_bare plain raw next.0 bare.1 next.1

-- ---- spans

rise_wider : (low mid high : ℕ) (spans : List EscapeSpan) → Rise low spans mid → mid ≤ high → Rise low spans high
rise_wider low mid high [] rise wider = omega arith
rise_wider low mid high (span ∷ spans) rise wider = (rise.0, rise_wider (span.offset + span.length) mid high spans rise.1 wider)

rise_push : (low mid high : ℕ) (spans : List EscapeSpan) (span : EscapeSpan) → Rise low spans mid → mid ≤ span.offset
    → span.offset + span.length ≤ high → Rise low (spans ++ span ∷ []) high
rise_push low mid high [] span rise begins ends = (omega arith, ends)
rise_push low mid high (first ∷ spans) span rise begins ends =
    (rise.0, rise_push (first.offset + first.length) mid high spans span rise.1 begins ends)

each_push : (P : EscapeSpan → Type 0) (spans : List EscapeSpan) (span : EscapeSpan) → AllByRecursion P spans → P span → AllByRecursion P (spans ++ span ∷ [])
each_push P [] span each is = (is, tt)
each_push P (first ∷ spans) span each is = (each.0, each_push P spans span each.1 is)

not_nil : (spans : List EscapeSpan) (span : EscapeSpan) → spans ++ span ∷ [] ≡ [] → ⊥
not_nil [] span same = cc
not_nil (first ∷ spans) span same = cc

bad_long : (bytes ahead : List ℕ) → IsBadEscape bytes ahead → 0 < length bytes
bad_long bytes ahead (inl alone) = omega (arith, ap length alone.0)
bad_long bytes ahead (inr (character, scalar, is)) = omega (arith, ap length is)

-- ---- parts

span_is : (offset size : ℕ) (span : EscapeSpan) → offset ≡ span.offset → size ≡ span.length → span_at offset size ≡ span
span_is offset size span at long = ap (λ (n : ℕ). span_at n size) at ∙ ap (λ (n : ℕ). span_at span.offset n) long

-- each byte a part that stands for itself
abbrev plain_parts : List ℕ → List Part → List Part
plain_parts [] parts = parts
plain_parts (byte ∷ bytes) parts = Good (Plain byte) ∷ plain_parts bytes parts

plain_are : (bytes : List ℕ) (parts : List Part) → IsBare bytes → AreParts parts → AreParts (plain_parts bytes parts)
plain_are [] parts bare are = are
plain_are (byte ∷ bytes) parts bare are = (bare.0, plain_are bytes parts bare.1 are)

plain_bytes : (bytes : List ℕ) (parts : List Part) → flat_map part_bytes (plain_parts bytes parts) ≡ bytes ++ flat_map part_bytes parts
plain_bytes [] parts = refl
plain_bytes (byte ∷ bytes) parts = ap (λ (x : List ℕ). byte ∷ x) (plain_bytes bytes parts)

plain_text : (bytes : List ℕ) (parts : List Part) → flat_map part_text (plain_parts bytes parts) ≡ bytes ++ flat_map part_text parts
plain_text [] parts = refl
plain_text (byte ∷ bytes) parts = ap (λ (x : List ℕ). byte ∷ x) (plain_text bytes parts)

plain_spans : (offset : ℕ) (bytes : List ℕ) (parts : List Part) → spans_of offset (plain_parts bytes parts) ≡ spans_of (offset + length bytes) parts
plain_spans offset [] parts = ap (λ (n : ℕ). spans_of n parts) (omega arith)
plain_spans offset (byte ∷ bytes) parts = plain_spans (offset + 1) bytes parts ∙ ap (λ (n : ℕ). spans_of n parts) (omega arith)

-- whatever the parts ahead are, the whole is read with them
abbrev Continues : List ℕ → List ℕ → List ℕ → List ℕ → List EscapeSpan → Type 0
Continues raw front rest text bad = (parts : List Part) → AreParts parts → rest ≡ flat_map part_bytes parts
    → IsRead raw (text ++ flat_map part_text parts) (bad ++ spans_of (length front) parts)

read_as : (raw x y : List ℕ) (s t : List EscapeSpan) → x ≡ y → s ≡ t → IsRead raw x s → IsRead raw y t
read_as raw x y s t texts spans read = record {
  parts = read.parts;
  each = read.each;
  whole = read.whole;
  meant = sym texts ∙ read.meant;
  told = sym spans ∙ read.told;
}

-- one part more, behind plain bytes
continues_more : (raw front rest text plain ahead after : List ℕ) (bad more : List EscapeSpan) (part : Part)
    → Continues raw front rest text bad → rest ≡ plain ++ (part_bytes part ++ ahead) → IsBare plain → IsPart part ahead
    → after ≡ (text ++ plain) ++ part_text part
    → ((parts : List Part) → bad ++ spans_of (length front + length plain) (part ∷ parts)
    ≡ more ++ spans_of (length ((front ++ plain) ++ part_bytes part)) parts)
    → Continues raw ((front ++ plain) ++ part_bytes part) ahead after more
continues_more raw front rest text plain ahead after bad more part known parted bare is after_is spans = λ parts are spelled.
    let here : IsPart part (flat_map part_bytes parts) = subst (λ (x : List ℕ). IsPart part x) spelled is in
    let whole : rest ≡ flat_map part_bytes (plain_parts plain (part ∷ parts)) =
    parted ∙ ap (λ (x : List ℕ). plain ++ (part_bytes part ++ x)) spelled ∙ sym (plain_bytes plain (part ∷ parts)) in
    let read = known (plain_parts plain (part ∷ parts)) (plain_are plain (part ∷ parts) bare (here, are)) whole in
    read_as raw (text ++ flat_map part_text (plain_parts plain (part ∷ parts))) (after ++ flat_map part_text parts)
    (bad ++ spans_of (length front) (plain_parts plain (part ∷ parts))) (more ++ spans_of (length ((front ++ plain) ++ part_bytes part)) parts)
    (ap (λ (x : List ℕ). text ++ x) (plain_text plain (part ∷ parts))
    ∙ sym (append_assoc text plain (part_text part ++ flat_map part_text parts)) ∙ sym (append_assoc (text ++ plain) (part_text part) (flat_map part_text parts))
    ∙ ap (λ (x : List ℕ). x ++ flat_map part_text parts) (sym after_is))
    (ap (λ (x : List EscapeSpan). bad ++ x) (plain_spans (length front) plain (part ∷ parts)) ∙ spans parts)
    read

-- ---- the reading

-- of raw, rest is still ahead, text was read, and bad escapes were found
pub record Readable (raw rest text : List ℕ) (bad : List EscapeSpan) : Type 0 where
  pub front : List ℕ
  pub whole : raw ≡ front ++ rest
  pub loose : bad ≡ [] → (more : List ℕ) → IsLoose rest more → IsLoose raw (text ++ more)
  pub only : (meant : List ℕ) → IsText raw meant → (bad ≡ []) × SomeText rest
  pub spans : AllByRecursion (IsSpanOf raw) bad
  pub rise : Rise 0 bad (length front)
  pub read : Continues raw front rest text bad

-- an escape was read
pub readable_good : (raw rest text : List ℕ) (bad : List EscapeSpan) (plain behind ahead after : List ℕ) (character : ℕ)
    → Readable raw rest text bad → rest ≡ plain ++ 92 ∷ behind → IsBare plain → ReadsEscape behind (Some character) ahead
    → after ≡ (text ++ plain) ++ encode_utf8 character → Readable raw ahead after bad
readable_good raw rest text bad plain behind ahead after character known parted bare (piece, is, spelled, means) after_is = record {
  front = (known.front ++ plain) ++ spelling piece;
  whole = known.whole ∙ ap (λ (x : List ℕ). known.front ++ x) (parted ∙ ap (λ (x : List ℕ). plain ++ x) spelled)
      ∙ sym (append_assoc known.front plain (spelling piece ++ ahead)) ∙ sym (append_assoc (known.front ++ plain) (spelling piece) ahead);
  loose = λ none more has.
      let one : IsLoose (92 ∷ behind) (encode_utf8 character ++ more) =
      subst (λ (x : List ℕ). IsLoose x (encode_utf8 character ++ more)) (sym spelled)
      (subst (λ (x : List ℕ). IsLoose (spelling piece ++ ahead) (x ++ more)) means (loose_more piece ahead more (loosened piece is) has)) in
      let all : IsLoose rest (plain ++ (encode_utf8 character ++ more)) =
      subst (λ (x : List ℕ). IsLoose x (plain ++ (encode_utf8 character ++ more))) (sym parted)
      (loose_bare plain (92 ∷ behind) (encode_utf8 character ++ more) bare one) in
      subst (λ (x : List ℕ). IsLoose raw x)
      (sym (append_assoc text plain (encode_utf8 character ++ more)) ∙ sym (append_assoc (text ++ plain) (encode_utf8 character) more)
      ∙ ap (λ (x : List ℕ). x ++ more) (sym after_is))
      (known.loose none (plain ++ (encode_utf8 character ++ more)) all);
  only = λ meant has.
      let found = known.only meant has in
      let next = behind_bare plain (92 ∷ behind) found.1.0 bare (subst (λ (x : List ℕ). IsText x found.1.0) parted found.1.1) in
      let last = text_behind piece ahead (92 ∷ behind) next.0 is spelled next.1 in
      (found.0, (last.0, last.1));
  spans = known.spans;
  rise = rise_wider 0 (length known.front) (length ((known.front ++ plain) ++ spelling piece)) bad known.rise
      (omega (arith, length-append known.front plain, length-append (known.front ++ plain) (spelling piece)));
  read = continues_more raw known.front rest text plain ahead after bad bad (Good piece) known.read
      (parted ∙ ap (λ (x : List ℕ). plain ++ x) spelled) bare (loosened piece is)
      (after_is ∙ ap (λ (x : List ℕ). (text ++ plain) ++ x) (sym means))
      (λ parts. ap (λ (n : ℕ). bad ++ spans_of n parts) (omega (arith, length-append known.front plain, length-append (known.front ++ plain) (spelling piece))));
}

-- a bad escape was found
pub readable_bad : (raw rest text : List ℕ) (bad : List EscapeSpan) (plain behind ahead after : List ℕ) (span : EscapeSpan)
    → Readable raw rest text bad → rest ≡ plain ++ 92 ∷ behind → IsBare plain → ReadsEscape behind None ahead → after ≡ text ++ plain
    → span.offset ≡ length raw - length behind - 1 → span.length ≡ length behind - length ahead + 1
    → Readable raw ahead after (bad ++ span ∷ [])
readable_bad raw rest text bad plain behind ahead after span known parted bare (none, (bytes, spelled, is_bad)) after_is offset long =
    let before = known.front ++ plain in
    let whole : raw ≡ (before ++ bytes) ++ ahead =
    known.whole ∙ ap (λ (x : List ℕ). known.front ++ x) (parted ∙ ap (λ (x : List ℕ). plain ++ x) spelled)
    ∙ sym (append_assoc known.front plain (bytes ++ ahead)) ∙ sym (append_assoc before bytes ahead) in
    let counted = ap length whole in
    let first = length-append (before ++ bytes) ahead in
    let second = length-append before bytes in
    let third = length-append known.front plain in
    let fourth = ap length spelled in
    let fifth = length-append bytes ahead in
    let some = bad_long bytes ahead is_bad in
    let begins : span.offset ≡ length before = omega arith in
    let ends : span.length ≡ length bytes = omega arith in
    record {
      front = before ++ bytes;
      whole = whole;
      loose = λ nil. absurd (not_nil bad span nil);
      only = λ meant has.
          let found = known.only meant has in
          let next = behind_bare plain (92 ∷ behind) found.1.0 bare (subst (λ (x : List ℕ). IsText x found.1.0) parted found.1.1) in
          let piece = text_first 92 behind next.0 next.1 in
          absurd (none piece.0 piece.1 piece.2 piece.3);
      spans = each_push (IsSpanOf raw) bad span known.spans
          (record { before = before; bytes = bytes; behind = ahead; whole = whole; begins = begins; long = ends; bad = is_bad });
      rise = rise_push 0 (length known.front) (length (before ++ bytes)) bad span known.rise (omega arith) (omega arith);
      read = continues_more raw known.front rest text plain ahead after bad (bad ++ span ∷ []) (Bad bytes) known.read
          (parted ∙ ap (λ (x : List ℕ). plain ++ x) spelled) bare
          (is_bad, λ piece rest is same. none piece rest is (spelled ∙ same))
          (after_is ∙ sym (append-nil (text ++ plain)))
          (λ parts.
          let at : length known.front + length plain ≡ span.offset = omega arith in
          let size : length bytes ≡ span.length = omega arith in
          let next : (length known.front + length plain) + length bytes ≡ length (before ++ bytes) = omega arith in
          ap (λ (x : List EscapeSpan). bad ++ x)
          (ap (λ (x : EscapeSpan). x ∷ spans_of ((length known.front + length plain) + length bytes) parts) (span_is (length known.front + length plain) (length bytes) span at size)
          ∙ ap (λ (n : ℕ). span ∷ spans_of n parts) next)
          ∙ sym (append_assoc bad (span ∷ []) (spans_of (length (before ++ bytes)) parts)));
    }

-- what is ahead is shorter
pub behind_within : (raw rest text : List ℕ) (bad : List EscapeSpan) (plain behind : List ℕ) → Readable raw rest text bad → rest ≡ plain ++ 92 ∷ behind
    → length behind < length raw
behind_within raw rest text bad plain behind known parted =
    let first = length-append known.front rest in
    let second = length-append plain (92 ∷ behind) in
    omega (arith, ap length known.whole, ap length parted)

piece_long : (piece : Piece) → 1 ≤ length (spelling piece)
piece_long (Plain byte) = omega arith
piece_long (Escaped letter meant) = omega arith
piece_long (Unicode digits scalar) = omega arith

pub ahead_within : (behind : List ℕ) (meant : Option ℕ) (ahead : List ℕ) → ReadsEscape behind meant ahead → length ahead ≤ length behind
ahead_within behind (Some character) ahead (piece, is, spelled, means) =
    omega (arith, ap length spelled, length-append (spelling piece) ahead, piece_long piece)
ahead_within behind None ahead (none, (bytes, spelled, is_bad)) = omega (arith, ap length spelled, length-append bytes ahead, bad_long bytes ahead is_bad)

pub ahead_shorter : (rest plain behind : List ℕ) (meant : Option ℕ) (ahead : List ℕ) → rest ≡ plain ++ 92 ∷ behind → ReadsEscape behind meant ahead
    → length ahead < length rest
ahead_shorter rest plain behind meant ahead parted read =
    omega (arith, ap length parted, length-append plain (92 ∷ behind), ahead_within behind meant ahead read)

-- the end
pub readable_text : (raw rest text after : List ℕ) (bad : List EscapeSpan) → Readable raw rest text bad → IsBare rest → after ≡ text ++ rest
    → bad ≡ [] → IsUnended raw → IsText raw after
readable_text raw rest text after bad known bare after_is none goes =
    text_from_loose raw after (subst (λ (x : List ℕ). IsLoose raw x) (sym after_is) (known.loose none rest (loose_all rest bare))) goes

pub readable_rise : (raw rest text : List ℕ) (bad : List EscapeSpan) → Readable raw rest text bad → Rise 0 bad (length raw)
readable_rise raw rest text bad known =
    let counted = ap length known.whole in
    let first = length-append known.front rest in
    rise_wider 0 (length known.front) (length raw) bad known.rise (omega arith)

pub readable_read : (raw rest text after : List ℕ) (bad : List EscapeSpan) → Readable raw rest text bad → IsBare rest → after ≡ text ++ rest
    → IsRead raw after bad
readable_read raw rest text after bad known bare after_is =
    let read = known.read (plain_parts rest []) (plain_are rest [] bare tt) (sym (append-nil rest) ∙ sym (plain_bytes rest [])) in
    read_as raw (text ++ flat_map part_text (plain_parts rest [])) after (bad ++ spans_of (length known.front) (plain_parts rest [])) bad
    (ap (λ (x : List ℕ). text ++ x) (plain_text rest [] ∙ append-nil rest) ∙ sym after_is)
    (ap (λ (x : List EscapeSpan). bad ++ x) (plain_spans (length known.front) rest []) ∙ append-nil bad)
    read

-- ---- one reading

same_loose : (p q : Piece) (x y : List ℕ) → IsLoosePiece p → IsLoosePiece q → spelling p ++ x ≡ spelling q ++ y → (p ≡ q) × (x ≡ y)
same_loose (Plain a) (Plain b) x y left right same = let bytes : a ≡ b = cc in ((cc), (cc))
same_loose (Plain a) (Escaped l m) x y left right same = absurd (left (cc))
same_loose (Plain a) (Unicode d s) x y left right same = absurd (left (cc))
same_loose (Escaped l m) (Plain b) x y left right same = absurd (right (cc))
same_loose (Escaped l m) (Escaped k n) x y left right same = same_piece (Escaped l m) (Escaped k n) x y left right same
same_loose (Escaped l m) (Unicode d s) x y left right same = same_piece (Escaped l m) (Unicode d s) x y left right same
same_loose (Unicode d s) (Plain b) x y left right same = absurd (right (cc))
same_loose (Unicode d s) (Escaped l m) x y left right same = same_piece (Unicode d s) (Escaped l m) x y left right same
same_loose (Unicode c s) (Unicode d t) x y left right same = same_piece (Unicode c s) (Unicode d t) x y left right same

-- a bad escape begins with a `\`
bad_first : (bytes behind : List ℕ) → IsBadEscape bytes behind → (rest : List ℕ) × (bytes ≡ 92 ∷ rest)
bad_first bytes behind (inl alone) = ([], alone.0)
bad_first bytes behind (inr (character, scalar, is)) = (encode_utf8 character, is)

-- no piece begins where a bad escape does
good_bad : (p : Piece) (bytes x y : List ℕ) → IsLoosePiece p → IsPart (Bad bytes) y → spelling p ++ x ≡ bytes ++ y → ⊥
good_bad (Plain byte) bytes x y is bad same =
    let first = bad_first bytes y bad.0 in
    let whole : byte ∷ x ≡ 92 ∷ (first.0 ++ y) = same ∙ ap (λ (b : List ℕ). b ++ y) first.1 in
    is (cc)
good_bad (Escaped letter meant) bytes x y is bad same = bad.1 (Escaped letter meant) x is (sym same)
good_bad (Unicode digits scalar) bytes x y is bad same = bad.1 (Unicode digits scalar) x is (sym same)

encode_long : (character : ℕ) → 0 < length (encode_utf8 character)
encode_long character = omega (arith, length-encode character, (len_utf8_bounds character).0)

alone_only : (character : ℕ) (y : List ℕ) → 92 ∷ [] ≡ (92 ∷ encode_utf8 character) ++ y → ⊥
alone_only character y same =
    let counted = ap length same in
    let parts = length-append (encode_utf8 character) y in
    let some = encode_long character in
    omega arith

same_bad : (a b x y : List ℕ) → IsBadEscape a x → IsBadEscape b y → a ++ x ≡ b ++ y → (a ≡ b) × (x ≡ y)
same_bad a b x y (inl (a_is, x_is)) (inl (b_is, y_is)) same = (a_is ∙ sym b_is, x_is ∙ sym y_is)
same_bad a b x y (inl (a_is, x_is)) (inr (character, scalar, b_is)) same =
    absurd (alone_only character y (sym (ap (λ (l : List ℕ). l ++ x) a_is ∙ ap (λ (l : List ℕ). 92 ∷ l) x_is) ∙ same ∙ ap (λ (l : List ℕ). l ++ y) b_is))
same_bad a b x y (inr (character, scalar, a_is)) (inl (b_is, y_is)) same =
    absurd (alone_only character x (sym (ap (λ (l : List ℕ). l ++ y) b_is ∙ ap (λ (l : List ℕ). 92 ∷ l) y_is) ∙ sym same ∙ ap (λ (l : List ℕ). l ++ x) a_is))
same_bad a b x y (inr (first, scalar, a_is)) (inr (second, other, b_is)) same =
    let whole : 92 ∷ (encode_utf8 first ++ x) ≡ 92 ∷ (encode_utf8 second ++ y) =
    sym (ap (λ (l : List ℕ). l ++ x) a_is) ∙ same ∙ ap (λ (l : List ℕ). l ++ y) b_is in
    let tail : encode_utf8 first ++ x ≡ encode_utf8 second ++ y = cc in
    let both = encode_same first second x y tail in
    (a_is ∙ ap (λ (n : ℕ). 92 ∷ encode_utf8 n) both.0 ∙ sym b_is, both.1)

part_first : (part : Part) (behind : List ℕ) → IsPart part behind → (byte : ℕ) × (rest : List ℕ) × (part_bytes part ≡ byte ∷ rest)
part_first (Good piece) behind is = first_byte piece
part_first (Bad bytes) behind is = let first = bad_first bytes behind is.0 in (92, first.0, first.1)

not_none : (part : Part) (behind : List ℕ) → IsPart part behind → [] ≡ part_bytes part ++ behind → ⊥
not_none part behind is same =
    let first = part_first part behind is in
    let whole : [] ≡ first.0 ∷ (first.1 ++ behind) = same ∙ ap (λ (l : List ℕ). l ++ behind) first.2 in
    cc

same_part : (p q : Part) (x y : List ℕ) → IsPart p x → IsPart q y → part_bytes p ++ x ≡ part_bytes q ++ y → (p ≡ q) × (x ≡ y)
same_part (Good p) (Good q) x y left right same = let both = same_loose p q x y left right same in (ap Good both.0, both.1)
same_part (Good p) (Bad b) x y left right same = absurd (good_bad p b x y left right same)
same_part (Bad a) (Good q) x y left right same = absurd (good_bad q a y x right left (sym same))
same_part (Bad a) (Bad b) x y left right same = let both = same_bad a b x y left.0 right.0 same in (ap Bad both.0, both.1)

parts_same : (ps qs : List Part) → AreParts ps → AreParts qs → flat_map part_bytes ps ≡ flat_map part_bytes qs → ps ≡ qs
parts_same [] [] left right same = refl
parts_same [] (q ∷ qs) left right same = absurd (not_none q (flat_map part_bytes qs) right.0 same)
parts_same (p ∷ ps) [] left right same = absurd (not_none p (flat_map part_bytes ps) left.0 (sym same))
parts_same (p ∷ ps) (q ∷ qs) left right same =
    let both = same_part p q (flat_map part_bytes ps) (flat_map part_bytes qs) left.0 right.0 same in
    let heads = both.0 in
    let tails = parts_same ps qs left.1 right.1 both.1 in
    cc

pub one_reading : (raw a b : List ℕ) (s t : List EscapeSpan) → IsRead raw a s → IsRead raw b t → (a ≡ b) × (s ≡ t)
one_reading raw a b s t left right =
    let same = parts_same left.parts right.parts left.each right.each (sym left.whole ∙ right.whole) in (
      left.meant ∙ ap (λ (ps : List Part). flat_map part_text ps) same ∙ sym right.meant,
      left.told ∙ ap (λ (ps : List Part). spans_of 0 ps) same ∙ sym right.told,
    )
