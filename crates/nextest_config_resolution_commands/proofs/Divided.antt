-- What is read from the left is what pieces make up.
use Rattle.std.proofs.Common.{◌≡◌, ◌≢◌, ℕ, true, false, not, ◌||◌, eqb, List, [], ◌∷◌, ◌++◌, None, Some, refl, sym, ap, ◌∙◌, subst, inl, inr}
use Rattle.std.specs.Prelude.{option_map}
use Rattle.std.proofs.lemmas.Bool.{cases_Bool, eqb-true, eqb-false, ne_eqb}
use Rattle.std.proofs.lemmas.List.{append-nil, append_assoc}
use Rattle.nextest_config_resolution_commands.specs.Words as w
use Rattle.nextest_config_resolution_commands.specs.Words.{HasNo, IsQuoted, ArePieces, IsGap, AreWords, begins_word, ends_word, is_divider, is_plain, is_taken}
use Rattle.nextest_config_resolution_commands.specs.Splitting as split
use Rattle.nextest_config_resolution_commands.specs.Splitting.{by_step, words_from, words_of}
use Rattle.nextest_config_resolution_commands.specs.declared.steps.Place.{Place}
use Rattle.nextest_config_resolution_commands.specs.declared.steps.Place.TheVariants as place
use Rattle.nextest_config_resolution_commands.specs.declared.steps.SplitStep.{SplitStep}
use Rattle.nextest_config_resolution_commands.proofs.Bytes as bytes
use Rattle.nextest_config_resolution_commands.proofs.Bytes.{Byte, byte_is}
use Rattle.nextest_config_resolution_commands.proofs.Pieced.{Split, stepped}

-- ---- what is read from a place on

-- the word that was begun goes on, and these are the words with it
pub record IsGoing (text word : List ℕ) (words : List (List ℕ)) : Type 0 where
  pub said : List ℕ
  pub behind : List ℕ
  pub more : List (List ℕ)
  pub pieces : ArePieces text said behind
  pub ends : ends_word behind ≡ true
  pub others : AreWords behind more
  pub all : words ≡ (word ++ said) ∷ more

-- a quote is closed, and the word goes on
pub record IsClosed (text word : List ℕ) (words : List (List ℕ)) : Type 0 where
  pub inside : List ℕ
  pub rest : List ℕ
  pub whole : text ≡ inside ++ 39 ∷ rest
  pub literal : HasNo 39 inside
  pub going : IsGoing rest (word ++ inside) words

pub record IsDoublyClosed (text word : List ℕ) (words : List (List ℕ)) : Type 0 where
  pub inside : List ℕ
  pub meant : List ℕ
  pub rest : List ℕ
  pub whole : text ≡ inside ++ 34 ∷ rest
  pub quoted : IsQuoted inside meant
  pub going : IsGoing rest (word ++ meant) words

-- a comment goes on, up to a line feed with these words behind it, or to the end
pub data IsCommented : List ℕ → List (List ℕ) → Type 0 where
  to_end : (inside : List ℕ) → HasNo 10 inside → IsCommented inside []
  to_feed : (inside rest : List ℕ) (words : List (List ℕ)) → HasNo 10 inside → AreWords rest words → IsCommented (inside ++ 10 ∷ rest) words

-- what stands there, by the place
abbrev pub Means : Place → List ℕ → List ℕ → List (List ℕ) → Type 0
Means place.Between text word words = word ≡ [] → AreWords text words
Means place.BetweenEscaped text word words = word ≡ [] → AreWords (92 ∷ text) words
Means place.Inside text word words = IsGoing text word words
Means place.InsideEscaped text word words = IsGoing (92 ∷ text) word words
Means place.Literal text word words = IsClosed text word words
Means place.Quoted text word words = IsDoublyClosed text word words
Means place.QuotedEscaped text word words = IsDoublyClosed (92 ∷ text) word words
Means place.Comment text word words = word ≡ [] → IsCommented text words

-- what is read from each place on is what stands there
abbrev pub Reads : List ℕ → Type 0
Reads text = (at : Place) (word : List ℕ) (words : List (List ℕ)) → words_from text at word ≡ Some words → Means at text word words

-- ---- gaps

before : (text whole : List ℕ) (words : List (List ℕ)) → ((rest : List ℕ) → IsGap text rest → IsGap whole rest) → AreWords text words → AreWords whole words
before text whole words more are = wider are more where
  wider : {text : List ℕ} {words : List (List ℕ)} → AreWords text words → ((rest : List ℕ) → IsGap text rest → IsGap whole rest) → AreWords whole words
  wider (w.no_words text gap) more = w.no_words whole (more [] gap)
  wider (w.one_more text inside word behind words gap start pieces end others) more =
      w.one_more whole inside word behind words (more inside gap) start pieces end others

behind_divider : (byte : ℕ) (text : List ℕ) (words : List (List ℕ)) → is_divider byte ≡ true → AreWords text words → AreWords (byte ∷ text) words
behind_divider byte text words divides are = before text (byte ∷ text) words (λ rest gap. w.divided byte text rest divides gap) are

behind_join : (text : List ℕ) (words : List (List ℕ)) → AreWords text words → AreWords (92 ∷ 10 ∷ text) words
behind_join text words are = before text (92 ∷ 10 ∷ text) words (λ rest gap. w.continued text rest gap) are

-- ---- comments

longer : (byte : ℕ) {text : List ℕ} {words : List (List ℕ)} → byte ≢ 10 → IsCommented text words → IsCommented (byte ∷ text) words
longer byte isnt (to_end inside is) = to_end (byte ∷ inside) (isnt, is)
longer byte isnt (to_feed inside rest words is are) = to_feed (byte ∷ inside) rest words (isnt, is) are

commented : {text : List ℕ} {words : List (List ℕ)} → IsCommented text words → AreWords (35 ∷ text) words
commented (to_end inside is) = w.no_words (35 ∷ inside) (w.last_comment inside is)
commented (to_feed inside rest words is are) = before rest (35 ∷ inside ++ 10 ∷ rest) words (λ last gap. w.comment inside rest last is gap) are

-- ---- a word that goes on

going_more : (text whole x word : List ℕ) (words : List (List ℕ)) → ((said rest : List ℕ) → ArePieces text said rest → ArePieces whole (x ++ said) rest)
    → IsGoing text (word ++ x) words → IsGoing whole word words
going_more text whole x word words wider going = record {
  said = x ++ going.said;
  behind = going.behind;
  more = going.more;
  pieces = wider going.said going.behind going.pieces;
  ends = going.ends;
  others = going.others;
  all = going.all ∙ ap (λ (it : List ℕ). it ∷ going.more) (append_assoc word x going.said);
}

going_itself : (byte : ℕ) (text word : List ℕ) (words : List (List ℕ)) → is_plain byte ≡ true → IsGoing text (word ++ byte ∷ []) words → IsGoing (byte ∷ text) word words
going_itself byte text word words plain going =
    going_more text (byte ∷ text) (byte ∷ []) word words (λ said rest are. w.itself byte text said rest plain are) going

going_escaped : (byte : ℕ) (text word : List ℕ) (words : List (List ℕ)) → byte ≢ 10 → IsGoing text (word ++ byte ∷ []) words → IsGoing (92 ∷ byte ∷ text) word words
going_escaped byte text word words isnt going =
    going_more text (92 ∷ byte ∷ text) (byte ∷ []) word words (λ said rest are. w.escaped byte text said rest isnt are) going

going_joined : (text word : List ℕ) (words : List (List ℕ)) → IsGoing text word words → IsGoing (92 ∷ 10 ∷ text) word words
going_joined text word words going = record {
  said = going.said;
  behind = going.behind;
  more = going.more;
  pieces = w.joined text going.said going.behind going.pieces;
  ends = going.ends;
  others = going.others;
  all = going.all;
}

going_literal : (text word : List ℕ) (words : List (List ℕ)) → IsClosed text word words → IsGoing (39 ∷ text) word words
going_literal text word words closed =
    subst (λ (it : List ℕ). IsGoing (39 ∷ it) word words) (sym closed.whole)
    (going_more closed.rest (39 ∷ closed.inside ++ 39 ∷ closed.rest) closed.inside word words
    (λ said behind are. w.literal closed.inside closed.rest said behind closed.literal are) closed.going)

going_quoted : (text word : List ℕ) (words : List (List ℕ)) → IsDoublyClosed text word words → IsGoing (34 ∷ text) word words
going_quoted text word words closed =
    subst (λ (it : List ℕ). IsGoing (34 ∷ it) word words) (sym closed.whole)
    (going_more closed.rest (34 ∷ closed.inside ++ 34 ∷ closed.rest) closed.meant word words
    (λ said behind are. w.quoted closed.inside closed.meant closed.rest said behind closed.quoted are) closed.going)

nothing_left : AreWords [] []
nothing_left = w.no_words [] (w.no_gap [])

going_last : (word : List ℕ) (words : List (List ℕ)) → Some ((word ++ 92 ∷ []) ∷ []) ≡ Some words → IsGoing (92 ∷ []) word words
going_last word words e = record { said = 92 ∷ []; behind = []; more = []; pieces = w.last; ends = refl; others = nothing_left; all = cc }

going_none : (word : List ℕ) (words : List (List ℕ)) → Some (word ∷ []) ≡ Some words → IsGoing [] word words
going_none word words e =
    let same : words ≡ word ∷ [] = cc in
    record {
      said = [];
      behind = [];
      more = [];
      pieces = w.no_pieces [];
      ends = refl;
      others = nothing_left;
      all = same ∙ ap (λ (it : List ℕ). it ∷ []) (sym (append-nil word));
    }

mapped : (word : List ℕ) (found : Split) (words : List (List ℕ)) → option_map (λ words. word ∷ words) found ≡ Some words
    → (more : List (List ℕ)) × (found ≡ Some more) × (words ≡ word ∷ more)
mapped word None words e = absurd (cc)
mapped word (Some more) words e = (more, refl, cc)

going_end : (byte : ℕ) (text word : List ℕ) (words : List (List ℕ)) → Reads text → is_divider byte ≡ true
    → option_map (λ words. word ∷ words) (words_from text place.Between []) ≡ Some words → IsGoing (byte ∷ text) word words
going_end byte text word words further divides e =
    let found = mapped word (words_from text place.Between []) words e in
    record {
      said = [];
      behind = byte ∷ text;
      more = found.0;
      pieces = w.no_pieces (byte ∷ text);
      ends = divides;
      others = behind_divider byte text found.0 divides (further place.Between [] found.0 found.1 refl);
      all = found.2 ∙ ap (λ (it : List ℕ). it ∷ found.0) (sym (append-nil word));
    }

-- a word begins
begun : (text word : List ℕ) (words : List (List ℕ)) → begins_word text ≡ true → word ≡ [] → IsGoing text word words → AreWords text words
begun text word words start none going =
    let same : words ≡ going.said ∷ going.more = going.all ∙ ap (λ (it : List ℕ). (it ++ going.said) ∷ going.more) none in
    subst (λ (it : List (List ℕ)). AreWords text it) (sym same)
    (w.one_more text text going.said going.behind going.more (w.no_gap text) start going.pieces going.ends going.others)

starts : (byte : ℕ) (text : List ℕ) → not (is_divider byte || eqb byte 35) ≡ true → eqb byte 92 ≡ false → begins_word (byte ∷ text) ≡ true
starts byte [] first slash = first
starts byte (next ∷ text) first slash = rw (first, slash) refl

-- ---- quotes

closed_now : (text word : List ℕ) (words : List (List ℕ)) → IsGoing text word words → IsClosed (39 ∷ text) word words
closed_now text word words going = record {
  inside = [];
  rest = text;
  whole = refl;
  literal = tt;
  going = subst (λ (it : List ℕ). IsGoing text it words) (sym (append-nil word)) going;
}

closed_more : (byte : ℕ) (text word : List ℕ) (words : List (List ℕ)) → byte ≢ 39 → IsClosed text (word ++ byte ∷ []) words → IsClosed (byte ∷ text) word words
closed_more byte text word words isnt closed = record {
  inside = byte ∷ closed.inside;
  rest = closed.rest;
  whole = ap (λ (it : List ℕ). byte ∷ it) closed.whole;
  literal = (isnt, closed.literal);
  going = subst (λ (it : List ℕ). IsGoing closed.rest it words) (append_assoc word (byte ∷ []) closed.inside) closed.going;
}

doubly_now : (text word : List ℕ) (words : List (List ℕ)) → IsGoing text word words → IsDoublyClosed (34 ∷ text) word words
doubly_now text word words going = record {
  inside = [];
  meant = [];
  rest = text;
  whole = refl;
  quoted = w.quoted_nothing;
  going = subst (λ (it : List ℕ). IsGoing text it words) (sym (append-nil word)) going;
}

doubly_more : (text front x word : List ℕ) (words : List (List ℕ))
    → ((inside meant : List ℕ) → IsQuoted inside meant → IsQuoted (front ++ inside) (x ++ meant))
    → IsDoublyClosed text (word ++ x) words → IsDoublyClosed (front ++ text) word words
doubly_more text front x word words wider closed = record {
  inside = front ++ closed.inside;
  meant = x ++ closed.meant;
  rest = closed.rest;
  whole = ap (λ (it : List ℕ). front ++ it) closed.whole ∙ sym (append_assoc front closed.inside (34 ∷ closed.rest));
  quoted = wider closed.inside closed.meant closed.quoted;
  going = subst (λ (it : List ℕ). IsGoing closed.rest it words) (append_assoc word x closed.meant) closed.going;
}

doubly_joined : (text word : List ℕ) (words : List (List ℕ)) → IsDoublyClosed text word words → IsDoublyClosed (92 ∷ 10 ∷ text) word words
doubly_joined text word words closed = record {
  inside = 92 ∷ 10 ∷ closed.inside;
  meant = closed.meant;
  rest = closed.rest;
  whole = ap (λ (it : List ℕ). 92 ∷ 10 ∷ it) closed.whole;
  quoted = w.quoted_joined closed.inside closed.meant closed.quoted;
  going = closed.going;
}

-- ---- byte by byte

-- a byte is this one, or another
pub data Against (one : ℕ) : ℕ → Type 0 where
  same : Against one one
  unlike : (byte : ℕ) → byte ≢ one → Against one byte

against : (one byte : ℕ) → Against one byte
against one byte = elim (cases_Bool (eqb byte one)) [
  | inl e ↦ subst (Against one) (sym (eqb-true byte one e)) same
  | inr e ↦ unlike byte (eqb-false byte one e)
]

-- what is read behind a step that is known
known : (text word : List ℕ) (words : List (List ℕ)) (byte : ℕ) (a b : SplitStep) → a ≡ b → by_step (words_from text) a word (byte ∷ []) ≡ Some words
    → by_step (words_from text) b word (byte ∷ []) ≡ Some words
known text word words byte a b is e = sym (stepped text word byte a b is) ∙ e

at_between : (text : List ℕ) → Reads text → {byte : ℕ} → Byte byte → (word : List ℕ) (words : List (List ℕ))
    → words_from (byte ∷ text) place.Between word ≡ Some words → word ≡ [] → AreWords (byte ∷ text) words
at_between text further bytes.line_feed word words e none = behind_divider 10 text words refl (further place.Between word words e none)
at_between text further bytes.space word words e none = behind_divider 32 text words refl (further place.Between word words e none)
at_between text further bytes.tab word words e none = behind_divider 9 text words refl (further place.Between word words e none)
at_between text further bytes.quote word words e none =
    begun (39 ∷ text) word words (starts 39 text refl refl) none (going_literal text word words (further place.Literal word words e))
at_between text further bytes.double_quote word words e none =
    begun (34 ∷ text) word words (starts 34 text refl refl) none (going_quoted text word words (further place.Quoted word words e))
at_between text further bytes.backslash word words e none = further place.BetweenEscaped word words e none
at_between text further bytes.hash word words e none = commented (further place.Comment word words e none)
at_between text further bytes.dollar word words e none =
    begun (36 ∷ text) word words (starts 36 text refl refl) none (going_itself 36 text word words refl (further place.Inside (word ++ 36 ∷ []) words e))
at_between text further bytes.backtick word words e none =
    begun (96 ∷ text) word words (starts 96 text refl refl) none (going_itself 96 text word words refl (further place.Inside (word ++ 96 ∷ []) words e))
at_between text further (bytes.other byte is) word words e none =
    begun (byte ∷ text) word words (starts byte text is.starts is.slash) none
    (going_itself byte text word words is.plain
    (further place.Inside (word ++ byte ∷ []) words (known text word words byte _ _ (ap split.between is.is) e)))

at_inside : (text : List ℕ) → Reads text → {byte : ℕ} → Byte byte → (word : List ℕ) (words : List (List ℕ))
    → words_from (byte ∷ text) place.Inside word ≡ Some words → IsGoing (byte ∷ text) word words
at_inside text further bytes.line_feed word words e = going_end 10 text word words further refl e
at_inside text further bytes.space word words e = going_end 32 text word words further refl e
at_inside text further bytes.tab word words e = going_end 9 text word words further refl e
at_inside text further bytes.quote word words e = going_literal text word words (further place.Literal word words e)
at_inside text further bytes.double_quote word words e = going_quoted text word words (further place.Quoted word words e)
at_inside text further bytes.backslash word words e = further place.InsideEscaped word words e
at_inside text further bytes.hash word words e = going_itself 35 text word words refl (further place.Inside (word ++ 35 ∷ []) words e)
at_inside text further bytes.dollar word words e = going_itself 36 text word words refl (further place.Inside (word ++ 36 ∷ []) words e)
at_inside text further bytes.backtick word words e = going_itself 96 text word words refl (further place.Inside (word ++ 96 ∷ []) words e)
at_inside text further (bytes.other byte is) word words e =
    going_itself byte text word words is.plain
    (further place.Inside (word ++ byte ∷ []) words (known text word words byte _ _ (ap split.inside is.is) e))

at_between_escaped : (text : List ℕ) → Reads text → {byte : ℕ} → Against 10 byte → (word : List ℕ) (words : List (List ℕ))
    → words_from (byte ∷ text) place.BetweenEscaped word ≡ Some words → word ≡ [] → AreWords (92 ∷ byte ∷ text) words
at_between_escaped text further same word words e none = behind_join text words (further place.Between word words e none)
at_between_escaped text further (unlike byte isnt) word words e none =
    begun (92 ∷ byte ∷ text) word words (rw (ne_eqb byte 10 isnt) refl) none
    (going_escaped byte text word words isnt
    (further place.Inside (word ++ byte ∷ []) words (known text word words byte _ _ (bytes.takes_escaped (byte_is byte) isnt place.Between) e)))

at_inside_escaped : (text : List ℕ) → Reads text → {byte : ℕ} → Against 10 byte → (word : List ℕ) (words : List (List ℕ))
    → words_from (byte ∷ text) place.InsideEscaped word ≡ Some words → IsGoing (92 ∷ byte ∷ text) word words
at_inside_escaped text further same word words e = going_joined text word words (further place.Inside word words e)
at_inside_escaped text further (unlike byte isnt) word words e =
    going_escaped byte text word words isnt
    (further place.Inside (word ++ byte ∷ []) words (known text word words byte _ _ (bytes.takes_escaped (byte_is byte) isnt place.Inside) e))

at_literal : (text : List ℕ) → Reads text → {byte : ℕ} → Against 39 byte → (word : List ℕ) (words : List (List ℕ))
    → words_from (byte ∷ text) place.Literal word ≡ Some words → IsClosed (byte ∷ text) word words
at_literal text further same word words e = closed_now text word words (further place.Inside word words e)
at_literal text further (unlike byte isnt) word words e =
    closed_more byte text word words isnt
    (further place.Literal (word ++ byte ∷ []) words (known text word words byte _ _ (bytes.takes_literal (byte_is byte) isnt) e))

at_quoted : (text : List ℕ) → Reads text → {byte : ℕ} → Against 34 byte → (word : List ℕ) (words : List (List ℕ))
    → words_from (byte ∷ text) place.Quoted word ≡ Some words → IsDoublyClosed (byte ∷ text) word words
at_quoted text further same word words e = doubly_now text word words (further place.Inside word words e)
at_quoted text further (unlike byte isnt) word words e = slashed (against 92 byte) isnt e where
  slashed : {byte : ℕ} → Against 92 byte → byte ≢ 34 → words_from (byte ∷ text) place.Quoted word ≡ Some words → IsDoublyClosed (byte ∷ text) word words
  slashed same isnt e = further place.QuotedEscaped word words e
  slashed (unlike byte nor) isnt e =
      doubly_more text (byte ∷ []) (byte ∷ []) word words (λ inside meant is. w.quoted_itself byte inside meant isnt nor is)
      (further place.Quoted (word ++ byte ∷ []) words (known text word words byte _ _ (bytes.takes_quoted (byte_is byte) isnt nor) e))

at_quoted_escaped : (text : List ℕ) → Reads text → {byte : ℕ} → Against 10 byte → (word : List ℕ) (words : List (List ℕ))
    → words_from (byte ∷ text) place.QuotedEscaped word ≡ Some words → IsDoublyClosed (92 ∷ byte ∷ text) word words
at_quoted_escaped text further same word words e = doubly_joined text word words (further place.Quoted word words e)
at_quoted_escaped text further (unlike byte isnt) word words e = elim (cases_Bool (is_taken byte)) [
  | inl taken ↦ doubly_more text (92 ∷ byte ∷ []) (byte ∷ []) word words (λ inside meant is. w.quoted_taken byte inside meant taken is)
      (further place.Quoted (word ++ byte ∷ []) words (known text word words byte _ _ (bytes.takes_taken (byte_is byte) taken) e))
  | inr kept ↦ doubly_more text (92 ∷ byte ∷ []) (92 ∷ byte ∷ []) word words (λ inside meant is. w.quoted_kept byte inside meant kept isnt is)
      (further place.Quoted (word ++ 92 ∷ byte ∷ []) words (known text word words byte _ _ (bytes.keeps (byte_is byte) kept isnt) e))
]

at_comment : (text : List ℕ) → Reads text → {byte : ℕ} → Against 10 byte → (word : List ℕ) (words : List (List ℕ))
    → words_from (byte ∷ text) place.Comment word ≡ Some words → word ≡ [] → IsCommented (byte ∷ text) words
at_comment text further same word words e none = to_feed [] text words tt (further place.Between word words e none)
at_comment text further (unlike byte isnt) word words e none =
    longer byte isnt (further place.Comment word words (known text word words byte _ _ (bytes.passes_comment (byte_is byte) isnt) e) none)

reads_none : Reads []
reads_none place.Between word words e = λ none. subst (λ (it : List (List ℕ)). AreWords [] it) (cc) nothing_left
reads_none place.BetweenEscaped word words e = λ none. begun (92 ∷ []) word words refl none (going_last word words e)
reads_none place.Inside word words e = going_none word words e
reads_none place.InsideEscaped word words e = going_last word words e
reads_none place.Literal word words e = absurd (cc)
reads_none place.Quoted word words e = absurd (cc)
reads_none place.QuotedEscaped word words e = absurd (cc)
reads_none place.Comment word words e = λ none. subst (λ (it : List (List ℕ)). IsCommented [] it) (cc) (to_end [] tt)

reads_more : (byte : ℕ) (text : List ℕ) → Reads text → Reads (byte ∷ text)
reads_more byte text further place.Between word words e = at_between text further (byte_is byte) word words e
reads_more byte text further place.BetweenEscaped word words e = at_between_escaped text further (against 10 byte) word words e
reads_more byte text further place.Inside word words e = at_inside text further (byte_is byte) word words e
reads_more byte text further place.InsideEscaped word words e = at_inside_escaped text further (against 10 byte) word words e
reads_more byte text further place.Literal word words e = at_literal text further (against 39 byte) word words e
reads_more byte text further place.Quoted word words e = at_quoted text further (against 34 byte) word words e
reads_more byte text further place.QuotedEscaped word words e = at_quoted_escaped text further (against 10 byte) word words e
reads_more byte text further place.Comment word words e = at_comment text further (against 10 byte) word words e

reads : (text : List ℕ) → Reads text
reads [] = reads_none
reads (byte ∷ text) = reads_more byte text (reads text)

pub words_divided : (text : List ℕ) (words : List (List ℕ)) → words_of text ≡ Some words → AreWords text words
words_divided text words e = reads text place.Between [] words e refl
