-- Whether the bytes that wait tell what is next.
use Rattle.std.proofs.Common.{◌≡◌, ℕ, ◌+◌, ◌≤◌, Bool, true, false, ltb, eqb, ◌||◌, List, [], ◌∷◌, length, take, drop, Option, Some, None, is_some, refl, sym, ap, ◌∙◌, arith, take-append-drop}
use Rattle.std.proofs.lemmas.Bool.Decides.{nat_tests}
use Rattle.std.proofs.lemmas.List.Folds.{list_any-append}
use Rattle.test_runner_core_log_reader.specs.declared.limits.TheConstants.{LINE_LIMIT, LOG_LIMIT}
use Rattle.test_runner_core_log_reader.specs.declared.next.Scan.TheVariants as scanned
use Rattle.test_runner_core_log_reader.specs.Feeds.{IsPlain, IsFirstFeed, has_feed}
use Rattle.test_runner_core_log_reader.specs.Cursor.{Cursor, Unmoved, bytes_received, tells_next}
use Rattle.test_runner_core_log_reader.specs.Calls.{Scanned}
use Rattle.test_runner_core_log_reader.proofs.Items.{is_no_feed}

-- plain bytes have no line feed
pub has_feed-plain : (bytes : List ℕ) → IsPlain bytes → has_feed bytes ≡ false
has_feed-plain [] plain = refl
has_feed-plain (byte ∷ bytes) plain = ap (λ (feed : Bool). feed || has_feed bytes) (is_no_feed byte plain.0) ∙ has_feed-plain bytes plain.1

-- and bytes without one are plain
pub plain_if : (bytes : List ℕ) → has_feed bytes ≡ false → IsPlain bytes
plain_if [] none = tt
plain_if (byte ∷ bytes) none = by_test (eqb byte 10) refl none (plain_if bytes)
  where
    by_test : (feed : Bool) → eqb byte 10 ≡ feed → (feed || has_feed bytes) ≡ false → (has_feed bytes ≡ false → IsPlain bytes) → IsPlain (byte ∷ bytes)
    by_test true e none more = cc
    by_test false e none more = (λ same. grind (arith, nat_tests), more none)

-- a search for the first line feed finds whether there is one
pub has_feed-first : (bytes : List ℕ) (found : Option ℕ) → IsFirstFeed bytes found → is_some found ≡ has_feed bytes
has_feed-first bytes None plain = sym (has_feed-plain bytes plain)
has_feed-first bytes (Some at) feed =
    sym (ap has_feed (sym (take-append-drop at bytes)) ∙ list_any-append (λ byte. eqb byte 10) (take at bytes) (drop at bytes)
    ∙ ap (λ (front : Bool). front || has_feed (drop at bytes)) (has_feed-plain (take at bytes) feed.1) ∙ ap has_feed feed.2)

-- what is next is told where a line feed was found
pub tells_feed : (cursor : Cursor) (found : Option ℕ) → IsFirstFeed cursor.waiting found → is_some found ≡ true → tells_next cursor ≡ true
tells_feed cursor found feed some =
    ap (λ (test : Bool). test || ltb LINE_LIMIT (length cursor.waiting) || ltb LOG_LIMIT (bytes_received cursor)) (sym (has_feed-first cursor.waiting found feed) ∙ some)

-- and else by the limits alone
pub tells_limit : (cursor : Cursor) (found : Option ℕ) → IsFirstFeed cursor.waiting found → is_some found ≡ false
    → tells_next cursor ≡ (ltb LINE_LIMIT (length cursor.waiting) || ltb LOG_LIMIT (bytes_received cursor))
tells_limit cursor found feed none =
    ap (λ (test : Bool). test || ltb LINE_LIMIT (length cursor.waiting) || ltb LOG_LIMIT (bytes_received cursor)) (sym (has_feed-first cursor.waiting found feed) ∙ none)

-- bytes that wait tell nothing where they are plain and few
pub tells_nothing : (cursor : Cursor) → IsPlain cursor.waiting → bytes_received cursor ≤ LOG_LIMIT → length cursor.waiting ≤ LINE_LIMIT → tells_next cursor ≡ false
tells_nothing cursor plain within short =
    let line : ltb LINE_LIMIT (length cursor.waiting) ≡ false = grind (arith, nat_tests) in
    let log : ltb LOG_LIMIT (bytes_received cursor) ≡ false = grind (arith, nat_tests) in
    tells_limit cursor None plain refl ∙ ap (λ (test : Bool). test || ltb LOG_LIMIT (bytes_received cursor)) line ∙ log

-- and where they tell nothing, they are
pub plain_where_nothing : (cursor : Cursor) → tells_next cursor ≡ false → IsPlain cursor.waiting × (bytes_received cursor ≤ LOG_LIMIT) × (length cursor.waiting ≤ LINE_LIMIT)
plain_where_nothing cursor nothing =
    by_tests (has_feed cursor.waiting) (ltb LINE_LIMIT (length cursor.waiting)) (ltb LOG_LIMIT (bytes_received cursor)) refl refl refl nothing
  where
    by_tests : (a b c : Bool) → has_feed cursor.waiting ≡ a → ltb LINE_LIMIT (length cursor.waiting) ≡ b → ltb LOG_LIMIT (bytes_received cursor) ≡ c → (a || b || c) ≡ false
        → IsPlain cursor.waiting × (bytes_received cursor ≤ LOG_LIMIT) × (length cursor.waiting ≤ LINE_LIMIT)
    by_tests true b c d e f nothing = cc
    by_tests false true c d e f nothing = cc
    by_tests false false true d e f nothing = cc
    by_tests false false false d e f nothing = (plain_if cursor.waiting d, grind (arith, nat_tests), grind (arith, nat_tests))

-- the same bytes tell the same
pub tells_unmoved : (old new : Cursor) → Unmoved old new → tells_next new ≡ tells_next old
tells_unmoved old new same =
    ap (λ (waiting : List ℕ). has_feed waiting || ltb LINE_LIMIT (length waiting) || ltb LOG_LIMIT (new.handed + length waiting)) same.waiting
    ∙ ap (λ (handed : ℕ). has_feed old.waiting || ltb LINE_LIMIT (length old.waiting) || ltb LOG_LIMIT (handed + length old.waiting)) same.handed

-- where they tell what is next, a look at them doesn't wait
pub never_waits : (old new : Cursor) → Scanned scanned.Waits old new → tells_next old ≡ true → ⊥
never_waits old new waits told = let nothing = tells_nothing old waits.1 waits.2 waits.3 in cc
