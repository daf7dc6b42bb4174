-- Looking for the next line, behind what was reported.
use Rattle.std.proofs.Common.{◌≡◌, ℕ, ◌+◌, ◌<◌, true, refl, List, [], ◌++◌, length, Option, Result, Ok, Err, ap, ◌∙◌, sym, subst, inl, inr}
use Rattle.std.specs.Prelude.{◌⊎◌}
use Rattle.std.specs.Result.{IsErrAnd}
use Rattle.std.proofs.lemmas.Result.{err_from_is_err_and}
use Rattle.test_runner_core_log_reader.specs.Calls.{Hands, HandsAhead, HandsBytes, KeepsAhead}
use Rattle.test_runner_core_streams.specs.declared.traits.TheConstants.{READ_LIMIT}
use Rattle.test_runner_core_log_reader.specs.Cursor.{Cursor, IsNear, Unmoved, items_ahead, tells_next}
use Rattle.test_runner_core_log_reader.specs.Feeds.{IsPlain}
use Rattle.test_runner_core_log_reader.specs.Items.{items}
use Rattle.test_runner_core_log_reader.specs.declared.fault.LogFault.{LogFault}
use Rattle.test_runner_core_log_reader.specs.declared.fault.LogFault.TheVariants as unread
use Rattle.test_runner_core_log_reader.specs.declared.next.Next.{Next}
use Rattle.test_runner_core_log_reader.specs.declared.next.Next.TheVariants as found_is
use Rattle.test_runner_core_log_reader.proofs.Reading.{ahead_then, ahead_refl, ahead_unmoved}
use Rattle.test_runner_core_reporter.specs.Writes.{MovesOn, WritesAll}
use Rattle.test_runner_core_reporter.specs.declared.fault.ReportFault.{ReportFault}
use Rattle.test_runner_core_reporter.specs.declared.fault.ReportFault.TheVariants as untold
use Rattle.test_runner_core_reporter.proofs.Told.{front_none, front_then}
use Rattle.test_runner_core.specs.Faults.{fault_of, fault_of_reporting}
use Rattle.test_runner_core.specs.Inside.{HandsNext, ReadsNext}
use Rattle.test_runner_core.specs.Near.{LooksNear}
use Rattle.test_runner_core.specs.declared.judge_fault.JudgeFault.{JudgeFault}

-- all that was reported is written where nothing waits
pub all_written : (before : Option (List ℕ)) (waited : List ℕ) (after : Option (List ℕ)) (waits : List ℕ) → WritesAll [] before waited after waits → waits ≡ []
    → MovesOn before waited after [] []
all_written before waited after waits told empty =
    subst (λ (t : List ℕ). MovesOn before waited after [] t) told.text (subst (λ (w : List ℕ). MovesOn before waited after w told.told) empty told.moved)

-- a call that fails, behind what was reported
pub next_fails : (result : Result Next JudgeFault) (cause : LogFault) (old mid new : Cursor) (left rest before : Option (List ℕ)) (waited : List ℕ) (after : Option (List ℕ)) (waits : List ℕ)
    → IsErrAnd result (λ gives. gives ≡ fault_of cause) → Unmoved old mid → WritesAll [] before waited after waits → ((tells_next mid ≡ true) ⊎ (waits ≡ []))
    → (tells_next mid ≡ true → ⊥) → KeepsAhead mid left new rest → IsPlain new.waiting → HandsNext result old left new rest before waited after waits
next_fails result cause old mid new left rest before waited after waits is unmoved told (inl writes) never kept plain = absurd (never writes)
next_fails result cause old mid new left rest before waited after waits is unmoved told (inr empty) never kept plain =
    let gives = err_from_is_err_and result is in
    subst (λ (r : Result Next JudgeFault). HandsNext r old left new rest before waited after waits) (sym gives.1)
    (subst (λ (f : JudgeFault). HandsNext (Err f) old left new rest before waited after waits) (sym gives.2) (by_cause cause))
  where
    by_cause : (c : LogFault) → HandsNext (Err (fault_of c)) old left new rest before waited after waits
    by_cause (unread.Read error) =
        (ahead_then old mid new left left rest (ahead_unmoved old old mid left left (ahead_refl old left) unmoved.waiting) kept, plain, all_written before waited after waits told empty)
    by_cause unread.Memory = front_then [] [] before after after waited waits told (front_none [] after waits)

-- a call that isn't made, since what was reported can't be written
pub unread_where_unwritten : (result : Result Next JudgeFault) (cause : ReportFault) (old new : Cursor) (calls : ℕ) → IsErrAnd result (λ gives. gives ≡ fault_of_reporting cause)
    → ReadsNext result old calls new calls
unread_where_unwritten result cause old new calls is =
    let gives = err_from_is_err_and result is in
    subst (λ (r : Result Next JudgeFault). ReadsNext r old calls new calls) (sym gives.1)
    (subst (λ (f : JudgeFault). ReadsNext (Err f) old calls new calls) (sym gives.2) (by_cause cause))
  where
    by_cause : (c : ReportFault) → ReadsNext (Err (fault_of_reporting c)) old calls new calls
    by_cause untold.Memory = inl refl
    by_cause (untold.Write error) = refl

-- looking for a line, behind what was reported
pub looks_unwritten : (result : Result Next JudgeFault) (cause : ReportFault) (old new : Cursor) (left before after : Option (List ℕ)) (waited waits : List ℕ) → IsErrAnd result (λ gives. gives ≡ fault_of_reporting cause)
    → LooksNear result old left new left before waited after waits
looks_unwritten result cause old new left before after waited waits is =
    let gives = err_from_is_err_and result is in
    subst (λ (r : Result Next JudgeFault). LooksNear r old left new left before waited after waits) (sym gives.1)
    (subst (λ (f : JudgeFault). LooksNear (Err f) old left new left before waited after waits) (sym gives.2) (by_cause cause))
  where
    by_cause : (c : ReportFault) → LooksNear (Err (fault_of_reporting c)) old left new left before waited after waits
    by_cause untold.Memory = inl refl
    by_cause (untold.Write error) = refl

pub looks_failed : (result : Result Next JudgeFault) (cause : LogFault) (old mid new : Cursor) (left rest before : Option (List ℕ)) (waited : List ℕ) (after : Option (List ℕ)) (waits : List ℕ)
    → IsErrAnd result (λ gives. gives ≡ fault_of cause) → Unmoved old mid → WritesAll [] before waited after waits → ((tells_next mid ≡ true) ⊎ (waits ≡ []))
    → (tells_next mid ≡ true → ⊥) → KeepsAhead mid left new rest → IsPlain new.waiting → LooksNear result old left new rest before waited after waits
looks_failed result cause old mid new left rest before waited after waits is unmoved told (inl writes) never kept plain = absurd (never writes)
looks_failed result cause old mid new left rest before waited after waits is unmoved told (inr empty) never kept plain =
    let gives = err_from_is_err_and result is in
    subst (λ (r : Result Next JudgeFault). LooksNear r old left new rest before waited after waits) (sym gives.1)
    (subst (λ (f : JudgeFault). LooksNear (Err f) old left new rest before waited after waits) (sym gives.2) (by_cause cause))
  where
    by_cause : (c : LogFault) → LooksNear (Err (fault_of c)) old left new rest before waited after waits
    by_cause (unread.Read error) = tt
    by_cause unread.Memory =
        inr (ahead_then old mid new left left rest (ahead_unmoved old old mid left left (ahead_refl old left) unmoved.waiting) kept, plain, all_written before waited after waits told empty)

pub looks_found : (result : Result Next LogFault) (next : Next) (old mid new : Cursor) (left rest before after : Option (List ℕ)) (waited waits : List ℕ) → result ≡ Ok next → ((tells_next mid ≡ true) ⊎ (waits ≡ []))
    → (tells_next mid ≡ true → rest ≡ left) → IsNear new → (result ≡ Ok found_is.Line → length new.waiting < READ_LIMIT) → LooksNear (Ok next) old left new rest before waited after waits
looks_found result found_is.Line old mid new left rest before after waited waits is (inl told) still near few = (few is, inl (still told))
looks_found result found_is.Line old mid new left rest before after waited waits is (inr empty) still near few = (few is, inr empty)
looks_found result (found_is.Refused fault) old mid new left rest before after waited waits is (inl told) still near few = (near, inl (still told))
looks_found result (found_is.Refused fault) old mid new left rest before after waited waits is (inr empty) still near few = (near, inr empty)
looks_found result found_is.End old mid new left rest before after waited waits is (inl told) still near few = (near, inl (still told))
looks_found result found_is.End old mid new left rest before after waited waits is (inr empty) still near few = (near, inr empty)

-- the same bytes are ahead
items_unmoved : (old mid : Cursor) (ahead : List ℕ) → Unmoved old mid → items_ahead old ahead ≡ items_ahead mid ahead
items_unmoved old mid ahead same = ap (λ (n : ℕ). items n (old.waiting ++ ahead)) (sym same.handed) ∙ ap (λ (ys : List ℕ). items mid.handed (ys ++ ahead)) (sym same.waiting)

kept_unmoved : (old mid new : Cursor) (left rest : Option (List ℕ)) → Unmoved old mid → KeepsAhead mid left new rest → KeepsAhead old left new rest
kept_unmoved old mid new left rest same kept = ahead_then old mid new left left rest (ahead_unmoved old old mid left left (ahead_refl old left) same.waiting) kept

-- what is found behind what was reported
pub next_found : (next : Next) (old mid new : Cursor) (left rest before after : Option (List ℕ)) (waited waits : List ℕ) → Unmoved old mid → WritesAll [] before waited after waits
    → Hands mid left new rest (Ok next) → HandsAhead mid left new rest (Ok next) → HandsBytes (Ok next) mid new → HandsNext (Ok next) old left new rest before waited after waits
next_found found_is.Line old mid new left rest before after waited waits same told hands ahead bytes = (
  λ behind gives. let at = hands behind gives in (at.0, at.1, items_unmoved old mid at.0 same ∙ at.2),
  (λ behind gives. let at = ahead.0 behind gives in (at.0, at.1, ap (λ (ys : List ℕ). ys ++ at.0) (sym same.waiting) ∙ at.2), ahead.1),
  bytes ∙ ap (λ (n : ℕ). n + length new.line + 1) same.handed,
  told,
)
next_found (found_is.Refused fault) old mid new left rest before after waited waits same told hands ahead bytes =
    let at = hands.2 in
    let is = items_unmoved old mid at.0 same in
    ((hands.0, hands.1, (at.0, at.1, (is ∙ at.2.0, at.2.1 ∙ sym is))), kept_unmoved old mid new left rest same ahead, bytes ∙ same.handed, told)
next_found found_is.End old mid new left rest before after waited waits same told hands ahead bytes =
    let at = hands.2 in
    let is = items_unmoved old mid at.0 same in
    ((hands.0, hands.1, (at.0, at.1, (is ∙ at.2.0, at.2.1 ∙ sym is))), kept_unmoved old mid new left rest same ahead, bytes ∙ same.handed, told)
