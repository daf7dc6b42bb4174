use Rattle.std.proofs.Common.{◌≡◌, ℕ, get_or, refl, List, [], length, take, true, false, ap, sym, ◌∙◌, nat_eq}
use Rattle.std.proofs.lemmas.Bool.{not-true, not-false}
use Rattle.nextest_text.specs.Parts.{lent_texts}
use Rattle.test_runner_core_workspace.specs.Workspace.{is_among, has_separator}
use Rattle.test_runner_core_listing.proofs.Lent.{item_lent, within_lent}
use Rattle.test_runner_core_listing.proofs.OneByOne.{has_name, names_more, at_name, taken_more}
use Rattle.test_runner_core_listing.proofs.names.refusal_of_any.Goals as goal

pub returns-then-is_empty : goal.returns-then-is_empty
returns-then-is_empty c =
    let names = lent_texts c.args.names.now in
    let i = c.loop-name.name-index in
    let name = (get_or c.args.names.now i (record { ref_ptr = (0, 0); now = [] })).now in
    let within = within_lent c.args.names.now i c.loop-name-test.true in
    let is = item_lent c.args.names.now i name c.loop-name-test.true in
    let empty : nat_eq (length name) 0 ≡ true = sym c.is_empty.ensures ∙ c.if-is_empty.true in
    sym (at_name names i name true (has_separator name) (is_among (take i names) name) within is empty refl refl) ∙ c.loop-name.invariant.rest

pub returns-then-has_separator : goal.returns-then-has_separator
returns-then-has_separator c =
    let names = lent_texts c.args.names.now in
    let i = c.loop-name.name-index in
    let name = (get_or c.args.names.now i (record { ref_ptr = (0, 0); now = [] })).now in
    let within = within_lent c.args.names.now i c.loop-name-test.true in
    let is = item_lent c.args.names.now i name c.loop-name-test.true in
    let empty : nat_eq (length name) 0 ≡ false = sym c.is_empty.ensures ∙ c.if-is_empty.false in
    let bad : has_separator name ≡ true = sym c.has_separator.ensures ∙ c.if-has_separator.true in
    sym (at_name names i name false true (is_among (take i names) name) within is empty bad refl) ∙ c.loop-name.invariant.rest

pub returns-then-not-branch : goal.returns-then-not-branch
returns-then-not-branch c =
    let names = lent_texts c.args.names.now in
    let i = c.loop-name.name-index in
    let name = (get_or c.args.names.now i (record { ref_ptr = (0, 0); now = [] })).now in
    let within = within_lent c.args.names.now i c.loop-name-test.true in
    let is = item_lent c.args.names.now i name c.loop-name-test.true in
    let key = name in
    let found : has_name c.loop-name.before key ≡ true = not-false _ (sym c.in_ok-insert.ensures.added ∙ c.if-not-branch.true) in
    let repeated : is_among (take i names) name ≡ true = sym (c.loop-name.invariant.known key) ∙ found in
    let empty : nat_eq (length name) 0 ≡ false = sym c.is_empty.ensures ∙ c.if-is_empty.false in
    let bad : has_separator name ≡ false = sym c.has_separator.ensures ∙ c.if-has_separator.false in
    sym (at_name names i name false false true within is empty bad repeated) ∙ c.loop-name.invariant.rest

pub loop-name-preserved : goal.loop-name-preserved
loop-name-preserved c =
    let names = lent_texts c.args.names.now in
    let i = c.loop-name.name-index in
    let name = (get_or c.args.names.now i (record { ref_ptr = (0, 0); now = [] })).now in
    let within = within_lent c.args.names.now i c.loop-name-test.true in
    let is = item_lent c.args.names.now i name c.loop-name-test.true in
    let key = name in
    let found : has_name c.loop-name.before key ≡ false = not-true _ (sym c.in_ok-insert.ensures.added ∙ c.if-not-branch.false) in
    let repeated : is_among (take i names) name ≡ false = sym (c.loop-name.invariant.known key) ∙ found in
    let empty : nat_eq (length name) 0 ≡ false = sym c.is_empty.ensures ∙ c.if-is_empty.false in
    let bad : has_separator name ≡ false = sym c.has_separator.ensures ∙ c.if-has_separator.false in
    record {
      known = λ text.
          names_more c.loop-name.before c.insert.new.self (get_or c.args.names.now i (record { ref_ptr = (0, 0); now = [] })) (take i names) c.in_ok-insert.ensures.updates c.loop-name.invariant.known text
          ∙ ap (λ (texts : List (List ℕ)). is_among texts text) (sym (taken_more names i name within is));
      rest = sym (at_name names i name false false false within is empty bad repeated) ∙ c.loop-name.invariant.rest;
    }
