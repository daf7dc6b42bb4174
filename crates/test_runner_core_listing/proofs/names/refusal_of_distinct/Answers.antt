use Rattle.std.proofs.Common.{◌≡◌, [], get_or, refl, take, true, length, false, sym, ◌∙◌, nat_eq}
use Rattle.nextest_text.specs.Parts.{lent_texts}
use Rattle.test_runner_core_workspace.specs.Workspace.{has_separator, is_among}
use Rattle.test_runner_core_listing.proofs.Lent.{item_lent, within_lent}
use Rattle.test_runner_core_listing.proofs.OneByOne.{at_name, new_name}
use Rattle.test_runner_core_listing.proofs.names.refusal_of_distinct.Goals as goal

pub returns-then-is_empty : goal.returns-then-is_empty
returns-then-is_empty c =
    let names = lent_texts c.args.names.now in
    let i = c.loop-name.name-index in
    let name = (get_or c.args.names.now i (record { ref_ptr = (0, 0); now = [] })).now in
    let within = within_lent c.args.names.now i c.loop-name-test.true in
    let is = item_lent c.args.names.now i name c.loop-name-test.true in
    let empty : nat_eq (length name) 0 ≡ true = sym c.is_empty.ensures ∙ c.if-is_empty.true in
    sym (at_name names i name true (has_separator name) (is_among (take i names) name) within is empty refl refl) ∙ c.loop-name.invariant

pub returns-then-has_separator : goal.returns-then-has_separator
returns-then-has_separator c =
    let names = lent_texts c.args.names.now in
    let i = c.loop-name.name-index in
    let name = (get_or c.args.names.now i (record { ref_ptr = (0, 0); now = [] })).now in
    let within = within_lent c.args.names.now i c.loop-name-test.true in
    let is = item_lent c.args.names.now i name c.loop-name-test.true in
    let empty : nat_eq (length name) 0 ≡ false = sym c.is_empty.ensures ∙ c.if-is_empty.false in
    let bad : has_separator name ≡ true = sym c.has_separator.ensures ∙ c.if-has_separator.true in
    sym (at_name names i name false true (is_among (take i names) name) within is empty bad refl) ∙ c.loop-name.invariant

pub loop-name-preserved : goal.loop-name-preserved
loop-name-preserved c =
    let names = lent_texts c.args.names.now in
    let i = c.loop-name.name-index in
    let name = (get_or c.args.names.now i (record { ref_ptr = (0, 0); now = [] })).now in
    let within = within_lent c.args.names.now i c.loop-name-test.true in
    let is = item_lent c.args.names.now i name c.loop-name-test.true in
    let empty : nat_eq (length name) 0 ≡ false = sym c.is_empty.ensures ∙ c.if-is_empty.false in
    let bad : has_separator name ≡ false = sym c.has_separator.ensures ∙ c.if-has_separator.false in
    sym (at_name names i name false false false within is empty bad (new_name names i name c.requires within is)) ∙ c.loop-name.invariant
