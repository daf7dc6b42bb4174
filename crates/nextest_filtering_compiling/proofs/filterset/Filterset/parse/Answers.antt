use Rattle.std.proofs.Common.{◌≡◌, ◌≢◌, [], ℕ, List, refl, subst, arith}
use Rattle.std.specs.Prelude.{vec_len}
use Rattle.nextest_filtering_syntax.specs.Reading.{IsReadingOf}
use Rattle.nextest_filtering_compiling.specs.Outcomes.{IsFiltered}
use Rattle.nextest_filtering_compiling.proofs.Whole.{accepted_text, is_nothing, is_something, refused_predicates, refused_text, refused_treeless}
use Rattle.nextest_filtering_compiling.proofs.filterset.Filterset.parse.Goals as goal

pub returns-in_default : goal.returns-in_default
returns-in_default c =
    let reading = c.in_ok-tree.field-0 in
    let is : IsReadingOf c.args.input reading = subst (λ (text : List ℕ). IsReadingOf text reading) c.as_str.ensures c.in_ok-tree.ensures in
    let told = refused_treeless c.args.cx.now c.args.kind c.args.known_groups.now c.args.input reading is c.in_default.is in
    (refl, told.some, told.why, told.never)

pub returns-then-not-is_empty : goal.returns-then-not-is_empty
returns-then-not-is_empty c =
    let reading = c.in_ok-tree.field-0 in
    let is : IsReadingOf c.args.input reading = subst (λ (text : List ℕ). IsReadingOf text reading) c.as_str.ensures c.in_ok-tree.ensures in
    let some : reading.faults.items ≢ []
    = is_something reading.faults.items (vec_len reading.faults) c.is_empty.result c.is_empty.ensures c.if-not-is_empty.true (omega (arith, reading.faults.ok.0)) in
    let told = refused_text c.args.cx.now c.args.kind c.args.known_groups.now c.args.input reading is some in
    (refl, told.some, told.why, told.never)

pub returns-in-Filter : goal.returns-in-Filter
returns-in-Filter c =
    let reading = c.in_ok-tree.field-0 in
    let is : IsReadingOf c.args.input reading = subst (λ (text : List ℕ). IsReadingOf text reading) c.as_str.ensures c.in_ok-tree.ensures in
    let clean : reading.faults.items ≡ []
    = is_nothing reading.faults.items (vec_len reading.faults) c.is_empty.result c.is_empty.ensures c.if-not-is_empty.false (omega (arith, reading.faults.ok.0)) in
    let told = accepted_text c.args.cx.now c.args.kind c.args.known_groups.now c.args.input reading c.in-Some.parsed c.in-Filter.compiled is clean c.in-Some.is
    (subst (IsFiltered c.args.cx.now c.args.kind c.args.known_groups.now c.in-Some.parsed) c.in-Filter.is c.in_ok-compiled.ensures) in
    (refl, told.accepted, told.stands, told.compiled, told.leaves)

pub returns : goal.returns
returns c =
    let reading = c.in_ok-tree.field-0 in
    let is : IsReadingOf c.args.input reading = subst (λ (text : List ℕ). IsReadingOf text reading) c.as_str.ensures c.in_ok-tree.ensures in
    let clean : reading.faults.items ≡ []
    = is_nothing reading.faults.items (vec_len reading.faults) c.is_empty.result c.is_empty.ensures c.if-not-is_empty.false (omega (arith, reading.faults.ok.0)) in
    let why = subst (IsFiltered c.args.cx.now c.args.kind c.args.known_groups.now c.in-Some.parsed) c.in-Faults.is c.in_ok-compiled.ensures in
    let told = refused_predicates c.args.cx.now c.args.kind c.args.known_groups.now c.args.input reading c.in-Some.parsed c.in-Faults.errors.items is clean c.in-Some.is why.0 why.1 in
    (refl, told.some, told.why, told.never)
