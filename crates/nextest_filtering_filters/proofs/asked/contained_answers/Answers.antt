use Rattle.std.proofs.Common.{◌≡◌, [], ◌∙◌, ap, get_or, Bool, Bor, List, ℕ, arith}
use Rattle.std.proofs.lemmas.Str.Pattern.{contains_text}
use Rattle.nextest_filtering_ast.specs.Meaning.{Compares}
use Rattle.nextest_filtering_ast.specs.Tree.{contains}
use Rattle.nextest_filtering_filters.specs.Meaning.{Tells}
use Rattle.nextest_filtering_filters.specs.Questions.{decided}
use Rattle.nextest_filtering_filters.proofs.Lists.{zip_end, zip_more_read}
use Rattle.nextest_filtering_filters.proofs.Parts.{tells_one}
use Rattle.nextest_filtering_filters.proofs.asked.contained_answers.Goals as goal

pub loop-name-preserved : goal.loop-name-preserved
loop-name-preserved c =
    let none : Bor (List ℕ) = record { ref_ptr = (0, 0); now = [] } in
    let l = c.loop-name in
    let name = (get_or c.args.names.now l.name-index none).now in
    zip_more_read
    (λ (name : Bor (List ℕ)) (value : Bool). (answer : Bool) → Tells (Compares contains c.args.text.now name.now) answer → value ≡ decided c.args.decision answer)
    c.args.names.now l.values.items c.push.new.self.items l.name-index none c.of.result c.loop-name-test.true c.in_ok-push.ensures.items
    (λ answer is. c.of.ensures ∙ ap (decided c.args.decision) (tells_one (Compares contains c.args.text.now name) c.contains.result answer (contains_text _ c.args.text.now _ c.contains.ensures.cases) is))
    l.invariant

pub returns : goal.returns
returns c =
    zip_end
    (λ (name : Bor (List ℕ)) (value : Bool). (answer : Bool) → Tells (Compares contains c.args.text.now name.now) answer → value ≡ decided c.args.decision answer)
    c.args.names.now c.loop-name.values.items c.loop-name.name-index (omega arith) c.loop-name.invariant
