use Rattle.std.proofs.Common.{◌≡◌, ◌++◌, [], ◌∷◌, ℕ, List, ap, sym, ◌∙◌}
use Rattle.std.specs.Prelude.{option_map, string_bytes}
use Rattle.nextest_config_resolution_commands.specs.Splitting.{words_from}
use Rattle.nextest_config_resolution_commands.specs.declared.steps.Place.TheVariants as place
use Rattle.nextest_config_resolution_commands.specs.declared.steps.SplitStep.TheVariants as step
use Rattle.nextest_config_resolution_commands.proofs.Characters as lemma
use Rattle.nextest_config_resolution_commands.proofs.words.WordsSoFar.take.Goals as goal

pub returns-in-Pass : goal.returns-in-Pass
returns-in-Pass c = λ ahead.
    let it = c.args.self.now in
    lemma.read_by it.words it.place (string_bytes it.word) c.args.character c.kind_of.result c.step_at.result (step.Pass c.in-Pass.place)
    c.kind_of.ensures c.step_at.ensures c.in-Pass.is ahead

pub returns-in_ok-push-in-Take : goal.returns-in_ok-push-in-Take
returns-in_ok-push-in-Take c = λ ahead.
    let it = c.args.self.now in
    lemma.read_by it.words it.place (string_bytes it.word) c.args.character c.kind_of.result c.step_at.result (step.Take c.in-Take.place)
    c.kind_of.ensures c.step_at.ensures c.in-Take.is ahead
    ∙ lemma.grown it.words c.in-Take.place _ (string_bytes c.push.new.self) ahead c.in_ok-push-in-Take.ensures.bytes

pub returns-in_ok-push-in-Keep-2 : goal.returns-in_ok-push-in-Keep-2
returns-in_ok-push-in-Keep-2 c = λ ahead.
    let it = c.args.self.now in
    lemma.read_by it.words it.place (string_bytes it.word) c.args.character c.kind_of.result c.step_at.result (step.Keep c.in-Keep.place)
    c.kind_of.ensures c.step_at.ensures c.in-Keep.is ahead
    ∙ lemma.grown it.words c.in-Keep.place _ (string_bytes c.push-in-Keep-2.new.self) ahead
    (lemma.kept (string_bytes it.word) (string_bytes c.push-in-Keep.new.self) (string_bytes c.push-in-Keep-2.new.self) c.args.character
    c.in_ok-push-in-Keep.ensures.bytes c.in_ok-push-in-Keep-2.ensures.bytes)

pub returns-in_ok-push-in-End : goal.returns-in_ok-push-in-End
returns-in_ok-push-in-End c = λ ahead.
    let it = c.args.self.now in
    let word_is : c.from.result ≡ string_bytes it.word = c.from.ensures ∙ ap string_bytes c.replace-word.ensures.value in
    let none : string_bytes c.replace-word.new.dest ≡ [] = ap string_bytes c.replace-word.ensures.after ∙ c.new.ensures.bytes in
    let all : c.push-in-End.new.self ≡ it.words ++ string_bytes it.word ∷ [] =
    c.in_ok-push-in-End.ensures.ok ∙ ap (λ (word : List ℕ). it.words ++ word ∷ []) word_is in
    lemma.read_by it.words it.place (string_bytes it.word) c.args.character c.kind_of.result c.step_at.result step.End
    c.kind_of.ensures c.step_at.ensures c.in-End.is ahead
    ∙ lemma.word_ended it.words (string_bytes it.word) (words_from ahead place.Between [])
    ∙ ap (λ (words : List (List ℕ)). option_map (λ more. words ++ more) (words_from ahead place.Between [])) (sym all)
    ∙ lemma.grown c.push-in-End.new.self place.Between [] (string_bytes c.replace-word.new.dest) ahead none
