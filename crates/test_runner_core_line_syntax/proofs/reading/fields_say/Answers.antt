use Rattle.std.proofs.Common.{ℕ, List, subst}
use Rattle.test_runner_core_line_syntax.specs.Spelling.{SpellsFields}
use Rattle.test_runner_core_line_syntax.specs.Fields.{fields_of}
use Rattle.test_runner_core_line_syntax.proofs.Refusals.{unknown_word}
use Rattle.test_runner_core_line_syntax.proofs.reading.fields_say.Goals as goal

pub returns-in_default : goal.returns-in_default
returns-in_default c = λ told spelled.
    unknown_word c.in_ok-word.word.now (fields_of c.in_ok-word.rest.now) c.in_default.not-script c.in_default.not-start c.in_default.not-end c.in_default.not-stop told
    (subst (λ (fields : List (List ℕ)). SpellsFields told fields) c.in_ok-word.ensures spelled)
