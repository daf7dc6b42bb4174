use Rattle.std.proofs.Common.{◌++◌, rules}
use Rattle.std.proofs.Output.{has_written_append, has_written_of_eq}
use Rattle.nextest_filtering_escapes.specs.Printing.{printed_character}
use Rattle.nextest_filtering_escapes.proofs.Shown.{printed_more, printed_none}
use Rattle.nextest_filtering_escapes.proofs.printing.MiddleDisplay.fmt.Goals as goal

pub loop-character-preserved : goal.loop-character-preserved
loop-character-preserved g c = λ plain.
    let known = c.loop-character.invariant plain in
    let character = c.in-Some.character in (
      known.0 ++ printed_character character,
      has_written_append _ _ _ _ _ _ known.1 (search rules),
      printed_more _ known.0 c.loop-character.character-iterator.rest.now c.next.new.self.rest.now character known.2 c.in-Some.ensures.steps.0,
    )

pub returns-clause-writes : goal.returns-clause-writes
returns-clause-writes g c = λ plain ok.
    let known = c.loop-character.invariant plain in
    has_written_of_eq _ _ _ _ _ (printed_none _ known.0 c.loop-character.character-iterator.rest.now known.2 c.in-None.ensures.steps.0.0) known.1
