use Rattle.std.proofs.Common.{rules, ◌<◌, ◌^◌}
use Rattle.test_runner_core_line_syntax.proofs.Writable.{record_spellable, record_parts}
use Rattle.test_runner_core_line_syntax.proofs.writing.record_is_spellable.Goals as goal

pub returns-then-result_is_spellable : goal.returns-then-result_is_spellable
returns-then-result_is_spellable c =
    let told = c.args.told.now in
    let small : told.nanos < 2 ^ 64 = search rules in (
      (λ yes. record_spellable told small (c.result_is_spellable.ensures.0 c.if-result_is_spellable.true) c.output_fits.ensures (c.is_paired.ensures.0 yes)),
      (λ spellable. c.is_paired.ensures.1 (record_parts told spellable).1),
    )
