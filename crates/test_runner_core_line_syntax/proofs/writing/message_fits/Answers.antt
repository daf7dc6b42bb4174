use Rattle.test_runner_core_line_syntax.proofs.Writable.{message_spellable}
use Rattle.test_runner_core_line_syntax.proofs.writing.message_fits.Goals as goal

pub returns : goal.returns
returns c =
    let utf8 = rw c.as_str.ensures at c.as_str.utf8 in
    let fits = rw (c.as_bytes.ensures.value, c.as_str.ensures) at c.bytes_fit.ensures in
    message_spellable c.args.message.now utf8 fits
