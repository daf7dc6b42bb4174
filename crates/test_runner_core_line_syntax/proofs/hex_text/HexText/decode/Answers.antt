use Rattle.std.proofs.Common.{sym, subst}
use Rattle.std.specs.Str.{IsUtf8}
use Rattle.std.proofs.lemmas.Str.{IsUtf8-from_is_utf8}
use Rattle.test_runner_core_line_syntax.proofs.hex_text.HexText.decode.Goals as goal

pub unreachable-requires : goal.unreachable-requires
unreachable-requires c =
    let utf8 = IsUtf8-from_is_utf8 _ c.args.self.utf8 in
    let ok = c.from_utf8.ensures.succeeds (subst IsUtf8 (sym c.in_ok-decode.ensures) utf8) in
    cc (rw c.in-Err.is at ok)
