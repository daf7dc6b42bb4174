use Rattle.std.proofs.Common.{inl, inr, sym, ◌∙◌}
use Rattle.test_runner_core_line_syntax.proofs.Hex.{hex_decodes}
use Rattle.test_runner_core_line_syntax.proofs.hex_digits.HexDigits.decode.Goals as goal

pub unreachable-requires : goal.unreachable-requires
unreachable-requires c =
    elim c.in-Err.ensures.err [
      | inl memory ↦ c.in_default.not-OutOfMemory memory
      | inr bad ↦ cc (sym bad ∙ hex_decodes c.args.self.digits.now c.args.self.spelled)
    ]
