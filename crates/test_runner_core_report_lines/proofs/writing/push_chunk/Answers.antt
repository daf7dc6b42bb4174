use Rattle.std.proofs.Common.{◌≡◌, false, [], Result, Ok, Err, sym, subst}
use Rattle.std.proofs.Common.{lit<}
use Rattle.std.specs.Prelude.{OnOk, codes}
use Rattle.std.proofs.lemmas.Str.Ascii.{IsAscii-nil, IsAscii-cons}
use Rattle.std.specs.Result.{is_err}
use Rattle.std.specs.Str.{IsAscii, IsUtf8}
use Rattle.std.proofs.lemmas.Str.{IsUtf8-from_ascii}
use Rattle.hex.specs.Hex.{encode_lower, lower_digits}
use Rattle.hex.proofs.HexLemmas.{IsAscii-encode_with}
use Rattle.test_runner_core_report_lines.proofs.writing.push_chunk.Goals as goal

ok_holds : {T E : Type 0} (result : Result T E) (P : Type 0) → false ≡ is_err result → OnOk result P → P
ok_holds (Ok value) P ok holds = holds
ok_holds (Err error) P ok holds = absurd cc

digits_ascii : IsAscii lower_digits
digits_ascii =
    IsAscii-cons 48 (codes "123456789abcdef") (lit< tt) (IsAscii-cons 49 (codes "23456789abcdef") (lit< tt) (IsAscii-cons 50 (codes "3456789abcdef") (lit< tt) (IsAscii-cons 51 (codes "456789abcdef") (lit< tt) (IsAscii-cons 52 (codes "56789abcdef") (lit< tt) (IsAscii-cons 53 (codes "6789abcdef") (lit< tt) (IsAscii-cons 54 (codes "789abcdef") (lit< tt) (IsAscii-cons 55 (codes "89abcdef") (lit< tt) (IsAscii-cons 56 (codes "9abcdef") (lit< tt) (IsAscii-cons 57 (codes "abcdef") (lit< tt) (IsAscii-cons 97 (codes "bcdef") (lit< tt) (IsAscii-cons 98 (codes "cdef") (lit< tt) (IsAscii-cons 99 (codes "def") (lit< tt) (IsAscii-cons 100 (codes "ef") (lit< tt) (IsAscii-cons 101 (codes "f") (lit< tt) (IsAscii-cons 102 [] (lit< tt) IsAscii-nil)))))))))))))))

pub unreachable-requires-in-Err : goal.unreachable-requires-in-Err
unreachable-requires-in-Err c =
    let written = ok_holds c.encode_to_slice.result _ c.if-is_err.ensures.value c.encode_to_slice.ensures.written in
    c.in-Err.ensures.cases.0 (subst IsUtf8 (sym written) (IsUtf8-from_ascii (encode_lower c.args.bytes.now) (IsAscii-encode_with lower_digits c.args.bytes.now digits_ascii)))
