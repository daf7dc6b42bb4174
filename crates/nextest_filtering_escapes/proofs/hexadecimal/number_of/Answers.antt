use Rattle.std.proofs.Common.{lit<, rules}
use Rattle.std.proofs.lemmas.Bool.Decides.{not_from_Decides}
use Rattle.std.proofs.lemmas.Str.Pattern.{starts_char}
use Rattle.nextest_filtering_escapes.proofs.Letters.{number_parsed}
use Rattle.nextest_filtering_escapes.proofs.hexadecimal.number_of.Goals as goal

pub returns : goal.returns
returns c =
    let digits = c.args.digits.now in
    let bare = not_from_Decides c.starts_with.result
    (starts_char 43 digits c.starts_with.result c.starts_with.ensures.cases (lit< tt) (lit< tt)) c.if-starts_with.false in
    rw c.ok.ensures.value (number_parsed digits c.from_str_radix.result c.from_str_radix.ensures.value bare (search rules) (search rules))
