use Rattle.std.proofs.Common.{lit<}
use Rattle.std.proofs.lemmas.Str.Pattern.{strip_prefix_char}
use Rattle.nextest_filtering_escapes.proofs.Letters.{braces_none, braces_split}
use Rattle.nextest_filtering_escapes.proofs.hexadecimal.split_braces.Goals as goal

pub returns-in_err-strip_prefix : goal.returns-in_err-strip_prefix
returns-in_err-strip_prefix c =
    let behind = c.args.behind.now in
    let stripped = strip_prefix_char 123 behind c.strip_prefix.result c.strip_prefix.ensures.cases (lit< tt) in
    rw c.from_residual.ensures (braces_none behind (rw c.in_err-strip_prefix.was at stripped))

pub returns : goal.returns
returns c =
    let behind = c.args.behind.now in
    let stripped = strip_prefix_char 123 behind c.strip_prefix.result c.strip_prefix.ensures.cases (lit< tt) in
    braces_split behind c.in_ok-strip_prefix.field-0.now c.split_once.result (rw c.in_ok-strip_prefix.was at stripped) c.split_once.ensures.cases
