use Rattle.std.proofs.Common.{lit<}
use Rattle.std.proofs.lemmas.Str.Pattern.{strip_prefix_char}
use Rattle.nextest_filtering_escapes.proofs.Shown.{opened, not_opened}
use Rattle.nextest_filtering_escapes.proofs.printing.opening_of.Goals as goal

pub returns-in-Some : goal.returns-in-Some
returns-in-Some c =
    let stripped = strip_prefix_char 32 c.args.text.now c.strip_prefix.result c.strip_prefix.ensures.cases (lit< tt) in
    opened c.args.text.now c.in-Some.rest.now (rw c.in-Some.is at stripped)

pub returns-in-None : goal.returns-in-None
returns-in-None c =
    let stripped = strip_prefix_char 32 c.args.text.now c.strip_prefix.result c.strip_prefix.ensures.cases (lit< tt) in
    not_opened c.args.text.now (rw c.in-None.is at stripped)
