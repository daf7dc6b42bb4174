use Rattle.std.proofs.Common.{lit<}
use Rattle.std.proofs.lemmas.Str.Pattern.{strip_suffix_char}
use Rattle.nextest_filtering_escapes.proofs.Shown.{closed, not_closed}
use Rattle.nextest_filtering_escapes.proofs.printing.closing_of.Goals as goal

pub returns-in-Some : goal.returns-in-Some
returns-in-Some c =
    let stripped = strip_suffix_char 32 c.args.rest.now c.strip_suffix.result c.strip_suffix.ensures.cases (lit< tt) in
    closed c.args.rest.now c.in-Some.middle.now (rw c.in-Some.is at stripped)

pub returns-in-None : goal.returns-in-None
returns-in-None c =
    let stripped = strip_suffix_char 32 c.args.rest.now c.strip_suffix.result c.strip_suffix.ensures.cases (lit< tt) in
    not_closed c.args.rest.now (rw c.in-None.is at stripped)
