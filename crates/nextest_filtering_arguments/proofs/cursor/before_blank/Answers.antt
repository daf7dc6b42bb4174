use Rattle.std.proofs.Common.{lit<}
use Rattle.std.proofs.lemmas.Str.Pattern.{strip_suffix_char}
use Rattle.nextest_filtering_arguments.proofs.Trimming.{bare_end}
use Rattle.nextest_filtering_arguments.proofs.cursor.before_blank.Goals as goal

pub returns-clause-none : goal.returns-clause-none
returns-clause-none c =
    let text = c.args.text.now in
    bare_end text c.strip_suffix-4.result
    (rw c.in_default.is at (strip_suffix_char 32 text c.strip_suffix.result c.strip_suffix.ensures.cases (lit< tt)))
    (rw c.in_default-strip_suffix.is at (strip_suffix_char 9 text c.strip_suffix-2.result c.strip_suffix-2.ensures.cases (lit< tt)))
    (rw c.in_default-strip_suffix-2.is at (strip_suffix_char 10 text c.strip_suffix-3.result c.strip_suffix-3.ensures.cases (lit< tt)))
    (strip_suffix_char 13 text c.strip_suffix-4.result c.strip_suffix-4.ensures.cases (lit< tt))
