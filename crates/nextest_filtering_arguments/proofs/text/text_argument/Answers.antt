use Rattle.nextest_filtering_arguments.proofs.Spans.{suffix_at}
use Rattle.nextest_filtering_arguments.proofs.Reading.{argument_lies, argument_placed, argument_reads}
use Rattle.nextest_filtering_arguments.proofs.text.text_argument.Goals as goal

pub span-span-requires : goal.span-span-requires
span-span-requires c = record { suffix = suffix_at _ _ _ c.skip_blanks-ahead.ensures c.requires.suffix }

pub meaning_of-requires-clause-suffix : goal.meaning_of-requires-clause-suffix
meaning_of-requires-clause-suffix c = suffix_at _ _ _ c.skip_blanks-ahead.ensures c.requires.suffix

pub returns-clause-lies : goal.returns-clause-lies
returns-clause-lies c =
    argument_lies _ _ _ _ _ _ c.span-span.ensures (suffix_at _ _ _ c.skip_blanks-ahead.ensures c.requires.suffix) c.split_text.ensures.whole c.trim_blanks_end-raw.ensures

pub returns-clause-placed : goal.returns-clause-placed
returns-clause-placed c =
    argument_placed _ c.args.text.now _ _ _ _ _ c.span-span.ensures c.skip_blanks-ahead.ensures c.split_text.ensures.whole c.trim_blanks_end-raw.ensures

pub returns-clause-reads : goal.returns-clause-reads
returns-clause-reads c =
    argument_reads _ _ _ _ _ _ _ _ c.skip_blanks-ahead.ensures c.split_text.ensures.whole c.split_text.ensures.stops c.split_text.ensures.only c.trim_blanks_end-raw.ensures
    c.in_ok-text.ensures.meant
