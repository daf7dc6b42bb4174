use Rattle.test_runner_core_platforms.proofs.Splits.{cut}
use Rattle.test_runner_core_platforms.proofs.span.Span.split.Goals as goal

pub split_at-requires : goal.split_at-requires
split_at-requires c = cut c.args.self c.args.text.now c.len_in.result c.utf8.text c.len_in.ensures.within c.len_in.ensures.each c.len_in.ensures.ends
