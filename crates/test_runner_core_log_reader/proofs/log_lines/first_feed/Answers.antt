use Rattle.test_runner_core_log_reader.proofs.Ranges.{first_feed_is}
use Rattle.test_runner_core_log_reader.proofs.log_lines.first_feed.Goals as goal

pub returns : goal.returns
returns c = first_feed_is c.args.bytes.now c.memchr.result c.memchr.ensures
