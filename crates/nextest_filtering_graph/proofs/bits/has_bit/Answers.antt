use Rattle.nextest_filtering_graph.proofs.Words.{has_bit_tests}
use Rattle.nextest_filtering_graph.proofs.bits.has_bit.Goals as goal

pub returns : goal.returns
returns c = has_bit_tests c.args.words.now c.args.width c.args.from c.args.to
