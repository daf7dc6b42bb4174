use Rattle.nextest_filtering_graph.proofs.Words.{bit_set}
use Rattle.nextest_filtering_graph.proofs.bits.set_bit.Goals as goal

pub returns : goal.returns
returns c = bit_set c.args.words.now c.args.width c.args.from c.args.to c.requires.row c.requires.bit
