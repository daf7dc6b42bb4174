use Rattle.nextest_config_resolution_commands.proofs.Divided.{words_divided}
use Rattle.nextest_config_resolution_commands.proofs.Pieced.{words_read}
use Rattle.nextest_config_resolution_commands.proofs.laws.words_by_pieces.Goals as goal

pub returns : goal.returns
returns c = λ text words. (words_divided text words, λ are. words_read are)
