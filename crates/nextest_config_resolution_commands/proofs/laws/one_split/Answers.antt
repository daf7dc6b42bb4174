use Rattle.std.proofs.Common.{◌≡◌, Some, sym, ◌∙◌}
use Rattle.nextest_config_resolution_commands.proofs.Pieced.{words_read}
use Rattle.nextest_config_resolution_commands.proofs.laws.one_split.Goals as goal

pub returns : goal.returns
returns c = λ text a b left right. let same : Some a ≡ Some b = sym (words_read left) ∙ words_read right in cc
