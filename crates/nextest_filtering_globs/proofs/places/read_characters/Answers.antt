use Rattle.std.proofs.Common.{◌++◌, ◌∙◌, ap, chars}
use Rattle.std.proofs.lemmas.Result.{on_ok_weaker}
use Rattle.std.proofs.lemmas.Iterator.{YieldsList-from_chars}
use Rattle.std.proofs.lemmas.Iterator.Adapters.{items_from_extend}
use Rattle.nextest_filtering_globs.proofs.places.read_characters.Goals as goal

pub returns : goal.returns
returns c =
    let text = c.args.text.now in
    on_ok_weaker c.extend.result (λ read. read.0 ∙ ap (λ x. x ++ chars text) c.clear.ensures.items)
    (items_from_extend c.extend.result c.extend.ensures.ran (YieldsList-from_chars text c.utf8.text c.chars.ensures.rest))
