use Rattle.std.specs.Prelude.{codes}
use Rattle.std.proofs.lemmas.Str.Pattern.{contains_text}
use Rattle.nextest_filtering_syntax.proofs.deps.needs_deps.Goals as goal

pub returns : goal.returns
returns c = contains_text _ (codes "deps") _ c.contains.ensures.cases
