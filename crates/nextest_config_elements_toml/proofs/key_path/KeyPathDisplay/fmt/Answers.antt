use Rattle.std.proofs.Common.{◌≡◌, ◌++◌, ◌∷◌, List, ℕ, take, rules, arith, sym, ap, ◌∙◌}
use Rattle.std.proofs.Output.{has_written_append, has_written_of_eq}
use Rattle.std.proofs.lemmas.Grind.{common_steps}
use Rattle.std.specs.Fmt.{HasWritten}
use Rattle.std.specs.List.{flat_map}
use Rattle.nextest_config_elements_toml.specs.Paths.{dotted_text}
use Rattle.nextest_config_elements_toml.proofs.Dotted.{dotted, dotted_text-first}
use Rattle.nextest_config_elements_toml.proofs.key_path.KeyPathDisplay.fmt.Goals as goal

pub returns-clause-writes : goal.returns-clause-writes
returns-clause-writes g c = λ plain ok.
    let first = c.in-Some.first.now in
    let more = c.in-Some.more.now in
    let one : HasWritten g.W.Write.write_str_gives c.args.f.now first c.write_str.new.self = search rules in
    let all : take c.loop-key.key-index more ≡ more = grind (arith, common_steps) in
    let whole : c.args.self.now.keys ≡ first ∷ more = grind (arith, common_steps) in
    has_written_of_eq _ _ _ _ _
    (ap (λ (keys : List (List ℕ)). first ++ flat_map dotted keys) all ∙ sym (dotted_text-first first more) ∙ ap dotted_text (sym whole))
    (has_written_append _ _ _ _ _ _ one (c.loop-key.invariant one.plain))
