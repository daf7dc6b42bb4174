use Rattle.std.proofs.Common.{Option, sym, subst}
use Rattle.toml.specs.Data.{Members}
use Rattle.nextest_config_resolution_load.specs.Warn.{AreKept, warnings_at}
use Rattle.nextest_config_resolution_load.proofs.files.read_text.Goals as goal

pub returns-clause-kept : goal.returns-clause-kept
returns-clause-kept g c =
    subst (λ (given : Option Members). AreKept c.args.kept.now c.keep_warnings.new.kept (warnings_at c.args.source.now given)) (sym c.in_ok-file.ensures) c.in_ok-keep_warnings.ensures
