use Rattle.std.proofs.Common.{Result, Ok, Err, OnOk, sym, ap, subst}
use Rattle.nextest_config_resolution_load.specs.Checks.{document_of}
use Rattle.nextest_config_resolution_load.specs.Warn.{AreKept, warnings_at}
use Rattle.nextest_config_resolution_load.proofs.Sources.{kept_none}
use Rattle.nextest_config_resolution_load.proofs.files.read_source.Goals as goal

on_ok : {T E P : Type 0} (result : Result T E) → P → OnOk result P
on_ok (Ok value) holds = holds
on_ok (Err fault) holds = tt

pub returns-in-NotFound-clause-kept : goal.returns-in-NotFound-clause-kept
returns-in-NotFound-clause-kept g c =
    let source = c.args.source.now in
    let kept = c.args.kept.now in
    on_ok c.read_missing.result (subst (AreKept kept kept) (sym (ap (λ outcome. warnings_at source (document_of outcome)) c.in-NotFound.is)) (kept_none kept))
