use Rattle.std.proofs.Common.{map, refl}
use Rattle.std.specs.List.{flat_map}
use Rattle.toml.specs.View.{table_view}
use Rattle.nextest_config_resolution_load.specs.Checks.{file_of, rules_of_source, source_checks}
use Rattle.nextest_config_resolution_load.specs.Reading.{AreReadFiles, AreReadInFile}
use Rattle.nextest_config_resolution_load.proofs.Passing.{kept_all, kept_at, passes_on, refuses_at, seen_at, seen_over, seen_within, zip_at}
use Rattle.nextest_config_resolution_load.proofs.Sources.{files_read, kept_more, kept_whole, moved_more, now_of}
use Rattle.nextest_config_resolution_load.proofs.files.read_files.Goals as goal

pub returns-in_err-own-clause-read : goal.returns-in_err-own-clause-read
returns-in_err-own-clause-read g c =
    let Is = g.R.Languages.is_filter c.args.cx.now in
    let IsSpec = g.R.Languages.is_spec in
    let IsTooDeep = g.R.Languages.is_too_deep in
    let features = c.args.features in
    let all = now_of c.args.sources.now in
    let place = c.loop-source.source-index in
    let source = c.source-item.result in
    passes_on Is IsSpec IsTooDeep (AreReadFiles Is IsSpec all) (flat_map (source_checks features) all) c.in_err-own.field-0.0 c.from_residual.result
    (refuses_at Is IsSpec IsTooDeep (source_checks features) all place source.now c.in_err-own.field-0.0 (seen_within (λ it. it.now) c.args.sources.now place c.loop-source-test.true)
    (seen_at (λ it. it.now) c.args.sources.now place source c.loop-source-test.true c.source-item.is) c.loop-source.invariant.kept c.in_err-own.ensures.rules)
    c.from_residual.ensures.1

pub loop-source-preserved : goal.loop-source-preserved
loop-source-preserved g c =
    let Is = g.R.Languages.is_filter c.args.cx.now in
    let IsSpec = g.R.Languages.is_spec in
    let features = c.args.features in
    let all = now_of c.args.sources.now in
    let place = c.loop-source.source-index in
    let source = c.source-item.result in
    let within = seen_within (λ it. it.now) c.args.sources.now place c.loop-source-test.true in
    let at = seen_at (λ it. it.now) c.args.sources.now place source c.loop-source-test.true c.source-item.is in
    let read = c.in_ok-own.ensures in
    let file = file_of source.now in
    record {
      kept = kept_at Is IsSpec g.R.Languages.is_too_deep (source_checks features) all place source.now within at c.loop-source.invariant.kept read.rules.0;
      files = moved_more (map table_view c.loop-source.files.items) (map table_view c.read_source.new.files.items) all place source.now file within at refl
          c.loop-source.invariant.files read.files;
      told = kept_more c.args.kept.now c.loop-source.kept c.read_source.new.kept all place source.now file within at refl
          c.loop-source.invariant.told read.kept;
      rules = zip_at (λ source own. AreReadInFile Is IsSpec (rules_of_source source) own) all c.loop-source.rules.items c.push.new.self.items place source.now c.in_ok-own.own within at
          c.loop-source.invariant.rules read.rules.1 c.in_ok-push.ensures.items;
    }

pub returns-clause-read : goal.returns-clause-read
returns-clause-read g c =
    let Is = g.R.Languages.is_filter c.args.cx.now in
    let features = c.args.features in
    let all = now_of c.args.sources.now in
    let place = c.loop-source.source-index in
    let over = seen_over (λ it. it.now) c.args.sources.now place c.loop-source-test.false in (
      kept_all Is g.R.Languages.is_spec g.R.Languages.is_too_deep (source_checks features) all place over c.loop-source.invariant.kept,
      files_read Is g.R.Languages.is_spec all place _ over c.loop-source.invariant.files c.loop-source.invariant.rules,
    )

pub returns-clause-kept : goal.returns-clause-kept
returns-clause-kept g c =
    let all = now_of c.args.sources.now in
    let place = c.loop-source.source-index in
    kept_whole c.args.kept.now c.loop-source.kept all place (seen_over (λ it. it.now) c.args.sources.now place c.loop-source-test.false) c.loop-source.invariant.told
