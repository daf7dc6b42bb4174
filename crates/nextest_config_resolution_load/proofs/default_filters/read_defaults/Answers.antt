use Rattle.std.proofs.Common.{map}
use Rattle.nextest_config_resolution_load.specs.Checks.{default_check, default_checks}
use Rattle.nextest_config_resolution_load.specs.Load.{IsReadAs, named_of}
use Rattle.nextest_config_resolution_load.specs.Reading.{AreReadDefaults}
use Rattle.nextest_config_resolution_load.specs.declared.languages.FilterPurpose.TheVariants as purpose
use Rattle.nextest_config_resolution_load.proofs.Passing.{kept_at, passes_on, refuses_at, seen_at, seen_within, zip_at}
use Rattle.nextest_config_resolution_keys.specs.File.{default_filter_in}
use Rattle.nextest_config_resolution_load.proofs.default_filters.read_defaults.Goals as goal

pub returns-in_err-filter : goal.returns-in_err-filter
returns-in_err-filter g c =
    let Is = g.R.Languages.is_filter c.args.cx.now in
    let IsSpec = g.R.Languages.is_spec in
    let IsTooDeep = g.R.Languages.is_too_deep in
    let given = c.args.profiles.now in
    let place = c.loop-profile.profile-index in
    let profile = c.profile-item.result in
    passes_on Is IsSpec IsTooDeep (AreReadDefaults Is (map named_of given)) (default_checks (map named_of given)) c.in_err-filter.field-0.0 c.from_residual.result
    (refuses_at Is IsSpec IsTooDeep (λ it. default_check it.0 (default_filter_in it.1)) (map named_of given) place (named_of profile) c.in_err-filter.field-0.0
    (seen_within named_of given place c.loop-profile-test.true) (seen_at named_of given place profile c.loop-profile-test.true c.profile-item.is) c.loop-profile.invariant.kept
    c.in_err-filter.ensures)
    c.from_residual.ensures.1

pub loop-profile-preserved : goal.loop-profile-preserved
loop-profile-preserved g c =
    let Is = g.R.Languages.is_filter c.args.cx.now in
    let IsSpec = g.R.Languages.is_spec in
    let given = c.args.profiles.now in
    let place = c.loop-profile.profile-index in
    let profile = c.profile-item.result in
    let within = seen_within named_of given place c.loop-profile-test.true in
    let at = seen_at named_of given place profile c.loop-profile-test.true c.profile-item.is in
    record {
      kept = kept_at Is IsSpec g.R.Languages.is_too_deep (λ it. default_check it.0 (default_filter_in it.1)) (map named_of given) place (named_of profile) within at c.loop-profile.invariant.kept
          c.in_ok-filter.ensures.0;
      read = zip_at (λ profile filter. IsReadAs (Is purpose.Default) (default_filter_in profile.1) filter) (map named_of given) c.loop-profile.found c.push.new.self place (named_of profile)
          c.in_ok-filter.filter within at c.loop-profile.invariant.read c.in_ok-filter.ensures.1 c.in_ok-push.ensures.ok;
    }
