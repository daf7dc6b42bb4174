use Rattle.std.proofs.Common.{◌≡◌, List, [], ◌∷◌, ◌++◌, sym, ap, ◌∙◌}
use Rattle.std.proofs.lemmas.List.{append_assoc}
use Rattle.std.specs.List.{flat_map}
use Rattle.nextest_config_resolution_load.specs.Reading.{AreReadInFile, rules_of_profiles}
use Rattle.nextest_config_resolution_load.specs.Rules.{profile_checks}
use Rattle.nextest_config_resolution_load.specs.declared.file_config.ProfileRules.{ProfileRules}
use Rattle.nextest_config_resolution_load.proofs.Passing.{kept_more, passes_on, refuses_among}
use Rattle.nextest_config_resolution_load.proofs.ProfileReading.{profile_read}
use Rattle.nextest_config_resolution_load.proofs.profile_rules.load_profiles.Goals as goal

pub returns-in_err-own : goal.returns-in_err-own
returns-in_err-own g c =
    let Is = g.R.Languages.is_filter c.args.cx.now in
    let IsSpec = g.R.Languages.is_spec in
    let IsTooDeep = g.R.Languages.is_too_deep in
    let path = c.args.path.now in
    let all = c.args.profiles in
    let front = c.loop-profile.yielded in
    let rest = c.next.new.self.rest.items in
    let parted : all ≡ front ++ c.in-Some.profile ∷ rest = c.loop-profile.invariant.ahead ∙ ap (λ (left : List ProfileRules). front ++ left) c.in-Some.ensures.steps.0 in
    let told = c.in_err-own.field-0.0 in
    passes_on Is IsSpec IsTooDeep (AreReadInFile Is IsSpec (rules_of_profiles path all)) (flat_map (profile_checks path) all) told c.from_residual.result
    (refuses_among Is IsSpec IsTooDeep (profile_checks path) front c.in-Some.profile rest all told parted c.loop-profile.invariant.kept c.in_err-own.ensures) c.from_residual.ensures.1

pub loop-profile-preserved : goal.loop-profile-preserved
loop-profile-preserved g c =
    let Is = g.R.Languages.is_filter c.args.cx.now in
    let IsSpec = g.R.Languages.is_spec in
    let path = c.args.path.now in
    let front = c.loop-profile.yielded in
    let profile = c.in-Some.profile in
    let rest = c.next.new.self.rest.items in
    record {
      ahead = c.loop-profile.invariant.ahead ∙ ap (λ (left : List ProfileRules). front ++ left) c.in-Some.ensures.steps.0 ∙ sym (append_assoc front (profile ∷ []) rest);
      kept = kept_more Is IsSpec g.R.Languages.is_too_deep (profile_checks path) front profile c.loop-profile.invariant.kept c.in_ok-own.ensures.0;
      read = profile_read Is IsSpec path front profile c.loop-profile.rules c.in_ok-own.own c.in_ok-rules.rules c.loop-profile.invariant.read c.in_ok-own.ensures.1
          c.in_ok-rules.ensures.overrides c.in_ok-rules.ensures.scripts;
    }
