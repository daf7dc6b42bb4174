use Rattle.std.proofs.Common.{◌++◌}
use Rattle.nextest_config_resolution_load.specs.Load.{IsCompiledRule}
use Rattle.nextest_config_resolution_load.specs.RuleIds.{rule_of}
use Rattle.nextest_config_resolution_load.specs.RuleTexts.{texts_of}
use Rattle.nextest_config_resolution_load.specs.Rules.{filter_checks, listing_checks, spec_checks, text_checks}
use Rattle.nextest_config_resolution_load.specs.declared.languages.FilterPurpose.TheVariants as purpose
use Rattle.nextest_config_resolution_load.specs.declared.load_fault.PlatformSide.TheVariants as side
use Rattle.nextest_config_resolution_load.proofs.Passing.{passes_on, refuses_before, refuses_behind}
use Rattle.nextest_config_resolution_load.proofs.rules.compile_texts.Goals as goal

pub returns-in_err-target : goal.returns-in_err-target
returns-in_err-target g c =
    let Is = g.R.Languages.is_filter c.args.cx.now in
    let IsSpec = g.R.Languages.is_spec in
    let IsTooDeep = g.R.Languages.is_too_deep in
    let id = rule_of c.args.id in
    let texts = texts_of c.args.texts.now in
    let host = spec_checks id side.Host texts.host in
    let target = spec_checks id side.Target texts.target in
    let own = filter_checks id purpose.Override texts.filter in
    let default = filter_checks id purpose.Default texts.default_filter in
    let listing = listing_checks c.args.wraps id texts.filter in
    let told = c.in_err-target.field-0.0 in
    passes_on Is IsSpec IsTooDeep (IsCompiledRule Is IsSpec texts) (text_checks c.args.wraps id texts) told c.from_residual-in_err-target.result
    (refuses_behind Is IsSpec IsTooDeep host (target ++ (own ++ (default ++ listing))) told c.in_ok-host.ensures.0
    (refuses_before Is IsSpec IsTooDeep target (own ++ (default ++ listing)) told c.in_err-target.ensures))
    c.from_residual-in_err-target.ensures.1

pub returns-in_err-filter : goal.returns-in_err-filter
returns-in_err-filter g c =
    let Is = g.R.Languages.is_filter c.args.cx.now in
    let IsSpec = g.R.Languages.is_spec in
    let IsTooDeep = g.R.Languages.is_too_deep in
    let id = rule_of c.args.id in
    let texts = texts_of c.args.texts.now in
    let host = spec_checks id side.Host texts.host in
    let target = spec_checks id side.Target texts.target in
    let own = filter_checks id purpose.Override texts.filter in
    let default = filter_checks id purpose.Default texts.default_filter in
    let listing = listing_checks c.args.wraps id texts.filter in
    let told = c.in_err-filter.field-0.0 in
    passes_on Is IsSpec IsTooDeep (IsCompiledRule Is IsSpec texts) (text_checks c.args.wraps id texts) told c.from_residual-in_err-filter.result
    (refuses_behind Is IsSpec IsTooDeep host (target ++ (own ++ (default ++ listing))) told c.in_ok-host.ensures.0
    (refuses_behind Is IsSpec IsTooDeep target (own ++ (default ++ listing)) told c.in_ok-target.ensures.0
    (refuses_before Is IsSpec IsTooDeep own (default ++ listing) told (c.in_err-filter.ensures tt))))
    c.from_residual-in_err-filter.ensures.1

pub returns-in_err-default_filter : goal.returns-in_err-default_filter
returns-in_err-default_filter g c =
    let Is = g.R.Languages.is_filter c.args.cx.now in
    let IsSpec = g.R.Languages.is_spec in
    let IsTooDeep = g.R.Languages.is_too_deep in
    let id = rule_of c.args.id in
    let texts = texts_of c.args.texts.now in
    let host = spec_checks id side.Host texts.host in
    let target = spec_checks id side.Target texts.target in
    let own = filter_checks id purpose.Override texts.filter in
    let default = filter_checks id purpose.Default texts.default_filter in
    let listing = listing_checks c.args.wraps id texts.filter in
    let told = c.in_err-default_filter.field-0.0 in
    passes_on Is IsSpec IsTooDeep (IsCompiledRule Is IsSpec texts) (text_checks c.args.wraps id texts) told c.from_residual-in_err-default_filter.result
    (refuses_behind Is IsSpec IsTooDeep host (target ++ (own ++ (default ++ listing))) told c.in_ok-host.ensures.0
    (refuses_behind Is IsSpec IsTooDeep target (own ++ (default ++ listing)) told c.in_ok-target.ensures.0
    (refuses_behind Is IsSpec IsTooDeep own (default ++ listing) told (c.in_ok-filter.ensures tt).0
    (refuses_before Is IsSpec IsTooDeep default listing told (c.in_err-default_filter.ensures tt)))))
    c.from_residual-in_err-default_filter.ensures.1

pub returns-in_err-check_listing : goal.returns-in_err-check_listing
returns-in_err-check_listing g c =
    let Is = g.R.Languages.is_filter c.args.cx.now in
    let IsSpec = g.R.Languages.is_spec in
    let IsTooDeep = g.R.Languages.is_too_deep in
    let id = rule_of c.args.id in
    let texts = texts_of c.args.texts.now in
    let host = spec_checks id side.Host texts.host in
    let target = spec_checks id side.Target texts.target in
    let own = filter_checks id purpose.Override texts.filter in
    let default = filter_checks id purpose.Default texts.default_filter in
    let listing = listing_checks c.args.wraps id texts.filter in
    let told = c.in_err-check_listing.field-0.0 in
    passes_on Is IsSpec IsTooDeep (IsCompiledRule Is IsSpec texts) (text_checks c.args.wraps id texts) told c.from_residual-in_err-check_listing.result
    (refuses_behind Is IsSpec IsTooDeep host (target ++ (own ++ (default ++ listing))) told c.in_ok-host.ensures.0
    (refuses_behind Is IsSpec IsTooDeep target (own ++ (default ++ listing)) told c.in_ok-target.ensures.0
    (refuses_behind Is IsSpec IsTooDeep own (default ++ listing) told (c.in_ok-filter.ensures tt).0
    (refuses_behind Is IsSpec IsTooDeep default listing told (c.in_ok-default_filter.ensures tt).0 (c.in_err-check_listing.ensures (c.in_ok-filter.ensures tt).1)))))
    c.from_residual-in_err-check_listing.ensures.1
