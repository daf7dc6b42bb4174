use Rattle.std.proofs.Common.{◌≡◌, sym, subst, false}
use Rattle.std.specs.List.{list_any}
use Rattle.nextest_config_resolution_settings.specs.declared.default_filter.CompiledDefaultFilter.{CompiledDefaultFilter}
use Rattle.nextest_filtering_compiling.specs.declared.filterset.Filterset.{Filterset}
use Rattle.nextest_filtering_filters.specs.Filter.{is_default, is_group}
use Rattle.test_runner_core_listing.specs.Answers.{AnswerAs}
use Rattle.test_runner_core_planning.specs.Inside.{IsInGroup, in_force}
use Rattle.test_runner_core_planning.proofs.Choosing.{wanted_as, wanted_serves}
use Rattle.test_runner_core_planning.proofs.build.selection_by.Goals as goal

pub select_beside-requires-clause-no_default : goal.select_beside-requires-clause-no_default
select_beside-requires-clause-no_default g c =
    subst (λ (it : CompiledDefaultFilter Filterset). list_any is_default it.filter.now.compiled.leaves ≡ false) (sym c.default_filter.ensures) (wanted_serves c.args.inputs.now c.args.wanted.now c.requires).0

pub select_beside-requires-clause-no_group : goal.select_beside-requires-clause-no_group
select_beside-requires-clause-no_group g c =
    subst (λ (it : CompiledDefaultFilter Filterset). list_any is_group it.filter.now.compiled.leaves ≡ false) (sym c.default_filter.ensures) (wanted_serves c.args.inputs.now c.args.wanted.now c.requires).1

pub returns-clause-selects : goal.returns-clause-selects
returns-clause-selects g c = λ choice chosen are.
    let wanted = c.args.wanted.now in
    c.select_beside.ensures.selects chosen
    (subst (λ (it : CompiledDefaultFilter Filterset). AnswerAs (in_force wanted.filterset c.args.inputs.now.ignore_default_filter it.filter.now.compiled) it.filter.now.compiled (IsInGroup wanted.run.profile) chosen)
    (sym c.default_filter.ensures) (wanted_as c.args.inputs.now wanted c.requires choice chosen are))

pub returns-clause-asks : goal.returns-clause-asks
returns-clause-asks g c = λ choice chosen are.
    let wanted = c.args.wanted.now in
    c.select_beside.ensures.asks chosen
    (subst (λ (it : CompiledDefaultFilter Filterset). AnswerAs (in_force wanted.filterset c.args.inputs.now.ignore_default_filter it.filter.now.compiled) it.filter.now.compiled (IsInGroup wanted.run.profile) chosen)
    (sym c.default_filter.ensures) (wanted_as c.args.inputs.now wanted c.requires choice chosen are))
