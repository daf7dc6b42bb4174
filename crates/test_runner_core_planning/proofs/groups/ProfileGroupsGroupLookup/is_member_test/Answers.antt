use Rattle.nextest_filtering_filters.specs.Query.{test_of}
use Rattle.nextest_filtering_ast.specs.Tree.{matcher_of}
use Rattle.nextest_config_resolution_settings.specs.TestSettings.{group_of}
use Rattle.test_runner_core_planning.proofs.Choosing.{tells_in}
use Rattle.test_runner_core_planning.proofs.groups.ProfileGroupsGroupLookup.is_member_test.Goals as goal

pub returns-in-Ok : goal.returns-in-Ok
returns-in-Ok c =
    tells_in c.args.self.now.profile.now (test_of c.args.test.now) (matcher_of c.args.matcher.now) (group_of c.in-Ok.group) c.as_str.result.now c.is_match.result c.in-Ok.ensures c.as_str.ensures c.is_match.ensures
