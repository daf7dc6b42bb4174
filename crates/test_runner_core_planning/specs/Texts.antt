-- The names of refusals, and the exit statuses of runs that are so refused.
use Rattle.std.specs.Prelude.{ℕ, List, codes}
use Rattle.nextest_config_resolution_load.specs.Kinds.{kind_of}
use Rattle.nextest_config_resolution_load.specs.declared.load_fault.LoadKind.{LoadKind}
use Rattle.nextest_config_resolution_load.specs.declared.load_fault.LoadKind.TheVariants as load
use Rattle.test_runner_core_planning.specs.declared.plan_fault.PlanFault.{PlanFault}
use Rattle.test_runner_core_planning.specs.declared.plan_fault.PlanFault.TheVariants as fault

-- the name of a rule of the load
abbrev pub name_of_load : LoadKind → List ℕ
name_of_load load.Unread = codes "Load.Unread"
name_of_load load.Toml = codes "Load.Toml"
name_of_load load.BadValue = codes "Load.BadValue"
name_of_load load.BothScriptTables = codes "Load.BothScriptTables"
name_of_load load.FeatureNotEnabled = codes "Load.FeatureNotEnabled"
name_of_load load.BadName = codes "Load.BadName"
name_of_load load.RepeatedScript = codes "Load.RepeatedScript"
name_of_load load.NoConstraint = codes "Load.NoConstraint"
name_of_load load.FilterAndDefaultFilter = codes "Load.FilterAndDefaultFilter"
name_of_load load.BadSpec = codes "Load.BadSpec"
name_of_load load.BadFilter = codes "Load.BadFilter"
name_of_load load.ListWrapperRunFilter = codes "Load.ListWrapperRunFilter"
name_of_load load.UnknownGroup = codes "Load.UnknownGroup"
name_of_load load.UnknownScript = codes "Load.UnknownScript"
name_of_load load.UnknownWrapper = codes "Load.UnknownWrapper"
name_of_load load.InheritsInDefault = codes "Load.InheritsInDefault"
name_of_load load.UnknownParent = codes "Load.UnknownParent"
name_of_load load.Cycle = codes "Load.Cycle"

abbrev pub name_of : PlanFault → List ℕ
name_of fault.RepeatedPackage = codes "RepeatedPackage"
name_of fault.UnknownLink = codes "UnknownLink"
name_of fault.RepeatedBinary = codes "RepeatedBinary"
name_of fault.UnknownPackage = codes "UnknownPackage"
name_of fault.BadId = codes "BadId"
name_of fault.VersionSource = codes "VersionSource"
name_of fault.VersionError = codes "VersionError"
name_of fault.UnknownFeature = codes "UnknownFeature"
name_of (fault.Load refusal) = name_of_load (kind_of refusal)
name_of (fault.ProfileNotFound missing) = codes "ProfileNotFound"
name_of fault.RepeatedFact = codes "RepeatedFact"
name_of fault.Filterset = codes "Filterset"
name_of (fault.ListFault cause) = codes "ListFault"
name_of fault.EmptyTestName = codes "EmptyTestName"
name_of fault.BadTestName = codes "BadTestName"
name_of fault.RepeatedTest = codes "RepeatedTest"
name_of fault.RetriesTooMany = codes "RetriesTooMany"

-- 92 where a version is required that is above the current one, else 96
abbrev pub status_of : PlanFault → ℕ
status_of fault.VersionError = 92
status_of refusal = 96
