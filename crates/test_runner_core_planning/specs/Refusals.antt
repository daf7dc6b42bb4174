-- The refusals and errors of the parts, as those of the whole.
use Rattle.test_runner_core_listing.specs.declared.listing_error.ListingError.{ListingError}
use Rattle.test_runner_core_listing.specs.declared.listing_error.ListingError.TheVariants as listing_error
use Rattle.test_runner_core_listing.specs.declared.listing_fault.ListingFault.{ListingFault}
use Rattle.test_runner_core_listing.specs.declared.listing_fault.ListingFault.TheVariants as listed
use Rattle.test_runner_core_settings.specs.declared.settings_error.SettingsError.{SettingsError}
use Rattle.test_runner_core_settings.specs.declared.settings_error.SettingsError.TheVariants as settings_error
use Rattle.test_runner_core_settings.specs.declared.settings_fault.SettingsFault.{SettingsFault}
use Rattle.test_runner_core_settings.specs.declared.settings_fault.SettingsFault.TheVariants as set
use Rattle.test_runner_core_settings.specs.declared.pass_error.VersionPassError.{VersionPassError}
use Rattle.test_runner_core_settings.specs.declared.pass_error.VersionPassError.TheVariants as pass_error
use Rattle.test_runner_core_settings.specs.declared.pass_error.VersionPassFault.{VersionPassFault}
use Rattle.test_runner_core_settings.specs.declared.pass_error.VersionPassFault.TheVariants as passing
use Rattle.test_runner_core_workspace.specs.declared.workspace_error.WorkspaceError.{WorkspaceError}
use Rattle.test_runner_core_workspace.specs.declared.workspace_error.WorkspaceError.TheVariants as workspace_error
use Rattle.test_runner_core_workspace.specs.declared.workspace_fault.WorkspaceFault.{WorkspaceFault}
use Rattle.test_runner_core_workspace.specs.declared.workspace_fault.WorkspaceFault.TheVariants as workspace
use Rattle.test_runner_core_planning.specs.declared.plan_error.PlanError.{PlanError}
use Rattle.test_runner_core_planning.specs.declared.plan_error.PlanError.TheVariants as error
use Rattle.test_runner_core_planning.specs.declared.plan_fault.PlanFault.{PlanFault}
use Rattle.test_runner_core_planning.specs.declared.plan_fault.PlanFault.TheVariants as fault

abbrev pub of_workspace : WorkspaceFault → PlanFault
of_workspace workspace.RepeatedPackage = fault.RepeatedPackage
of_workspace workspace.UnknownLink = fault.UnknownLink
of_workspace workspace.RepeatedBinary = fault.RepeatedBinary
of_workspace workspace.UnknownPackage = fault.UnknownPackage
of_workspace workspace.BadId = fault.BadId

abbrev pub of_pass : VersionPassFault → PlanFault
of_pass passing.VersionSource = fault.VersionSource
of_pass passing.VersionError = fault.VersionError
of_pass passing.UnknownFeature = fault.UnknownFeature

abbrev pub of_settings : SettingsFault → PlanFault
of_settings (set.Load refusal) = fault.Load refusal
of_settings (set.ProfileNotFound missing) = fault.ProfileNotFound missing
of_settings set.RepeatedFact = fault.RepeatedFact

abbrev pub of_listing : ListingFault → PlanFault
of_listing (listed.ListFault cause) = fault.ListFault cause
of_listing listed.EmptyTestName = fault.EmptyTestName
of_listing listed.BadTestName = fault.BadTestName
of_listing listed.RepeatedTest = fault.RepeatedTest

abbrev pub error_of_workspace : WorkspaceError → PlanError
error_of_workspace (workspace_error.Refused refusal) = error.Refused (of_workspace refusal)
error_of_workspace workspace_error.OutOfMemory = error.OutOfMemory

abbrev pub error_of_pass : VersionPassError → PlanError
error_of_pass (pass_error.Refused refusal) = error.Refused (of_pass refusal)
error_of_pass pass_error.OutOfMemory = error.OutOfMemory

abbrev pub error_of_settings : SettingsError → PlanError
error_of_settings (settings_error.Refused refusal) = error.Refused (of_settings refusal)
error_of_settings settings_error.OutOfMemory = error.OutOfMemory

abbrev pub error_of_listing : ListingError → PlanError
error_of_listing (listing_error.Refused refusal) = error.Refused (of_listing refusal)
error_of_listing listing_error.OutOfMemory = error.OutOfMemory
