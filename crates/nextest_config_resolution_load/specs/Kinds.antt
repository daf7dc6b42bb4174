-- Which rule a fault breaks.
use Rattle.nextest_config_resolution_inheritance.specs.declared.inheritance_fault.InheritanceFault.TheVariants as inheritance
use Rattle.nextest_config_resolution_load.specs.declared.load_fault.LoadFault.{LoadFault}
use Rattle.nextest_config_resolution_load.specs.declared.load_fault.LoadFault.TheVariants as fault
use Rattle.nextest_config_resolution_load.specs.declared.load_fault.LoadKind.{LoadKind}
use Rattle.nextest_config_resolution_load.specs.declared.load_fault.LoadKind.TheVariants as kind
use Rattle.nextest_config_resolution_load.specs.declared.languages.FilterPurpose.TheVariants as purpose

abbrev pub kind_of : LoadFault → LoadKind
kind_of (fault.Unread path cause) = kind.Unread
kind_of (fault.Toml path message) = kind.Toml
kind_of (fault.BadValue path value) = kind.BadValue
kind_of (fault.BothScriptTables path) = kind.BothScriptTables
kind_of (fault.FeatureNotEnabled path feature) = kind.FeatureNotEnabled
kind_of (fault.BadName path name) = kind.BadName
kind_of (fault.RepeatedScript path script) = kind.RepeatedScript
kind_of (fault.NoConstraint rule) = kind.NoConstraint
kind_of (fault.FilterAndDefaultFilter rule) = kind.FilterAndDefaultFilter
kind_of (fault.BadSpec rule side spec) = kind.BadSpec
kind_of (fault.BadRuleFilter rule purpose.Default filter) = kind.BadFilter
kind_of (fault.BadRuleFilter rule purpose.Override filter) = kind.BadFilter
kind_of (fault.BadRuleFilter rule purpose.ListWrapper filter) = kind.ListWrapperRunFilter
kind_of (fault.BadMergedValue value) = kind.BadValue
kind_of (fault.UnknownGroup rule group) = kind.UnknownGroup
kind_of (fault.UnknownScript rule script) = kind.UnknownScript
kind_of (fault.UnknownWrapper rule script) = kind.UnknownWrapper
kind_of (fault.Inheritance (inheritance.InheritsInDefault profile)) = kind.InheritsInDefault
kind_of (fault.Inheritance (inheritance.UnknownParent profile parent)) = kind.UnknownParent
kind_of (fault.Inheritance (inheritance.Cycle profile)) = kind.Cycle
kind_of (fault.BadFilter profile filter) = kind.BadFilter
