-- The specs that values stand for.
use Rattle.test_runner_core_platforms.specs.Spec.{Spec, triple, condition}
use Rattle.test_runner_core_platforms.specs.Flat.{condition_of}
use Rattle.test_runner_core_platforms.specs.declared.platform_spec.Kind.{Kind}
use Rattle.test_runner_core_platforms.specs.declared.platform_spec.Kind.TheVariants as kind
use Rattle.test_runner_core_platforms.specs.declared.platform_spec.PlatformSpec.{PlatformSpec}

abbrev pub spec_of_kind : Kind → Spec
spec_of_kind (kind.Triple name) = triple name
spec_of_kind (kind.Cfg parts) = condition (condition_of parts)

abbrev pub spec_of : PlatformSpec → Spec
spec_of it = spec_of_kind it.kind
