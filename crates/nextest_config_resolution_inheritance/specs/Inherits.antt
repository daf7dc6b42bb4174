-- What profiles tell of themselves.
use Rattle.std.specs.Prelude.{List, Option, map}
use Rattle.nextest_config_resolution_inheritance.specs.Inheritance.{Name, Parents}

abbrev pub parents_in : {P : Type 0} → (P → Name) → (P → Option Name) → List P → Parents
parents_in name_of parent_of profiles = map (λ profile. (name_of profile, parent_of profile)) profiles
