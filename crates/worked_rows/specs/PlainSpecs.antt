-- Platform specs without a language, and that they are specs.
use Rattle.std.specs.Prelude.{◌≡◌, ◌==◌, ℕ, Bool, List, length, Option, None, Some, unwrap_or, if◌then◌else◌}
use Rattle.std.specs.List.{list_any}
use Rattle.std.specs.Str.{bytes_eq}
use Rattle.std.proofs.Common.{sym, ap, ◌∙◌}
use Rattle.nextest_config_resolution_filters.specs.Specs.{SpecsLaws}
use Rattle.worked_rows.specs.declared.plain_spec.PlainSpec.{PlainSpec}

-- the spec of a text; the empty text is none
abbrev pub spec_of : List ℕ → Option PlainSpec
spec_of text = if length text == 0 then None else Some (record { name = text })

-- whether a platform has the name; of one without names nothing is known
abbrev pub spec_value : PlainSpec → List (List ℕ) → Option Bool
spec_value it names = if length names == 0 then None else Some (list_any (λ name. bytes_eq name it.name) names)

pub plain_spec_laws : SpecsLaws (λ text it. spec_of text ≡ Some it) spec_value
plain_spec_laws = record {
  one_meaning = λ text one other first second facts. ap (λ (it : PlainSpec). spec_value it facts) (ap (λ (o : Option PlainSpec). unwrap_or o one) (sym first ∙ second));
}
