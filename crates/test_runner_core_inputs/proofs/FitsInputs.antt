-- Sources, platforms and the whole are read as their shapes say, and their first fault is the
-- refusal.
use Rattle.std.proofs.Common.{◌≡◌, ◌⊎◌, inl, inr, ℕ, suc, ◌∷◌, ◌++◌, [], List, Bool, true, false, codes, decimal, Option, None, Some, Ok, Err, refl, ap, sym, ◌∙◌, subst, is_some, cond, length, option_and_then, append_assoc}
use Rattle.serde_json.specs.Data.{Data}
use Rattle.serde_json.specs.Find.{as_object}
use Rattle.nextest_config_elements_choices.specs.declared.run_mode.NextestRunMode.TheVariants as modes
use Rattle.nextest_config_elements_identifiers.specs.declared.source_kind.ConfigSourceKind.{ConfigSourceKind}
use Rattle.nextest_config_elements_identifiers.specs.declared.source_kind.ConfigSourceKind.TheVariants as kinds
use Rattle.nextest_config_resolution_sources.specs.declared.source.ConfigSourceOutcome.{ConfigSourceOutcome}
use Rattle.nextest_config_resolution_sources.specs.declared.source.ConfigSourceOutcome.TheVariants as outcomes
use Rattle.test_runner_core_inputs.specs.declared.source_word.SourceWord.{SourceWord}
use Rattle.test_runner_core_inputs.specs.declared.source_word.SourceWord.TheVariants as words
use Rattle.test_runner_core_inputs.specs.declared.platform.FactRecord.{FactRecord}
use Rattle.test_runner_core_inputs.specs.Given.{member, has_member, items}
use Rattle.test_runner_core_inputs.specs.Reading as read
use Rattle.test_runner_core_inputs.specs.Shape as shape
use Rattle.test_runner_core_inputs.specs.Faults as wrong
use Rattle.test_runner_core_inputs.specs.Values as value
use Rattle.test_runner_core_inputs.proofs.Meets.{Meets, MeetsAll, Then, meets_as, meets_ok, meets_err, meets_refused, meets_faults, meets_then, meets_map, meets_under, meets_required, meets_optional, meets_defaulted, meets_object, lists, leaves, has_is_object}
use Rattle.test_runner_core_inputs.proofs.Fits.{texts, text_of, not_two, not_three, part_on, wrong_on, has_on, workspaces}

-- ---- the kind of a source

-- what a kind is, by its word
abbrev KindBy : Data → SourceWord → ConfigSourceKind → Type 0
KindBy given words.Tool it = Then (shape.Has (codes "tool") (shape.Is value.tool) given) (λ name kind. kind ≡ kinds.Tool name) it
KindBy given words.Explicit it = it ≡ kinds.ExplicitRepository
KindBy given words.Discovered it = it ≡ kinds.DiscoveredRepository

by_word : (given : Data) (word : SourceWord) → Meets (read.kind_of_word word given) (wrong.tool_faults (Some word) given) (KindBy given word)
by_word given words.Tool = meets_map _ (λ name. kinds.Tool name) (meets_required (codes "tool") (leaves value.tool) given)
by_word given words.Explicit = meets_ok kinds.ExplicitRepository
by_word given words.Discovered = meets_ok kinds.DiscoveredRepository

-- the word that was read is the one that stands there
the_word : (given : Data) (word : SourceWord) → read.required (codes "kind") (read.leaf value.source_word) given ≡ Ok word
    → Some word ≡ option_and_then value.source_word (member (codes "kind") given)
the_word given word e =
    let h = ((meets_required (codes "kind") (leaves value.source_word) given).ok word e).1 in
    sym (ap (λ (found : Option Data). option_and_then value.source_word found) h.1 ∙ h.2)

kinds_fit : (given : Data) → Meets (read.kind_of_source given)
    (wrong.has (codes "kind") (wrong.is value.source_word) given ++ wrong.tool_faults (option_and_then value.source_word (member (codes "kind") given)) given)
    (shape.IsOfKind given)
kinds_fit given =
    meets_as (shape.IsOfKind given)
    (meets_then _ _ (meets_required (codes "kind") (leaves value.source_word) given) (λ word e.
    meets_faults _ (ap (λ (found : Option SourceWord). wrong.tool_faults found given) (the_word given word e)) (by_word given word)))
    (λ it s. there it s.0 s.1.0 s.1.1) back
  where
    there : (it : ConfigSourceKind) (word : SourceWord) → shape.Has (codes "kind") (shape.Is value.source_word) given word → KindBy given word it → shape.IsOfKind given it
    there it words.Tool w k = subst (shape.IsOfKind given) (sym k.1.1) (w, k.1.0)
    there it words.Explicit w k = subst (shape.IsOfKind given) (sym k) w
    there it words.Discovered w k = subst (shape.IsOfKind given) (sym k) w

    back : (it : ConfigSourceKind) → shape.IsOfKind given it → Then (shape.Has (codes "kind") (shape.Is value.source_word) given) (λ word kind. KindBy given word kind) it
    back (kinds.Tool name) s = (words.Tool, (s.0, (name, (s.1, refl))))
    back kinds.ExplicitRepository s = (words.Explicit, (s, refl))
    back kinds.DiscoveredRepository s = (words.Discovered, (s, refl))

-- ---- the three forms of a source

has_bit : {A : Type 0} (name : List ℕ) (S : Data → A → Type 0) (given : Data) (x : A) → shape.Has name S given x → has_member name given ≡ true
has_bit name S given x s = ap (λ (found : Option Data). is_some found) s.1

lacks_bit : (name : List ℕ) (given : Data) → shape.Lacks name given → has_member name given ≡ false
lacks_bit name given s = ap (λ (found : Option Data). is_some found) s

lacks_by : (name : List ℕ) (given : Data) → has_member name given ≡ false → shape.Lacks name given
lacks_by name given e = on_found (member name given) e
  where
    on_found : (found : Option Data) → is_some found ≡ false → found ≡ None
    on_found (Some part) f = absurd (cc)
    on_found None f = refl

-- which of the forms an outcome has
abbrev FormsOf : ConfigSourceOutcome → Bool → Bool → Bool → Type 0
FormsOf (outcomes.Text text) written missing failed = (written ≡ true) × (missing ≡ false) × (failed ≡ false)
FormsOf outcomes.NotFound written missing failed = (written ≡ false) × (missing ≡ true) × (failed ≡ false)
FormsOf (outcomes.Failed cause) written missing failed = (written ≡ false) × (missing ≡ false) × (failed ≡ true)

forms_of : (given : Data) (it : ConfigSourceOutcome) → shape.HasOutcome given it
    → FormsOf it (has_member (codes "text") given) (has_member (codes "missing") given) (has_member (codes "failed") given)
forms_of given (outcomes.Text text) s = (has_bit (codes "text") (shape.Is value.text) given text s.0, lacks_bit (codes "missing") given s.1, lacks_bit (codes "failed") given s.2)
forms_of given outcomes.NotFound s = (lacks_bit (codes "text") given s.0, has_bit (codes "missing") (shape.Is value.only_true) given _ s.1, lacks_bit (codes "failed") given s.2)
forms_of given (outcomes.Failed cause) s = (lacks_bit (codes "text") given s.0, lacks_bit (codes "missing") given s.1, has_bit (codes "failed") (shape.Is value.text) given cause s.2)

outcome_by : (given : Data) (written missing failed : Bool)
    → has_member (codes "text") given ≡ written → has_member (codes "missing") given ≡ missing → has_member (codes "failed") given ≡ failed
    → ((it : ConfigSourceOutcome) → shape.HasOutcome given it → FormsOf it written missing failed)
    → Meets (read.outcome_in written missing failed given) (wrong.form_faults written missing failed given) (shape.HasOutcome given)
outcome_by given true false false e f g forms =
    meets_as _ (meets_map _ (λ text. outcomes.Text text) (text_of (codes "text") given))
    (λ it s. subst (shape.HasOutcome given) (sym s.1.1) (s.1.0, lacks_by (codes "missing") given f, lacks_by (codes "failed") given g)) back
  where
    back : (it : ConfigSourceOutcome) → shape.HasOutcome given it → Then (shape.Has (codes "text") (shape.Is value.text) given) (λ text it. it ≡ outcomes.Text text) it
    back (outcomes.Text text) s = (text, (s.0, refl))
    back outcomes.NotFound s = absurd (let h : true ≡ false = (forms outcomes.NotFound s).0 in cc)
    back (outcomes.Failed cause) s = absurd (let h : true ≡ false = (forms (outcomes.Failed cause) s).0 in cc)
outcome_by given false true false e f g forms =
    meets_as _ (meets_map _ (λ found. outcomes.NotFound) (meets_required (codes "missing") (leaves value.only_true) given))
    (λ it s. subst (shape.HasOutcome given) (sym s.1.1) (lacks_by (codes "text") given e, s.1.0, lacks_by (codes "failed") given g)) back
  where
    back : (it : ConfigSourceOutcome) → shape.HasOutcome given it → Then (shape.Has (codes "missing") (shape.Is value.only_true) given) (λ found it. it ≡ outcomes.NotFound) it
    back (outcomes.Text text) s = absurd (let h : false ≡ true = (forms (outcomes.Text text) s).0 in cc)
    back outcomes.NotFound s = (record {}, (s.1, refl))
    back (outcomes.Failed cause) s = absurd (let h : true ≡ false = (forms (outcomes.Failed cause) s).1 in cc)
outcome_by given false false true e f g forms =
    meets_as _ (meets_map _ (λ cause. outcomes.Failed cause) (text_of (codes "failed") given))
    (λ it s. subst (shape.HasOutcome given) (sym s.1.1) (lacks_by (codes "text") given e, lacks_by (codes "missing") given f, s.1.0)) back
  where
    back : (it : ConfigSourceOutcome) → shape.HasOutcome given it → Then (shape.Has (codes "failed") (shape.Is value.text) given) (λ cause it. it ≡ outcomes.Failed cause) it
    back (outcomes.Text text) s = absurd (let h : false ≡ true = (forms (outcomes.Text text) s).0 in cc)
    back outcomes.NotFound s = absurd (let h : false ≡ true = (forms outcomes.NotFound s).1 in cc)
    back (outcomes.Failed cause) s = (cause, (s.2, refl))
outcome_by given false false false e f g forms = meets_err _ none
  where
    none : (it : ConfigSourceOutcome) → shape.HasOutcome given it → ⊥
    none (outcomes.Text text) s = absurd (let h : false ≡ true = (forms (outcomes.Text text) s).0 in cc)
    none outcomes.NotFound s = absurd (let h : false ≡ true = (forms outcomes.NotFound s).1 in cc)
    none (outcomes.Failed cause) s = absurd (let h : false ≡ true = (forms (outcomes.Failed cause) s).2 in cc)
outcome_by given false true true e f g forms = meets_err _ none
  where
    none : (it : ConfigSourceOutcome) → shape.HasOutcome given it → ⊥
    none (outcomes.Text text) s = absurd (let h : false ≡ true = (forms (outcomes.Text text) s).0 in cc)
    none outcomes.NotFound s = absurd (let h : true ≡ false = (forms outcomes.NotFound s).2 in cc)
    none (outcomes.Failed cause) s = absurd (let h : true ≡ false = (forms (outcomes.Failed cause) s).1 in cc)
outcome_by given true false true e f g forms = meets_err _ none
  where
    none : (it : ConfigSourceOutcome) → shape.HasOutcome given it → ⊥
    none (outcomes.Text text) s = absurd (let h : true ≡ false = (forms (outcomes.Text text) s).2 in cc)
    none outcomes.NotFound s = absurd (let h : true ≡ false = (forms outcomes.NotFound s).0 in cc)
    none (outcomes.Failed cause) s = absurd (let h : true ≡ false = (forms (outcomes.Failed cause) s).0 in cc)
outcome_by given true true false e f g forms = meets_err _ none
  where
    none : (it : ConfigSourceOutcome) → shape.HasOutcome given it → ⊥
    none (outcomes.Text text) s = absurd (let h : true ≡ false = (forms (outcomes.Text text) s).1 in cc)
    none outcomes.NotFound s = absurd (let h : true ≡ false = (forms outcomes.NotFound s).0 in cc)
    none (outcomes.Failed cause) s = absurd (let h : true ≡ false = (forms (outcomes.Failed cause) s).0 in cc)
outcome_by given true true true e f g forms = meets_err _ none
  where
    none : (it : ConfigSourceOutcome) → shape.HasOutcome given it → ⊥
    none (outcomes.Text text) s = absurd (let h : true ≡ false = (forms (outcomes.Text text) s).1 in cc)
    none outcomes.NotFound s = absurd (let h : true ≡ false = (forms outcomes.NotFound s).0 in cc)
    none (outcomes.Failed cause) s = absurd (let h : true ≡ false = (forms (outcomes.Failed cause) s).0 in cc)

outcomes_fit : (given : Data) → Meets (read.outcome_of given) (wrong.outcome_faults given) (shape.HasOutcome given)
outcomes_fit given = outcome_by given _ _ _ refl refl refl (forms_of given)

source_parts : (given : Data) → Meets (read.source_parts given) (wrong.all_of (wrong.source_parts given)) (shape.IsSource given)
source_parts given =
    meets_as (shape.IsSource given)
    (meets_faults _ (append_assoc (wrong.has (codes "kind") (wrong.is value.source_word) given) _ _)
    (meets_then _ _ (kinds_fit given) (λ kind _.
    meets_then _ _ (meets_required (codes "path") (leaves value.undivided_text_of) given) (λ path _.
    meets_then _ _ (outcomes_fit given) (λ outcome _.
    meets_ok (record { kind = kind; path = path; outcome = outcome }))))))
    (λ it s. subst (shape.IsSource given) (sym s.1.1.1.1.1.1) (record { kind = s.1.0; path = s.1.1.1.0; outcome = s.1.1.1.1.1.0 }))
    (λ it s. (it.kind, (s.kind, (it.path, (s.path, (it.outcome, (s.outcome, refl)))))))

sources : MeetsAll read.source_of wrong.source_faults shape.IsSource
sources = record { at = λ given. meets_object read.source_parts wrong.source_parts given (source_parts given) (λ it s. has_is_object (codes "path") (shape.Is value.undivided_text_of) given it.path s.path) }

-- ---- facts

truths : MeetsAll (read.leaf value.truth) (wrong.is value.truth) (shape.Is value.truth)
truths = leaves value.truth

abbrev plain_on : Option (List Data) → read.Reading FactRecord
plain_on found =
    read.◌>>=◌ (part_on 0 read.text found) (λ name. read.◌>>=◌ (part_on 1 (read.leaf value.truth) found) (λ holds. Ok (record { name = name; value = None; holds = holds })))

abbrev valued_on : Option (List Data) → read.Reading FactRecord
valued_on found =
    read.◌>>=◌ (part_on 0 read.text found) (λ name. read.◌>>=◌ (part_on 1 read.text found) (λ about. read.◌>>=◌ (part_on 2 (read.leaf value.truth) found) (λ holds.
    Ok (record { name = name; value = Some about; holds = holds }))))

abbrev plain_wrong : Option (List Data) → wrong.Faults
plain_wrong found = wrong.all_of (wrong_on 0 (wrong.is value.text) found ∷ wrong_on 1 (wrong.is value.truth) found ∷ [])

abbrev valued_wrong : Option (List Data) → wrong.Faults
valued_wrong found = wrong.all_of (wrong_on 0 (wrong.is value.text) found ∷ wrong_on 1 (wrong.is value.text) found ∷ wrong_on 2 (wrong.is value.truth) found ∷ [])

abbrev fact_on : Option (List Data) → read.Reading FactRecord
fact_on found = cond (has_on 2 found) (plain_on found) (cond (has_on 3 found) (valued_on found) (Err []))

abbrev fact_wrong : Option (List Data) → wrong.Faults
fact_wrong found = cond (has_on 2 found) (plain_wrong found) (cond (has_on 3 found) (valued_wrong found) wrong.itself)

abbrev PlainOn : Option (List Data) → FactRecord → Type 0
PlainOn found it = (first : Data) × ((second : Data) × ((found ≡ Some (first ∷ second ∷ [])) × shape.Is value.text first it.name × (it.value ≡ None) × shape.Is value.truth second it.holds))

abbrev ValuedOn : Option (List Data) → FactRecord → Type 0
ValuedOn found it =
    (first : Data) × ((second : Data) × ((third : Data) × ((about : List ℕ) × ((found ≡ Some (first ∷ second ∷ third ∷ []))
    × shape.Is value.text first it.name × shape.Is value.text second about × (it.value ≡ Some about) × shape.Is value.truth third it.holds))))

abbrev FactOn : Option (List Data) → FactRecord → Type 0
FactOn found it = PlainOn found it ⊎ ValuedOn found it

-- items of another number are no fact
no_fact : (found : Option (List Data)) → ((first second : Data) → found ≡ Some (first ∷ second ∷ []) → ⊥) → ((first second third : Data) → found ≡ Some (first ∷ second ∷ third ∷ []) → ⊥)
    → (it : FactRecord) → FactOn found it → ⊥
no_fact found not_plain not_valued it (inl s) = not_plain s.0 s.1.0 s.1.1.0
no_fact found not_plain not_valued it (inr s) = not_valued s.0 s.1.0 s.1.1.0 s.1.1.1.1.0

-- a fact with another value
abbrev with_value : FactRecord → Option (List ℕ) → FactRecord
with_value it about = record it { value = about }

of_no_length : (found : Option (List Data)) → has_on 2 found ≡ false → has_on 3 found ≡ false → ((it : FactRecord) → FactOn found it → ⊥)
    → Meets (fact_on found) (fact_wrong found) (FactOn found)
of_no_length found two three none =
    subst (λ (test : Bool). Meets (cond test (plain_on found) (cond (has_on 3 found) (valued_on found) (Err []))) (cond test (plain_wrong found) (cond (has_on 3 found) (valued_wrong found) wrong.itself)) (FactOn found))
    (sym two)
    (subst (λ (test : Bool). Meets (cond test (valued_on found) (Err [])) (cond test (valued_wrong found) wrong.itself) (FactOn found)) (sym three) (meets_err _ none))

fact_with : (found : Option (List Data)) → Meets (fact_on found) (fact_wrong found) (FactOn found)
fact_with None = meets_err _ (no_fact None (λ a b e. absurd (cc)) (λ a b c e. absurd (cc)))
fact_with (Some []) = meets_err _ (no_fact (Some []) (λ a b e. absurd (cc)) (λ a b c e. absurd (cc)))
fact_with (Some (x ∷ [])) = meets_err _ (no_fact (Some (x ∷ [])) (λ a b e. absurd (cc)) (λ a b c e. absurd (cc)))
fact_with (Some (x ∷ y ∷ [])) =
    meets_as _
    (meets_then _ _ (meets_under (decimal 0) _ (texts.at x)) (λ name _.
    meets_then _ _ (meets_under (decimal 1) _ (truths.at y)) (λ holds _. meets_ok (record { name = name; value = None; holds = holds }))))
    (λ it s. subst (FactOn (Some (x ∷ y ∷ []))) (sym s.1.1.1.1) (inl (x, (y, (refl, s.1.0, refl, s.1.1.1.0)))))
    back
  where
    back : (it : FactRecord) → FactOn (Some (x ∷ y ∷ [])) it → Then (shape.Is value.text x) (λ name. Then (shape.Is value.truth y) (λ holds it. it ≡ record { name = name; value = None; holds = holds })) it
    back it (inl s) =
        let e : Some (x ∷ y ∷ []) ≡ Some (s.0 ∷ s.1.0 ∷ []) = s.1.1.0 in
        let f : s.0 ≡ x = cc in
        let g : s.1.0 ≡ y = cc in
        (it.name, (subst (λ (d : Data). shape.Is value.text d it.name) f s.1.1.1, (it.holds, (subst (λ (d : Data). shape.Is value.truth d it.holds) g s.1.1.3, ap (with_value it) s.1.1.2))))
    back it (inr s) = absurd (let e : Some (x ∷ y ∷ []) ≡ Some (s.0 ∷ s.1.0 ∷ s.1.1.0 ∷ []) = s.1.1.1.1.0 in cc)
fact_with (Some (x ∷ y ∷ z ∷ [])) =
    meets_as _
    (meets_then _ _ (meets_under (decimal 0) _ (texts.at x)) (λ name _.
    meets_then _ _ (meets_under (decimal 1) _ (texts.at y)) (λ about _.
    meets_then _ _ (meets_under (decimal 2) _ (truths.at z)) (λ holds _. meets_ok (record { name = name; value = Some about; holds = holds })))))
    (λ it s. subst (FactOn (Some (x ∷ y ∷ z ∷ []))) (sym s.1.1.1.1.1.1) (inr (x, (y, (z, (s.1.1.0, (refl, s.1.0, s.1.1.1.0, refl, s.1.1.1.1.1.0)))))))
    back
  where
    back : (it : FactRecord) → FactOn (Some (x ∷ y ∷ z ∷ [])) it
        → Then (shape.Is value.text x) (λ name. Then (shape.Is value.text y) (λ about. Then (shape.Is value.truth z) (λ holds it. it ≡ record { name = name; value = Some about; holds = holds }))) it
    back it (inl s) = absurd (let e : Some (x ∷ y ∷ z ∷ []) ≡ Some (s.0 ∷ s.1.0 ∷ []) = s.1.1.0 in cc)
    back it (inr s) =
        let t = s.1.1.1.1 in
        let e : Some (x ∷ y ∷ z ∷ []) ≡ Some (s.0 ∷ s.1.0 ∷ s.1.1.0 ∷ []) = t.0 in
        let f : s.0 ≡ x = cc in
        let g : s.1.0 ≡ y = cc in
        let h : s.1.1.0 ≡ z = cc in (
          it.name,
          (
            subst (λ (d : Data). shape.Is value.text d it.name) f t.1,
            (
              s.1.1.1.0,
              (
                subst (λ (d : Data). shape.Is value.text d s.1.1.1.0) g t.2,
                (it.holds, (subst (λ (d : Data). shape.Is value.truth d it.holds) h t.4, ap (with_value it) t.3)),
              ),
            ),
          ),
        )
fact_with (Some (x ∷ y ∷ z ∷ w ∷ more)) =
    of_no_length (Some (x ∷ y ∷ z ∷ w ∷ more)) (not_two (suc (length more))) (not_three (length more))
    (no_fact (Some (x ∷ y ∷ z ∷ w ∷ more)) (λ a b e. absurd (cc)) (λ a b c e. absurd (cc)))

fact_at : (given : Data) → Meets (read.fact_of given) (wrong.fact_faults given) (shape.IsFact given)
fact_at given = meets_as (shape.IsFact given) (fact_with (items given)) there back
  where
    there : (it : FactRecord) → FactOn (items given) it → shape.IsFact given it
    there it (inl s) = inl (record { first = s.0; second = s.1.0; whole = s.1.1.0; name = s.1.1.1; no_value = s.1.1.2; holds = s.1.1.3 })
    there it (inr s) =
        let t = s.1.1.1.1 in
        inr (record { first = s.0; second = s.1.0; third = s.1.1.0; whole = t.0; name = t.1; about = s.1.1.1.0; is_text = t.2; has_value = t.3; holds = t.4 })

    back : (it : FactRecord) → shape.IsFact given it → FactOn (items given) it
    back it (inl s) = inl (s.first, (s.second, (s.whole, s.name, s.no_value, s.holds)))
    back it (inr s) = inr (s.first, (s.second, (s.third, (s.about, (s.whole, s.name, s.is_text, s.has_value, s.holds)))))

facts : MeetsAll read.fact_of wrong.fact_faults shape.IsFact
facts = record { at = fact_at }

-- ---- the whole

platform_parts : (given : Data) → Meets (read.platform_parts given) (wrong.all_of (wrong.platform_parts given)) (shape.IsPlatform given)
platform_parts given =
    meets_as (shape.IsPlatform given)
    (meets_then _ _ (text_of (codes "triple") given) (λ triple _.
    meets_then _ _ (meets_required (codes "facts") (lists facts) given) (λ known _.
    meets_ok (record { triple = triple; facts = known }))))
    (λ it s. subst (shape.IsPlatform given) (sym s.1.1.1.1) (record {
      triple = s.1.0;
      facts = s.1.1.1.0;
    }))
    (λ it s. (
      it.triple,
      (
        s.triple,
        (it.facts, (s.facts, refl)),
      ),
    ))

platforms : MeetsAll read.platform_of wrong.platform_faults shape.IsPlatform
platforms = record { at = λ given. meets_object read.platform_parts wrong.platform_parts given (platform_parts given) (λ it s. has_is_object (codes "triple") (shape.Is value.text) given it.triple s.triple) }

inputs_parts : (given : Data) → Meets (read.inputs_parts given) (wrong.all_of (wrong.inputs_parts given)) (shape.IsInputs given)
inputs_parts given =
    meets_as (shape.IsInputs given)
    (meets_then _ _ (meets_required (codes "workspace") workspaces given) (λ x_workspace _.
    meets_then _ _ (meets_required (codes "sources") (lists sources) given) (λ x_sources _.
    meets_then _ _ (meets_required (codes "current_version") (leaves value.version) given) (λ x_current_version _.
    meets_then _ _ (meets_defaulted (codes "profile") (codes "default") texts given) (λ x_profile _.
    meets_then _ _ (meets_defaulted (codes "mode") modes.Test (leaves value.mode) given) (λ x_mode _.
    meets_then _ _ (meets_defaulted (codes "host") read.no_platform platforms given) (λ x_host _.
    meets_then _ _ (meets_optional (codes "target") platforms given) (λ x_target _.
    meets_then _ _ (meets_optional (codes "filterset") texts given) (λ x_filterset _.
    meets_then _ _ (meets_defaulted (codes "ignore_default_filter") false truths given) (λ x_ignore_default_filter _.
    meets_then _ _ (meets_defaulted (codes "override_version_check") false truths given) (λ x_override_version_check _.
    meets_then _ _ (meets_defaulted (codes "processors") 1 (leaves value.positive) given) (λ x_processors _.
    meets_then _ _ (meets_defaulted (codes "root") [] texts given) (λ x_root _.
    meets_ok (record { workspace = x_workspace; sources = x_sources; current_version = x_current_version; profile = x_profile; mode = x_mode; host = x_host; target = x_target; filterset = x_filterset; ignore_default_filter = x_ignore_default_filter; override_version_check = x_override_version_check; processors = x_processors; root = x_root }))))))))))))))
    (λ it s. subst (shape.IsInputs given) (sym s.1.1.1.1.1.1.1.1.1.1.1.1.1.1.1.1.1.1.1.1.1.1.1.1) (record {
      workspace = s.1.0;
      sources = s.1.1.1.0;
      current_version = s.1.1.1.1.1.0;
      profile = s.1.1.1.1.1.1.1.0;
      mode = s.1.1.1.1.1.1.1.1.1.0;
      host = s.1.1.1.1.1.1.1.1.1.1.1.0;
      target = s.1.1.1.1.1.1.1.1.1.1.1.1.1.0;
      filterset = s.1.1.1.1.1.1.1.1.1.1.1.1.1.1.1.0;
      ignore_default_filter = s.1.1.1.1.1.1.1.1.1.1.1.1.1.1.1.1.1.0;
      override_version_check = s.1.1.1.1.1.1.1.1.1.1.1.1.1.1.1.1.1.1.1.0;
      processors = s.1.1.1.1.1.1.1.1.1.1.1.1.1.1.1.1.1.1.1.1.1.0;
      root = s.1.1.1.1.1.1.1.1.1.1.1.1.1.1.1.1.1.1.1.1.1.1.1.0;
    }))
    (λ it s. (
      it.workspace,
      (
        s.workspace,
        (
          it.sources,
          (
            s.sources,
            (
              it.current_version,
              (
                s.current_version,
                (
                  it.profile,
                  (
                    s.profile,
                    (
                      it.mode,
                      (
                        s.mode,
                        (
                          it.host,
                          (
                            s.host,
                            (
                              it.target,
                              (
                                s.target,
                                (
                                  it.filterset,
                                  (
                                    s.filterset,
                                    (
                                      it.ignore_default_filter,
                                      (
                                        s.ignore_default_filter,
                                        (
                                          it.override_version_check,
                                          (
                                            s.override_version_check,
                                            (
                                              it.processors,
                                              (
                                                s.processors,
                                                (it.root, (s.root, refl)),
                                              ),
                                            ),
                                          ),
                                        ),
                                      ),
                                    ),
                                  ),
                                ),
                              ),
                            ),
                          ),
                        ),
                      ),
                    ),
                  ),
                ),
              ),
            ),
          ),
        ),
      ),
    ))

pub inputs_fit : (given : Data) → Meets (read.inputs_of given) (wrong.inputs_faults given) (shape.IsInputs given)
inputs_fit given = by_test (is_some (as_object given)) refl
  where
    by_test : (test : Bool) → is_some (as_object given) ≡ test
        → Meets (cond test (read.inputs_parts given) (Err (codes "workspace" ∷ []))) (cond test (wrong.all_of (wrong.inputs_parts given)) ((codes "workspace" ∷ []) ∷ [])) (shape.IsInputs given)
    by_test true e = inputs_parts given
    by_test false e = meets_refused (codes "workspace" ∷ []) _ (λ it s. absurd (let f = has_is_object (codes "workspace") shape.IsWorkspace given it.workspace s.workspace in cc))
