-- What is read of a whole text is so, and nothing else is.
use Rattle.std.proofs.Common.{◌≡◌, ℕ, true, false, List, [], length, ap, sym, ◌∙◌, subst}
use Rattle.std.specs.Prelude.{codes, nat_eq, Result, Ok, Err}
use Rattle.std.proofs.lemmas.Bool.{false≢true, eqb-true}
use Rattle.std.proofs.lemmas.List.{nil_from_length}
use Rattle.nextest_filtering_ast.specs.Grammar.{Behind, after_blanks}
use Rattle.test_runner_core_platforms.specs.Spec.{Condition, Spec, triple, condition}
use Rattle.test_runner_core_platforms.specs.Grammar.{is_of_triple, IsCondition, IsSpec}
use Rattle.test_runner_core_platforms.specs.Parsing.{IsSplit, EndsCfg, OnlyTriple, FindsSpec}
use Rattle.test_runner_core_platforms.specs.Single.{one_span, one_behind, one_condition, triple_ends, triple_or_cfg}
use Rattle.test_runner_core_platforms.specs.Trees.{spec_of}
use Rattle.test_runner_core_platforms.specs.declared.platform_spec.PlatformSpec.{PlatformSpec}
use Rattle.test_runner_core_platforms.specs.declared.span.Span.TheVariants as span
use Rattle.test_runner_core_platforms.specs.declared.stop.Stop.{Stop}
use Rattle.test_runner_core_platforms.specs.declared.stop.Stop.TheVariants.{Bad, Memory}

empty_is : (list : List ℕ) → nat_eq (length list) 0 ≡ true → list ≡ []
empty_is list is = nil_from_length list (eqb-true (length list) 0 is)

-- ---- `cfg`

pub no_close : (text : List ℕ) (one : Condition) (u : List ℕ) → IsCondition text one u → ((rest : List ℕ) → Behind (codes ")") u rest → ⊥) → (it : Spec) → EndsCfg text it → ⊥
no_close text one u read none (triple name) is = is
no_close text one u read none (condition it) is =
    let same = one_condition text one u it is.0 read is.2 in
    none is.1 (subst (λ (l : List ℕ). Behind (codes ")") l is.1) (sym same.1) is.3)

pub no_end : (text : List ℕ) (one : Condition) (u rest ahead : List ℕ) → IsCondition text one u → Behind (codes ")") u rest → ahead ≡ after_blanks rest → nat_eq (length ahead) 0 ≡ false → (it : Spec) → EndsCfg text it → ⊥
no_end text one u rest ahead read closes skipped some (triple name) is = is
no_end text one u rest ahead read closes skipped some (condition it) is =
    let same = one_condition text one u it is.0 read is.2 in
    let ends = one_behind (codes ")") u rest is.1 closes (subst (λ (l : List ℕ). Behind (codes ")") l is.1) (sym same.1) is.3) in
    let blank : ahead ≡ [] = skipped ∙ (ap after_blanks ends ∙ is.4) in
    false≢true (sym some ∙ ap (λ (l : List ℕ). nat_eq (length l) 0) blank)

-- ---- triples

pub no_empty : (text ahead name rest : List ℕ) → ahead ≡ after_blanks text → IsSplit span.Triple ahead name rest → nat_eq (length name) 0 ≡ true → (it : Spec) → OnlyTriple text it → ⊥
no_empty text ahead name rest skipped split none (condition it) is = is
no_empty text ahead name rest skipped split none (triple other) is =
    let same = one_span is_of_triple name other rest is.rest split.each is.each split.ends (triple_ends text other is) (sym split.whole ∙ (skipped ∙ is.here)) in
    is.some (sym same.0 ∙ empty_is name none)

pub no_blank : (text ahead name rest behind : List ℕ) → ahead ≡ after_blanks text → IsSplit span.Triple ahead name rest → behind ≡ after_blanks rest → nat_eq (length behind) 0 ≡ false → (it : Spec) → OnlyTriple text it → ⊥
no_blank text ahead name rest behind skipped split passed some (condition it) is = is
no_blank text ahead name rest behind skipped split passed some (triple other) is =
    let same = one_span is_of_triple name other rest is.rest split.each is.each split.ends (triple_ends text other is) (sym split.whole ∙ (skipped ∙ is.here)) in
    let blank : behind ≡ [] = passed ∙ (ap after_blanks same.1 ∙ is.blank) in
    false≢true (sym some ∙ ap (λ (l : List ℕ). nat_eq (length l) 0) blank)

-- ---- either

cfg_read : (text named opened : List ℕ) (it : Spec) → Behind (codes "cfg") text named → Behind (codes "(") named opened → EndsCfg opened it → IsSpec text it
cfg_read text named opened (triple name) here opens is = absurd is
cfg_read text named opened (condition it) here opens is =
    record { named = named; opened = opened; read = is.0; rest = is.1; here = here; opens = opens; reads = is.2; closes = is.3; blank = is.4 }

cfg_only : (text named opened : List ℕ) (it : Spec) → Behind (codes "cfg") text named → Behind (codes "(") named opened → IsSpec text it → EndsCfg opened it
cfg_only text named opened (triple name) here opens is = triple_or_cfg text name named opened is here opens
cfg_only text named opened (condition it) here opens is =
    let begun = one_behind (codes "cfg") text is.named named is.here here in
    let same = one_behind (codes "(") named is.opened opened (subst (λ (l : List ℕ). Behind (codes "(") l is.opened) begun is.opens) opens in
    (is.read, is.rest, subst (λ (l : List ℕ). IsCondition l it is.read) same is.reads, is.closes, is.blank)

pub by_cfg : (text named opened : List ℕ) (found : Result PlatformSpec Stop) → Behind (codes "cfg") text named → Behind (codes "(") named opened → FindsSpec (EndsCfg opened) found → FindsSpec (IsSpec text) found
by_cfg text named opened (Ok it) here opens is = cfg_read text named opened (spec_of it) here opens is
by_cfg text named opened (Err (Bad left)) here opens none = λ it is. none it (cfg_only text named opened it here opens is)
by_cfg text named opened (Err Memory) here opens is = tt

triple_read : (text : List ℕ) (it : Spec) → OnlyTriple text it → IsSpec text it
triple_read text (triple name) is = is
triple_read text (condition it) is = absurd is

triple_only : (text : List ℕ) (it : Spec) → ((named opened : List ℕ) → Behind (codes "cfg") text named → Behind (codes "(") named opened → ⊥) → IsSpec text it → OnlyTriple text it
triple_only text (triple name) none is = is
triple_only text (condition it) none is = none is.named is.opened is.here is.opens

pub by_triple : (text : List ℕ) (found : Result PlatformSpec Stop) → ((named opened : List ℕ) → Behind (codes "cfg") text named → Behind (codes "(") named opened → ⊥) → FindsSpec (OnlyTriple text) found → FindsSpec (IsSpec text) found
by_triple text (Ok it) none is = triple_read text (spec_of it) is
by_triple text (Err (Bad left)) none refused = λ it is. refused it (triple_only text it none is)
by_triple text (Err Memory) none is = tt
