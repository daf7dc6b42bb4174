-- A text is one spec at most.
use Rattle.std.specs.Prelude.{◌≡◌, refl, ℕ, ◌==◌, ◌||◌, Bool, true, false, List, [], ◌∷◌, ◌++◌, codes, bytes_eq, if◌then◌else◌}
use Rattle.std.proofs.Common.{sym, ap, ◌∙◌, subst, inl, inr}
use Rattle.std.proofs.lemmas.Bool.{false≢true, or_cases, eqb-true}
use Rattle.std.proofs.lemmas.List.{append_cancel_left}
use Rattle.nextest_filtering_escapes.specs.Text.{is_blank}
use Rattle.nextest_filtering_ast.specs.Grammar.{Behind, after_blanks}
use Rattle.test_runner_core_platforms.specs.Spec.{Condition, fact, fact_value, negation, all_of, any_of, Conditions, no_conditions, with_first, Spec, triple, condition}
use Rattle.test_runner_core_platforms.specs.Grammar.{begins_name, is_digit, is_of_name, is_of_triple, is_of_value, AllAre, IsName, starts, ReadsName, ReadsValue, goes_on, IsCondition, is_fact, is_value, is_negation, is_all, is_any, AreConditions, no_more, last_one, one_more, IsTriple, IsCfg, IsSpec}
use Rattle.test_runner_core_platforms.specs.Parsing.{ReadsFactValue, ReadsOperation}

-- ---- lists

abbrev head : List ℕ → ℕ
head [] = 0
head (byte ∷ rest) = byte

abbrev pub tail : List ℕ → List ℕ
tail [] = []
tail (byte ∷ rest) = rest

abbrev has_some : List ℕ → Bool
has_some [] = false
has_some (byte ∷ rest) = true

-- where bytes of one kind end, there is one place
pub one_span : (test : ℕ → Bool) (a b r s : List ℕ) → AllAre test a → AllAre test b → starts test r ≡ false → starts test s ≡ false → a ++ r ≡ b ++ s → (a ≡ b) × (r ≡ s)
one_span test [] [] r s all every ends stops e = (refl, e)
one_span test [] (y ∷ b) r s all every ends stops e = absurd (false≢true (sym ends ∙ (ap (starts test) e ∙ every.0)))
one_span test (x ∷ a) [] r s all every ends stops e = absurd (false≢true (sym stops ∙ (sym (ap (starts test) e) ∙ all.0)))
one_span test (x ∷ a) (y ∷ b) r s all every ends stops e =
    let rest = one_span test a b r s all.1 every.1 ends stops (ap tail e) in
    (ap (λ (byte : ℕ). byte ∷ a) (ap head e) ∙ ap (λ (l : List ℕ). y ∷ l) rest.0, rest.1)

pub one_behind : (front text r s : List ℕ) → Behind front text r → Behind front text s → r ≡ s
one_behind front text r s here there = append_cancel_left front r s (sym here ∙ there)

-- ---- names and values

pub name_each : (name : List ℕ) → IsName name → AllAre is_of_name name
name_each [] is = absurd is
name_each (first ∷ more) is = (ap (λ (b : Bool). b || is_digit first) is.0, is.1)

pub one_name : (text a r b s : List ℕ) → ReadsName text a r → ReadsName text b s → (a ≡ b) × (r ≡ s)
one_name text a r b s one other = one_span is_of_name a b r s (name_each a one.is) (name_each b other.is) one.ends other.ends (sym one.here ∙ other.here)

pub named_begins : (ahead name rest : List ℕ) → ahead ≡ name ++ rest → IsName name → starts begins_name ahead ≡ true
named_begins ahead [] rest e is = absurd is
named_begins ahead (first ∷ more) rest e is = ap (starts begins_name) e ∙ is.0

pub name_begins : (text name rest : List ℕ) → ReadsName text name rest → starts begins_name (after_blanks text) ≡ true
name_begins text name rest read = named_begins (after_blanks text) name rest read.here read.is

pub quote_last : (v : List ℕ) (rest : List ℕ) → (v ++ codes "\"") ++ rest ≡ v ++ (34 ∷ rest)
quote_last [] rest = refl
quote_last (x ∷ v) rest = ap (λ (l : List ℕ). x ∷ l) (quote_last v rest)

pub one_value : (text a r b s : List ℕ) → ReadsValue text a r → ReadsValue text b s → (a ≡ b) × (r ≡ s)
one_value text a r b s one other =
    let e : a ++ (34 ∷ r) ≡ b ++ (34 ∷ s) = sym (quote_last a r) ∙ (ap tail (sym one.here ∙ other.here) ∙ quote_last b s) in
    let same = one_span is_of_value a b (34 ∷ r) (34 ∷ s) one.each other.each refl refl e in
    (same.0, ap tail same.1)

-- ---- what follows a name

fact_has_none : (sign : ℕ) (r s : List ℕ) → goes_on sign ≡ true → starts goes_on (after_blanks r) ≡ false → Behind (sign ∷ []) r s → ⊥
fact_has_none sign r s goes next e = false≢true (sym next ∙ (ap (starts goes_on) e ∙ goes))

equals_opens : (r s t : List ℕ) → Behind (codes "=") r s → Behind (codes "(") r t → ⊥
equals_opens r s t equals opens = false≢true (ap (starts (λ byte. byte == 40)) (sym equals ∙ opens))

pub fact_only : (text name r : List ℕ) (it : Condition) (rest : List ℕ) → ReadsName text name r → starts goes_on (after_blanks r) ≡ false → IsCondition text it rest → (it ≡ fact name) × (rest ≡ r)
fact_only _ name r _ _ named next (is_fact text other rest also none) =
    let one = one_name text name r other rest named also in
    (ap fact (sym one.0), sym one.1)
fact_only _ name r _ _ named next (is_value text other t s value rest also equals read) =
    let one = one_name text name r other t named also in
    absurd (fact_has_none 61 t s refl (subst (λ (l : List ℕ). starts goes_on (after_blanks l) ≡ false) one.1 next) equals)
fact_only _ name r _ _ named next (is_negation text t s u rest it also opens inside closes) =
    let one = one_name text name r (codes "not") t named also in
    absurd (fact_has_none 40 t s refl (subst (λ (l : List ℕ). starts goes_on (after_blanks l) ≡ false) one.1 next) opens)
fact_only _ name r _ _ named next (is_all text t s rest each also opens inside) =
    let one = one_name text name r (codes "all") t named also in
    absurd (fact_has_none 40 t s refl (subst (λ (l : List ℕ). starts goes_on (after_blanks l) ≡ false) one.1 next) opens)
fact_only _ name r _ _ named next (is_any text t s rest each also opens inside) =
    let one = one_name text name r (codes "any") t named also in
    absurd (fact_has_none 40 t s refl (subst (λ (l : List ℕ). starts goes_on (after_blanks l) ≡ false) one.1 next) opens)

pub value_only : (text name r s : List ℕ) (it : Condition) (rest : List ℕ) → ReadsName text name r → Behind (codes "=") r s → IsCondition text it rest → ReadsFactValue name s it rest
value_only _ name r s _ _ named equals (is_fact text other rest also none) =
    let one = one_name text name r other rest named also in
    absurd (fact_has_none 61 rest s refl none (subst (λ (l : List ℕ). Behind (codes "=") l s) one.1 equals))
value_only _ name r s _ _ named equals (is_value text other t u value rest also equal read) =
    let one = one_name text name r other t named also in
    let same = one_behind (codes "=") t u s equal (subst (λ (l : List ℕ). Behind (codes "=") l s) one.1 equals) in
    (sym one.0, subst (λ (l : List ℕ). ReadsValue l value rest) same read)
value_only _ name r s _ _ named equals (is_negation text t u v rest it also opens inside closes) =
    let one = one_name text name r (codes "not") t named also in
    absurd (equals_opens t s u (subst (λ (l : List ℕ). Behind (codes "=") l s) one.1 equals) opens)
value_only _ name r s _ _ named equals (is_all text t u rest each also opens inside) =
    let one = one_name text name r (codes "all") t named also in
    absurd (equals_opens t s u (subst (λ (l : List ℕ). Behind (codes "=") l s) one.1 equals) opens)
value_only _ name r s _ _ named equals (is_any text t u rest each also opens inside) =
    let one = one_name text name r (codes "any") t named also in
    absurd (equals_opens t s u (subst (λ (l : List ℕ). Behind (codes "=") l s) one.1 equals) opens)

pub operation_only : (text name r s : List ℕ) (it : Condition) (rest : List ℕ) → ReadsName text name r → Behind (codes "(") r s → IsCondition text it rest → ReadsOperation name s it rest
operation_only _ name r s _ _ named opens (is_fact text other rest also none) =
    let one = one_name text name r other rest named also in
    absurd (fact_has_none 40 rest s refl none (subst (λ (l : List ℕ). Behind (codes "(") l s) one.1 opens))
operation_only _ name r s _ _ named opens (is_value text other t u value rest also equals read) =
    let one = one_name text name r other t named also in
    absurd (equals_opens t u s equals (subst (λ (l : List ℕ). Behind (codes "(") l s) one.1 opens))
operation_only _ name r s _ _ named opens (is_negation text t u v rest it also opened inside closes) =
    let one = one_name text name r (codes "not") t named also in
    let same = one_behind (codes "(") t u s opened (subst (λ (l : List ℕ). Behind (codes "(") l s) one.1 opens) in
    (one.0, v, subst (λ (l : List ℕ). IsCondition l it v) same inside, closes)
operation_only _ name r s _ _ named opens (is_all text t u rest each also opened inside) =
    let one = one_name text name r (codes "all") t named also in
    let same = one_behind (codes "(") t u s opened (subst (λ (l : List ℕ). Behind (codes "(") l s) one.1 opens) in
    (one.0, subst (λ (l : List ℕ). AreConditions l each rest) same inside)
operation_only _ name r s _ _ named opens (is_any text t u rest each also opened inside) =
    let one = one_name text name r (codes "any") t named also in
    let same = one_behind (codes "(") t u s opened (subst (λ (l : List ℕ). Behind (codes "(") l s) one.1 opens) in
    (one.0, subst (λ (l : List ℕ). AreConditions l each rest) same inside)

-- a condition begins with a name
pub condition_begins : (text : List ℕ) (it : Condition) (rest : List ℕ) → IsCondition text it rest → starts begins_name (after_blanks text) ≡ true
condition_begins _ _ _ (is_fact text name rest named none) = name_begins text name rest named
condition_begins _ _ _ (is_value text name r s value rest named equals read) = name_begins text name r named
condition_begins _ _ _ (is_negation text r s u rest it named opens inside closes) = name_begins text (codes "not") r named
condition_begins _ _ _ (is_all text r s rest each named opens inside) = name_begins text (codes "all") r named
condition_begins _ _ _ (is_any text r s rest each named opens inside) = name_begins text (codes "any") r named

-- ---- conditions

-- what two readings of a text come to
abbrev Alike : {T : Type 0} → T → T → List ℕ → List ℕ → Type 0
Alike a b r s = (a ≡ b) × (r ≡ s)

value_alike : (name t value rest : List ℕ) (b : Condition) (s : List ℕ) → ReadsValue t value rest → ReadsFactValue name t b s → Alike (fact_value name value) b rest s
value_alike name t value rest (fact other) s read is = absurd is
value_alike name t value rest (fact_value other v) s read is =
    let one = one_value t value rest v s read is.1 in
    (ap (λ (n : List ℕ). fact_value n value) (sym is.0) ∙ ap (fact_value other) one.0, one.1)
value_alike name t value rest (negation it) s read is = absurd is
value_alike name t value rest (all_of each) s read is = absurd is
value_alike name t value rest (any_of each) s read is = absurd is

pub differs : (a b : List ℕ) → bytes_eq a b ≡ false → bytes_eq b b ≡ true → a ≡ b → ⊥
differs a b apart same e = false≢true (sym apart ∙ (ap (λ (l : List ℕ). bytes_eq l b) e ∙ same))

negation_alike : (t : List ℕ) (it : Condition) (u rest : List ℕ) (b : Condition) (s : List ℕ) → ((other : Condition) (v : List ℕ) → IsCondition t other v → Alike it other u v)
    → Behind (codes ")") u rest → ReadsOperation (codes "not") t b s → Alike (negation it) b rest s
negation_alike t it u rest (fact other) s inner closes is = absurd is
negation_alike t it u rest (fact_value other v) s inner closes is = absurd is
negation_alike t it u rest (negation other) s inner closes is =
    let one = inner other is.1 is.2 in
    (ap negation one.0, one_behind (codes ")") u rest s closes (subst (λ (l : List ℕ). Behind (codes ")") l s) (sym one.1) is.3))
negation_alike t it u rest (all_of each) s inner closes is = absurd (differs (codes "not") (codes "all") refl refl is.0)
negation_alike t it u rest (any_of each) s inner closes is = absurd (differs (codes "not") (codes "any") refl refl is.0)

all_alike : (t : List ℕ) (each : Conditions) (rest : List ℕ) (b : Condition) (s : List ℕ) → ((others : Conditions) (v : List ℕ) → AreConditions t others v → Alike each others rest v)
    → ReadsOperation (codes "all") t b s → Alike (all_of each) b rest s
all_alike t each rest (fact other) s inner is = absurd is
all_alike t each rest (fact_value other v) s inner is = absurd is
all_alike t each rest (negation other) s inner is = absurd (differs (codes "all") (codes "not") refl refl is.0)
all_alike t each rest (all_of others) s inner is = let one = inner others s is.1 in (ap all_of one.0, one.1)
all_alike t each rest (any_of others) s inner is = absurd (differs (codes "all") (codes "any") refl refl is.0)

any_alike : (t : List ℕ) (each : Conditions) (rest : List ℕ) (b : Condition) (s : List ℕ) → ((others : Conditions) (v : List ℕ) → AreConditions t others v → Alike each others rest v)
    → ReadsOperation (codes "any") t b s → Alike (any_of each) b rest s
any_alike t each rest (fact other) s inner is = absurd is
any_alike t each rest (fact_value other v) s inner is = absurd is
any_alike t each rest (negation other) s inner is = absurd (differs (codes "any") (codes "not") refl refl is.0)
any_alike t each rest (all_of others) s inner is = absurd (differs (codes "any") (codes "all") refl refl is.0)
any_alike t each rest (any_of others) s inner is = let one = inner others s is.1 in (ap any_of one.0, one.1)

-- `)` begins no condition
pub closes_none : (text r : List ℕ) (it : Condition) (rest : List ℕ) → Behind (codes ")") text r → IsCondition text it rest → ⊥
closes_none text r it rest closes read = false≢true (sym (ap (starts begins_name) closes) ∙ condition_begins text it rest read)

pub closes_or_parts : (text r s : List ℕ) → Behind (codes ")") text r → Behind (codes ",") text s → ⊥
closes_or_parts text r s closes parts = false≢true (ap (starts (λ byte. byte == 44)) (sym closes ∙ parts))

mutual
  pub one_condition : (text : List ℕ) (a : Condition) (r : List ℕ) (b : Condition) (s : List ℕ) → IsCondition text a r → IsCondition text b s → (a ≡ b) × (r ≡ s)
  one_condition _ _ _ b s (is_fact text name rest named none) other =
      let one = fact_only text name rest b s named none other in
      (sym one.0, sym one.1)
  one_condition _ _ _ b s (is_value text name r t value rest named equals read) other = value_alike name t value rest b s read (value_only text name r t b s named equals other)
  one_condition _ _ _ b s (is_negation text r t u rest it named opens inside closes) other =
      negation_alike t it u rest b s (λ also v read. one_condition t it u also v inside read) closes (operation_only text (codes "not") r t b s named opens other)
  one_condition _ _ _ b s (is_all text r t rest each named opens inside) other =
      all_alike t each rest b s (λ others v read. one_conditions t each rest others v inside read) (operation_only text (codes "all") r t b s named opens other)
  one_condition _ _ _ b s (is_any text r t rest each named opens inside) other =
      any_alike t each rest b s (λ others v read. one_conditions t each rest others v inside read) (operation_only text (codes "any") r t b s named opens other)

  pub one_conditions : (text : List ℕ) (a : Conditions) (r : List ℕ) (b : Conditions) (s : List ℕ) → AreConditions text a r → AreConditions text b s → (a ≡ b) × (r ≡ s)
  one_conditions _ _ _ _ _ (no_more text rest closes) (no_more _ end ends) = (refl, one_behind (codes ")") text rest end closes ends)
  one_conditions _ _ _ _ _ (no_more text rest closes) (last_one _ r end it read ends) = absurd (closes_none text rest it r closes read)
  one_conditions _ _ _ _ _ (no_more text rest closes) (one_more _ r s end it each read parts more) = absurd (closes_none text rest it r closes read)
  one_conditions _ _ _ _ _ (last_one text r rest it read closes) (no_more _ end ends) = absurd (closes_none text end it r ends read)
  one_conditions _ _ _ _ _ (last_one text r rest it read closes) (last_one _ s end other also ends) =
      let one = one_condition text it r other s read also in
      (ap (λ (c : Condition). with_first c no_conditions) one.0, one_behind (codes ")") r rest end closes (subst (λ (l : List ℕ). Behind (codes ")") l end) (sym one.1) ends))
  one_conditions _ _ _ _ _ (last_one text r rest it read closes) (one_more _ s t end other each also parts more) =
      let one = one_condition text it r other s read also in
      absurd (closes_or_parts r rest t closes (subst (λ (l : List ℕ). Behind (codes ",") l t) (sym one.1) parts))
  one_conditions _ _ _ _ _ (one_more text r t rest it each read parts more) (no_more _ end ends) = absurd (closes_none text end it r ends read)
  one_conditions _ _ _ _ _ (one_more text r t rest it each read parts more) (last_one _ s end other also ends) =
      let one = one_condition text it r other s read also in
      absurd (closes_or_parts s end t ends (subst (λ (l : List ℕ). Behind (codes ",") l t) one.1 parts))
  one_conditions _ _ _ _ _ (one_more text r t rest it each read parts more) (one_more _ s u end other others also part further) =
      let one = one_condition text it r other s read also in
      let same = one_behind (codes ",") s t u (subst (λ (l : List ℕ). Behind (codes ",") l t) one.1 parts) part in
      let rests = one_conditions t each rest others end more (subst (λ (l : List ℕ). AreConditions l others end) (sym same) further) in
      (ap (λ (c : Condition). with_first c each) one.0 ∙ ap (with_first other) rests.0, rests.1)

-- ---- whole texts

-- a blank belongs to no triple
blank_is_not : (byte : ℕ) → is_blank byte ≡ true → is_of_triple byte ≡ false
blank_is_not byte blank =
    elim (or_cases (byte == 32 || byte == 9 || byte == 10) (byte == 13) blank) [
      | inl three ↦
          elim (or_cases (byte == 32 || byte == 9) (byte == 10) three) [
            | inl two ↦
                elim (or_cases (byte == 32) (byte == 9) two) [
                  | inl one ↦ ap is_of_triple (eqb-true byte 32 one)
                  | inr one ↦ ap is_of_triple (eqb-true byte 9 one)
                ]
            | inr one ↦ ap is_of_triple (eqb-true byte 10 one)
          ]
      | inr one ↦ ap is_of_triple (eqb-true byte 13 one)
    ]

stops_by : (byte : ℕ) (rest : List ℕ) (b : Bool) → is_blank byte ≡ b → starts is_of_triple (if b then after_blanks rest else byte ∷ rest) ≡ false → is_of_triple byte ≡ false
stops_by byte rest true blank e = blank_is_not byte blank
stops_by byte rest false blank e = e

-- where what follows the blanks doesn't go on with a triple, nothing does
pub triple_stops : (rest : List ℕ) → starts is_of_triple (after_blanks rest) ≡ false → starts is_of_triple rest ≡ false
triple_stops [] e = refl
triple_stops (byte ∷ rest) e = stops_by byte rest (is_blank byte) refl e

pub triple_ends : (text name : List ℕ) (it : IsTriple text name) → starts is_of_triple it.rest ≡ false
triple_ends text name it = triple_stops it.rest (ap (starts is_of_triple) it.blank)

pub one_triple : (text a b : List ℕ) → IsTriple text a → IsTriple text b → a ≡ b
one_triple text a b one other = (one_span is_of_triple a b one.rest other.rest one.each other.each (triple_ends text a one) (triple_ends text b other) (sym one.here ∙ other.here)).0

-- a triple doesn't begin with `cfg` and `(`
pub triple_or_cfg : (text name named opened : List ℕ) → IsTriple text name → Behind (codes "cfg") text named → Behind (codes "(") named opened → ⊥
triple_or_cfg text name named opened one here opens =
    let same = one_span is_of_triple name (codes "cfg") one.rest named one.each (refl, (refl, (refl, tt))) (triple_ends text name one) (triple_stops named (ap (starts is_of_triple) opens)) (sym one.here ∙ here) in
    false≢true (sym (ap has_some one.blank) ∙ (ap (λ (l : List ℕ). has_some (after_blanks l)) same.1 ∙ ap has_some opens))

pub one_cfg : (text : List ℕ) (a b : Condition) → IsCfg text a → IsCfg text b → a ≡ b
one_cfg text a b one other =
    let named = one_behind (codes "cfg") text one.named other.named one.here other.here in
    let opened = one_behind (codes "(") other.named one.opened other.opened (subst (λ (l : List ℕ). Behind (codes "(") l one.opened) named one.opens) other.opens in
    (one_condition other.opened a one.read b other.read (subst (λ (l : List ℕ). IsCondition l a one.read) opened one.reads) other.reads).0

pub one_spec : (text : List ℕ) (a b : Spec) → IsSpec text a → IsSpec text b → a ≡ b
one_spec text (triple a) (triple b) one other = ap triple (one_triple text a b one other)
one_spec text (triple a) (condition b) one other = absurd (triple_or_cfg text a other.named other.opened one other.here other.opens)
one_spec text (condition a) (triple b) one other = absurd (triple_or_cfg text b one.named one.opened other one.here one.opens)
one_spec text (condition a) (condition b) one other = ap condition (one_cfg text a b one other)
