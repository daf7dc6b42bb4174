use Rattle.std.proofs.Common.{◌≡◌, ℕ, length, take, get_or, refl, sym, ap, subst, ◌∙◌, arith, take_all}
use Rattle.std.specs.List.{All}
use Rattle.std.specs.Str.{chars}
use Rattle.std.proofs.lemmas.Bool.{false≢true}
use Rattle.std.proofs.lemmas.Iterator.{YieldsList-from_chars}
use Rattle.std.proofs.lemmas.Iterator.Consumers.{YieldsList-turn, YieldsList-end}
use Rattle.std.proofs.lemmas.List.{length_push}
use Rattle.std.proofs.lemmas.List.Elements.{All-more}
use Rattle.ucd_category.specs.GeneralCategory.{general_category}
use Rattle.ucd_category.specs.declared.GeneralCategory.TheVariants.{DecimalNumber}
use Rattle.nextest_run_events_slices.proofs.heads.are_digits.Goals as goal

pub returns-then-not-is_digit : goal.returns-then-not-is_digit
returns-then-not-is_digit c =
    let turn = YieldsList-turn (YieldsList-from_chars c.args.text.now c.utf8.text cc) c.loop-character.yielded _ c.loop-character.yielded_by _ _ c.in-Some.character c.in-Some.is c.next.ensures.steps in (
      λ e. absurd (false≢true e),
      λ all.
          let digit : general_category c.in-Some.character ≡ DecimalNumber = ap general_category turn.1 ∙ all (length c.loop-character.yielded) c.in-Some.character turn.0 in
          absurd (false≢true (sym c.if-not-is_digit.true ∙ c.is_digit.ensures.1 digit)),
    )

pub loop-character-preserved : goal.loop-character-preserved
loop-character-preserved c =
    let turn = YieldsList-turn (YieldsList-from_chars c.args.text.now c.utf8.text cc) c.loop-character.yielded _ c.loop-character.yielded_by _ _ c.in-Some.character c.in-Some.is c.next.ensures.steps in
    let cs = chars c.args.text.now in
    let n = length c.loop-character.yielded in
    let digit : general_category (get_or cs n c.in-Some.character) ≡ DecimalNumber = ap general_category (sym turn.1) ∙ c.is_digit.ensures.0 c.if-not-is_digit.false in
    subst (λ (m : ℕ). All (λ d. general_category d ≡ DecimalNumber) (take m cs)) (sym (length_push c.loop-character.yielded c.in-Some.character))
    (All-more (λ d. general_category d ≡ DecimalNumber) cs n c.in-Some.character turn.0 c.loop-character.invariant digit)

pub returns : goal.returns
returns c =
    let turn = YieldsList-end (YieldsList-from_chars c.args.text.now c.utf8.text cc) c.loop-character.yielded _ c.loop-character.yielded_by _ _ c.in-None.is c.next.ensures.steps in
    let whole = take_all (length c.loop-character.yielded) (chars c.args.text.now) (omega (arith, turn.1)) in
    (λ _. subst (All (λ digit. general_category digit ≡ DecimalNumber)) whole c.loop-character.invariant, λ _. refl)
