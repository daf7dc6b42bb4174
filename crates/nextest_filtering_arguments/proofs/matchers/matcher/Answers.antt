use Rattle.std.proofs.Common.{◌≡◌, ◌∷◌, ℕ, List, [], true, false, refl, sym, ◌∙◌}
use Rattle.nextest_filtering_ast.specs.Grammar.{after_blanks, ReadsMatcher}
use Rattle.nextest_filtering_arguments.specs.Faults.{IsSuffix}
use Rattle.nextest_filtering_arguments.specs.Matchers.{ReadsCompared, ReadsPattern, comparison_of, subject_of}
use Rattle.nextest_filtering_arguments.proofs.Spans.{suffix_trans, suffix_token}
use Rattle.nextest_filtering_arguments.proofs.Arguments.{carry_argument, carry_finds}
use Rattle.nextest_filtering_arguments.proofs.Signs.{sign_there, sign_back, slash_there, slash_back, no_sign, bare_there, bare_back}
use Rattle.nextest_filtering_arguments.proofs.matchers.matcher.Goals as goal

-- what follows a sign is a rest of the text, and of the input
behind_sign : (sign : ℕ) (ahead text inside : List ℕ) → ahead ≡ after_blanks text → ahead ≡ sign ∷ inside → IsSuffix inside text
behind_sign sign ahead text inside skipped is = suffix_token (sign ∷ []) inside text (sym skipped ∙ is)

pub pattern-requires : goal.pattern-requires
pattern-requires c = record {
  suffix = suffix_trans _ _ _ (behind_sign _ _ _ _ c.skip_blanks-ahead.ensures c.in-Some.ensures.some) c.requires.suffix;
}

pub returns-in-Some-clause-finds : goal.returns-in-Some-clause-finds
returns-in-Some-clause-finds c =
    let subject = subject_of c.args.subject in
    let text = c.args.text.now in
    let inside = c.in-Some.inside.now in
    let is = sym c.skip_blanks-ahead.ensures ∙ c.in-Some.ensures.some in
    carry_finds ReadsPattern (ReadsMatcher subject) inside text _ _ c.pattern.result (behind_sign _ _ _ _ c.skip_blanks-ahead.ensures c.in-Some.ensures.some)
    (slash_there subject text inside is) (slash_back subject text inside is) c.pattern.ensures.finds

pub compared-requires : goal.compared-requires
compared-requires c = record {
  suffix = suffix_trans _ _ _ (behind_sign _ _ _ _ c.skip_blanks-ahead.ensures c.in-Some-sign.ensures.some) c.requires.suffix;
}

pub returns-in-Some-sign-clause-finds : goal.returns-in-Some-sign-clause-finds
returns-in-Some-sign-clause-finds c =
    let subject = subject_of c.args.subject in
    let comparing = c.in-Some-sign.comparing in
    let text = c.args.text.now in
    let inside = c.in-Some-sign.inside.now in
    let is = sym c.skip_blanks-ahead.ensures ∙ c.in-Some-sign.ensures.some in
    carry_argument (ReadsCompared (comparison_of comparing) false) (ReadsMatcher subject) inside text _ _ _ _
    (behind_sign _ _ _ _ c.skip_blanks-ahead.ensures c.in-Some-sign.ensures.some) (sign_there comparing subject text inside is) (sign_back comparing subject text inside is)
    c.in_ok-compared.ensures.reads

pub returns-clause-finds : goal.returns-clause-finds
returns-clause-finds c =
    let subject = subject_of c.args.subject in
    let comparing = c.bare.result in
    let text = c.args.text.now in
    let none = no_sign c.skip_blanks-ahead.result.now text c.skip_blanks-ahead.ensures c.in_default-sign.ensures.none c.in_default.ensures.none in
    carry_argument (ReadsCompared (comparison_of comparing) true) (ReadsMatcher subject) text text _ _ _ _ ([], refl)
    (bare_there comparing subject text c.bare.ensures none) (bare_back comparing subject text c.bare.ensures none) c.in_ok-compared-2.ensures.reads
