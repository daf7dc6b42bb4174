use Rattle.std.proofs.Common.{◌∷◌, sym, subst, nat_lt, arith}
use Rattle.std.proofs.lemmas.Result.{err_from_is_err_and}
use Rattle.nextest_filtering_globs.specs.Syntax.{Spells}
use Rattle.nextest_filtering_globs.proofs.Steps.{deepest, end_refused, read_all, read_more, token_refused}
use Rattle.nextest_filtering_globs.proofs.Whole.{length-zero, none_read}
use Rattle.nextest_filtering_globs.proofs.reading.read_tokens.Goals as goal

pub returns-in_err-token : goal.returns-in_err-token
returns-in_err-token c =
    let p = err_from_is_err_and c.from_residual.result c.from_residual.ensures.1 in
    let l = c.loop-first in
    let begun = c.in-Some in
    rw (p.1, p.2) (none_read (λ token rest. Spells (nat_lt 0 l.depth) token (begun.first.now ∷ begun.behind.now) rest)
    c.args.text.now c.in_err-token.field-0.0
    (λ none. token_refused c.args.text.now l.left.now begun.behind.now l.tokens.items l.depth begun.first.now
    l.invariant.read begun.ensures.cases.0 none)
    c.in_err-token.ensures.exact)

pub loop-first-preserved : goal.loop-first-preserved
loop-first-preserved c =
    let l = c.loop-first in
    let begun = c.in-Some in
    let read = c.in_ok-token in
    let here : Spells (nat_lt 0 l.depth) read.token l.left.now read.rest.now =
    subst (λ y. Spells (nat_lt 0 l.depth) read.token y read.rest.now) (sym begun.ensures.cases.0) read.ensures.exact in
    record {
      fits = omega (
        arith,
        deepest l.depth read.token,
        c.depth_behind-depth.ensures,
        begun.ensures.cases.1,
        read.ensures.left,
        l.invariant.fits,
      );
      read = rw (c.in_ok-push.ensures.items, c.depth_behind-depth.ensures)
          (read_more c.args.text.now l.left.now read.rest.now l.tokens.items read.token l.depth l.invariant.read here);
    }

pub returns-then-depth-eq0 : goal.returns-then-depth-eq0
returns-then-depth-eq0 c =
    let l = c.loop-first in
    read_all c.args.text.now l.left.now l.tokens.items l.depth l.invariant.read (length-zero l.left.now c.in_default.ensures.cases) c.if-depth-eq0.true

pub returns-else-depth-eq0 : goal.returns-else-depth-eq0
returns-else-depth-eq0 c =
    let l = c.loop-first in
    end_refused c.args.text.now l.left.now l.tokens.items l.depth l.invariant.read (length-zero l.left.now c.in_default.ensures.cases) c.if-depth-eq0.false
