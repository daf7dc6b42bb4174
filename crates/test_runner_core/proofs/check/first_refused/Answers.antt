use Rattle.std.proofs.Common.{◌≡◌, List, ℕ, None, Some, Ok, refl, sym, ap, ◌∙◌, subst, arith}
use Rattle.test_runner_core_log_reader.specs.Calls.{Hands, HandsBytes, idle_reads}
use Rattle.test_runner_core_log_reader.specs.Cursor.{bytes_received}
use Rattle.test_runner_core_log_reader.specs.declared.next.Next.{Next}
use Rattle.test_runner_core.specs.Check.{IsReading}
use Rattle.test_runner_core.specs.declared.refused_line.LineRefusal.{LineRefusal}
use Rattle.test_runner_core.specs.declared.refused_line.RefusedLine.{RefusedLine}
use Rattle.test_runner_core.proofs.Checking.{Finds, finds_fault, finds_first, finds_line, finds_none, finds_past}
use Rattle.test_runner_core.proofs.check.first_refused.Goals as goal

pub returns-in-Some-clause-found : goal.returns-in-Some-clause-found
returns-in-Some-clause-found g c =
    let left = g.R.LogReader.left in
    let hands = subst (λ (n : Next). Hands c.loop-lines.lines (left c.loop-lines.reader) c.next.new.self (left c.next.new.reader) (Ok n)) c.in-Line.is c.in_ok-next.ensures.items in
    let reading : IsReading c.next.new.self.line (Some c.in-Some.refusal) =
    subst (λ (bytes : List ℕ). IsReading bytes (Some c.in-Some.refusal)) c.line.ensures (rw c.in-Some.is at c.refusal_in.ensures) in
    subst (λ (r : RefusedLine). Finds (left c.args.reader.now) (Some r)) (sym c.refused_at-in-Some.ensures)
    (finds_line (left c.args.reader.now) (left c.loop-lines.reader) (left c.next.new.reader) c.loop-lines.number c.loop-lines.lines c.next.new.self c.in-Some.refusal c.loop-lines.invariant.finds hands reading)

pub returns-in-Refused-clause-found : goal.returns-in-Refused-clause-found
returns-in-Refused-clause-found g c =
    let left = g.R.LogReader.left in
    let hands = subst (λ (n : Next). Hands c.loop-lines.lines (left c.loop-lines.reader) c.next.new.self (left c.next.new.reader) (Ok n)) c.in-Refused.is c.in_ok-next.ensures.items in
    let same = c.refused_at.ensures ∙ ap (λ (r : LineRefusal). record { line = c.loop-lines.number; refusal = r }) c.refusal_for.ensures in
    subst (λ (r : RefusedLine). Finds (left c.args.reader.now) (Some r)) (sym same)
    (finds_fault (left c.args.reader.now) (left c.loop-lines.reader) (left c.next.new.reader) c.loop-lines.number c.loop-lines.lines c.next.new.self c.in-Refused.fault c.loop-lines.invariant.finds hands)

pub returns-in-End-clause-found : goal.returns-in-End-clause-found
returns-in-End-clause-found g c =
    let left = g.R.LogReader.left in
    let hands = subst (λ (n : Next). Hands c.loop-lines.lines (left c.loop-lines.reader) c.next.new.self (left c.next.new.reader) (Ok n)) c.in-End.is c.in_ok-next.ensures.items in
    finds_none (left c.args.reader.now) (left c.loop-lines.reader) (left c.next.new.reader) c.loop-lines.number c.loop-lines.lines c.next.new.self c.loop-lines.invariant.finds hands

pub loop-lines-init : goal.loop-lines-init
loop-lines-init g c =
    record {
      finds = finds_first (g.R.LogReader.left c.args.reader.now) c.new-lines.result c.new-lines.ensures;
      reads = omega arith;
      within = omega (arith, ap bytes_received c.new-lines.ensures);
      unfailed = refl;
      counted = omega arith;
    }

pub loop-lines-preserved : goal.loop-lines-preserved
loop-lines-preserved g c =
    let left = g.R.LogReader.left in
    let before = c.loop-lines.invariant in
    let hands = subst (λ (n : Next). Hands c.loop-lines.lines (left c.loop-lines.reader) c.next.new.self (left c.next.new.reader) (Ok n)) c.in-Line.is c.in_ok-next.ensures.items in
    let handed = subst (λ (n : Next). HandsBytes (Ok n) c.loop-lines.lines c.next.new.self) c.in-Line.is c.in_ok-next.ensures.handed in
    let idle : idle_reads (Ok c.in_ok-next.field-0) ≡ 0 = ap (λ (n : Next). idle_reads (Ok n)) c.in-Line.is in
    let accepted : IsReading c.next.new.self.line None =
    subst (λ (bytes : List ℕ). IsReading bytes None) c.line.ensures (rw c.in_default.is at c.refusal_in.ensures) in
    let reads = c.in_ok-next.ensures.reads in
    let limit = c.in_ok-next.ensures.limit in
    let so_far = before.reads in
    let counted = before.counted in
    record {
      finds = finds_past (left c.args.reader.now) (left c.loop-lines.reader) (left c.next.new.reader) c.loop-lines.number c.loop-lines.lines c.next.new.self before.finds hands accepted;
      reads = omega (arith, reads, idle, so_far);
      within = omega (arith, limit, idle);
      unfailed = c.in_ok-next.ensures.failures ∙ before.unfailed;
      counted = omega (arith, handed, counted);
    }
