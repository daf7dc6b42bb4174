use Rattle.std.proofs.Common.{◌≡◌, ℕ, ◌+◌, ◌-◌, zero-add, ap, subst, ◌∙◌, arith}
use Rattle.std.specs.List.{slice_range}
use Rattle.test_runner_core_log_reader.specs.Feeds.{IsPlain}
use Rattle.test_runner_core_log_reader.proofs.Filling.{kept_plain}
use Rattle.test_runner_core_log_reader.proofs.Near.{near_same}
use Rattle.test_runner_core_log_reader.proofs.log_lines.LogLines.give_back.Goals as goal

pub invariant_of-self : goal.invariant_of-self
invariant_of-self c =
    let x = c.self.inside in
    let ys = c.shorten.new.buffer.items in
    let same : slice_range ys 0 (0 + (x.end - x.start)) ≡ slice_range x.buffer.items x.start x.end = ap (slice_range ys 0) (zero-add (x.end - x.start)) ∙ c.shorten.ensures.bytes in
    record {
      line = omega arith;
      before = omega arith;
      begun = omega arith;
      scanned = omega (arith, c.self.invariant.scanned);
      filled = c.shorten.ensures.filled;
      plain = subst (λ (n : ℕ). IsPlain (slice_range ys 0 n)) (zero-add (x.scanned - x.start))
          (kept_plain x.buffer.items ys x.start x.scanned x.end 0 c.self.invariant.begun c.self.invariant.scanned same c.self.invariant.plain);
      near = near_same (slice_range x.buffer.items x.start x.end) (slice_range ys 0 (x.end - x.start)) c.shorten.ensures.bytes c.self.invariant.near;
      handed = c.self.invariant.handed;
      received = omega (arith, c.self.invariant.received);
    }
