use Rattle.std.proofs.Common.{◌≡◌, ◌+◌, ◌-◌, ◌<◌, ◌≤◌, ℕ, List, length, take, drop, Some, sym, ap, ◌∙◌, subst, arith}
use Rattle.std.specs.List.{slice_range}
use Rattle.test_runner_core_log_reader.specs.Cursor.{Cursor}
use Rattle.test_runner_core_log_reader.specs.Feeds.{IsFirstFeed, IsPlain}
use Rattle.test_runner_core_log_reader.proofs.Ranges.{length-range}
use Rattle.test_runner_core_log_reader.proofs.Scanning.{cut_at}
use Rattle.test_runner_core_log_reader.proofs.Near.{few_behind, near_few}
use Rattle.test_runner_core_log_reader.proofs.log_lines.LogLines.cut.Goals as goal

-- a line feed that was found stands within the bytes that wait
feed_within : (xs waiting : List ℕ) (start end at : ℕ) → end ≤ length xs → slice_range xs start end ≡ waiting → IsFirstFeed waiting (Some at) → start + at < end
feed_within xs waiting start end at filled same feed =
    let h = feed.0 in omega (arith, h, ap length same, length-range xs start end filled)

none_plain : (xs : List ℕ) (start : ℕ) → IsPlain (slice_range xs start start)
none_plain xs start = subst (λ (n : ℕ). IsPlain (take n (drop start xs))) (let e : 0 ≡ start - start = omega arith in e) tt

at_most : (a b : ℕ) → a ≤ a + b
at_most a b = omega arith

same_at_most : (a : ℕ) → a ≤ a
same_at_most a = omega arith

next_at_most : (a b : ℕ) → a < b → a + 1 ≤ b
next_at_most a b less = omega arith

fewer_wait : (handed start at end most : ℕ) → handed + (end - start) ≤ most → handed + (end - (start + at + 1)) ≤ most
fewer_wait handed start at end most less = omega arith

pub overflow_add-self : goal.overflow_add-self
overflow_add-self c =
    let x = c.self.inside in
    let filled : x.end ≤ length x.buffer.items = omega (arith, x.buffer.ok.0, c.self.invariant.filled) in
    let within = feed_within x.buffer.items c.args.self.now.waiting x.start x.end c.args.length filled (ap (λ (v : Cursor). v.waiting) c.self.view_is) c.requires in
    omega (arith, within, filled, x.buffer.ok.0)

pub overflow_add-self-2 : goal.overflow_add-self-2
overflow_add-self-2 c =
    let x = c.self.inside in
    let filled : x.end ≤ length x.buffer.items = omega (arith, x.buffer.ok.0, c.self.invariant.filled) in
    let within = feed_within x.buffer.items c.args.self.now.waiting x.start x.end c.args.length filled (ap (λ (v : Cursor). v.waiting) c.self.view_is) c.requires in
    omega (arith, within, filled, x.buffer.ok.0)

pub invariant_of-self : goal.invariant_of-self
invariant_of-self c =
    let x = c.self.inside in
    let filled : x.end ≤ length x.buffer.items = omega (arith, x.buffer.ok.0, c.self.invariant.filled) in
    let waiting : slice_range x.buffer.items x.start x.end ≡ c.args.self.now.waiting = ap (λ (v : Cursor). v.waiting) c.self.view_is in
    let within = feed_within x.buffer.items c.args.self.now.waiting x.start x.end c.args.length filled waiting c.requires in
    let parts = cut_at x.buffer.items x.start x.end c.args.length (omega arith) filled
    (subst (λ (ys : List ℕ). IsFirstFeed ys (Some c.args.length)) (sym waiting) c.requires) in
    let behind : List ℕ = slice_range x.buffer.items (x.start + c.args.length + 1) x.end in
    record {
      line = at_most x.start c.args.length;
      before = at_most (x.start + c.args.length) 1;
      begun = same_at_most (x.start + c.args.length + 1);
      scanned = next_at_most (x.start + c.args.length) x.end within;
      filled = c.self.invariant.filled;
      plain = none_plain x.buffer.items (x.start + c.args.length + 1);
      near = near_few behind
          (few_behind (slice_range x.buffer.items x.start x.end) (slice_range x.buffer.items x.start (x.start + c.args.length)) behind parts.1 parts.2 c.self.invariant.near);
      handed = c.self.invariant.handed;
      received = fewer_wait x.handed x.start c.args.length x.end _ c.self.invariant.received;
    }

pub returns : goal.returns
returns c =
    let x = c.self.inside in
    let waiting : slice_range x.buffer.items x.start x.end ≡ c.args.self.now.waiting = ap (λ (v : Cursor). v.waiting) c.self.view_is in
    let filled : x.end ≤ length x.buffer.items = omega (arith, x.buffer.ok.0, c.self.invariant.filled) in
    let parts = cut_at x.buffer.items x.start x.end c.args.length (omega arith) filled
    (subst (λ (ys : List ℕ). IsFirstFeed ys (Some c.args.length)) (sym waiting) c.requires) in
    record {
      whole = sym waiting ∙ parts.1;
      plain = parts.2;
      size = parts.3;
      handed = ap (λ (v : Cursor). v.handed) c.self.view_is;
    }
