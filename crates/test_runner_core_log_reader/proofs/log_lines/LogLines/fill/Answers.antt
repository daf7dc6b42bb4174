use Rattle.std.proofs.Common.{◌≡◌, ℕ, ◌+◌, ◌-◌, ◌≤◌, ◌++◌, List, take, vec_len, sym, ap, ◌∙◌, subst, arith}
use Rattle.std.specs.List.{slice_range}
use Rattle.std.specs.Io.KnownBytes.{Consumes}
use Rattle.test_runner_core_log_reader.specs.Cursor.{Cursor}
use Rattle.test_runner_core_log_reader.specs.Feeds.{IsPlain}
use Rattle.test_runner_core_log_reader.proofs.Ranges.{take-range, length-range}
use Rattle.test_runner_core_log_reader.proofs.Filling.{on_err, kept_range, kept_plain, more_range, ahead_moved, ahead_kept, waits_more, waits_same}
use Rattle.test_runner_core_log_reader.proofs.Near.{near_read, near_same}
use Rattle.test_runner_core_log_reader.proofs.log_lines.LogLines.fill.Goals as goal

pub invariant_of-self-in_err-count : goal.invariant_of-self-in_err-count
invariant_of-self-in_err-count g c =
    let x = c.self.inside in
    let same = kept_range x.buffer.items c.with_room.new.buffer.items c.read_behind.new.buffer.items x.start x.end c.in_ok-begin.begin c.in_ok-begin.ensures.bytes c.in_err-count.ensures.kept in
    let size = c.in_err-count.ensures.length in
    let room = c.in_ok-begin.ensures.room in
    record {
      line = omega arith;
      before = omega arith;
      begun = omega arith;
      scanned = omega arith;
      filled = omega (arith, size, room);
      plain = kept_plain x.buffer.items c.read_behind.new.buffer.items x.start x.scanned x.end c.in_ok-begin.begin c.self.invariant.begun c.self.invariant.scanned same c.self.invariant.plain;
      near = near_same (slice_range x.buffer.items x.start x.end) _ same c.self.invariant.near;
      handed = c.self.invariant.handed;
      received = omega arith;
    }

pub returns-in_err-count-clause-ahead : goal.returns-in_err-count-clause-ahead
returns-in_err-count-clause-ahead g c =
    let x = c.self.inside in
    let same = kept_range x.buffer.items c.with_room.new.buffer.items c.read_behind.new.buffer.items x.start x.end c.in_ok-begin.begin c.in_ok-begin.ensures.bytes c.in_err-count.ensures.kept in
    let waiting : slice_range x.buffer.items x.start x.end ≡ c.args.self.now.waiting = ap (λ (v : Cursor). v.waiting) c.self.view_is in
    ahead_kept c.args.self.now.waiting _ _ _ (same ∙ waiting) c.in_err-count.ensures.bytes

pub returns-in_err-count-clause-err : goal.returns-in_err-count-clause-err
returns-in_err-count-clause-err g c =
    let x = c.self.inside in
    let same = kept_range x.buffer.items c.with_room.new.buffer.items c.read_behind.new.buffer.items x.start x.end c.in_ok-begin.begin c.in_ok-begin.ensures.bytes c.in_err-count.ensures.kept in
    let waiting : slice_range x.buffer.items x.start x.end ≡ c.args.self.now.waiting = ap (λ (v : Cursor). v.waiting) c.self.view_is in
    on_err c.from_residual-in_err-count.result _ (waits_same c.args.self.now _ (same ∙ waiting))

pub returns-in_err-count-clause-near : goal.returns-in_err-count-clause-near
returns-in_err-count-clause-near g c =
    let x = c.self.inside in
    let same = kept_range x.buffer.items c.with_room.new.buffer.items c.read_behind.new.buffer.items x.start x.end c.in_ok-begin.begin c.in_ok-begin.ensures.bytes c.in_err-count.ensures.kept in
    near_same (slice_range x.buffer.items x.start x.end) _ same c.self.invariant.near

pub invariant_of-self-2 : goal.invariant_of-self-2
invariant_of-self-2 g c =
    let x = c.self.inside in
    let same = kept_range x.buffer.items c.with_room.new.buffer.items c.read_behind.new.buffer.items x.start x.end c.in_ok-begin.begin c.in_ok-begin.ensures.bytes c.in_ok-count.ensures.kept in
    let size = c.in_ok-count.ensures.length in
    let room = c.in_ok-begin.ensures.room in
    let bound = c.in_ok-count.ensures.bound in
    let most = c.min-most.ensures in
    let length = c.len.ensures in
    let waiting : slice_range x.buffer.items x.start x.end ≡ c.args.self.now.waiting = ap (λ (v : Cursor). v.waiting) c.self.view_is in
    record {
      line = omega arith;
      before = omega arith;
      begun = omega arith;
      scanned = omega arith;
      filled = omega (arith, size, room, bound, most, length);
      plain = kept_plain x.buffer.items c.read_behind.new.buffer.items x.start x.scanned x.end c.in_ok-begin.begin c.self.invariant.begun c.self.invariant.scanned same c.self.invariant.plain;
      near =
          near_read x.buffer.items c.read_behind.new.buffer.items x.start x.end c.in_ok-begin.begin c.in_ok-count.count same
          (subst IsPlain (sym waiting) c.requires.plain) (omega (arith, bound, most));
      handed = c.self.invariant.handed;
      received = omega (arith, bound, most, c.self.invariant.received, c.self.invariant.handed);
    }

pub returns-clause-ahead : goal.returns-clause-ahead
returns-clause-ahead g c =
    let x = c.self.inside in
    let zs = c.read_behind.new.buffer.items in
    let start = c.in_ok-begin.begin + (x.end - x.start) in
    let same = kept_range x.buffer.items c.with_room.new.buffer.items zs x.start x.end c.in_ok-begin.begin c.in_ok-begin.ensures.bytes c.in_ok-count.ensures.kept in
    let waiting : slice_range x.buffer.items x.start x.end ≡ c.args.self.now.waiting = ap (λ (v : Cursor). v.waiting) c.self.view_is in
    let moved : List ℕ = slice_range zs start (start + c.in_ok-count.count) in
    let more = more_range x.buffer.items zs x.start x.end c.in_ok-begin.begin c.in_ok-count.count same in
    let bound = c.in_ok-count.ensures.bound in
    let taken : take c.in_ok-count.count (slice_range zs start (start + c.min-most.result)) ≡ moved = take-range zs start (start + c.min-most.result) c.in_ok-count.count (omega (arith, bound)) in
    ahead_moved c.args.self.now.waiting _ (g.R.LogReader.left c.args.reader.now) (g.R.LogReader.left c.read_behind.new.reader) moved (more ∙ ap (λ (ys : List ℕ). ys ++ moved) waiting)
    (subst (Consumes (g.R.LogReader.left c.args.reader.now) (g.R.LogReader.left c.read_behind.new.reader)) taken c.in_ok-count.ensures.bytes.0)

pub returns-clause-ok : goal.returns-clause-ok
returns-clause-ok g c =
    let x = c.self.inside in
    let zs = c.read_behind.new.buffer.items in
    let start = c.in_ok-begin.begin + (x.end - x.start) in
    let same = kept_range x.buffer.items c.with_room.new.buffer.items zs x.start x.end c.in_ok-begin.begin c.in_ok-begin.ensures.bytes c.in_ok-count.ensures.kept in
    let waiting : slice_range x.buffer.items x.start x.end ≡ c.args.self.now.waiting = ap (λ (v : Cursor). v.waiting) c.self.view_is in
    let moved : List ℕ = slice_range zs start (start + c.in_ok-count.count) in
    let more = more_range x.buffer.items zs x.start x.end c.in_ok-begin.begin c.in_ok-count.count same in
    let size = c.in_ok-count.ensures.length in
    let room = c.in_ok-begin.ensures.room in
    let bound = c.in_ok-count.ensures.bound in
    let most = c.min-most.ensures in
    let length = c.len.ensures in
    let inside : start + c.in_ok-count.count ≤ vec_len c.read_behind.new.buffer = omega (arith, size, room, bound, most, length) in
    waits_more c.args.self.now _ moved c.in_ok-count.count (more ∙ ap (λ (ys : List ℕ). ys ++ moved) waiting)
    (length-range zs start (start + c.in_ok-count.count) (omega (arith, inside, c.read_behind.new.buffer.ok.0)) ∙ omega arith)

pub returns-clause-near : goal.returns-clause-near
returns-clause-near g c = (invariant_of-self-2 g c).near
