use Rattle.std.proofs.Common.{◌+◌, ◌-◌, ◌<◌, ◌≤◌, List, length, Some, ap, subst, arith, ℕ}
use Rattle.std.specs.List.{slice_range}
use Rattle.test_runner_core_log_reader.specs.Feeds.{IsPlain, IsFirstFeed}
use Rattle.test_runner_core_log_reader.specs.Cursor.{Cursor}
use Rattle.test_runner_core_log_reader.proofs.Ranges.{length-range}
use Rattle.test_runner_core_log_reader.proofs.Scanning.{all_plain, feed_behind, plain_before}
use Rattle.test_runner_core_log_reader.proofs.log_lines.LogLines.find_feed.Goals as goal

pub invariant_of-self : goal.invariant_of-self
invariant_of-self c =
    let x = c.self.inside in
    let feed : IsPlain (slice_range x.buffer.items x.scanned x.end) = subst (λ (ys : List ℕ). IsPlain (slice_range ys x.scanned x.end)) c.deref.ensures.value c.in_default.ensures in
    record {
      line = omega arith;
      before = omega arith;
      begun = omega arith;
      scanned = omega arith;
      filled = c.self.invariant.filled;
      plain = all_plain x.buffer.items x.start x.scanned x.end c.self.invariant.begun c.self.invariant.scanned c.self.invariant.plain feed;
      near = c.self.invariant.near;
      handed = c.self.invariant.handed;
      received = c.self.invariant.received;
    }

pub returns-in_default-clause-feed : goal.returns-in_default-clause-feed
returns-in_default-clause-feed c =
    let x = c.self.inside in
    let feed : IsPlain (slice_range x.buffer.items x.scanned x.end) = subst (λ (ys : List ℕ). IsPlain (slice_range ys x.scanned x.end)) c.deref.ensures.value c.in_default.ensures in
    subst IsPlain (ap (λ (v : Cursor). v.waiting) c.self.view_is)
    (all_plain x.buffer.items x.start x.scanned x.end c.self.invariant.begun c.self.invariant.scanned c.self.invariant.plain feed)

pub invariant_of-self-2 : goal.invariant_of-self-2
invariant_of-self-2 c =
    let x = c.self.inside in
    let feed : IsFirstFeed (slice_range x.buffer.items x.scanned x.end) (Some c.in-Some.at) =
    subst (λ (ys : List ℕ). IsFirstFeed (slice_range ys x.scanned x.end) (Some c.in-Some.at)) c.deref.ensures.value c.in-Some.ensures in
    let filled : x.end ≤ length x.buffer.items = omega (arith, x.buffer.ok.0, c.self.invariant.filled) in
    let within : c.in-Some.at < x.end - x.scanned = let h = feed.0 in omega (arith, h, length-range x.buffer.items x.scanned x.end filled) in
    record {
      line = omega arith;
      before = omega arith;
      begun = omega arith;
      scanned = omega arith;
      filled = c.self.invariant.filled;
      plain = plain_before x.buffer.items x.start x.scanned x.end c.in-Some.at c.self.invariant.begun c.self.invariant.scanned filled c.self.invariant.plain feed;
      near = c.self.invariant.near;
      handed = c.self.invariant.handed;
      received = c.self.invariant.received;
    }

pub returns-clause-feed : goal.returns-clause-feed
returns-clause-feed c =
    let x = c.self.inside in
    let feed : IsFirstFeed (slice_range x.buffer.items x.scanned x.end) (Some c.in-Some.at) =
    subst (λ (ys : List ℕ). IsFirstFeed (slice_range ys x.scanned x.end) (Some c.in-Some.at)) c.deref.ensures.value c.in-Some.ensures in
    let filled : x.end ≤ length x.buffer.items = omega (arith, x.buffer.ok.0, c.self.invariant.filled) in
    subst (λ (ys : List ℕ). IsFirstFeed ys (Some (x.scanned + c.in-Some.at - x.start))) (ap (λ (v : Cursor). v.waiting) c.self.view_is)
    (feed_behind x.buffer.items x.start x.scanned x.end c.in-Some.at c.self.invariant.begun c.self.invariant.scanned filled c.self.invariant.plain feed)
