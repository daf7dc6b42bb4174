use Rattle.std.proofs.Common.{◌≡◌, ◌-◌, ◌≤◌, ℕ, length, true, false, sym, ap, ◌∙◌, subst, arith}
use Rattle.test_runner_core_log_reader.specs.Items.{line_fault}
use Rattle.test_runner_core_log_reader.specs.Cursor.{Cursor}
use Rattle.test_runner_core_log_reader.specs.Calls.{Scanned}
use Rattle.test_runner_core_log_reader.specs.declared.next.Scan.{Scan}
use Rattle.test_runner_core_log_reader.proofs.Ranges.{length-range}
use Rattle.test_runner_core_log_reader.proofs.Scanning.{refused_at, nothing_found}
use Rattle.test_runner_core_log_reader.proofs.log_lines.LogLines.scan.Goals as goal

pub returns-in_default : goal.returns-in_default
returns-in_default c =
    let x = c.self.inside in
    let old = c.args.self.now in
    let same = c.in_default.ensures.unmoved in
    let filled : x.end ≤ length x.buffer.items = omega (arith, x.buffer.ok.0, c.self.invariant.filled) in
    let size : length old.waiting ≡ x.end - x.start =
    ap length (sym same.waiting) ∙ ap length (sym (ap (λ (v : Cursor). v.waiting) c.self.view_is)) ∙ length-range x.buffer.items x.start x.end filled in
    let handed : old.handed ≡ x.handed = sym same.handed ∙ sym (ap (λ (v : Cursor). v.handed) c.self.view_is) in
    subst (λ (s : Scan). Scanned s old c.find_feed.new.self) (sym c.scan_of.ensures)
    (nothing_found old c.find_feed.new.self same c.in_default.ensures.feed c.fault_of.result
    (ap (λ (n : ℕ). line_fault n (length old.waiting) false) handed ∙ ap (λ (n : ℕ). line_fault x.handed n false) size ∙ sym c.fault_of.ensures))

pub returns-in-Some-fault_of : goal.returns-in-Some-fault_of
returns-in-Some-fault_of c =
    let old = c.args.self.now in
    let same = c.in-Some.ensures.unmoved in
    let handed : old.handed ≡ c.self.inside.handed = sym same.handed ∙ sym (ap (λ (v : Cursor). v.handed) c.self.view_is) in
    let told = refused_at old.handed old.waiting c.in-Some.length c.in-Some-fault_of.fault c.in-Some.ensures.feed
    (ap (λ (n : ℕ). line_fault n c.in-Some.length true) handed ∙ sym c.fault_of-2.ensures ∙ c.in-Some-fault_of.is) in
    (same, told.0, told.1)
