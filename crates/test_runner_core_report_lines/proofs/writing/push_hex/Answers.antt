use Rattle.std.proofs.Common.{arith, string_bytes, ◌≡◌, take-append-drop, ◌++◌}
use Rattle.test_runner_core_report_lines.proofs.Fronts.{extends_then, hex_more}
use Rattle.test_runner_core_report_lines.proofs.writing.push_hex.Goals as goal

split : (c : goal.In_ok-push_chunk) → c.loop-rest.rest.now ≡ c.split_at.result.0.now ++ c.split_at.result.1.now
split c = grind (arith, c.split_at.ensures.front, c.split_at.ensures.back, take-append-drop)

pub loop-rest-preserved : goal.loop-rest-preserved
loop-rest-preserved c =
    let l = c.loop-rest in
    record {
      whole = hex_more l.rest.now c.split_at.result.0.now c.split_at.result.1.now _ (string_bytes l.text) (string_bytes c.push_chunk.new.text) (split c) c.in_ok-push_chunk.ensures.ok l.invariant.whole;
      kept = extends_then _ _ _ l.invariant.kept c.push_chunk.ensures.grows;
    }
