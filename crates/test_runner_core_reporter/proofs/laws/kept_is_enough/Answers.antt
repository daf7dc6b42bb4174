use Rattle.test_runner_core_reporter.specs.Final.{final_parts}
use Rattle.test_runner_core_reporter.specs.Keeping.{event_to_keep}
use Rattle.test_runner_core_reporter.specs.Steps.{step_parts}
use Rattle.test_runner_core_reporter.proofs.KeptReports.{kept_begin, kept_final, kept_forgets, kept_refuses, kept_status, kept_step, text_as}
use Rattle.test_runner_core_reporter.proofs.laws.kept_is_enough.Goals as goal

pub returns : goal.returns
returns c = record {
  begin = kept_begin;
  progress = λ plan event real old now is taken.
      let it = kept_step plan event real old now is taken in
      record {
        next = it.next;
        taken = it.taken;
        kept = it.kept;
        texts = λ text has. text_as (step_parts plan (event_to_keep plan event) old now) (step_parts plan event real it.next) text it.says has;
      };
  refusals = kept_refuses;
  forgetting = kept_forgets;
  final_text = λ plan real kept text is has. text_as (final_parts plan kept) (final_parts plan real) text (kept_final plan real kept is) has;
  status = kept_status;
}
