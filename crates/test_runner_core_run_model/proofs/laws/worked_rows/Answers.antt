use Rattle.std.proofs.Common.{refl}
use Rattle.test_runner_core_run_model.proofs.laws.worked_rows.Goals as goal

pub returns : goal.returns
returns c = record { retried = refl; flaky_failed = refl; a_failed = refl; b_failed = refl; nothing = refl; nothing_interrupted = refl; cut_short = refl; script_timeout = refl; late_interrupt = refl; interrupt = refl; start_after_stop = refl; immediate = refl; script_failed = refl; start_after_script = refl; too_early = refl; unknown_script = refl; twice = refl; out_of_order = refl; between = refl; heavy_failed = refl; start_after_heavy = refl; light_failed = refl; heavy_retried = refl; heavy_flaky = refl }
