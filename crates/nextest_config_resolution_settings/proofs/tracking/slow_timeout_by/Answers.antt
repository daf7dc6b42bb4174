use Rattle.nextest_config_resolution_settings.proofs.tracking.slow_timeout_by.Goals as goal

pub returns-in-Test : goal.returns-in-Test
returns-in-Test g c = rw c.in-Test.is c.tracked.ensures

pub returns-in-Benchmark : goal.returns-in-Benchmark
returns-in-Benchmark g c = rw c.in-Benchmark.is c.tracked-in-Benchmark.ensures
