use Rattle.nextest_config_resolution_profiles.proofs.evaluatable_profile.EvaluatableProfile.slow_timeout.Goals as goal

pub returns-in-Test : goal.returns-in-Test
returns-in-Test g c = rw c.in-Test.is c.setting.ensures

pub returns-in-Benchmark : goal.returns-in-Benchmark
returns-in-Benchmark g c = rw c.in-Benchmark.is c.setting-in-Benchmark.ensures
