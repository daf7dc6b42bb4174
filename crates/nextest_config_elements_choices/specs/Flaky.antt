-- What becomes of a test that passes on a later attempt.
use Rattle.std.specs.Prelude.{ℕ, List, ◌++◌, Option, Some, None, codes, decimal}
use Rattle.nextest_config_elements_choices.specs.declared.timeouts.FlakyResult.{FlakyResult}
use Rattle.nextest_config_elements_choices.specs.declared.timeouts.FlakyResult.TheVariants as flaky

-- what is told of a test that passed on an attempt of so many, and fails for that
abbrev pub message_of : FlakyResult → ℕ → ℕ → Option (List ℕ)
message_of flaky.Fail attempt total = Some (codes "test passed on attempt " ++ (decimal attempt ++ (codes "/"
    ++ (decimal total ++ codes " but is configured to fail when flaky"))))
message_of flaky.Pass attempt total = None
