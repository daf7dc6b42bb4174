use Rattle.std.proofs.Common.{◌≡◌, ◌≤◌, length, map, take}
use Rattle.test_runner_core_session.specs.Names.{name_of}
use Rattle.test_runner_core_session.proofs.places.names_of.Given as goal

-- the names so far: at most as many as the tests so far, and where as many, theirs
abbrev pub invariant-loop-test : goal.invariant-loop-test
invariant-loop-test l = (length l.names.keys ≤ l.test-index) × (length l.names.keys ≡ l.test-index → map name_of l.names.keys ≡ map (λ test. test.instance) (take l.test-index l.tests))
