-- The configuration that is built in: the lowest source of every configuration.
use Rattle.std.specs.Prelude.{true, false, pos, codes}
use Rattle.toml.specs.Data.{string, integer, boolean, array, table, no_items, Members, no_members, member}

-- its tree, by the bytes of the keys
abbrev pub store_members : Members
store_members = member (codes "dir") (string (codes "target/nextest")) no_members

abbrev pub bench_members : Members
bench_members =
    member (codes "global-timeout") (string (codes "30y")) (
    member (codes "slow-timeout") (string (codes "30y")) no_members)

abbrev pub junit_members : Members
junit_members =
    member (codes "flaky-fail-status") (string (codes "failure")) (
    member (codes "report-name") (string (codes "nextest-run")) (
    member (codes "report-skipped") (string (codes "none")) (
    member (codes "store-failure-output") (boolean true) (
    member (codes "store-success-output") (boolean false) no_members))))

abbrev pub default_members : Members
default_members =
    member (codes "bench") (table bench_members) (
    member (codes "default-filter") (string (codes "all()")) (
    member (codes "fail-fast") (boolean true) (
    member (codes "fail-weight") (integer (pos 1)) (
    member (codes "failure-output") (string (codes "immediate")) (
    member (codes "final-status-level") (string (codes "flaky")) (
    member (codes "flaky-result") (string (codes "pass")) (
    member (codes "global-timeout") (string (codes "30y")) (
    member (codes "junit") (table junit_members) (
    member (codes "leak-timeout") (string (codes "100ms")) (
    member (codes "retries") (integer (pos 0)) (
    member (codes "run-extra-args") (array no_items) (
    member (codes "slow-timeout") (string (codes "60s")) (
    member (codes "status-level") (string (codes "pass")) (
    member (codes "success-output") (string (codes "never")) (
    member (codes "test-threads") (string (codes "num-cpus")) (
    member (codes "threads-required") (integer (pos 1)) no_members))))))))))))))))

abbrev pub profiles_members : Members
profiles_members = member (codes "default") (table default_members) (member (codes "default-miri") (table no_members) no_members)

abbrev pub built_in_members : Members
built_in_members = member (codes "profile") (table profiles_members) (member (codes "store") (table store_members) no_members)
