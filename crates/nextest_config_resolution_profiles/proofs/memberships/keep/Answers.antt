use Rattle.std.proofs.Common.{List, ℕ, cond, ap, ◌∙◌}
use Rattle.nextest_config_resolution_profiles.specs.Memberships.{have_one_name, name_in}
use Rattle.nextest_config_resolution_profiles.proofs.Keeping.{kept_name}
use Rattle.nextest_config_resolution_profiles.proofs.memberships.keep.Goals as goal
use Rattle.nextest_filtering_filters.specs.Query.{test_of}

pub returns : goal.returns
returns c = λ test.
    kept_name c.args.groups.now c.insert.new.self (test_of c.args.query.now) c.in_ok-key.key
    c.in_ok-name.name c.in_ok-key.ensures c.in_ok-insert.ensures.updates test
    ∙ ap (λ (name : List ℕ). cond (have_one_name (test_of c.args.query.now) test) name
    (name_in c.args.groups.now test)) (c.in_ok-name.ensures ∙ c.as_str.ensures)
