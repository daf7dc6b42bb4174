use Rattle.std.proofs.Common.{ap, refl, sym, ◌∙◌}
use Rattle.std.proofs.lemmas.Bool.{false≢true}
use Rattle.std.proofs.lemmas.List.{map_push}
use Rattle.nextest_config_resolution_profiles.specs.ChainRules.{seen_rule}
use Rattle.nextest_config_resolution_profiles.specs.Held.{Holds}
use Rattle.nextest_config_resolution_profiles.proofs.Holding.{adds_none, adds_one}
use Rattle.nextest_config_resolution_profiles.proofs.held.push_held.Goals as goal
use Rattle.nextest_config_resolution_settings.specs.Nearest.{lent_layers}
use Rattle.nextest_filtering_filters.specs.Query.{test_of}

pub returns-in_ok-push : goal.returns-in_ok-push
returns-in_ok-push g c =
    adds_one (Holds g.F.Filters.on_test c.args.default.now (test_of c.args.query.now)) (seen_rule c.args.rule.now) (lent_layers c.args.held.now.items) (lent_layers c.push.new.self.items)
    (c.in_ok-holds_on.ensures.0 c.if-branch.true) (ap lent_layers c.in_ok-push.ensures.items ∙ map_push (λ it. it.now) c.args.held.now.items _)

pub returns-else-branch : goal.returns-else-branch
returns-else-branch g c =
    adds_none (Holds g.F.Filters.on_test c.args.default.now (test_of c.args.query.now)) (seen_rule c.args.rule.now) (lent_layers c.args.held.now.items) (lent_layers c.args.held.now.items)
    (λ holds. false≢true (sym c.if-branch.false ∙ c.in_ok-holds_on.ensures.1 holds)) refl
