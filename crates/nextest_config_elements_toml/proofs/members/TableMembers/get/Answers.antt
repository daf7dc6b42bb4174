use Rattle.nextest_config_elements_toml.proofs.members.TableMembers.get.Goals as goal

pub invariant_of-self : goal.invariant_of-self
invariant_of-self c = c.go_to.ensures.walk c.self.inside.table.now.entries c.self.invariant
