use Rattle.std.proofs.Common.{nat_cmp, sym, ap, ◌∙◌}
use Rattle.std.specs.Cmp.Lexicographic.{slice_cmp}
use Rattle.nextest_config_elements_toml.proofs.Walks.{ended, fewer, found, missing, moved}
use Rattle.nextest_config_elements_toml.proofs.members.Walk.go_to.Goals as goal

pub loop-self-init : goal.loop-self-init
loop-self-init c all is = is

pub returns-in-Less-clause-walk : goal.returns-in-Less-clause-walk
returns-in-Less-clause-walk c all is = c.loop-self.invariant all is

pub returns-in-Less-clause-found : goal.returns-in-Less-clause-found
returns-in-Less-clause-found c all is before =
    missing all c.loop-self.self (c.in-Some.name, c.in-Some.value) c.args.key.now c.in-Some.is before
    (ap (slice_cmp nat_cmp c.args.key.now) (sym c.as_str.ensures.value) ∙ sym c.compare.ensures ∙ c.in-Less.is) (c.loop-self.invariant all is)

pub returns-in-Equal-clause-walk : goal.returns-in-Equal-clause-walk
returns-in-Equal-clause-walk c all is =
    moved all c.loop-self.self (c.in-Some.name, c.in-Some.value) c.next-self.result c.next-self.new.self c.in-Some.is c.next-self.ensures.steps
    (c.loop-self.invariant all is)

pub returns-in-Equal-clause-found : goal.returns-in-Equal-clause-found
returns-in-Equal-clause-found c all is =
    found all c.loop-self.self (c.in-Some.name, c.in-Some.value) c.args.key.now c.in-Some.is
    (ap (slice_cmp nat_cmp c.args.key.now) (sym c.as_str.ensures.value) ∙ sym c.compare.ensures ∙ c.in-Equal.is) (c.loop-self.invariant all is)

pub loop-self-smaller : goal.loop-self-smaller
loop-self-smaller c = fewer c.loop-self.self (c.in-Some.name, c.in-Some.value) c.next-self-in-Greater.result c.next-self-in-Greater.new.self c.in-Some.is c.next-self-in-Greater.ensures.steps

pub loop-self-preserved : goal.loop-self-preserved
loop-self-preserved c all is =
    moved all c.loop-self.self (c.in-Some.name, c.in-Some.value) c.next-self-in-Greater.result c.next-self-in-Greater.new.self c.in-Some.is
    c.next-self-in-Greater.ensures.steps (c.loop-self.invariant all is)

pub returns-clause-walk : goal.returns-clause-walk
returns-clause-walk c all is = c.loop-self.invariant all is

pub returns-clause-found : goal.returns-clause-found
returns-clause-found c all is before =
    ended all c.loop-self.self c.args.key.now c.in_default.is before (c.loop-self.invariant all is)
