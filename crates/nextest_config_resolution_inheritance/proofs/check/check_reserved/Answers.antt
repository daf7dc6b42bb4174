use Rattle.std.proofs.Common.{ap, sym, ◌∙◌, below_more, arith}
use Rattle.nextest_config_resolution_inheritance.specs.Inheritance.{Parents, SetsNoneIfReserved, is_reserved, profile_at}
use Rattle.nextest_config_resolution_inheritance.specs.Inherits.{parents_in}
use Rattle.nextest_config_resolution_inheritance.proofs.Found.{all_at, length_all, standing}
use Rattle.nextest_config_resolution_inheritance.proofs.Stages.{not_reserved, reserved_first, sets_none}
use Rattle.nextest_config_resolution_inheritance.proofs.check.check_reserved.Goals as goal
use Rattle.nextest_config_resolution_inheritance.proofs.check.check_reserved.Goals.{else-is_some-via-then-is_some+else-is_reserved, else-is_some-via-else-is_some}

pub returns-then-is_reserved-clause-err : goal.returns-then-is_reserved-clause-err
returns-then-is_reserved-clause-err g c =
    let name_of = g.P.Inherits.name_of in
    let parent_of = g.P.Inherits.parent_of in
    let values = c.args.profiles.now in
    let all : Parents = parents_in name_of parent_of values in
    let k = c.loop-profile.profile-index in
    let item = c.profile-item.result in
    let is = standing name_of parent_of values k item c.loop-profile-test.true c.profile-item.is in
    reserved_first all k (name_of item) c.in_ok-from_str.field-0 (parent_of item) c.inherits.result (omega (arith, length_all name_of parent_of values, c.loop-profile-test.true)) is
    c.inherits.ensures (sym c.if-is_some.ensures) (sym (ap is_reserved c.name.ensures) ∙ sym c.is_reserved.ensures ∙ c.if-is_reserved.true)
    c.loop-profile.invariant (c.in_ok-from_str.ensures ∙ c.name-then-is_reserved.ensures)

pub loop-profile-preserved : goal.loop-profile-preserved
loop-profile-preserved g c =
    let name_of = g.P.Inherits.name_of in
    let parent_of = g.P.Inherits.parent_of in
    let values = c.args.profiles.now in
    let all : Parents = parents_in name_of parent_of values in
    let k = c.loop-profile.profile-index in
    let item = c.profile-item.result in
    let is = standing name_of parent_of values k item c.loop-profile-test.true c.profile-item.is in
    below_more (λ j. SetsNoneIfReserved (profile_at all j)) k c.loop-profile.invariant
    (elim c.else-is_some.branch [
      | else-is_some-via-then-is_some+else-is_reserved w ↦
          not_reserved all k (name_of item) (parent_of item) is (sym (ap is_reserved w.name.ensures) ∙ sym w.is_reserved.ensures ∙ w.if-is_reserved.false)
      | else-is_some-via-else-is_some w ↦
          sets_none all k (name_of item) (parent_of item) c.inherits.result is c.inherits.ensures (sym c.is_some.ensures ∙ w.if-is_some.false)
    ])

pub returns-clause-ok : goal.returns-clause-ok
returns-clause-ok g c =
    let name_of = g.P.Inherits.name_of in
    let parent_of = g.P.Inherits.parent_of in
    let values = c.args.profiles.now in
    let all : Parents = parents_in name_of parent_of values in
    all_at SetsNoneIfReserved all (λ k within. c.loop-profile.invariant k (omega (arith, within, length_all name_of parent_of values, c.loop-profile-test.false)))
