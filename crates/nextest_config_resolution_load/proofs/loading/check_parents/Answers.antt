use Rattle.std.proofs.Common.{inl, map, refl, subst}
use Rattle.nextest_config_resolution_inheritance.specs.Inheritance.{IsAccepted, Rise}
use Rattle.nextest_config_resolution_inheritance.specs.Refusals.{IsFirstFault}
use Rattle.nextest_config_resolution_load.specs.Checks.{parents_of}
use Rattle.nextest_config_resolution_load.specs.Load.{named_of}
use Rattle.nextest_config_resolution_load.proofs.Configs.{fault_is, same_parents}
use Rattle.nextest_config_resolution_load.proofs.loading.check_parents.Goals as goal

pub check_inheritance-requires : goal.check_inheritance-requires
check_inheritance-requires g c = rw c.as_slice.ensures (subst Rise (same_parents c.args.read.now.profiles) c.requires.rises)

pub returns-in-Ok : goal.returns-in-Ok
returns-in-Ok g c =
    let profiles = c.args.read.now.profiles in
    let accepted : IsAccepted (parents_of (map named_of profiles)) = rw (same_parents profiles) (rw c.as_slice.ensures at c.in-Ok.ensures.ok) in ((accepted, tt), tt)

pub returns-in-Err-Refused : goal.returns-in-Err-Refused
returns-in-Err-Refused g c =
    let profiles = c.args.read.now.profiles in
    let first : IsFirstFault (parents_of (map named_of profiles)) c.in-Err-Refused.fault =
    rw (same_parents profiles)
    (fault_is c.in-Err-Refused.field-0 c.in-Err-Refused.fault _ c.in-Err-Refused.field-0-is (rw c.as_slice.ensures at c.in-Err-Refused.ensures.err)) in
    inl (c.in-Err-Refused.fault, refl, first)
