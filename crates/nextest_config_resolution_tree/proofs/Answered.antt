-- What holds where a call answers, from what another clause says of it there.
use Rattle.std.proofs.Common.{Result, Ok, Err}
use Rattle.std.specs.Prelude.{OnOk}

pub on_ok : {T E P : Type 0} (result : Result T E) → P → OnOk result P
on_ok (Ok value) holds = holds
on_ok (Err fault) holds = tt

pub then_ok : {T E P Q : Type 0} (result : Result T E) → (P → Q) → OnOk result P → OnOk result Q
then_ok (Ok value) leads holds = leads holds
then_ok (Err fault) leads holds = tt
