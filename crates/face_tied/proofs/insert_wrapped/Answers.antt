-- `face_tied::insert_wrapped` meets its contract.
use Rattle.face_demands.specs.FaceCalling.{FaceCalls}
use mathlib.Core.Path.{refl}
use Rattle.face_tied.proofs.insert_wrapped.Goals as goal

pub returns : goal.returns
unfolding FaceCalls
returns c =
    record { tables = c.silotwist_insert_wrapped.ensures; buffer = refl }
