-- `face_tied::store_delete` meets its contract.
use Rattle.face_demands.specs.FaceCalling.{FaceCalls}
use mathlib.Core.Path.{refl}
use Rattle.face_tied.proofs.store_delete.Goals as goal

pub returns : goal.returns
unfolding FaceCalls
returns c =
    record { tables = c.silotwist_store_delete.ensures; rec = refl; rows = refl; buffer = refl }
