-- `face_tied::delete_by_id_keep` meets its contract.
use Rattle.face_demands.specs.FaceCalling.{FaceCalls}
use mathlib.Core.Path.{refl}
use Rattle.face_tied.proofs.delete_by_id_keep.Goals as goal

pub returns : goal.returns
unfolding FaceCalls
returns c =
    record { tables = c.silotwist_delete_by_id_keep.ensures; buffer = refl }
