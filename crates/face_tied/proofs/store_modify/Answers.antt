-- `face_tied::store_modify` meets its contract.
use Rattle.face_demands.specs.FaceCalling.{FaceCalls}
use mathlib.Core.Path.{refl}
use Rattle.face_tied.proofs.store_modify.Goals as goal

pub returns : goal.returns
unfolding FaceCalls
returns c = record { answer = c.silotwist_store_modify.ensures; lent = refl; buffer = refl }
