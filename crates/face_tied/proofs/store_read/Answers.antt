-- `face_tied::store_read` meets its contract.
use Rattle.face_demands.specs.FaceCalling.{FaceCalls}
use mathlib.Core.Path.{refl}
use Rattle.face_tied.proofs.store_read.Goals as goal

pub returns : goal.returns
unfolding FaceCalls
returns c = record { read = c.silotwist_store_read.ensures; lent = refl }
