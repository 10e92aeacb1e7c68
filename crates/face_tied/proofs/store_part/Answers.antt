-- `face_tied::store_part` meets its contract.
use Rattle.face_demands.specs.FaceCalling.{FaceCalls}
use Rattle.face_tied.proofs.FaceTying.{parted}
use mathlib.Core.Path.{refl}
use Rattle.face_tied.proofs.store_part.Goals as goal

pub returns : goal.returns
unfolding FaceCalls
returns c = parted _ _ _ _ _ c.silotwist_store_part.ensures refl
