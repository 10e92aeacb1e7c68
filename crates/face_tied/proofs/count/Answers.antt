-- `face_tied::count` meets its contract.
use Rattle.face_demands.specs.FaceCalling.{FaceCalls}
use mathlib.Core.Path.{refl}
use Rattle.face_tied.proofs.count.Goals as goal

pub returns : goal.returns
unfolding FaceCalls
returns c = record { answer = c.silotwist_count.ensures; lent = refl; buffer = refl }
