-- `face_tied::disable` meets its contract.
use Rattle.face_demands.specs.FaceCalling.{FaceCalls}
use mathlib.Core.Path.{refl}
use Rattle.face_tied.proofs.disable.Goals as goal

pub returns : goal.returns
unfolding FaceCalls
returns c = record { words = c.silotwist_disable.ensures; store = refl; lens = refl; rows = refl; buffer = refl }
