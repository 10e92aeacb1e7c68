-- `face_tied::enable` meets its contract.
use Rattle.face_demands.specs.FaceCalling.{FaceCalls}
use mathlib.Core.Path.{refl}
use Rattle.face_tied.proofs.enable.Goals as goal

pub returns : goal.returns
unfolding FaceCalls
returns c = record { words = c.silotwist_enable.ensures; store = refl; lens = refl; rows = refl; buffer = refl }
