-- `face_tied::reset` meets its contract.
use Rattle.face_demands.specs.FaceCalling.{FaceCalls}
use mathlib.Core.Path.{refl}
use Rattle.face_tied.proofs.reset.Goals as goal

pub returns : goal.returns
unfolding FaceCalls
returns c =
    record { tables = c.silotwist_reset.ensures; buffer = refl }
