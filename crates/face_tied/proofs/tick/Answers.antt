-- `face_tied::tick` meets its contract.
use Rattle.face_demands.specs.FaceCalling.{FaceCalls}
use Rattle.face_tied.proofs.tick.Goals as goal

pub returns : goal.returns
unfolding FaceCalls
returns c =
    record { tables = c.silotwist_tick.ensures }
