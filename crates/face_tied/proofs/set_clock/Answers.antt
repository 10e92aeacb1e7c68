-- `face_tied::set_clock` meets its contract.
use Rattle.face_demands.specs.FaceCalling.{FaceCalls, FacePromised, request, set_clock}
use Rattle.face_tied.proofs.FaceTying.{again}
use mathlib.Core.Path.{refl}
use Rattle.face_tied.proofs.set_clock.Goals as goal

pub returns : goal.returns
unfolding FacePromised FaceCalls
returns c =
    let a = c.args in
    again _ _ _ _ _ (λ z. request (set_clock (record { secs = z; nanos = a.nanos }))) _ c.ranges.secs
    (record { words = c.silotwist_set_clock.ensures; store = refl; lens = refl; rows = refl; buffer = refl })
