-- `face_tied::window` meets its contract.
use Rattle.face_demands.specs.FaceCalling.{FaceCalls, FacePromised, request, window}
use Rattle.face_tied.proofs.FaceTying.{again_both}
use mathlib.Core.Path.{refl}
use Rattle.face_tied.proofs.window.Goals as goal

pub returns : goal.returns
unfolding FacePromised FaceCalls
returns c =
    let a = c.args in
    again_both _ _ _ _ _
    (λ y z. request (window a.has_from (record { secs = y; nanos = a.from_nanos }) a.has_to (record { secs = z; nanos = a.to_nanos }))) _ _
    c.ranges.from_secs c.ranges.to_secs
    (record { answer = c.silotwist_window.ensures; lent = refl; buffer = refl })
