-- `face_tied::insert_unwrapped` meets its contract.
use Rattle.face_demands.specs.FaceCalling.{FaceCalls, FacePromised, insert_unwrapped, request}
use Rattle.face_tied.proofs.FaceTying.{again}
use mathlib.Core.Path.{refl}
use Rattle.face_tied.proofs.insert_unwrapped.Goals as goal

pub returns : goal.returns
unfolding FacePromised FaceCalls
returns c =
    let a = c.args in
    again _ _ _ _ _ (λ z. request (insert_unwrapped (record { secs = z; nanos = a.nanos }) a.packet.now)) _ c.ranges.secs
    (record { tables = c.silotwist_insert_unwrapped.ensures; buffer = refl })
