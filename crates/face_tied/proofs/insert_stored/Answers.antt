-- `face_tied::insert_stored` meets its contract.
use Rattle.face_demands.specs.FaceCalling.{FaceCalls, FacePromised, insert_stored, request}
use Rattle.face_tied.proofs.FaceTying.{again}
use mathlib.Core.Path.{refl}
use Rattle.face_tied.proofs.insert_stored.Goals as goal

pub returns : goal.returns
unfolding FacePromised FaceCalls
returns c =
    let a = c.args in
    again _ _ _ _ _ (λ z. request (insert_stored (record { secs = z; nanos = a.nanos }) a.request_id a.address)) _ c.ranges.secs
    (record { tables = c.silotwist_insert_stored.ensures; buffer = refl })
