-- `face_tied::fresh` meets its contract.
use Rattle.face_demands.specs.FaceCalling.{FacePromised, fresh}
use Rattle.face_tied.proofs.FaceTying.{again}
use mathlib.Core.Path.{refl}
use Rattle.face_tied.proofs.fresh.Goals as goal

pub returns : goal.returns
unfolding FacePromised
returns c =
    let a = c.args in
    again _ _ _ _ _ (λ z. fresh (record { secs = z; nanos = a.clock_nanos }) (record { secs = a.margin_secs; nanos = a.margin_nanos })) _
    c.ranges.clock_secs
    (record { tables = c.silotwist_fresh.ensures; buffer = refl })
