-- `face_reading::signed` meets its contract.
use Rattle.face_reading.proofs.Seconds.{signed_is}
use mathlib.Core.Path.{◌∙◌}
use mir.Facts.{sfits_to_z, to_z-of_z}
use Rattle.face_reading.proofs.signed.Goals as goal

pub returns : goal.returns
returns c = rw c.cast_signed.ensures (to_z-of_z (sfits_to_z c.ranges.w) ∙ signed_is c.args.w c.ranges.w.fits)
