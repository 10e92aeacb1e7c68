-- `face_reading::nanos` meets its contract.
use Rattle.face_reading.proofs.Standing.{clip_is}
use mathlib.Core.Path.{◌∙◌}
use Rattle.face_reading.proofs.nanos.Goals as goal

pub returns : goal.returns
returns c = c.unwrap_or.ensures ∙ clip_is c.try_from.result c.args.w c.try_from.ensures
