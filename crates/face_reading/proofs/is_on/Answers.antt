-- `face_reading::is_on` meets its contract.
use Rattle.face_reading.specs.Reading.{switched}
use borrow.Author.Rules.{rules}
use Rattle.face_reading.proofs.is_on.Goals as goal

pub returns : goal.returns
unfolding switched
returns c = search rules
