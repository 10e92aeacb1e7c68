-- `face_reading::bad_setup` meets its contract.
use Rattle.rules.specs.Tests.{all_of}
use Rattle.layout.specs.Judge.{setup_ok}
use mathlib.Core.Path.{refl}
use Rattle.face_reading.proofs.bad_setup.Goals as goal

pub returns : goal.returns
unfolding setup_ok all_of
returns c = refl
