-- `packet_tests::version_nibble` meets its contract.
use Rattle.packet_tests.specs.Tests.{version_nibble}
use mathlib.Core.Path.{refl}
use Rattle.packet_tests.proofs.version_nibble.Goals as goal

pub returns : goal.returns
unfolding version_nibble
returns c = refl
