-- `face_words::writing::mark` meets its contract.
use Rattle.face_words.proofs.Written.{bit_is, unwritten, written}
use lib.ListN.{set}
use mathlib.Core.Path.{◌∙◌, ap}
use Rattle.face_words.proofs.writing.mark.Goals as goal

pub returns-then-number-eq0 : goal.returns-then-number-eq0
returns-then-number-eq0 c = written _ _ _ _ c.if-number-eq0.true (ap (λ x. set c.args.«record».now 5 x) (c.from.ensures ∙ bit_is c.args.on))

pub returns-else-number-eq0 : goal.returns-else-number-eq0
returns-else-number-eq0 c = unwritten _ _ _ c.if-number-eq0.false
