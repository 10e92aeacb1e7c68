-- `face_reading::store_setup` meets its contract.
use Rattle.face_reading.proofs.Narrow.{fine_counted, fine_few, fine_narrow, reads_all, reads_bad}
use Rattle.face_reading.specs.Reading.{switched}
use Rattle.rules.proofs.Cases.{clash}
use Rattle.rules.proofs.Passing.{fails}
use mathlib.Core.Path.{◌∙◌, ap}
use native.Mathlib.Omega.{arith}
use borrow.Author.Rules.{rules}
use Rattle.face_reading.proofs.store_setup.Goals as goal

pub returns-then-pools-gt8 : goal.returns-then-pools-gt8
returns-then-pools-gt8 c = reads_bad _ _ (λ f. omega (arith, fine_few _ f)) c.bad_setup.ensures

pub returns-then-words-n : goal.returns-then-words-n
returns-then-words-n c = reads_bad _ _ (λ f. omega (arith, fine_counted _ f)) c.bad_setup-then-words-n.ensures

pub returns-then-not-is_narrow : goal.returns-then-not-is_narrow
returns-then-not-is_narrow c = reads_bad _ _ (λ f. clash _ (fine_narrow _ f) (fails c.is_narrow.ensures c.if-not-is_narrow.true))
    c.bad_setup-then-not-is_narrow.ensures

pub returns : goal.returns
returns c = reads_all _ _ _ _ _ c.word-pools.ensures (search rules)
    c.column.ensures c.column-2.ensures (c.is_on.ensures ∙ ap switched c.word.ensures)
