-- `face_words::telling::put` meets its contract.
use Rattle.std.proofs.Common.{◌∙◌, List, ap, arith, get_or, refl, ℕ}
use Rattle.std.proofs.Math.ListN.{length-set}
use Rattle.face_words.proofs.Eight.{eight_end, eight_more}
use lib.ListN.{set}
use Rattle.face_words.proofs.telling.put.Goals as goal

pub loop-i-preserved : goal.loop-i-preserved
loop-i-preserved c =
    let i = c.loop-i.i in
    let a = c.args in (
      simp length-set c.loop-i.invariant.0,
      ap (λ (l : List ℕ). set l i (get_or a.words.values i 0)) c.loop-i.invariant.1
          ∙ eight_more a.words.values a.answer.now i (omega arith) (omega arith),
    )

pub returns : goal.returns
returns c =
    let a = c.args in (refl, c.loop-i.invariant.1 ∙ eight_end a.words.values a.answer.now c.loop-i.i (omega arith))
