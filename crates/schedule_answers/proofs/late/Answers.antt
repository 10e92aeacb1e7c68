-- `schedule_answers::late` meets its contract.
use Rattle.face_words.proofs.Signed.{held_word}
use Rattle.schedule_answers.proofs.Carried.{six_is}
use mathlib.Core.Path.{refl}
use mir.Syntax.{w64}
use mir.Val.{SFits}
use borrow.Author.Rules.{rules}
use Rattle.schedule_answers.proofs.late.Goals as goal

pub returns : goal.returns
returns c =
    let f : SFits w64 c.args.clock.secs = search rules in
    let g : SFits w64 c.args.release.secs = search rules in
    six_is (held_word _ _ f c.word_of.ensures) c.from.ensures refl c.from-2.ensures (held_word _ _ g c.word_of-2.ensures) c.from-3.ensures
