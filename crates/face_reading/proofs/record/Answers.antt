-- `face_reading::record` meets its contract.
use Rattle.face_reading.proofs.Standing.{stands_words}
use Rattle.face_reading.specs.Inside.{clipped}
use Rattle.face_reading.specs.Reading.{signed, switched}
use mathlib.Core.Path.{◌∙◌, ap}
use mir.Facts.{to_z-of_z}
use mir.Syntax.{w64}
use mir.Val.{SFits}
use borrow.Author.Rules.{rules}
use Rattle.face_reading.proofs.record.Goals as goal

pub returns : goal.returns
returns c =
    let f : SFits w64 c.signed.result = search rules in
    stands_words c.args.words.now _ _ _ _ _ _
    c.word.ensures
    (to_z-of_z f ∙ c.signed.ensures ∙ ap signed
    c.word-2.ensures)
    (c.nanos.ensures ∙ ap clipped
    c.word-3.ensures) c.word-4.ensures
    (c.nanos-2.ensures ∙ ap clipped c.word-5.ensures) (c.is_on.ensures
    ∙ ap switched c.word-6.ensures)
