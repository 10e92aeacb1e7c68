-- `face_words::writing::all` meets its contract.
use Rattle.face_words.proofs.Signed.{held_word}
use Rattle.face_words.proofs.Written.{bit_is, six_are, unwritten, written}
use mathlib.Core.Path.{◌∙◌, refl}
use mir.Syntax.{w64}
use mir.Val.{SFits}
use borrow.Author.Rules.{rules}
use Rattle.face_words.proofs.writing.all.Goals as goal

pub returns-then-number-eq0 : goal.returns-then-number-eq0
returns-then-number-eq0 c =
    let f : SFits w64 c.args.r.clock.secs = search rules in
    written _ _ _ _ c.if-number-eq0.true
    (six_are c.args.«record».now
    c.requires
    refl (held_word _ _ f c.word_of.ensures)
    c.from.ensures
    refl c.from-then-number-eq0.ensures (c.from-then-number-eq0-2.ensures ∙ bit_is c.args.r.enabled))

pub returns-else-number-eq0 : goal.returns-else-number-eq0
returns-else-number-eq0 c = unwritten _ _ _ c.if-number-eq0.false
