-- `face_words::writing::clock` meets its contract.
use Rattle.face_words.proofs.Signed.{held_word}
use Rattle.face_words.proofs.Written.{unwritten, written}
use mir.Syntax.{w64}
use mir.Val.{SFits}
use borrow.Author.Rules.{rules}
use Rattle.face_words.proofs.writing.clock.Goals as goal

pub returns-then-number-eq0 : goal.returns-then-number-eq0
returns-then-number-eq0 c =
    let f : SFits w64 c.args.t.secs = search rules in
    written _ _ _ _ c.if-number-eq0.true (rw (held_word _ _ f c.word_of.ensures, c.from.ensures))

pub returns-else-number-eq0 : goal.returns-else-number-eq0
returns-else-number-eq0 c = unwritten _ _ _ c.if-number-eq0.false
