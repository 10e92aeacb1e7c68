-- `face_words::none` meets its contract.
use Rattle.face_words.specs.Padding.{padded}
use borrow.Author.Rules.{rules}
use Rattle.face_words.proofs.none.Goals as goal

pub returns : goal.returns
unfolding padded
returns c = search rules
