-- `face_words::two` meets its contract.
use Rattle.face_words.specs.Padding.{padded}
use borrow.Author.Rules.{rules}
use Rattle.face_words.proofs.two.Goals as goal

pub returns : goal.returns
unfolding padded
returns c = search rules
