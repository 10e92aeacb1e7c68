-- `words::write` meets its contract: a turn of the loop, and no byte left after the last.
use Rattle.std.proofs.Common.{◌≡◌, ◌∙◌, ℕ, ap, arith}
use Rattle.std.proofs.lemmas.List.Edits.{sets}
use Rattle.words.proofs.Sets.{bytes_turn}
use Rattle.words.specs.Words.{bytes_of}
use Rattle.words.proofs.write.Goals as goal

pub loop-k-preserved : goal.loop-k-preserved
loop-k-preserved c =
    let l = c.loop-k in
    bytes_turn l.dst c.args.at l.k l.x (omega arith) ∙ l.invariant

pub returns : goal.returns
unfolding bytes_of
returns c =
    let l = c.loop-k in
    let none : 0 ≡ l.k = omega arith in
    ap (λ (k : ℕ). sets l.dst c.args.at (bytes_of k l.x)) none ∙ l.invariant
