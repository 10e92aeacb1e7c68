-- `words::read` meets its contract: a byte more, and how large the number is then.
use Rattle.std.proofs.Common.{◌≡◌, ℕ, ◌+◌, ◌*◌, List, get_or, add-one, arith, refl, ◌∙◌}
use Rattle.std.proofs.lemmas.List.Edits.{get_or-between}
use Rattle.words.proofs.Width.{byte_more, widen}
use Rattle.words.specs.Words.{number}
use Rattle.words.proofs.read.Goals as goal

longer : (s : List ℕ) (at k v b : ℕ) → v ≡ number k at s → b ≡ get_or s (at + k) 0 → v * 256 + b ≡ number (k + 1) at s
unfolding number
longer s at k v b e d = rw (e, d, add-one)

pub loop-b-init : goal.loop-b-init
unfolding number
loop-b-init c = record { same = refl; below = omega arith }

pub overflow_mul-v : goal.overflow_mul-v
overflow_mul-v c = let l = c.loop-b in omega (arith, widen 7 l.b-index l.v (omega arith) l.invariant.below)

pub overflow_add-v : goal.overflow_add-v
overflow_add-v c = let l = c.loop-b in omega (arith, widen 7 l.b-index l.v (omega arith) l.invariant.below)

pub loop-b-preserved : goal.loop-b-preserved
loop-b-preserved c =
    let l = c.loop-b in
    record {
      same = longer c.args.bytes.now c.args.at l.b-index _ _ l.invariant.same
          (c.from.ensures ∙ get_or-between c.args.bytes.now c.args.at (c.args.at + c.args.width) l.b-index 0 (omega arith));
      below = byte_more l.b-index l.v c.from.result l.invariant.below (omega arith);
    }
