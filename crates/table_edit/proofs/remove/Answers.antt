-- `table_edit::remove` meets its contract.
use Prim.Native.Nat.{◌*◌, ℕ}
use Rattle.rows.specs.Entries.{width}
use Rattle.table_edit.proofs.Written.{removed}
use lib.ListN.{length-drop, length-take, replicate}
use mathlib.Core.Path.{◌∙◌, ◌≡◌, ap}
use native.Mathlib.Omega.{arith}
use Rattle.table_edit.proofs.remove.Goals as goal

pub returns : goal.returns
returns c =
    let a = c.args in
    let z : c.fill.new.self ≡ replicate (a.n * width) 0
    = c.fill.ensures.after (λ y e. e)
    ∙ ap (λ (k : ℕ). replicate k 0) (simp (length-take, length-drop) (omega (arith, c.copy_within.ensures.len))) in
    rw (z, c.copy_within.ensures.after) (removed a.rows.now a.count a.from a.n (omega arith) (omega arith))
