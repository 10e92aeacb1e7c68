-- `selection::find::victim` meets its contract.
use Prim.Native.Nat.{◌<◌, ℕ}
use Rattle.rows.specs.Entries.{nth}
use Rattle.rows.specs.Order.{ordered}
use Rattle.selection.proofs.Victim.{victim_of_none, victim_of_some}
use Rattle.selection.proofs.find.victim.Goals as goal
use borrow.Author.Rules.{rules}
use lib.ListN.{length}
use mathlib.Core.Path.{◌∙◌, ◌≡◌, ap}

pub returns-in_err-earliest : goal.returns-in_err-earliest
returns-in_err-earliest c =
    let t = c.table-rows.result.now in
    let none : (k : ℕ) → k < length t → (nth t k).id ≡ c.args.id → ⊥ = search rules in
    rw (c.from_residual.ensures, ← c.table-rows.ensures.entries) (victim_of_none c.args.id t none ∙ c.table-rows.ensures.length)

pub returns : goal.returns
returns c =
    let t = c.table-rows.result.now in
    let p : ℕ = c.in_ok-earliest.earliest in
    let first : (p < length t) × ((nth t p).id ≡ c.args.id) × ((k : ℕ) → k < p → (nth t k).id ≡ c.args.id → ⊥) = search rules in
    rw (← c.table-rows.ensures.entries, ← c.table-rows.ensures.length)
    (victim_of_some c.args.id t (ap ordered c.table-rows.ensures.entries ∙ c.requires.kept) p first.0 first.1 first.2 _ c.last_at.ensures)
