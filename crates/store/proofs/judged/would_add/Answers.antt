-- `store::judged::would_add` meets its contract: it searches as `add` does.
use Rattle.layout.proofs.Bounds.{bounds}
use Rattle.std.proofs.Common.{rules}
use Rattle.store.proofs.Chosen.{add_refused, add_says, room_found}
use native.Mathlib.Omega.{arith}
use Rattle.store.proofs.judged.would_add.Goals as goal

pub choose-requires : goal.choose-requires
choose-requires c =
    let h = bounds c.requires in
    (c.requires.setup, h.few_pools, h.rows_fit)

pub address_of-requires : goal.address_of-requires
address_of-requires c =
    let k = room_found _ _ _ c.requires _ _ (c.in_ok-cell.ensures c.args.store.now) in
    (omega (arith, k.inside.pool_fits, k.inside.few_pools), omega (arith, k.inside.slot_fits, k.inside.few_slots))

pub returns-in_err-cell : goal.returns-in_err-cell
returns-in_err-cell c = search (rules, (add_refused _ _ _ _ _ (c.in_err-cell.ensures c.args.store.now)).answer)

pub returns : goal.returns
returns c =
    add_says _ _ _ _ _ (room_found _ _ _ c.requires _ _ (c.in_ok-cell.ensures c.args.store.now)) _ c.address_of.ensures
