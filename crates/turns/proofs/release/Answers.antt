-- `turns::release` meets its contract.
use Rattle.turns.proofs.Releasing.{released}
use Rattle.turns.proofs.Room.{few, roomy}
use native.Mathlib.Omega.{arith}
use Rattle.turns.proofs.release.Goals as goal

pub hand_out-requires-clause-held : goal.hand_out-requires-clause-held
hand_out-requires-clause-held c =
    let e = c.measure-m.ensures in
    let l = few _ _ _ _ _ _ _ _ e.0 in
    let g = roomy _ _ _ _ _ _ _ _ e.0 c.args.on c.args.log.now c.requires.le_cap.0 c.requires.le_cap.1 c.requires.le_cap.2 in
    record { room = omega (arith, l, c.requires.held.room, c.requires.n_le_count) }

pub hand_out-requires-clause-roomy : goal.hand_out-requires-clause-roomy
hand_out-requires-clause-roomy c =
    let e = c.measure-m.ensures in
    let l = few _ _ _ _ _ _ _ _ e.0 in
    let g = roomy _ _ _ _ _ _ _ _ e.0 c.args.on c.args.log.now c.requires.le_cap.0 c.requires.le_cap.1 c.requires.le_cap.2 in
    rw e.1 g

pub remove-requires-clause-n_bound : goal.remove-requires-clause-n_bound
remove-requires-clause-n_bound c =
    let l = few _ _ _ _ _ _ _ _ c.measure-m.ensures.0 in
    omega (arith, l, c.requires.n_le_count)

pub returns : goal.returns
returns c =
    released _ _ _ _ _ _ _ _ _ _ c.measure-m.ensures.0 _ c.requires.n_le_count _ _ _ _ _
    c.measure-m.ensures.1 c.hand_out.ensures c.remove.ensures
