-- `turn::hand_one` meets its contract.
use Rattle.turn.proofs.OneTurn.{lent_long, turned_away, turned_here}
use native.Mathlib.Omega.{arith}
use Rattle.turn.proofs.hand_one.Goals as goal

pub put_record-requires-in-Ok : goal.put_record-requires-in-Ok
put_record-requires-in-Ok c = omega (arith, lent_long _ _ _ _ _ c.in-Ok.ensures, c.requires.addr_in_bounds)

pub returns-in-Err : goal.returns-in-Err
returns-in-Err c = turned_away _ _ _ _ _ c.in-Err.ensures _ _ _ _ _ _ c.put_record.ensures

pub returns-in-Ok : goal.returns-in-Ok
returns-in-Ok c =
    turned_here _ _ _ _ _ c.in-Ok.ensures _ _ _ _ _ _ _ _ _ c.from.ensures c.put_record-in-Ok.ensures c.drop_packet.ensures
