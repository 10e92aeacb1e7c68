-- `turns::first_total` meets its contract.
use Rattle.turn.proofs.OneTurn.{long_away, long_here}
use Rattle.turns.proofs.Room.{first_is, first_none}
use Rattle.turns.proofs.first_total.Goals as goal

pub returns-then-count-lt1 : goal.returns-then-count-lt1
returns-then-count-lt1 c = first_none _ _ _ c.if-count-lt1.true

pub returns-in-Err : goal.returns-in-Err
returns-in-Err c =
    first_is _ _ _ _ _ c.if-count-lt1.false c.tc_info-info.ensures.1
    (long_away _ _ _ _ _ c.in-Err.ensures)

pub returns-in-Ok : goal.returns-in-Ok
returns-in-Ok c =
    first_is _ _ _ _ _ c.if-count-lt1.false c.tc_info-info.ensures.1
    (long_here _ _ _ _ _ c.in-Ok.ensures)
