-- `turn::drop_packet` meets its contract.
use Rattle.turn.proofs.OneTurn.{deleted, kept}
use Rattle.turn.proofs.drop_packet.Goals as goal

pub returns-then-delete : goal.returns-then-delete
returns-then-delete c =
    deleted _ _ _ _ _ _ _ _ c.if-delete.true c.delete.ensures

pub returns-else-delete : goal.returns-else-delete
returns-else-delete c = kept _ _ _ _ _ c.if-delete.false
