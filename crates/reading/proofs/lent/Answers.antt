-- `reading::lent` meets its contract.
use Rattle.reading.proofs.Lending.{lends}
use Rattle.reading.proofs.lent.Goals as goal

pub returns : goal.returns
returns c = rw c.unwrap_or.ensures (lends _ _ _ _ c.requires _ c.find.ensures)
