-- `marks::places` meets its contract.
use Rattle.layout.proofs.Layouts.{setup_few}
use Rattle.marks.proofs.places.Goals as goal

pub rows-requires : goal.rows-requires
rows-requires c = setup_few _ c.requires
