-- `marks::place_of` meets its contract.
use Rattle.layout.proofs.Layouts.{setup_few}
use Rattle.marks.proofs.place_of.Goals as goal

pub row_of-requires : goal.row_of-requires
row_of-requires c = setup_few _ c.requires
