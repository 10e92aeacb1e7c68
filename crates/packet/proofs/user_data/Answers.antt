-- `packet::user_data` meets its contract.
use Rattle.packet.proofs.Readable.{data_none}
use mathlib.Core.Path.{◌∙◌, refl, sym}
use Rattle.packet.proofs.user_data.Goals as goal

pub returns-in-Err : goal.returns-in-Err
returns-in-Err c =
    let b = c.args.bytes in
    data_none 2 b.now _ b.ref_ptr b.ref_ptr (sym c.in-Err.ensures) refl refl
