-- `check_code::table::entry` meets its contract: the rule of the table at one number.
use Rattle.std.proofs.Common.{◌∙◌, List, ℕ, ap, arith, get_or}
use Rattle.check_code.proofs.Lookup.{entry_is, table_is}
use Rattle.check_code.specs.CheckCode.{shifted8}
use Rattle.check_code.proofs.table.entry.Goals as goal

pub returns : goal.returns
returns c =
    let k = c.from.result in
    ap (λ (t : List ℕ). get_or t k 0) table_is ∙ entry_is k (omega arith) ∙ ap shifted8 c.from.ensures
