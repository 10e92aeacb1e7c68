-- `rows::table` meets its contract.
use Rattle.rows.proofs.Rows.{table_is}
use native.Mathlib.Omega.{arith}
use Rattle.rows.proofs.table.Goals as goal

pub returns-clause-entries : goal.returns-clause-entries
returns-clause-entries c = rw c.as_chunks.ensures.front (table_is _ _ c.args.rows.now (omega arith))
