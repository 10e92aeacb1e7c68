-- `oracle_list::room` meets its contract: so many zeros have that length, uncounted.
use Rattle.std.proofs.Common.{ℕ, sym}
use Rattle.std.proofs.lemmas.List.{length-replicate}
use Rattle.oracle_list.proofs.room.Goals as goal

pub returns : goal.returns
returns c = sym (length-replicate {A = ℕ} 2097152 0)
