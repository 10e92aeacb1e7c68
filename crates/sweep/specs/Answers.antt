-- Document 01's number and values for the last refusal of a sweep.
use Rattle.std.specs.Prelude.{Option, Some, None, []}
use Rattle.slots.specs.declared.StoreRefusal.{StoreRefusal}
use Rattle.rules.specs.Papers.{Paper, no}
use Rattle.lookup.specs.Refusals.{paper as store_paper}

-- the last refusal for a missing packet; number 0 where none was missing
unfoldable pub last_paper : Option StoreRefusal → Paper
last_paper None = no 0 []
last_paper (Some e) = store_paper e
