-- The packets of several entries deleted from the store, one after the other: how many there were, and why the last missing one was missing.
use Rattle.std.specs.Prelude.{◌+◌, ℕ, List, [], ◌∷◌}
use Rattle.rules.specs.Papers.{Outcome, Paper, done, no, refused}
use Rattle.store.specs.Calls.{delete_in}
use Rattle.slots.specs.Pools.{Pool}
use Rattle.rows.specs.Entries.{Entry}

-- what a deletion of several packets comes to: how many were deleted, how many missing, the last refusal that the store gave for
-- a missing one (number 0 where there was none), and the store
pub record Swept : Type 0 where
  pub deleted : ℕ
  pub missing : ℕ
  pub last : Paper
  pub pools : List Pool

-- one packet more
unfoldable pub swept : Swept → Outcome (List Pool) → Swept
swept x (refused p) = record { deleted = x.deleted; missing = x.missing + 1; last = p; pools = x.pools }
swept x (done vs ps) = record { deleted = x.deleted + 1; missing = x.missing; last = x.last; pools = ps }

-- the packets of entries, in schedule order
unfoldable pub sweep : List Entry → Swept → Swept
sweep [] x = x
sweep (e ∷ es) x = sweep es (swept x (delete_in x.pools e.addr))

abbrev pub unswept : List Pool → Swept
unswept ps = record { deleted = 0; missing = 0; last = no 0 []; pools = ps }

abbrev pub tally : Swept → List ℕ
tally x = x.deleted ∷ x.missing ∷ x.last.number ∷ x.last.values
