-- What is handed out of the rows of a schedule: how many, their log, and the store and the rows after them.
use Rattle.std.specs.Prelude.{◌+◌, ◌≤◌, min, ℕ, length, Bool, List, [], ◌∷◌, ◌≡◌}
use Rattle.release_log.specs.Log.{log_bytes}
use Rattle.slots.specs.Pools.{Pool, find}
use Rattle.slots.specs.View.{Leaves, view}
use Rattle.layout.specs.declared.Setup.{Setup}
use Rattle.rows.specs.Entries.{Entry, relaid, unpack}
use Rattle.turn.specs.Turns.{Handout, always, handout, leave, need}
use Rattle.turns_laws.specs.Due.{due}
use Rattle.std.proofs.lemmas.List.Edits.{sets}

-- the log that the first entry's record needs alone
abbrev pub first_total : List Entry → List Pool → ℕ
first_total [] ps = 8
first_total (e ∷ es) ps = 8 + need (find ps e.addr)

-- a handout, carried out: m is how many records it has, and they are the log; the lists stand for its store, the rows for the entries that stay
pub record CarriedOut (su : Setup) (count : ℕ) (st le ro log : List ℕ) (h : Handout) (m : ℕ) (st' le' ro' log' : List ℕ) : Type 0 where
  pub many : m ≡ length h.records
  pub wrote : log' ≡ sets log 0 (log_bytes h.records)
  pub lists : Leaves su st le h.pools st' le'
  pub moved : ro' ≡ relaid ro count h.left

-- of the first n rows as many as fit into cap bytes of the log: document 01's handout, whatever the clock and the limit by which it is n
pub record Released (su : Setup) (del on : Bool) (n cap count : ℕ) (st le ro log : List ℕ) (m : ℕ) (st' le' ro' log' : List ℕ) : Type 0 where
  pub some : m ≤ n
  pub out : (clock limit : ℕ) → n ≡ min limit (due clock (unpack count ro))
      → CarriedOut su count st le ro log (handout (leave del) (always on) clock limit 8 cap (unpack count ro) (view su st le)) m st' le' ro' log'
