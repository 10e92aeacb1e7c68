-- The turns of entries that are all handed out: their records, the store after them, and what the code promises of both.
use Rattle.std.specs.Prelude.{◌≤◌, ℕ, length, Bool, List, [], ◌∷◌, ◌≡◌}
use Rattle.release_log.specs.Log.{LogRecord, log_bytes, max_log_bytes, total}
use Rattle.slots.specs.Pools.{Pool, find}
use Rattle.slots.specs.View.{Leaves, view}
use Rattle.rows.specs.Entries.{Entry}
use Rattle.turn.specs.Turns.{always, handed, leave}
use Rattle.std.proofs.lemmas.List.Edits.{sets}
use Rattle.layout.specs.declared.Setup.{Setup}

-- the records of entries that are all handed out, and the store after them
unfoldable pub turns : (List Pool → ℕ → List Pool) → (Entry → Bool) → List Entry → List Pool → List LogRecord
turns after on [] ps = []
turns after on (e ∷ es) ps = handed (on e) e (find ps e.addr) ∷ turns after on es (after ps e.addr)

unfoldable pub after_all : (List Pool → ℕ → List Pool) → List Entry → List Pool → List Pool
after_all after [] ps = ps
after_all after (e ∷ es) ps = after_all after es (after ps e.addr)

-- the turns of the entries es: the log, and the store after them
pub record HandsOut (su : Setup) (del on : Bool) (es : List Entry) (st le log st' le' log' : List ℕ) : Type 0 where
  pub wrote : log' ≡ sets log 0 (log_bytes (turns (leave del) (always on) es (view su st le)))
  pub lists : Leaves su st le (after_all (leave del) es (view su st le)) st' le'

-- the log's used part holds them all
pub record Roomy (del on : Bool) (es : List Entry) (ps : List Pool) (log : List ℕ) : Type 0 where
  pub holds : total (turns (leave del) (always on) es ps) ≤ length log
  pub small : total (turns (leave del) (always on) es ps) ≤ max_log_bytes
