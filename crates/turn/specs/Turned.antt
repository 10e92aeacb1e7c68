-- What one turn promises the loop over the turns.
use Rattle.std.specs.Prelude.{◌+◌, ℕ, length, Bool, List, ◌≡◌}
use Rattle.release_log.specs.Log.{record_bytes}
use Rattle.slots.specs.Pools.{find}
use Rattle.slots.specs.View.{Leaves, view}
use Rattle.turn.specs.Turns.{flag_for, leave, packet_of}
use Rattle.std.proofs.lemmas.List.Edits.{sets}
use Rattle.layout.specs.declared.Setup.{Setup}

-- the record from `at` on, by what the address finds; the store after the turn; r, the length of the record
pub record Turned (su : Setup) (del on : Bool) (id a : ℕ) (st le log : List ℕ) (at r : ℕ) (st' le' log' : List ℕ) : Type 0 where
  pub wrote : log'
      ≡ sets log at (record_bytes
      (record {
        flag = flag_for on (find (view su st le) a);
        id = id;
        addr = a;
        packet = packet_of (find (view su st le) a);
      }))
  pub lists : Leaves su st le (leave del (view su st le) a) st' le'
  pub size : r ≡ 17 + length (packet_of (find (view su st le) a))
