-- The log holds what is handed out; what the first record alone needs of it.
use Prim.Native.Nat.{◌+◌, ◌<◌, ◌≤◌, suc, zero, ℕ}
use Rattle.release_log.proofs.Sizes.{total_parts}
use Rattle.release_log.specs.Log.{max_log_bytes}
use Rattle.measure.specs.Fitting.{fitting}
use Rattle.slots.specs.Pools.{Pool, find}
use Rattle.slots.specs.View.{view}
use Rattle.rows.proofs.Rows.{length_unpack, take_unpack}
use Rattle.rows.specs.Entries.{row, unpack}
use Rattle.turn.specs.Turns.{always, leave, packet_of}
use Rattle.turns_laws.proofs.Fitting.{fitting_holds, fitting_le}
use Rattle.turns.specs.Released.{first_total}
use Rattle.handing.specs.Handing.{Roomy, turns}
use lib.ListN.{length, take}
use mathlib.Core.Bool.{Bool}
use mathlib.Core.List.{List}
use mathlib.Core.Path.{◌≡◌, refl}
use native.Mathlib.Omega.{arith}
use Rattle.layout.specs.declared.Setup.{Setup}

-- m of the first n rows are released
module _ (su : Setup) (st le w : List ℕ) (del : Bool) (n cap m : ℕ) (q : m ≡ fitting (leave del) 8 cap (unpack n w) (view su st le)) where
  pub few : m ≤ n
  few = omega (arith, fitting_le (leave del) cap 8 (unpack n w) (view su st le), length_unpack n w)

  module _ (on : Bool) (log : List ℕ) where
    pub roomy : 8 ≤ cap → cap ≤ max_log_bytes → cap ≤ length log → Roomy del on (unpack m w) (view su st le) log
    roomy h l g =
        let t : take m (unpack n w) ≡ unpack m w = take_unpack n w m few in
        let f = rw (← q, t) at (fitting_holds (leave del) cap (always on) 8 (unpack n w) (view su st le) h) in
        let v = total_parts (turns (leave del) (always on) (unpack m w) (view su st le)) in
        record { holds = omega arith; small = omega arith }

-- the first entry's record alone
pub first_none : (count : ℕ) (w : List ℕ) (ps : List Pool) → count < 1 → 8 ≡ first_total (unpack count w) ps
unfolding unpack
first_none zero w ps h = refl
first_none (suc n) w ps h = absurd (omega arith)

pub first_is : (count : ℕ) (w : List ℕ) (ps : List Pool) (a n : ℕ) → 1 ≤ count → a ≡ (row w 0).addr → length (packet_of (find ps a)) ≡ n
    → 29 + n ≡ first_total (unpack count w) ps
unfolding unpack
first_is zero w ps a n h q e = absurd (omega arith)
first_is (suc k) w ps a n h q e = let f = rw q at e in omega (arith, f)
