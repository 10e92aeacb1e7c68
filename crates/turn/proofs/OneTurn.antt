-- One turn: what the address finds, by the store's promise, and the store after it.
use Rattle.std.specs.Prelude.{Ok, Err}
use Rattle.std.specs.Int.{from_bool}
use Prim.Native.Nat.{◌+◌, ◌-◌, ℕ}
use Rattle.release_log.specs.Log.{record_bytes}
use Rattle.lookup.proofs.Finding.{found_held_at}
use Rattle.rules.specs.Papers.{Paper, done, refused, says}
use Rattle.laid.proofs.Laid.{leaves_as, leaves_same}
use Rattle.slots.proofs.Lists.{part_length, taken_out}
use Rattle.store.specs.Calls.{delete_in}
use Rattle.lookup.specs.Calls.{if_held, if_named, packet_in}
use Rattle.slots.specs.Pools.{Found, Pool, find, held, no_pool, no_slot, vacant}
use Rattle.store.specs.Promise.{Does}
use Rattle.lookup.specs.Promise.{Finds, found_as}
use Rattle.lookup.specs.Refusals.{paper}
use Rattle.slots.specs.View.{Leaves, part, view}
use Rattle.store_laws.proofs.Fitting.{sound_of, view_fits}
use Rattle.store_laws.proofs.Reached.{sized_of}
use Rattle.store_laws.proofs.StaysSound.{delete_stays}
use Rattle.store_laws.proofs.Wiped.{Missing, deleted_is, wipe_same}
use Rattle.turn.specs.Turned.{Turned}
use Rattle.turn.specs.Turns.{flag_for, flag_of, leave, packet_of}
use lib.ListN.{drop, length, take}
use lib.Seq.{sets}
use mathlib.Core.Bool.{Bool, false, true}
use mathlib.Core.List.{List, [], ◌∷◌}
use mathlib.Core.Path.{◌∙◌, ◌≡◌, ap, refl, sym}
use native.Mathlib.Omega.{arith}
use Rattle.layout.specs.Judge.{Sound as StoreSound}
use Rattle.layout.specs.declared.Setup.{Setup}
use Rattle.lookup.specs.declared.Span.{Span}
use Rattle.slots.specs.declared.StoreRefusal.{StoreRefusal}

-- where the address check fails, a turn leaves the store as it is
leave_missing : (del : Bool) (ps : List Pool) (a : ℕ) → Missing (find ps a) → ps ≡ leave del ps a
unfolding leave
leave_missing true ps a h = wipe_same ps a h
leave_missing false ps a h = refl

-- and its record has flag 2, and no bytes
flag_missing : (on : Bool) (x : Found) → Missing x → flag_for on x ≡ 2
flag_missing on no_pool h = refl
flag_missing on no_slot h = refl
flag_missing on vacant h = refl
flag_missing on (held n b) h = absurd h

-- a mark as the number that the code writes for it
flag_read : (on : Bool) → from_bool on ≡ flag_of on
flag_read true = refl
flag_read false = refl

pub packet_missing : (x : Found) → Missing x → packet_of x ≡ []
packet_missing no_pool h = refl
packet_missing no_slot h = refl
packet_missing vacant h = refl
packet_missing (held n b) h = absurd h

missing_by : (a : ℕ) (p : Paper) (x : Found) → refused p ≡ if_held a x (λ m b. done (m ∷ []) (take m b)) → Missing x
unfolding if_held if_named
missing_by a p no_pool q = tt
missing_by a p no_slot q = tt
missing_by a p vacant q = tt
missing_by a p (held m b) q = let z : ◌≡◌ {A = ℕ} 0 1 = cc in absurd (omega arith)

module _ (su : Setup) (st le : List ℕ) (a : ℕ) where
  pub deleted : (del : Bool) (p : Paper) (st' le' : List ℕ) → del ≡ true → Does su st le (λ ps. delete_in ps a) p st' le'
      → Leaves su st le (leave del (view su st le) a) st' le'
  unfolding leave
  deleted del p st' le' e d = rw e (leaves_as su st le _ _ st' le' (deleted_is (view su st le) a) d.lists)

  pub kept : (del : Bool) → del ≡ false → Leaves su st le (leave del (view su st le) a) st le
  unfolding leave
  kept del e = rw e (leaves_same su st le)

  pub leave_sound : (del : Bool) (st' le' : List ℕ) → StoreSound su st le → Leaves su st le (leave del (view su st le) a) st' le'
      → StoreSound su st' le'
  unfolding leave
  leave_sound true st' le' s l =
      delete_stays su st le s a (says (delete_in (view su st le) a)) st' le'
      (record { answer = refl; lists = leaves_as su st le _ _ st' le' (sym (deleted_is (view su st le) a)) l })
  leave_sound false st' le' s l = sound_of su st le (view su st le) st' le' (sized_of s) l (view_fits su st le s)

  found_missing : (e : StoreRefusal) → Finds su st le a (Err e) → Missing (find (view su st le) a)
  unfolding found_as packet_in
  found_missing e f = missing_by a (paper e) (find (view su st le) a) f.same

  pub turned_away : (e : StoreRefusal) → Finds su st le a (Err e)
      → (del on : Bool) (id : ℕ) (log : List ℕ) (at : ℕ) (log' : List ℕ)
      → log' ≡ sets log at (record_bytes (record { flag = 2; id = id; addr = a; packet = [] })) → Turned su del on id a st le log at 17 st le log'
  turned_away e f del on id log at log' w =
      let h = found_missing e f in
      let x = find (view su st le) a in
      record {
        wrote = w ∙ rw (flag_missing on x h, packet_missing x h);
        lists = leaves_as su st le _ _ st le (leave_missing del (view su st le) a h) (leaves_same su st le);
        size = rw (packet_missing x h);
      }

  pub long_away : (e : StoreRefusal) → Finds su st le a (Err e) → length (packet_of (find (view su st le) a)) ≡ 0
  long_away e f = rw (packet_missing (find (view su st le) a) (found_missing e f))

  module _ (s : Span) (f : Finds su st le a (Ok s)) where
    packet_is : packet_of (find (view su st le) a) ≡ part s.from s.len st
    packet_is = let h = found_held_at su st le a s f in rw h.1 h.2

    pub long_here : length (packet_of (find (view su st le) a)) ≡ s.len
    long_here = ap length packet_is ∙ part_length s.from s.len st f.inside.1

    -- the part of the store that the code lends
    lent_is : take (s.from + s.len - s.from) (drop s.from st) ≡ packet_of (find (view su st le) a)
    lent_is = taken_out s.from s.len s.len st refl ∙ sym packet_is

    pub lent_long : length (take (s.from + s.len - s.from) (drop s.from st)) ≡ length (packet_of (find (view su st le) a))
    lent_long = ap length lent_is

    pub turned_here : (del on : Bool) (id : ℕ) (log : List ℕ) (at : ℕ) (st' le' log' : List ℕ) (flag : ℕ) → flag ≡ from_bool on
        → log'
        ≡ sets log at (record_bytes
        (record { flag = flag; id = id; addr = a; packet = take (s.from + s.len - s.from) (drop s.from st) }))
        → Leaves su st le (leave del (view su st le) a) st' le' → Turned su del on id a st le log at (17 + s.len) st' le' log'
    turned_here del on id log at st' le' log' flag e w l =
        let fl : flag_for on (find (view su st le) a) ≡ flag_of on = rw (found_held_at su st le a s f).1 in
        record { wrote = w ∙ rw (e ∙ flag_read on, fl, lent_is); lists = l; size = ap (λ (n : ℕ). 17 + n) (sym long_here) }
