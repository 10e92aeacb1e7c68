-- The insertions on the smaller scheduler and on the larger.
use Rattle.std.specs.Prelude.{Option, Some, None, Result, Ok, Err}
use Rattle.packet.specs.declared.Header.{Header}
use Rattle.packet.specs.declared.Fault.{Fault}
use Prim.Native.Nat.{◌<◌, ◌≤◌, ℕ}
use Rattle.insertions.specs.Inserting.{activity, insert_unwrapped_in}
use Rattle.storing.specs.Entered.{entered}
use Rattle.gate.specs.Entering.{enter, insert_stored_in, timed}
use Rattle.wrapped.specs.Wrapped.{insert_wrapped_in, opened, stamped}
use Rattle.packet.specs.Packet.{read_of, user_data_of}
use Rattle.room.proofs.Alike.{Alike, answered_too, answers, by_room, by_test, refused_too, refuses}
use Rattle.room.proofs.Entries.{insert_slots}
use Rattle.room.proofs.States.{AlikeStates}
use Rattle.room.proofs.StoreCalls.{Placed, adds}
use Rattle.room.specs.Grown.{Fit, Narrow, Slotted, grow, grown}
use Rattle.room.specs.Room.{struck}
use Rattle.rules.specs.Papers.{Outcome, done, through, refused, says}
use Rattle.schedule.specs.State.{State, with_pools}
use Rattle.schedule.specs.declared.Setup.{Setup}
use Rattle.stamp.specs.Stamp.{stamp_of}
use Rattle.stamp.specs.declared.Stamp.{Stamp}
use Rattle.slots.specs.Pools.{Pool}
use Rattle.rows.specs.Entries.{entry_of}
use Rattle.time.specs.Time.{moment_of}
use Rattle.time.specs.declared.UnixTime.{UnixTime}
use borrow.Author.Tests.{lt-ltb, ltb-true}
use lib.Dec.{ltb}
use lib.ListN.{drop, get_or, length}
use mathlib.Core.Bool.{false, true}
use mathlib.Core.List.{List}
use mathlib.Core.Path.{◌≡◌, refl}
use native.Mathlib.Omega.{arith}

room_for : (n small large : ℕ) → small ≤ large → ltb n small ≡ true → ltb n large ≡ true
room_for n small large w h = let g : n < small = ltb-true n small h in lt-ltb n large (omega arith)

module _ (su lu : Setup) (more : su.entries ≤ lu.entries) (ns ks : List ℕ) where
  pub enters : (t : UnixTime) (id a : ℕ) (vs : List ℕ) (s : State) → Fit ns s → Slotted ns a
      → AlikeStates ns ks (enter su t id a vs s) (enter lu t id a vs (grown ks s))
  unfolding enter struck
  enters t id a vs s f n =
      by_test _ _ _ _ _ _ _ (refuses _ _ _)
      (by_room _ _ _ _ _ _ _ (room_for (length s.entries) su.entries lu.entries more) refl
      (answers _ _ vs _ (record { shaped = f.shaped; named = insert_slots ns (entry_of (moment_of t) id a) s.entries n f.named })))

  stored_too : (t : UnixTime) (id : ℕ) (s : State) → Fit ns s → (o o' : Outcome (List Pool)) → Alike (grow ks) (Placed ns) o o'
      → AlikeStates ns ks (entered su t id s o) (entered lu t id (grown ks s) o')
  unfolding entered through says
  stored_too t id s f (refused p) o' a = record { same = λ h. rw (refused_too _ _ p o' a h); left = tt }
  stored_too t id s f (done vs ps) o' a =
      rw (answered_too _ _ vs ps o' a) (enters t id (get_or vs 0 0) _ (with_pools ps s) (record { shaped = a.left.0; named = f.named }) a.left.1)

  module _ (off : su.store.spill ≡ false) (narrow : Narrow ns) (few : length ns ≤ 256) (s : State) (fits : Fit ns s) where
    command : (t : UnixTime) (tc : List ℕ) (r : Result Header Fault) → AlikeStates ns ks (activity su t tc s r) (activity lu t tc (grown ks s) r)
    unfolding activity
    command t tc (Err x) = refuses _ _ _
    command t tc (Ok h) =
        by_test _ _ _ _ _ _ _ (refuses _ _ _)
        (stored_too t _ s fits _ _ (adds ns ks s.pools fits.shaped narrow few tc _ _ off))

    from_stamp : (d : List ℕ) (x : Option Stamp) → AlikeStates ns ks (stamped su d s x) (stamped lu d (grown ks s) x)
    unfolding stamped
    from_stamp d None = refuses _ _ _
    from_stamp d (Some x) = command x.time (drop x.len d) (read_of 2 (drop x.len d))

    from_outer : (d : List ℕ) (r : Result Header Fault) → AlikeStates ns ks (opened su d s r) (opened lu d (grown ks s) r)
    unfolding opened
    from_outer d (Err x) = refuses _ _ _
    from_outer d (Ok h) =
        by_test _ _ _ _ _ _ _ (refuses _ _ _)
        (by_test _ _ _ _ _ _ _ (refuses _ _ _) (by_test _ _ _ _ _ _ _ (refuses _ _ _) (from_stamp d (stamp_of d))))

    pub wrapped : (p : List ℕ) → AlikeStates ns ks (insert_wrapped_in su p s) (insert_wrapped_in lu p (grown ks s))
    unfolding insert_wrapped_in
    wrapped p = from_outer (user_data_of 2 p) (read_of 2 p)

    pub unwrapped : (t : UnixTime) (p : List ℕ) → AlikeStates ns ks (insert_unwrapped_in su t p s) (insert_unwrapped_in lu t p (grown ks s))
    unfolding insert_unwrapped_in timed
    unwrapped t p = by_test _ _ _ _ _ _ _ (refuses _ _ _) (command t p (read_of 2 p))

  pub stored : (t : UnixTime) (id a : ℕ) (s : State) → Fit ns s → Slotted ns a
      → AlikeStates ns ks (insert_stored_in su t id a s) (insert_stored_in lu t id a (grown ks s))
  unfolding insert_stored_in timed
  stored t id a s f n = by_test _ _ _ _ _ _ _ (refuses _ _ _) (enters t id a _ s f n)
