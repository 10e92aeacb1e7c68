-- The numbers that each call gives of its own, beside 1 to 3 that are judged first: from 4 to 20.
use Rattle.std.specs.Prelude.{Option, Some, None, Result, Ok, Err}
use Rattle.packet.specs.declared.Header.{Header}
use Rattle.packet.specs.declared.Fault.{Fault}
use Rattle.rules.proofs.Cases.{clash}
use Prim.Native.Nat.{◌≤◌, ℕ}
use Rattle.deletions.specs.Deleting.{clear_in, delete_window_in, reset_in}
use Rattle.by_id.specs.ById.{delete_by_id_in, delete_keeping_in, freed, take_in}
use Rattle.windows.specs.Windowing.{retrieve_in, windowed}
use Rattle.windows.specs.declared.TimeWindow.{TimeWindow}
use Rattle.insertions.specs.Inserting.{activity, insert_unwrapped_in}
use Rattle.storing.specs.Entered.{entered}
use Rattle.gate.specs.Entering.{enter, insert_stored_in, timed}
use Rattle.wrapped.specs.Wrapped.{insert_wrapped_in, opened, stamped}
use Rattle.packet.specs.Packet.{read_of, user_data_of}
use Rattle.record.specs.Record.{clock_in, mark_in, times_in_range}
use Rattle.record.specs.declared.Record.{Record}
use Rattle.rules.proofs.Order.{through_says}
use Rattle.rules.specs.Papers.{Outcome, Paper, done, through, judged_by, no, refused, says}
use Rattle.rules.specs.Tests.{unless}
use Rattle.counting.specs.Counting.{count_in}
use Rattle.schedule.specs.State.{State, with_pools}
use Rattle.schedule.specs.declared.Setup.{Setup}
use Rattle.stamp.specs.Stamp.{stamp_of}
use Rattle.stamp.specs.declared.Stamp.{Stamp}
use Rattle.store.specs.Calls.{add_in, delete_in, modify_in, place}
use Rattle.lookup.specs.Calls.{if_held, if_named}
use Rattle.presence.specs.Presence.{has_in, len_in}
use Rattle.reading.specs.Reading.{read_in}
use Rattle.scheduler.specs.Laws.{Own}
use Rattle.slots.specs.Pools.{Choice, Found, Pool, all_taken, choose, find, held, into as in_slot, no_pool, no_slot, too_large, vacant}
use Rattle.selection.specs.declared.MomentWindow.{MomentWindow}
use Rattle.tick.specs.Tick.{handed_out, tick_in}
use Rattle.time.specs.declared.UnixTime.{UnixTime}
use lib.ListN.{drop, length}
use mathlib.Core.Bool.{Bool, false, true}
use mathlib.Core.List.{List, []}
use mathlib.Core.Path.{◌≡◌, refl}
use native.Mathlib.Omega.{arith}

pub own_most : {A : Type 0} (o : Outcome A) → Own o → (says o).number ≤ 20
unfolding says
own_most (refused p) h = h.1
own_most (done vs x) h = omega arith

-- and 1 to 3 before them
pub judged_most : {A : Type 0} (a b d : Bool) (o : Outcome A) → Own o → (says (judged_by a b d o)).number ≤ 20
unfolding judged_by unless says
judged_most true true true o h = own_most o h
judged_most false b d o h = omega arith
judged_most true false d o h = omega arith
judged_most true true false o h = omega arith

-- a number of the table, and none of 1 to 3 where what is judged first was fine
pub record Numbered (fine : Bool) (p : Paper) : Type 0 where
  pub most : p.number ≤ 20
  pub undamaged : fine ≡ true → (n : ℕ) → 1 ≤ n → n ≤ 3 → p.number ≡ n → ⊥

own_none : {A : Type 0} (o : Outcome A) → Own o → (n : ℕ) → 1 ≤ n → n ≤ 3 → (says o).number ≡ n → ⊥
unfolding says
own_none (refused p) h n l m e = omega (arith, h.0)
own_none (done vs x) h n l m e = omega arith

pub own_numbered : {A : Type 0} (fine : Bool) (o : Outcome A) → Own o → Numbered fine (says o)
own_numbered fine o h = record { most = own_most o h; undamaged = λ e. own_none o h }

pub through_numbered : {A B : Type 0} (fine : Bool) (f : A → B) (o : Outcome A) → Numbered fine (says o) → Numbered fine (says (through f o))
through_numbered fine f o h = rw (through_says f o) h

pub own_unless : {A : Type 0} (b : Bool) (bad o : Outcome A) → Own bad → Own o → Own (unless b bad o)
unfolding unless
own_unless true bad o h k = k
own_unless false bad o h k = h

-- ---- the store's calls

own_named : {A : Type 0} (a : ℕ) (x : Found) (v : Outcome A) (f : ℕ → List ℕ → Outcome A) → Own v → ((n : ℕ) (b : List ℕ) → Own (f n b))
    → Own (if_named a x v f)
unfolding if_named
own_named a no_pool v f h k = (omega arith, omega arith)
own_named a no_slot v f h k = (omega arith, omega arith)
own_named a vacant v f h k = h
own_named a (held n b) v f h k = k n b

pub own_held : {A : Type 0} (a : ℕ) (x : Found) (f : ℕ → List ℕ → Outcome A) → ((n : ℕ) (b : List ℕ) → Own (f n b)) → Own (if_held a x f)
unfolding if_held
own_held a x f k = own_named a x _ f (omega arith, omega arith) k

pub own_delete : (ps : List Pool) (a : ℕ) → Own (delete_in ps a)
unfolding delete_in
own_delete ps a = own_held a (find ps a) _ (λ n b. tt)

pub own_modify : (ps : List Pool) (a : ℕ) (ys : List ℕ) → Own (modify_in ps a ys)
unfolding modify_in
own_modify ps a ys = own_held a (find ps a) _ (λ n b. tt)

own_place : (ps : List Pool) (d : List ℕ) (x : Choice) → Own (place ps d x)
unfolding place
own_place ps d too_large = (omega arith, omega arith)
own_place ps d (all_taken k) = (omega arith, omega arith)
own_place ps d (in_slot k i) = tt

pub own_add : (spill : Bool) (ps : List Pool) (d : List ℕ) → Own (add_in spill ps d)
unfolding add_in
own_add spill ps d = own_place ps d (choose spill ps (length d))

pub own_read : (ps : List Pool) (a : ℕ) (buf : List ℕ) → Own (read_in ps a buf)
unfolding read_in
own_read ps a buf = own_held a (find ps a) _ (λ n b. own_unless _ _ _ (omega arith, omega arith) tt)

pub own_has : (ps : List Pool) (a : ℕ) → Own (has_in ps a)
unfolding has_in
own_has ps a = own_named a (find ps a) _ _ tt (λ n b. tt)

pub own_len : (ps : List Pool) (a : ℕ) → Own (len_in ps a)
unfolding len_in
own_len ps a = own_named a (find ps a) _ _ tt (λ n b. tt)

-- ---- insertions

module _ (su : Setup) where
  own_enter : (t : UnixTime) (id a : ℕ) (vs : List ℕ) (s : State) → Own (enter su t id a vs s)
  unfolding enter
  own_enter t id a vs s =
      own_unless _ _ _ (omega arith, omega arith) (own_unless _ _ _ (omega arith, omega arith) tt)

  own_timed : (t : UnixTime) (o : Outcome State) → Own o → Own (timed t o)
  unfolding timed
  own_timed t o h = own_unless _ _ o (omega arith, omega arith) h

  own_entered : (t : UnixTime) (id : ℕ) (s : State) (o : Outcome (List Pool)) → Own o → Own (entered su t id s o)
  unfolding entered
  own_entered t id s (refused p) h = h
  own_entered t id s (done vs ps) h = own_enter t id _ _ (with_pools ps s)

  own_activity : (t : UnixTime) (tc : List ℕ) (s : State) (x : Result Header Fault) → Own (activity su t tc s x)
  unfolding activity
  own_activity t tc s (Err f) = (omega arith, omega arith)
  own_activity t tc s (Ok h) =
      own_unless _ _ _ (omega arith, omega arith) (own_entered t _ s (add_in su.store.spill s.pools tc) (own_add _ s.pools tc))

  own_stamped : (d : List ℕ) (s : State) (x : Option Stamp) → Own (stamped su d s x)
  unfolding stamped
  own_stamped d s None = (omega arith, omega arith)
  own_stamped d s (Some x) = own_activity x.time (drop x.len d) s (read_of 2 (drop x.len d))

  own_opened : (d : List ℕ) (s : State) (x : Result Header Fault) → Own (opened su d s x)
  unfolding opened
  own_opened d s (Err f) = (omega arith, omega arith)
  own_opened d s (Ok h) =
      own_unless _ _ _ (omega arith, omega arith)
      (own_unless _ _ _ (omega arith, omega arith) (own_unless _ _ _ (omega arith, omega arith) (own_stamped d s (stamp_of d))))

  pub own_stored : (t : UnixTime) (id a : ℕ) (s : State) → Own (insert_stored_in su t id a s)
  unfolding insert_stored_in
  own_stored t id a s = own_timed t _ (own_enter t id a [] s)

  pub own_unwrapped : (t : UnixTime) (tc : List ℕ) (s : State) → Own (insert_unwrapped_in su t tc s)
  unfolding insert_unwrapped_in
  own_unwrapped t tc s = own_timed t _ (own_activity t tc s (read_of 2 tc))

  pub own_wrapped : (p : List ℕ) (s : State) → Own (insert_wrapped_in su p s)
  unfolding insert_wrapped_in
  own_wrapped p s = own_opened (user_data_of 2 p) s (read_of 2 p)

-- ---- count, windows, deletions, the tick

pub own_count : (s : State) → Own (count_in s)
unfolding count_in
own_count s = tt

own_windowed : {A : Type 0} (w : TimeWindow) (call : MomentWindow → Outcome A) → ((v : MomentWindow) → Own (call v)) → Own (windowed w call)
unfolding windowed
own_windowed w call h = own_unless _ _ _ (omega arith, omega arith) (own_unless _ _ _ (omega arith, omega arith) (h _))

pub own_retrieve : (w : TimeWindow) (s : State) → Own (retrieve_in w s)
unfolding retrieve_in
own_retrieve w s = own_windowed w _ (λ v. tt)

pub own_window : (w : TimeWindow) (s : State) → Own (delete_window_in w s)
unfolding delete_window_in clear_in
own_window w s = own_windowed w _ (λ v. tt)

pub own_reset : (s : State) → Own (reset_in s)
unfolding reset_in clear_in
own_reset s = tt

own_freed : (s : State) (o : Outcome (List Pool)) → Own (freed s o)
unfolding freed
own_freed s (refused p) = tt
own_freed s (done vs ps) = tt

pub own_keeping : (id : ℕ) (s : State) → Own (delete_keeping_in id s)
unfolding delete_keeping_in take_in
own_keeping id s = own_unless _ _ _ tt tt

pub own_by_id : (id : ℕ) (s : State) → Own (delete_by_id_in id s)
unfolding delete_by_id_in take_in
own_by_id id s = own_unless _ _ _ tt (own_freed _ _)

pub own_tick : (limit : ℕ) (del : Bool) (log : List ℕ) (s : State) → Own (tick_in limit del log s)
unfolding tick_in handed_out
own_tick limit del log s =
    own_unless _ _ _ (omega arith, omega arith) (own_unless _ _ _ (omega arith, omega arith) tt)

-- ---- the record's calls, which judge 3 by its clock and margin

times_numbered : (fine : Bool) (o : Outcome Record) → Own o → Numbered fine (says (unless fine (refused (no 3 [])) o))
unfolding unless says
times_numbered true o h = own_numbered true o h
times_numbered false o h = record { most = omega arith; undamaged = λ e. clash false e refl }

pub clock_numbered : (t : UnixTime) (r : Record) → Numbered (times_in_range r) (says (clock_in t r))
unfolding clock_in
clock_numbered t r = times_numbered (times_in_range r) _ (own_unless _ _ _ (omega arith, omega arith) tt)

pub mark_numbered : (on : Bool) (r : Record) → Numbered (times_in_range r) (says (mark_in on r))
unfolding mark_in
mark_numbered on r = times_numbered (times_in_range r) _ tt
