-- What each call makes of a state that fits: a refusal, or a state that fits.
use Rattle.std.specs.Prelude.{Option, Some, None, Result, Ok, Err}
use Rattle.packet.specs.declared.Header.{Header}
use Rattle.packet.specs.declared.Fault.{Fault}
use Rattle.rules.proofs.Cases.{either}
use Prim.Native.Nat.{◌<◌, ◌≤◌, suc, zero-le, ℕ}
use Rattle.deletions.specs.Deleting.{clear_in, delete_window_in, reset_in}
use Rattle.sweep.specs.Sweep.{Swept, sweep, swept, unswept}
use Rattle.by_id.specs.ById.{delete_by_id_in, delete_keeping_in, freed, take_in}
use Rattle.record.specs.declared.Record.{Record}
use Rattle.windows.specs.Windowing.{window_of, windowed}
use Rattle.windows.specs.declared.TimeWindow.{TimeWindow}
use Rattle.insertions.specs.Inserting.{activity, insert_unwrapped_in}
use Rattle.storing.specs.Entered.{entered}
use Rattle.gate.specs.Entering.{enter, insert_stored_in, timed}
use Rattle.wrapped.specs.Wrapped.{insert_wrapped_in, opened, stamped}
use Rattle.packet.specs.Packet.{id_of, id_word, read_of, user_data_of}
use Rattle.record.specs.Record.{clock_in, mark_in, times_in_range, with_clock, with_mark}
use Rattle.rules.proofs.All.{and_left, and_right}
use Rattle.rules.specs.Papers.{Outcome, after, done, through, no, refused}
use Rattle.rules.specs.Tests.{unless}
use Rattle.starting.specs.Starting.{start_in}
use Rattle.schedule.specs.State.{State, record_of, with_entries, with_pools}
use Rattle.schedule.specs.declared.Setup.{Setup}
use Rattle.scheduler.proofs.Stamps.{data_bytes, stamp_timely}
use Rattle.store_laws.proofs.Fitting.{add_fits, delete_fits, fresh_fits, modify_fits}
use Rattle.scheduler.specs.Fits.{Bytes, Fits, Gives}
use Rattle.store_laws.specs.Fits.{PoolsFit}
use Rattle.scheduler.specs.Steps.{of_pools, of_record}
use Rattle.stamp.specs.Stamp.{Timely, stamp_of}
use Rattle.stamp.specs.declared.Stamp.{Stamp}
use Rattle.store.specs.Calls.{add_in, delete_in, modify_in}
use Rattle.slots.specs.Pools.{Pool}
use Rattle.rows.proofs.Order.{Head, InRange as EntryInRange, ordered_cons, ordered_less, ordered_make}
use Rattle.table_edit.proofs.Ordering.{insert_ordered, without_ordered}
use Rattle.table_edit.proofs.Stays.{length_insert_sorted, length_without}
use Rattle.table_edit.specs.Edits.{insert_sorted, without}
use Rattle.rows.specs.Entries.{Entry, entry_of, time}
use Rattle.selection.specs.Match.{victim}
use Rattle.rows.specs.Order.{ordered, ordered_from}
use Rattle.selection.specs.Windows.{filter, in_window, outside}
use Rattle.time.proofs.Judged.{time_judged}
use Rattle.time.proofs.Signed.{biased_le}
use Rattle.time.specs.Time.{InRange, in_range, margin_in_range, moment_of}
use Rattle.time.specs.declared.Margin.{Margin}
use Rattle.time.specs.declared.UnixTime.{UnixTime}
use borrow.Author.Tests.{ltb-true}
use lib.ListN.{length}
use mathlib.Core.Bool.{Bool, cond, false, true}
use mathlib.Core.List.{List, [], ◌∷◌}
use mathlib.Core.Path.{◌≡◌, refl}
use native.Mathlib.Omega.{arith}

pub gives_after : (su : Setup) (s : State) (o : Outcome State) → Fits su s → Gives su o → Fits su (after o s (λ t. t))
unfolding after
gives_after su s (refused p) f g = f
gives_after su s (done vs t) f g = g

pub after_gives : (su : Setup) (s : State) (o : Outcome State) → Fits su (after o s (λ t. t)) → Gives su o
unfolding after
after_gives su s (refused p) f = tt
after_gives su s (done vs t) f = f

unless_gives : (su : Setup) (b : Bool) (x y : Outcome State) → Gives su x → (b ≡ true → Gives su y) → Gives su (unless b x y)
unless_gives su b x y g h = either (Gives su) b y x h (λ e. g)

-- the same but for the subpools, or the entries
pub with_pools_lem : (su : Setup) (s : State) (ps : List Pool) → Fits su s → PoolsFit su.store 0 ps → Fits su (with_pools ps s)
with_pools_lem su s ps f h = record { pools = h; kept = f.kept; few = f.few; clock = f.clock; margin = f.margin }

pub with_entries_lem : (su : Setup) (s : State) (es : List Entry) → Fits su s → ordered es ≡ true → length es ≤ su.entries →
    Fits su (with_entries es s)
with_entries_lem su s es f k n = record { pools = f.pools; kept = k; few = n; clock = f.clock; margin = f.margin }

-- ---- the store's calls

module _ (su : Setup) (s : State) (f : Fits su s) where
  pools_give : (o : Outcome (List Pool)) → PoolsFit su.store 0 (after o s.pools (λ ps. ps)) → Gives su (of_pools s o)
  unfolding through after
  pools_give (refused p) h = tt
  pools_give (done vs ps) h = with_pools_lem su s ps f h

  pub add_gives : (d : List ℕ) → Gives su (of_pools s (add_in su.store.spill s.pools d))
  add_gives d = pools_give _ (add_fits su.store s.pools f.pools su.store.spill d)

  pub delete_gives : (a : ℕ) → Gives su (of_pools s (delete_in s.pools a))
  delete_gives a = pools_give _ (delete_fits su.store s.pools f.pools a)

  pub modify_gives : (a : ℕ) (d : List ℕ) → Gives su (of_pools s (modify_in s.pools a d))
  modify_gives a d = pools_give _ (modify_fits su.store s.pools f.pools a d)

-- ---- the record's calls

-- a record with as many entries, and with clock and margin in range where they were
pub record StaysTimed (r r' : Record) : Type 0 where
  pub same_count : r'.count ≡ r.count
  pub in_range_lem : times_in_range r ≡ true → times_in_range r' ≡ true

pub clock_timed : (t : UnixTime) (r : Record) → StaysTimed r (after (clock_in t r) r (λ x. x))
unfolding clock_in unless after
clock_timed t r = go (times_in_range r) (in_range t) refl
  where
    go : (a b : Bool) → in_range t ≡ b
        → StaysTimed r (after (unless a (refused (no 3 [])) (unless b (refused (no 4 [])) (done [] (with_clock t r)))) r (λ x. x))
    go false b e = record { same_count = refl; in_range_lem = λ h. h }
    go true false e = record { same_count = refl; in_range_lem = λ h. h }
    go true true e = record { same_count = refl; in_range_lem = λ h. rw e (and_right (in_range r.clock) (margin_in_range r.margin) h) }

pub mark_timed : (on : Bool) (r : Record) → StaysTimed r (after (mark_in on r) r (λ x. x))
unfolding mark_in unless after
mark_timed on r = go (times_in_range r)
  where
    go : (a : Bool) → StaysTimed r (after (unless a (refused (no 3 [])) (done [] (with_mark on r))) r (λ x. x))
    go false = record { same_count = refl; in_range_lem = λ h. h }
    go true = record { same_count = refl; in_range_lem = λ h. h }

pub record_gives : (su : Setup) (s : State) → Fits su s → (o : Outcome Record) → StaysTimed (record_of s) (after o (record_of s) (λ x. x))
    → Gives su (of_record s o)
unfolding through after
record_gives su s f (refused p) h = tt
record_gives su s f (done vs x) h =
    let k = h.in_range_lem (rw f.clock f.margin) in
    record {
      pools = f.pools;
      kept = f.kept;
      few = f.few;
      clock = and_left (in_range x.clock) (margin_in_range x.margin) k;
      margin = and_right (in_range x.clock) (margin_in_range x.margin) k;
    }

-- ---- the insertions

entry_in_range : (t : UnixTime) (id a : ℕ) → InRange t → EntryInRange (entry_of (moment_of t) id a)
entry_in_range t id a r = record { secs_le = biased_le t.secs r.secs; nanos_lt = r.nanos }

module _ (su : Setup) (s : State) (f : Fits su s) where
  enter_gives : (t : UnixTime) (id a : ℕ) (vs : List ℕ) → InRange t → Gives su (enter su t id a vs s)
  unfolding enter
  enter_gives t id a vs r =
      unless_gives su _ _ _ tt
      (λ x. unless_gives su _ _ _ tt
      (λ l. let n : length s.entries < su.entries = ltb-true _ _ l in
      with_entries_lem su s (insert_sorted (entry_of (moment_of t) id a) s.entries) f
      (insert_ordered 0 (entry_of (moment_of t) id a) s.entries f.kept (entry_in_range t id a r) zero-le)
      (omega (arith, length_insert_sorted (entry_of (moment_of t) id a) s.entries))))

timed_gives : (su : Setup) (t : UnixTime) (o : Outcome State) → (InRange t → Gives su o) → Gives su (timed t o)
unfolding timed
timed_gives su t o h = unless_gives su (in_range t) _ o tt (λ e. h (time_judged t e))

module _ (su : Setup) (s : State) (f : Fits su s) where
  pub stored_gives : (t : UnixTime) (id a : ℕ) → Gives su (insert_stored_in su t id a s)
  unfolding insert_stored_in
  stored_gives t id a = timed_gives su t _ (λ r. enter_gives su s f t id a [] r)

  entered_gives : (t : UnixTime) (id : ℕ) (o : Outcome (List Pool)) → InRange t → PoolsFit su.store 0 (after o s.pools (λ ps. ps))
      → Gives su (entered su t id s o)
  unfolding entered after
  entered_gives t id (refused p) r h = tt
  entered_gives t id (done vs ps) r h = enter_gives su (with_pools ps s) (with_pools_lem su s ps f h) t id _ _ r

  activity_gives : (t : UnixTime) (tc : List ℕ) (x : Result Header Fault) → InRange t → Gives su (activity su t tc s x)
  unfolding activity
  activity_gives t tc (Err y) r = tt
  activity_gives t tc (Ok h) r =
      unless_gives su _ _ _ tt (λ e. entered_gives t (id_word (id_of h)) _ r (add_fits su.store s.pools f.pools su.store.spill tc))

  pub unwrapped_gives : (t : UnixTime) (tc : List ℕ) → Gives su (insert_unwrapped_in su t tc s)
  unfolding insert_unwrapped_in
  unwrapped_gives t tc = timed_gives su t _ (λ r. activity_gives t tc (read_of 2 tc) r)

  stamped_gives : (d : List ℕ) (x : Option Stamp) → Timely x → Gives su (stamped su d s x)
  unfolding stamped
  stamped_gives d None r = tt
  stamped_gives d (Some x) r = activity_gives x.time _ (read_of 2 _) r

  opened_gives : (d : List ℕ) (x : Result Header Fault) → Bytes d → Gives su (opened su d s x)
  unfolding opened
  opened_gives d (Err y) b = tt
  opened_gives d (Ok h) b =
      unless_gives su _ _ _ tt (λ x. unless_gives su _ _ _ tt (λ y. unless_gives su _ _ _ tt (λ z. stamped_gives d (stamp_of d) (stamp_timely d b))))

  pub wrapped_gives : (p : List ℕ) → Bytes p → Gives su (insert_wrapped_in su p s)
  unfolding insert_wrapped_in
  wrapped_gives p b = opened_gives (user_data_of 2 p) (read_of 2 p) (data_bytes p b (read_of 2 p))

-- ---- the deletions

filter_ordered : (p : Entry → Bool) (t : ℕ) (es : List Entry) → ordered_from t es ≡ true → ordered_from t (filter p es) ≡ true
unfolding filter
filter_ordered p t [] h = h
filter_ordered p t (e ∷ es) h = let a = ordered_cons t e es h in go a (p e) (filter_ordered p (time e) es a.rest)
  where
    go : Head t e es → (b : Bool) → ordered_from (time e) (filter p es) ≡ true → ordered_from t (cond b (e ∷ filter p es) (filter p es)) ≡ true
    go a true r = ordered_make t e (filter p es) (record { range = a.range; from = a.from; rest = r })
    go a false r = ordered_less t (time e) (filter p es) r a.from

filter_few : (p : Entry → Bool) (es : List Entry) → length (filter p es) ≤ length es
unfolding filter
filter_few p [] = omega arith
filter_few p (e ∷ es) = go (p e) (filter_few p es)
  where
    go : (b : Bool) → length (filter p es) ≤ length es → length (cond b (e ∷ filter p es) (filter p es)) ≤ suc (length es)
    go true h = omega arith
    go false h = omega arith

swept_fits : (su : Setup) (x : Swept) (o : Outcome (List Pool)) → PoolsFit su.store 0 (after o x.pools (λ ps. ps))
    → PoolsFit su.store 0 (swept x o).pools
unfolding swept after
swept_fits su x (refused p) h = h
swept_fits su x (done vs ps) h = h

sweep_fits : (su : Setup) (es : List Entry) (x : Swept) → PoolsFit su.store 0 x.pools → PoolsFit su.store 0 (sweep es x).pools
unfolding sweep
sweep_fits su [] x h = h
sweep_fits su (e ∷ es) x h = sweep_fits su es _ (swept_fits su x _ (delete_fits su.store x.pools h e.addr))

module _ (su : Setup) (s : State) (f : Fits su s) where
  clear_gives : (gone left : List Entry) → ordered left ≡ true → length left ≤ su.entries → Gives su (clear_in gone left s)
  unfolding clear_in
  clear_gives gone left k n =
      let x = sweep gone (unswept s.pools) in
      with_entries_lem su (with_pools x.pools s) left (with_pools_lem su s x.pools f (sweep_fits su gone (unswept s.pools) f.pools)) k n

  pub window_gives : (w : TimeWindow) → Gives su (delete_window_in w s)
  unfolding delete_window_in windowed
  window_gives w =
      unless_gives su _ _ _ tt
      (λ x. unless_gives su _ _ _ tt
      (λ y. let n : length (outside (window_of w) s.entries) ≤ length s.entries = filter_few _ s.entries in
      clear_gives (in_window (window_of w) s.entries) (outside (window_of w) s.entries) (filter_ordered _ 0 s.entries f.kept)
      (omega (arith, f.few))))

module _ (su : Setup) (s : State) (f : Fits su s) where
  pub reset_gives : Gives su (reset_in s)
  unfolding reset_in ordered_from
  reset_gives =
      clear_gives su _ (record { pools = f.pools; kept = f.kept; few = f.few; clock = f.clock; margin = f.margin }) s.entries [] refl zero-le

  take_gives : (id : ℕ) (found : ℕ → State → Outcome State) → ((a : ℕ) (t : State) → Fits su t → Gives su (found a t))
      → Gives su (take_in id found s)
  unfolding take_in
  take_gives id found h =
      unless_gives su _ _ _ f
      (λ l. let v : victim id s.entries < length s.entries = ltb-true _ _ l in
      h _ _
      (with_entries_lem su s (without (victim id s.entries) 1 s.entries) f (without_ordered 0 (victim id s.entries) 1 s.entries f.kept)
      (omega (arith, length_without (victim id s.entries) 1 s.entries (omega arith), f.few))))

  pub keeping_gives : (id : ℕ) → Gives su (delete_keeping_in id s)
  unfolding delete_keeping_in
  keeping_gives id = take_gives id _ (λ a t g. g)

freed_gives : (su : Setup) (s : State) (o : Outcome (List Pool)) → Fits su s → PoolsFit su.store 0 (after o s.pools (λ ps. ps))
    → Gives su (freed s o)
unfolding freed after
freed_gives su s (refused p) f h = f
freed_gives su s (done vs ps) f h = with_pools_lem su s ps f h

pub by_id_gives : (su : Setup) (s : State) → Fits su s → (id : ℕ) → Gives su (delete_by_id_in id s)
unfolding delete_by_id_in
by_id_gives su s f id = take_gives su s f id _ (λ a t g. freed_gives su t _ g (delete_fits su.store t.pools g.pools a))

-- ---- the fresh start

pub start_gives : (su : Setup) (room lens rows : ℕ) (clock : UnixTime) (margin : Margin) → Gives su (start_in su room lens rows clock margin)
unfolding start_in ordered_from
start_gives su room lens rows clock margin =
    unless_gives su _ _ _ tt
    (λ x. unless_gives su _ _ _ tt
    (λ y. unless_gives su _ _ _ tt
    (λ z. record {
      pools = fresh_fits su.store;
      kept = refl;
      few = zero-le;
      clock = and_left (in_range clock) (margin_in_range margin) z;
      margin = and_right (in_range clock) (margin_in_range margin) z;
    })))
