-- A sound scheduler stays sound: every request keeps a fitting state so, and every public call keeps record and lent lists sound, from
-- a fresh start on. Call by call it is the field `sound` of the laws in Stepping.
use Prim.Native.Nat.{ℕ}
use Rattle.record.specs.declared.Record.{Record}
use Rattle.rules.proofs.All.{all_each, each_all}
use Rattle.rules.proofs.Order.{through_after}
use Rattle.rules.specs.Papers.{Outcome, Paper, after, done, no, refused, says}
use Rattle.rules.specs.Tests.{unless}
use Rattle.schedule.proofs.Promises.{judging_fine, writes}
use Rattle.schedule.specs.Judge.{Sound, buffers_ok, judging, setup_ok, state_ok}
use Rattle.schedule.specs.Promise.{Does, Writes}
use Rattle.starting.specs.Starting.{Starts, fresh_state, start_in}
use Rattle.schedule.specs.State.{State, record_of, state_of}
use Rattle.schedule.specs.declared.Setup.{Setup}
use Rattle.scheduler.proofs.Calls.{StaysTimed, add_gives, by_id_gives, clock_timed, delete_gives, gives_after, keeping_gives, mark_timed, modify_gives, record_gives, reset_gives, start_gives, stored_gives, unwrapped_gives, window_gives, wrapped_gives}
use Rattle.scheduler.proofs.Releasing.{tick_gives}
use Rattle.scheduler.proofs.Standing.{laid_sound, laid_state, outcome_sound, sound_fits}
use Rattle.scheduler.specs.Fits.{AllOfBytes, Fits, Gives, OfBytes}
use Rattle.scheduler.specs.Steps.{Request, add, carried, count, delete, delete_by_id, delete_keeping, delete_window, disable, enable, has_element_at, insert_stored, insert_unwrapped, insert_wrapped, len_of_data, looked, modify, read, reset, retrieve, run, set_clock, step, tick, ticked}
use Rattle.layout.specs.Judge.{Sound as StoreSound}
use Rattle.tick.specs.Promise.{left}
use Rattle.tick.specs.Tick.{Logged, tick_in}
use Rattle.time.specs.declared.Margin.{Margin}
use Rattle.time.specs.declared.UnixTime.{UnixTime}
use lib.ListN.{length}
use mathlib.Core.Bool.{Bool, false, true}
use mathlib.Core.List.{List, [], ◌∷◌}
use mathlib.Core.Path.{◌∙◌, ◌≡◌, ap, refl, sym}
use native.Mathlib.Omega.{arith}

-- ---- requests, over the model's states

-- every request keeps a fitting state so. A wrapped packet is one of bytes, as every lent slice is
pub step_stays : (su : Setup) (q : Request) (s : State) → OfBytes q → Fits su s → Fits su (step su q s).state
unfolding step carried looked ticked
step_stays su (add d) s o f = gives_after su s _ f (add_gives su s f d)
step_stays su (read a buf) s o f = f
step_stays su (modify a d) s o f = gives_after su s _ f (modify_gives su s f a d)
step_stays su (delete a) s o f = gives_after su s _ f (delete_gives su s f a)
step_stays su (has_element_at a) s o f = f
step_stays su (len_of_data a) s o f = f
step_stays su (set_clock t) s o f = gives_after su s _ f (record_gives su s f _ (clock_timed t (record_of s)))
step_stays su enable s o f = gives_after su s _ f (record_gives su s f _ (mark_timed true (record_of s)))
step_stays su disable s o f = gives_after su s _ f (record_gives su s f _ (mark_timed false (record_of s)))
step_stays su count s o f = f
step_stays su (insert_wrapped p) s o f = gives_after su s _ f (wrapped_gives su s f p (o p refl))
step_stays su (insert_unwrapped t p) s o f = gives_after su s _ f (unwrapped_gives su s f t p)
step_stays su (insert_stored t id a) s o f = gives_after su s _ f (stored_gives su s f t id a)
step_stays su (retrieve w) s o f = f
step_stays su (delete_window w) s o f = gives_after su s _ f (window_gives su s f w)
step_stays su reset s o f = gives_after su s _ f (reset_gives su s f)
step_stays su (delete_keeping id) s o f = gives_after su s _ f (keeping_gives su s f id)
step_stays su (delete_by_id id) s o f = gives_after su s _ f (by_id_gives su s f id)
step_stays su (tick limit del log) s o f =
    rw (through_after (λ (x : Logged). x.state) (tick_in limit del log s) s) at
    (gives_after su s (left (tick_in limit del log s)) f (tick_gives su s f limit del log))

pub run_stays : (su : Setup) (qs : List Request) (s : State) → AllOfBytes qs → Fits su s → Fits su (run su qs s).state
unfolding run
run_stays su [] s o f = f
run_stays su (q ∷ qs) s o f = run_stays su qs (step su q s).state o.1 (step_stays su q s o.0 f)

-- a fresh start that is not refused makes a fitting state
pub fresh_fits : (su : Setup) (room lens rows : ℕ) (clock : UnixTime) (margin : Margin) (vs : List ℕ) (s : State)
    → start_in su room lens rows clock margin ≡ done vs s → Fits su s
fresh_fits su room lens rows clock margin vs s q = rw q at (start_gives su room lens rows clock margin)

-- ---- record and lent lists

module _ (su : Setup) (r : Record) (st le ro : List ℕ) (s : Sound su r st le ro) (p : Paper) (r' : Record) (st' le' ro' : List ℕ) where
  -- any call that keeps fitting states so
  pub call_stays : (call : State → Outcome State) → ((x : State) → Fits su x → Gives su (call x))
      → Writes su r st le ro (judging su r st le ro call) p r' st' le' ro' → Sound su r' st' le' ro'
  call_stays call k w =
      outcome_sound su r st le ro s p r' st' le' ro' (call (state_of su r st le ro)) (k _ (sound_fits su r st le ro s))
      (rw (judging_fine su r st le ro call s) at w)

  -- and its judged form, to a caller who has judged
  pub judged_stays : (call : State → Outcome State) → ((x : State) → Fits su x → Gives su (call x)) → Does su r st le ro call p r' st' le' ro'
      → Sound su r' st' le' ro'
  judged_stays call k d = call_stays call k (writes su r st le ro call p r' st' le' ro' s d)

-- the record's own calls: setting the clock, enable, disable
pub record_stays : (su : Setup) (r r' : Record) (st le ro : List ℕ) → Sound su r st le ro → StaysTimed r r' → Sound su r' st le ro
unfolding state_ok
record_stays su r r' st le ro s h =
    let d = all_each _ s.state in
    record {
      setup = s.setup;
      buffers = s.buffers;
      state =
          each_all _
          (rw h.same_count d.0, (h.in_range_lem d.1.0, (rw h.same_count d.1.1.0, (d.1.1.1.0, tt))));
    }

-- the store's own calls on the scheduler's store, which keep the store sound (store_laws, StaysSound)
pub store_stays : (su : Setup) (r : Record) (st le ro st' le' : List ℕ) → Sound su r st le ro → StoreSound su.store st' le' → Sound su r st' le' ro
unfolding setup_ok buffers_ok state_ok
store_stays su r st le ro st' le' s k =
    let b = all_each _ s.buffers in
    let d = all_each _ s.state in
    record {
      setup = s.setup;
      buffers = each_all _ (k.buffers, (b.1.0, tt));
      state = each_all _ (d.0, (d.1.0, (d.1.1.0, (k.lengths, tt))));
    }

-- ---- the fresh start

started : (a b c : Bool) (t : State) → (o : Outcome State)
    → o ≡ unless a (refused (no 1 [])) (unless b (refused (no 2 [])) (unless c (refused (no 4 [])) (done [] t)))
    → (says o).number ≡ 0 → (a ≡ true) × (b ≡ true) × (o ≡ done [] t)
unfolding unless says
started true true true t o e n = (refl, refl, e)
started false b c t o e n = let z : ◌≡◌ {A = ℕ} 1 0 = rw e at n in absurd (omega arith)
started true false c t o e n = let z : ◌≡◌ {A = ℕ} 2 0 = rw e at n in absurd (omega arith)
started true true false t o e n = let z : ◌≡◌ {A = ℕ} 4 0 = rw e at n in absurd (omega arith)

-- one that is not refused makes any record and lists sound, and they stand for the fresh state
module _ (su : Setup) (r : Record) (st le ro : List ℕ) (c : UnixTime) (m : Margin) (p : Paper) (r' : Record) (st' le' ro' : List ℕ)
    (w : Starts su r st le ro (start_in su (length st) (length le) (length ro) c m) p r' st' le' ro') (fine : p.number ≡ 0) where
  begun : (setup_ok su ≡ true) × (buffers_ok su (length st) (length le) (length ro) ≡ true)
      × (start_in su (length st) (length le) (length ro) c m ≡ done [] (fresh_state su c m))
  unfolding start_in
  begun = started _ _ _ (fresh_state su c m) _ refl (ap (λ (x : Paper). x.number) (sym w.answer) ∙ fine)

  fits : Fits su (fresh_state su c m)
  fits = fresh_fits su (length st) (length le) (length ro) c m [] (fresh_state su c m) begun.2

  pub start_sound : Sound su r' st' le' ro'
  unfolding after
  start_sound =
      let b = begun in
      let v = rw b.2 at w in
      rw (v.next, v.store, v.lens, v.rows) (laid_sound su st le ro su.entries (fresh_state su c m) b.0 b.1 (omega arith) fits)

  pub start_state : state_of su r' st' le' ro' ≡ fresh_state su c m
  unfolding after
  start_state =
      let b = begun in
      let v = rw b.2 at w in
      rw (v.next, v.store, v.lens, v.rows) (laid_state su st le ro su.entries (fresh_state su c m) b.0 b.1 (omega arith) fits)

-- and from it on every list of requests leaves a fitting state
pub from_start : (su : Setup) (room lens rows : ℕ) (c : UnixTime) (m : Margin) → (says (start_in su room lens rows c m)).number ≡ 0
    → (qs : List Request) → AllOfBytes qs → Fits su (run su qs (fresh_state su c m)).state
unfolding start_in
from_start su room lens rows c m fine qs o =
    run_stays su qs (fresh_state su c m) o
    (fresh_fits su room lens rows c m [] (fresh_state su c m) (started _ _ _ (fresh_state su c m) _ refl fine).2)
