-- One request to the smaller scheduler and to the larger.
use Prim.Native.Nat.{◌≤◌, ℕ}
use Rattle.room.proofs.Alike.{Alike, answer_stays, answered_too, refused_too}
use Rattle.rules.proofs.Cases.{clash}
use Rattle.room.proofs.Deleting.{by_id, keeping, resets, windows}
use Rattle.room.proofs.Inserting.{stored, unwrapped, wrapped}
use Rattle.room.proofs.States.{AlikeStates, pools_too, record_too}
use Rattle.room.proofs.StoreCalls.{Placed, adds, deletes, has_grow, len_grow, modifies, read_grow}
use Rattle.room.proofs.Ticking.{grown_log, ticks}
use Rattle.room.specs.Room.{AllNamed, Named, addresses}
use Rattle.rules.specs.Papers.{Outcome, after, done, refused, says}
use Rattle.schedule.specs.State.{State, record_of}
use Rattle.schedule.specs.declared.Setup.{Setup}
use Rattle.counting.specs.Counting.{count_in}
use Rattle.windows.specs.Windowing.{retrieve_in}
use Rattle.windows.specs.declared.TimeWindow.{TimeWindow}
use Rattle.record.specs.Record.{clock_in, mark_in}
use Rattle.scheduler.specs.Steps.{Request, add, carried, count, delete, delete_by_id, delete_keeping, delete_window, disable, enable, has_element_at, insert_stored, insert_unwrapped, insert_wrapped, len_of_data, looked, modify, read, reset, retrieve, set_clock, step, tick, ticked}
use Rattle.tick.specs.Tick.{Logged}
use Rattle.room.specs.Grown.{Fit, Good, Narrow, Slotted, grown, shape}
use lib.ListN.{length}
use mathlib.Core.Bool.{false, true}
use mathlib.Core.List.{List}
use mathlib.Core.Path.{◌≡◌, refl}

-- the entries alone are looked at
counts : (ks : List ℕ) (s : State) → count_in (grown ks s) ≡ count_in s
unfolding count_in
counts ks s = refl

retrieves : (ks : List ℕ) (w : TimeWindow) (s : State) → retrieve_in w (grown ks s) ≡ retrieve_in w s
unfolding retrieve_in
retrieves ks w s = refl

module _ (ns ks : List ℕ) (s : State) (fits : Fit ns s) where
  -- a call that leaves a state
  carries : (o o' : Outcome State) → AlikeStates ns ks o o' → Good ns ks s (carried s o) (carried (grown ks s) o')
  unfolding carried says after
  carries (refused p) o' a = record { alike = λ h. rw (refused_too _ _ p o' a h); still = λ h. refl; fit = fits }
  carries (done vs t) o' a =
      record { alike = λ h. rw (answered_too _ _ vs t o' a); still = λ h. clash _ h (answer_stays vs); fit = a.left }

  -- the tick, which leaves a state and a log
  releases : (log : List ℕ) (o o' : Outcome Logged) → Alike (grown_log ks) (λ vs x. Fit ns x.state) o o'
      → Good ns ks s (ticked s log o) (ticked (grown ks s) log o')
  unfolding ticked says after
  releases log (refused p) o' a = record { alike = λ h. rw (refused_too _ _ p o' a h); still = λ h. refl; fit = fits }
  releases log (done vs x) o' a =
      record { alike = λ h. rw (answered_too _ _ vs x o' a); still = λ h. clash _ h (answer_stays vs); fit = a.left }

  -- a call that changes nothing
  looks : {A : Type 0} (o o' : Outcome A) (buf buf' : List ℕ) → o' ≡ o → buf' ≡ buf → Good ns ks s (looked s o buf) (looked (grown ks s) o' buf')
  unfolding looked
  looks o o' buf buf' e f = record { alike = λ h. rw (e, f); still = λ h. refl; fit = fits }

  reads : (o o' : Outcome (List ℕ)) (buf : List ℕ) → o' ≡ o
      → Good ns ks s (looked s o (after o buf (λ b. b))) (looked (grown ks s) o' (after o' buf (λ b. b)))
  reads o o' buf e = rw e (looks o o _ _ refl refl)

  module _ (su lu : Setup) (more : su.entries ≤ lu.entries) (off : su.store.spill ≡ false) (narrow : Narrow ns)
      (few : length ns ≤ 256) (named : (a : ℕ) → Named su a → Slotted ns a) where
    pub steps : (q : Request) → AllNamed su (addresses q) → Good ns ks s (step su q s) (step lu q (grown ks s))
    unfolding step addresses
    steps (add d) n =
        carries _ _
        (pools_too ns ks s fits (Placed ns) (λ vs ps e. e.0) _ _ (adds ns ks s.pools fits.shaped narrow few d _ _ off))
    steps (read a buf) n = reads _ _ buf (read_grow ns ks s.pools fits.shaped a (named a n.0) buf)
    steps (modify a d) n =
        carries _ _
        (pools_too ns ks s fits (λ vs ps. shape ps ≡ ns) (λ vs ps e. e) _ _ (modifies ns ks s.pools fits.shaped a (named a n.0) d))
    steps (delete a) n =
        carries _ _ (pools_too ns ks s fits (λ vs ps. shape ps ≡ ns) (λ vs ps e. e) _ _ (deletes ns ks s.pools fits.shaped a (named a n.0)))
    steps (has_element_at a) n = looks _ _ _ _ (has_grow ns ks s.pools fits.shaped a (named a n.0)) refl
    steps (len_of_data a) n = looks _ _ _ _ (len_grow ns ks s.pools fits.shaped a (named a n.0)) refl
    steps (set_clock t) n = carries _ _ (record_too ns ks s fits (clock_in t (record_of s)))
    steps enable n = carries _ _ (record_too ns ks s fits (mark_in true (record_of s)))
    steps disable n = carries _ _ (record_too ns ks s fits (mark_in false (record_of s)))
    steps count n = looks (count_in s) (count_in (grown ks s)) _ _ (counts ks s) refl
    steps (insert_wrapped p) n = carries _ _ (wrapped su lu more ns ks off narrow few s fits p)
    steps (insert_unwrapped t p) n = carries _ _ (unwrapped su lu more ns ks off narrow few s fits t p)
    steps (insert_stored t id a) n = carries _ _ (stored su lu more ns ks t id a s fits (named a n.0))
    steps (retrieve w) n = looks (retrieve_in w s) (retrieve_in w (grown ks s)) _ _ (retrieves ks w s) refl
    steps (delete_window w) n = carries _ _ (windows ns ks w s fits)
    steps reset n = carries _ _ (resets ns ks s fits)
    steps (delete_keeping id) n = carries _ _ (keeping ns ks id s fits)
    steps (delete_by_id id) n = carries _ _ (by_id ns ks id s fits)
    steps (tick limit del log) n = releases log _ _ (ticks ns ks limit del log s fits)
