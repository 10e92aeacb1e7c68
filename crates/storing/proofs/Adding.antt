-- What the store said of a packet decides what its insertion comes to.
use Rattle.std.specs.Prelude.{Result, Ok, Err}
use Rattle.rows.specs.declared.TcInfo.{TcInfo}
use Prim.Native.Nat.{◌+◌, ◌<◌, ℕ}
use lib.ListN.{get_or, length}
use mathlib.Core.Bool.{Bool, false}
use mathlib.Core.List.{List, [], ◌∷◌}
use mathlib.Core.Path.{◌≡◌, ◌∙◌, ap, refl, sym}
use native.Mathlib.Omega.{arith}
use Rattle.record.specs.Refusals.{paper}
use Rattle.record.specs.declared.Record.{Record}
use Rattle.record.specs.declared.ScheduleRefusal.{ScheduleRefusal}
use Rattle.record.specs.declared.ScheduleRefusal.TheVariants.{Store}
use Rattle.rules.specs.Papers.{Outcome, after, done, no, refused, says}
use Rattle.store.specs.Calls.{add_in}
use Rattle.slots.specs.Pools.{Pool}
use Rattle.store.specs.Refusals.{added_paper}
use Rattle.lookup.specs.Refusals.{paper as store_paper}
use Rattle.slots.specs.View.{Leaves, view}
use Rattle.slots.specs.declared.StoreRefusal.{StoreRefusal}
use Rattle.store_laws.proofs.Numbers.{by_added}
use Rattle.rows.proofs.Rows.{length_unpack}
use Rattle.table_edit.proofs.Stays.{insert_number}
use Rattle.table_edit.specs.Edits.{after_insert, insert_sorted}
use Rattle.rows.specs.Entries.{entry_of, unpack}
use Rattle.time.specs.Time.{in_time_margin, moment_of}
use Rattle.time.specs.declared.UnixTime.{UnixTime}
use Rattle.storing.specs.Answers.{inserted_paper}
use Rattle.gate.specs.Entering.{enter}
use Rattle.storing.specs.Entered.{entered}
use Rattle.storing.specs.Inside.{first_paper}
use Rattle.schedule.specs.State.{State, record_of, state_of, with_count, with_entries, with_pools}
use Rattle.schedule.specs.Promise.{Does}
use Rattle.schedule.specs.declared.Setup.{Setup}
use Rattle.gate.proofs.Gates.{enters}
use Rattle.schedule.proofs.Promises.{does_done}

-- what the store came to, by what it answered
abbrev Came : Outcome (List Pool) → Result ℕ StoreRefusal → Type 0
Came o (Err x) = o ≡ refused (store_paper x)
Came o (Ok a) = o ≡ done (a ∷ []) (after o [] (λ ps. ps))

came : (spill : Bool) (ps : List Pool) (d : List ℕ) (r : Result ℕ StoreRefusal) → added_paper r ≡ says (add_in spill ps d) →
    Came (add_in spill ps d) r
unfolding after
came spill ps d r q = by_added Came spill ps d r q (λ e. refl) (λ a qs. refl)

-- the first refusal of a command that 13 or 14 stops: the store's, and where it has none the schedule's own
pub answers_store : (spill : Bool) (ps : List Pool) (d : List ℕ) (own : ScheduleRefusal) (x : StoreRefusal)
    → added_paper (Err x) ≡ says (add_in spill ps d) → inserted_paper (Err (Store x)) ≡ first_paper (add_in spill ps d) own
unfolding inserted_paper paper first_paper
answers_store spill ps d own x q = rw (came spill ps d (Err x) q)

pub answers_own : (spill : Bool) (ps : List Pool) (d : List ℕ) (own : ScheduleRefusal) (a : ℕ)
    → added_paper (Ok a) ≡ says (add_in spill ps d) → inserted_paper (Err own) ≡ first_paper (add_in spill ps d) own
unfolding inserted_paper first_paper
answers_own spill ps d own a q = rw (came spill ps d (Ok a) q)

pub blocked : (su : Setup) (t : UnixTime) (id : ℕ) (s : State) (o : Outcome (List Pool)) (own : ScheduleRefusal)
    → ((a : ℕ) (vs : List ℕ) (ps : List Pool) → enter su t id a vs (with_pools ps s) ≡ refused (paper own))
    → entered su t id s o ≡ refused (first_paper o own)
unfolding entered first_paper
blocked su t id s (refused p) own g = refl
blocked su t id s (done vs ps) own g = g (get_or vs 0 0) (get_or vs 0 0 ∷ id ∷ []) ps

-- stored and entered
module _ (su : Setup) (r : Record) (st le ro : List ℕ) (t : UnixTime) (tc : List ℕ) (id : ℕ) (st' le' : List ℕ) where
  module _
      (l : Leaves su.store st le
      (after (add_in su.store.spill (view su.store st le) tc) (view su.store st le) (λ ps. ps)) st' le') where
    pub enter_refused : (x : StoreRefusal) → store_paper x ≡ says (add_in su.store.spill (view su.store st le) tc)
        → Does su r st le ro (λ s. entered su t id s (add_in su.store.spill s.pools tc)) (paper (Store x)) r st' le' ro
    unfolding entered state_of says after paper added_paper
    enter_refused x e =
        let q = came su.store.spill (view su.store st le) tc (Err x) e in
        record { answer = rw q; next = rw q; lists = rw q (rw q at l); rows = rw q }

    pub enter_done : (a : ℕ) (n : Record) (ro' : List ℕ) → no 0 (a ∷ []) ≡ says (add_in su.store.spill (view su.store st le) tc)
        → in_time_margin r.clock r.margin t ≡ false → r.count < su.entries → n ≡ with_count (r.count + 1) r
        → ro' ≡ after_insert ro r.count (entry_of (moment_of t) id a)
        → Does su r st le ro (λ s. entered su t id s (add_in su.store.spill s.pools tc)) (no 0 (a ∷ id ∷ [])) n st' le' ro'
    unfolding entered state_of after added_paper
    enter_done a n ro' e m f p q =
        let o = add_in su.store.spill (view su.store st le) tc in
        let d : o ≡ done (a ∷ []) (after o [] (λ ps. ps)) = came su.store.spill (view su.store st le) tc (Ok a) e in
        let s = with_pools (after o [] (λ ps. ps)) (state_of su r st le ro) in
        let h : length (unpack r.count ro) < su.entries = omega (arith, length_unpack r.count ro) in
        let x : record_of (with_entries (insert_sorted (entry_of (moment_of t) id a) (unpack r.count ro)) s) ≡ with_count (r.count + 1) r =
        ap (λ (k : ℕ). with_count k r) (insert_number ro r.count (entry_of (moment_of t) id a)) in
        rw (p ∙ sym x)
        (does_done su r st le ro (λ s. entered su t id s (add_in su.store.spill s.pools tc)) (a ∷ id ∷ []) _ st' le' ro'
        (ap (entered su t id (state_of su r st le ro)) d ∙ enters su t id a (a ∷ id ∷ []) s m h)
        (rw d at l) q)
