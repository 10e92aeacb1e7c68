-- What a deletion of several entries comes to: by a range of rows, and by what the range is.
use Rattle.std.specs.Prelude.{Result, Ok, Err}
use Prim.Native.Nat.{◌+◌, ◌≤◌, ℕ}
use lib.ListN.{drop, length, take}
use lib.Seq.{take_all}
use mathlib.Core.Bool.{Bool, false, true}
use mathlib.Core.List.{List}
use mathlib.Core.Path.{◌≡◌, ◌∙◌, ap, ap₂, refl, sym}
use native.Mathlib.Omega.{arith}
use Rattle.record.specs.Refusals.{paper}
use Rattle.record.specs.declared.Record.{Record}
use Rattle.record.specs.declared.ScheduleRefusal.{ScheduleRefusal}
use Rattle.rules.specs.Papers.{Paper, done, no}
use Rattle.slots.specs.View.{view}
use Rattle.rows.proofs.Rows.{length_unpack}
use Rattle.selection.proofs.WindowLaws.{window_covered}
use Rattle.table_edit.proofs.WindowLeft.{window_rows}
use Rattle.table_edit.proofs.Stays.{remove_number, without_all}
use Rattle.table_edit.specs.Edits.{after_remove, without}
use Rattle.rows.specs.Entries.{Entry, unpack}
use Rattle.rows.specs.Order.{ordered}
use Rattle.selection.specs.Windows.{first_row, in_window, outside}
use Rattle.selection.specs.declared.Part.{Part}
use Rattle.selection.specs.declared.MomentWindow.{MomentWindow}
use Rattle.deletions.specs.Answers.{cleared_paper}
use Rattle.deletions.specs.Deleting.{clear_in, delete_window_in, enabled_as, reset_in}
use Rattle.sweep.specs.Sweep.{Swept, sweep, tally, unswept}
use Rattle.windows.specs.Inside.{Opens}
use Rattle.sweep.specs.Inside.{Sweeps}
use Rattle.deletions.specs.Inside.{clear_part, left_of}
use Rattle.schedule.specs.Promise.{Does}
use Rattle.schedule.specs.State.{State, record_of, state_of, with_entries, with_pools}
use Rattle.schedule.specs.declared.Setup.{Setup}
use Rattle.sweep.specs.declared.Tally.{Tally}
use Rattle.windows.specs.declared.TimeWindow.{TimeWindow}
use Rattle.windows.proofs.Openings.{opened_at, opened_refused}
use Rattle.schedule.proofs.Promises.{does_as, does_done, does_refused}

module _ (su : Setup) (r : Record) (st le ro : List ℕ) where
  module _ (p : Part) (b : Bool) where
    gone : List Entry
    gone = take p.number (drop p.first (unpack r.count ro))

    left : List Entry
    left = without p.first p.number (unpack r.count ro)

    swept_all : Swept
    swept_all = sweep gone (unswept (view su.store st le))

    cleared : State
    cleared = with_entries left (with_pools swept_all.pools (enabled_as b (state_of su r st le ro)))

    clear_is : clear_part p b (state_of su r st le ro) ≡ done (tally swept_all) cleared
    unfolding clear_part clear_in state_of gone left swept_all cleared
    clear_is = refl

    next_is : p.first + p.number ≤ r.count → record_of cleared ≡ left_of r p.number b
    unfolding cleared left state_of
    next_is h =
        ap (λ (m : ℕ). record { count = m; clock = r.clock; margin = r.margin; enabled = b }) (remove_number ro r.count p.first p.number h)

    pub clear_done : (t : Tally) (n : Record) (st' le' ro' : List ℕ) → p.first + p.number ≤ r.count
        → Sweeps su.store st le (take p.number (drop p.first (unpack r.count ro))) t st' le'
        → ro' ≡ after_remove ro r.count p.first p.number → n ≡ left_of r p.number b
        → Does su r st le ro (clear_part p b) (cleared_paper (Ok t)) n st' le' ro'
    unfolding cleared_paper cleared left gone swept_all
    clear_done t n st' le' ro' h s q e =
        let a : cleared_paper (Ok t) ≡ no 0 (tally swept_all) = ap (λ (x : Swept). no 0 (tally x)) s.told in
        rw (a, e ∙ sym (next_is h))
        (does_done su r st le ro (clear_part p b) (tally swept_all) cleared st' le' ro' clear_is s.lists q)

  module _ (w : TimeWindow) (o : Result MomentWindow ScheduleRefusal) (h : Opens w o) where
    pub window_refused : (e : ScheduleRefusal) → o ≡ Err e
        → Does su r st le ro (delete_window_in w) (cleared_paper (Err e)) r st le ro
    unfolding delete_window_in cleared_paper
    window_refused e q = does_refused su r st le ro (delete_window_in w) (paper e) (opened_refused w _ o h e q)

    window_is : (x : MomentWindow) (p : Part) → o ≡ Ok x → ordered (unpack r.count ro) ≡ true
        → p.first ≡ first_row x (unpack r.count ro) → p.number ≡ length (in_window x (unpack r.count ro))
        → clear_part p r.enabled (state_of su r st le ro) ≡ delete_window_in w (state_of su r st le ro)
    unfolding clear_part delete_window_in state_of
    window_is x p q k f n =
        let es = unpack r.count ro in
        let g : take p.number (drop p.first es) ≡ in_window x es = rw (f, n) (sym (window_covered es k x)) in
        let v : without p.first p.number es ≡ outside x es = rw (f, n) (sym (window_rows es k x)) in
        ap₂ (λ (a b : List Entry). clear_in a b (state_of su r st le ro)) g v ∙ sym (opened_at w _ o h x q).0

    pub window_done : (x : MomentWindow) (p : Part) (a : Paper) (n : Record) (st' le' ro' : List ℕ) → o ≡ Ok x
        → ordered (unpack r.count ro) ≡ true
        → p.first ≡ first_row x (unpack r.count ro) → p.number ≡ length (in_window x (unpack r.count ro))
        → Does su r st le ro (clear_part p r.enabled) a n st' le' ro' → Does su r st le ro (delete_window_in w) a n st' le' ro'
    window_done x p a n st' le' ro' q k f m d = does_as su r st le ro _ _ a n st' le' ro' (window_is x p q k f m) d

  -- all rows
  reset_is : clear_part (record { first = 0; number = r.count }) false (state_of su r st le ro) ≡ reset_in (state_of su r st le ro)
  unfolding clear_part reset_in state_of
  reset_is =
      let l = length_unpack r.count ro in
      let g = take_all r.count (unpack r.count ro) (omega arith) in
      ap₂ (λ (a b : List Entry). clear_in a b (enabled_as false (state_of su r st le ro))) g (without_all ro r.count)

  pub reset_done : (a : Paper) (n : Record) (st' le' ro' : List ℕ)
      → Does su r st le ro (clear_part (record { first = 0; number = r.count }) false) a n st' le' ro' → Does su r st le ro reset_in a n st' le' ro'
  reset_done a n st' le' ro' d = does_as su r st le ro _ _ a n st' le' ro' reset_is d
