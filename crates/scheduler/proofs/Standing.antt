-- Between record and lent lists and the states that they stand for: what is sound fits, and what fits is sound once laid out.
use Prim.Native.Nat.{◌*◌, ◌≤◌, ℕ}
use Rattle.record.specs.declared.Record.{Record}
use Rattle.rules.proofs.All.{all_each, and_left, and_right, each_all}
use Rattle.rules.specs.Papers.{Outcome, Paper, after, done, refused}
use Rattle.schedule.proofs.Facts.{facts, store-sized}
use Rattle.schedule.specs.Judge.{Sound, buffers_ok, setup_ok, state_ok}
use Rattle.schedule.specs.Promise.{Writes}
use Rattle.schedule.specs.State.{State, record_of, state_of}
use Rattle.schedule.specs.declared.Setup.{Setup}
use Rattle.scheduler.proofs.Laying.{leaves_laid}
use Rattle.scheduler.specs.Fits.{Fits, Gives}
use Rattle.layout.specs.Judge.{Sized}
use Rattle.slots.specs.View.{lens_with, store_with}
use Rattle.store_laws.proofs.Fitting.{sound_of, view_fits}
use Rattle.rows.proofs.Rows.{length_relaid, length_unpack, unpack_relaid}
use Rattle.rows.specs.Entries.{relaid, width}
use Rattle.rows.specs.Order.{ordered}
use Rattle.time.specs.Time.{in_range, margin_in_range}
use borrow.Author.Tests.{le-leb, leb-true}
use lib.ListN.{length}
use mathlib.Core.Bool.{◌&&◌, true}
use mathlib.Core.List.{List}
use mathlib.Core.Path.{◌∙◌, ◌≡◌, ap}
use native.Mathlib.Omega.{arith}

-- what is sound stands for a fitting state
pub sound_fits : (su : Setup) (r : Record) (st le ro : List ℕ) → Sound su r st le ro → Fits su (state_of su r st le ro)
unfolding state_of state_ok
sound_fits su r st le ro s =
    let d = all_each _ s.state in
    let n : r.count ≤ su.entries = leb-true _ _ d.0 in
    let x = facts s in
    record {
      pools = view_fits su.store st le x.store;
      kept = d.1.1.0;
      few = rw (length_unpack r.count ro) n;
      clock = and_left (in_range r.clock) (margin_in_range r.margin) d.1.0;
      margin = and_right (in_range r.clock) (margin_in_range r.margin) d.1.0;
    }

-- and a fitting state that is laid out is sound, and is what the lists stand for. `n` rows were entries before
module _ (su : Setup) (st le ro : List ℕ) (n : ℕ) (t : State) (ok : setup_ok su ≡ true)
    (long : buffers_ok su (length st) (length le) (length ro) ≡ true) (few : n ≤ su.entries) (f : Fits su t) where
  sized : Sized su.store st le
  sized = store-sized su st le (length ro) ok long

  rows_long : length (relaid ro n t.entries) ≡ length ro
  unfolding buffers_ok
  rows_long =
      let b : su.entries * width ≤ length ro = leb-true _ _ (all_each _ long).1.0 in
      let e = f.few in
      length_relaid ro n t.entries (omega arith)

  pub laid_sound : Sound su (record_of t) (store_with su.store st t.pools) (lens_with su.store le t.pools) (relaid ro n t.entries)
  unfolding state_ok
  laid_sound =
      let l = leaves_laid su.store st le t.pools sized f.pools in
      let k = sound_of su.store st le t.pools _ _ sized l f.pools in
      let u = ap ordered (unpack_relaid ro n t.entries) ∙ f.kept in
      let both : (in_range t.clock && margin_in_range t.margin) ≡ true = rw f.clock f.margin in
      record {
        setup = ok;
        buffers = rw (l.same_length, l.same_rows, rows_long) long;
        state = each_all _ (le-leb _ _ f.few, (both, (u, (k.lengths, tt))));
      }

  pub laid_state : state_of su (record_of t) (store_with su.store st t.pools) (lens_with su.store le t.pools) (relaid ro n t.entries) ≡ t
  unfolding state_of
  laid_state =
      let l = leaves_laid su.store st le t.pools sized f.pools in
      let e = l.seen in
      let u = unpack_relaid ro n t.entries in
      λ i. record { pools = e i; entries = u i; clock = t.clock; margin = t.margin; enabled = t.enabled }

-- what a public call leaves, by what its judged call comes to
module _ (su : Setup) (r : Record) (st le ro : List ℕ) (s : Sound su r st le ro) (p : Paper) (r' : Record) (st' le' ro' : List ℕ) where
  pub outcome_sound : (o : Outcome State) → Gives su o → Writes su r st le ro o p r' st' le' ro' → Sound su r' st' le' ro'
  unfolding after
  outcome_sound (refused q) g w = rw (w.next, w.store, w.lens, w.rows) s
  outcome_sound (done vs t) g w =
      rw (w.next, w.store, w.lens, w.rows) (laid_sound su st le ro r.count t s.setup s.buffers (facts s).count g)

  pub outcome_state : (o : Outcome State) → Gives su o → Writes su r st le ro o p r' st' le' ro'
      → state_of su r' st' le' ro' ≡ after o (state_of su r st le ro) (λ t. t)
  unfolding after
  outcome_state (refused q) g w = rw (w.next, w.store, w.lens, w.rows)
  outcome_state (done vs t) g w =
      rw (w.next, w.store, w.lens, w.rows) (laid_state su st le ro r.count t s.setup s.buffers (facts s).count g)
