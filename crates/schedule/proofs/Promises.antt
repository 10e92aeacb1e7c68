-- The promises, from what the code did to the record and the lists.
use Rattle.std.specs.Prelude.{Result, Err}
use Prim.Native.Nat.{◌≤◌, ℕ}
use lib.ListN.{length}
use mathlib.Core.List.{List}
use mathlib.Core.Path.{◌≡◌, ap}
use Rattle.record.specs.declared.Record.{Record}
use Rattle.rules.specs.Tests.{unless}
use Rattle.rules.specs.Papers.{Outcome, Paper, after, done, judged_by, no, refused, says}
use Rattle.layout.proofs.Bounds.{bounds}
use Rattle.laid.proofs.Laid.{leaves_same, lens_laid, same_lens, same_store, store_laid}
use Rattle.layout.specs.Layout.{all_rows}
use Rattle.slots.specs.View.{Leaves, lens_with, store_with}
use Rattle.rows.proofs.Rows.{length_unpack}
use Rattle.rows.specs.Entries.{relaid}
use Rattle.schedule.specs.Judge.{Judges, Sound, judging}
use Rattle.schedule.specs.Promise.{Does, Writes, WritesOver}
use Rattle.schedule.specs.State.{State, record_of, state_of, with_count}
use Rattle.schedule.specs.declared.Setup.{Setup}
use Rattle.record.specs.Refusals.{paper}
use Rattle.record.specs.declared.ScheduleRefusal.{ScheduleRefusal}
use Rattle.schedule.proofs.Judging.{judging_refused}
use Rattle.schedule.proofs.Facts.{facts}

-- the record of what was judged is the record
pub record_same : (su : Setup) (r : Record) (st le ro : List ℕ) → record_of (state_of su r st le ro) ≡ r
unfolding state_of
record_same su r st le ro = ap (λ (n : ℕ). with_count n r) (length_unpack r.count ro)

-- judged: what comes of a call is what the call comes to
pub judging_fine : {A : Type 0} (su : Setup) (r : Record) (st le ro : List ℕ) (call : State → Outcome A) → Sound su r st le ro
    → judging su r st le ro call ≡ call (state_of su r st le ro)
unfolding judging judged_by unless
judging_fine su r st le ro call s = rw (s.setup, s.buffers, s.state)

-- a refusal writes nothing
pub refused_writes : (k : ℕ) (su : Setup) (r : Record) (st le ro : List ℕ) (o : Outcome State) (p : Paper) → o ≡ refused p
    → WritesOver k su r st le ro o p r st le ro
unfolding says after
refused_writes k su r st le ro o p h = record { answer = rw h; next = rw h; store = rw h; lens = rw h; rows = rw h }

module _ (su : Setup) (r : Record) (st le ro : List ℕ) (call : State → Outcome State) where
  -- a judged call that refuses
  pub does_refused : (p : Paper) → call (state_of su r st le ro) ≡ refused p → Does su r st le ro call p r st le ro
  unfolding says after state_of
  does_refused p q = record { answer = rw q; next = rw q; lists = rw q (leaves_same su.store st le); rows = rw q }

  -- and one that answers
  pub does_done : (vs : List ℕ) (s : State) (st' le' ro' : List ℕ) → call (state_of su r st le ro) ≡ done vs s
      → Leaves su.store st le s.pools st' le' → ro' ≡ relaid ro r.count s.entries
      → Does su r st le ro call (no 0 vs) (record_of s) st' le' ro'
  unfolding says after
  does_done vs s st' le' ro' q l e = record { answer = rw q; next = rw q; lists = rw q l; rows = rw q e }

  module _ (st' le' : List ℕ) (fits : all_rows su.store ≤ length le) where
    store_by : (o : Outcome State) → Leaves su.store st le (after o (state_of su r st le ro) (λ s. s)).pools st' le'
        → st' ≡ after o st (λ s. store_with su.store st s.pools)
    unfolding after state_of
    store_by (refused p) l = same_store su.store st le st' le' fits l
    store_by (done vs s) l = store_laid su.store st le s.pools st' le' l

    lens_by : (o : Outcome State) → Leaves su.store st le (after o (state_of su r st le ro) (λ s. s)).pools st' le'
        → le' ≡ after o le (λ s. lens_with su.store le s.pools)
    unfolding after state_of
    lens_by (refused p) l = same_lens su.store st le st' le' fits l
    lens_by (done vs s) l = lens_laid su.store st le s.pools st' le' l fits

  -- a public call: judged, and then carried out
  pub writes : (p : Paper) (r' : Record) (st' le' ro' : List ℕ) → Sound su r st le ro → Does su r st le ro call p r' st' le' ro'
      → Writes su r st le ro (judging su r st le ro call) p r' st' le' ro'
  writes p r' st' le' ro' s d =
      let f = (bounds (facts s).store).rows_fit in
      rw (judging_fine su r st le ro call s)
      (record {
        answer = d.answer;
        next = d.next;
        store = store_by st' le' f (call (state_of su r st le ro)) d.lists;
        lens = lens_by st' le' f (call (state_of su r st le ro)) d.lists;
        rows = d.rows;
      })

  pub writes_refused : (e : ScheduleRefusal) → Judges su r st le ro (Err e)
      → Writes su r st le ro (judging su r st le ro call) (paper e) r st le ro
  writes_refused e j = refused_writes r.count su r st le ro (judging su r st le ro call) (paper e) (judging_refused su r st le ro call e j)

-- calls that come to the same here promise the same
pub does_as : (su : Setup) (r : Record) (st le ro : List ℕ) (f g : State → Outcome State) (p : Paper) (r' : Record) (st' le' ro' : List ℕ)
    → f (state_of su r st le ro) ≡ g (state_of su r st le ro) → Does su r st le ro f p r' st' le' ro' → Does su r st le ro g p r' st' le' ro'
does_as su r st le ro f g p r' st' le' ro' e d =
    record { answer = rw e at d.answer; next = rw e at d.next; lists = rw e at d.lists; rows = rw e at d.rows }
