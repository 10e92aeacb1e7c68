-- What the calls promise: public calls by equations for the record and the lent lists, judged calls by what these stand for.
use Rattle.std.specs.Prelude.{ℕ, List, ◌≡◌}
use Rattle.record.specs.declared.Record.{Record}
use Rattle.rules.specs.Papers.{Outcome, Paper, after, says}
use Rattle.slots.specs.View.{Leaves, lens_with, store_with}
use Rattle.rows.specs.Entries.{relaid}
use Rattle.schedule.specs.State.{State, record_of, state_of}
use Rattle.schedule.specs.declared.Setup.{Setup}

-- What a public call that writes promises: its answer, and record, store, length table and rows over those it was given, of which the
-- first k held entries.
pub record WritesOver (k : ℕ) (su : Setup) (r : Record) (st le ro : List ℕ) (o : Outcome State) (p : Paper) (r' : Record)
    (st' le' ro' : List ℕ) : Type 0 where
  pub answer : p ≡ says o
  pub next : r' ≡ after o r record_of
  pub store : st' ≡ after o st (λ s. store_with su.store st s.pools)
  pub lens : le' ≡ after o le (λ s. lens_with su.store le s.pools)
  pub rows : ro' ≡ after o ro (λ s. relaid ro k s.entries)

-- as many as the record counts
abbrev pub Writes : Setup → Record → List ℕ → List ℕ → List ℕ → Outcome State → Paper → Record → List ℕ → List ℕ → List ℕ → Type 0
Writes su r = WritesOver r.count su r

-- What a judged call promises its caller, who has judged: the same outcome, and what the lists stand for.
pub record Does (su : Setup) (r : Record) (st le ro : List ℕ) (call : State → Outcome State) (p : Paper) (r' : Record)
    (st' le' ro' : List ℕ) : Type 0 where
  pub answer : p ≡ says (call (state_of su r st le ro))
  pub next : r' ≡ after (call (state_of su r st le ro)) r record_of
  pub lists : Leaves su.store st le (after (call (state_of su r st le ro)) (state_of su r st le ro) (λ s. s)).pools st' le'
  pub rows : ro' ≡ after (call (state_of su r st le ro)) ro (λ s. relaid ro r.count s.entries)
