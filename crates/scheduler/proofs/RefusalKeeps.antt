-- A refusal, an answer whose number is above 0, changes no lent byte and no record.
use Prim.Native.Nat.{ℕ}
use Rattle.record.specs.declared.Record.{Record}
use Rattle.rules.proofs.Order.{refusal_keeps}
use Rattle.rules.specs.Papers.{Outcome, Paper, says}
use Rattle.schedule.proofs.Promises.{writes}
use Rattle.schedule.specs.Judge.{Sound, judging}
use Rattle.schedule.specs.Promise.{Does, WritesOver}
use Rattle.schedule.specs.State.{State, record_of}
use Rattle.schedule.specs.declared.Setup.{Setup}
use Rattle.scheduler.specs.Laws.{Same}
use Rattle.slots.specs.View.{lens_with, store_with}
use Rattle.rows.specs.Entries.{relaid}
use mathlib.Core.List.{List}
use mathlib.Core.Path.{◌∙◌, ◌≡◌, ap}

module _ (su : Setup) (r : Record) (st le ro : List ℕ) (p : Paper) (r' : Record) (st' le' ro' : List ℕ) (above : p.number ≡ 0 → ⊥) where
  -- every public call that writes, the fresh start too, whatever its outcome is
  pub call_keeps : {k : ℕ} (o : Outcome State) → WritesOver k su r st le ro o p r' st' le' ro' → Same r r' st st' le le' ro ro'
  call_keeps {k} o w =
      let m : (says o).number ≡ 0 → ⊥ = λ e. above (ap (λ (x : Paper). x.number) w.answer ∙ e) in
      record {
        record_is = w.next ∙ refusal_keeps o r record_of m;
        store_is = w.store ∙ refusal_keeps o st (λ s. store_with su.store st s.pools) m;
        lens_is = w.lens ∙ refusal_keeps o le (λ s. lens_with su.store le s.pools) m;
        rows_is = w.rows ∙ refusal_keeps o ro (λ s. relaid ro k s.entries) m;
      }

  -- judged calls
  pub judged_keeps : (call : State → Outcome State) → Sound su r st le ro → Does su r st le ro call p r' st' le' ro' → Same r r' st st' le le' ro ro'
  judged_keeps call s d = call_keeps (judging su r st le ro call) (writes su r st le ro call p r' st' le' ro' s d)
