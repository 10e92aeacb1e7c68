-- A promise allows one outcome only: one answer, one record, and one content of every lent list.
use Rattle.std.specs.Prelude.{Result, Ok, Err}
use Prim.Native.Nat.{ℕ}
use Rattle.deletions.specs.Answers.{cleared_paper}
use Rattle.by_id.specs.Answers.{freed_paper, taken_paper}
use Rattle.record.specs.declared.ScheduleRefusal.{ScheduleRefusal}
use Rattle.windows.specs.Answers.{retrieved_paper}
use Rattle.storing.specs.Answers.{inserted_paper}
use Rattle.record.proofs.Numbers.{has_number}
use Rattle.record.specs.Record.{changed_paper, record_after}
use Rattle.record.specs.Refusals.{done_paper, paper}
use Rattle.record.specs.declared.Record.{Record}
use Rattle.rules.specs.Papers.{Outcome, Paper, after, says}
use Rattle.schedule.proofs.Promises.{writes}
use Rattle.counting.specs.Answers.{counted_paper}
use Rattle.schedule.specs.Judge.{Sound, judging}
use Rattle.schedule.specs.Promise.{Does, WritesOver}
use Rattle.schedule.specs.State.{State}
use Rattle.schedule.specs.declared.Setup.{Setup}
use Rattle.scheduler.proofs.OneToOne.{one_cleared, one_counted, one_done, one_freed, one_inserted, one_refusal, one_retrieved, one_taken}
use Rattle.scheduler.specs.Laws.{Same}
use Rattle.scheduler.specs.OneOutcome.{OneAnswer, OneSaid, OneToOne}
use Rattle.scheduler.specs.Words.{CarriesWords}
use mathlib.Core.List.{List}
use mathlib.Core.Path.{◌∙◌, ◌≡◌, ap, refl, sym}

-- by numbers and values
module _ (su : Setup) (r : Record) (st le ro : List ℕ) (p q : Paper) (r₁ r₂ : Record) (st₁ le₁ ro₁ st₂ le₂ ro₂ : List ℕ) where
  -- every public call that writes, the fresh start too
  pub one_outcome : {k : ℕ} (o : Outcome State) → WritesOver k su r st le ro o p r₁ st₁ le₁ ro₁
      → WritesOver k su r st le ro o q r₂ st₂ le₂ ro₂
      → (p ≡ q) × Same r₂ r₁ st₂ st₁ le₂ le₁ ro₂ ro₁
  one_outcome o w v = (
    w.answer ∙ sym v.answer,
    record {
      record_is = w.next ∙ sym v.next;
      store_is = w.store ∙ sym v.store;
      lens_is = w.lens ∙ sym v.lens;
      rows_is = w.rows ∙ sym v.rows;
    },
  )

  -- judged calls, by what the lists stand for
  pub one_judged : (call : State → Outcome State) → Sound su r st le ro → Does su r st le ro call p r₁ st₁ le₁ ro₁
      → Does su r st le ro call q r₂ st₂ le₂ ro₂ → (p ≡ q) × Same r₂ r₁ st₂ st₁ le₂ le₁ ro₂ ro₁
  one_judged call s d e =
      one_outcome (judging su r st le ro call) (writes su r st le ro call p r₁ st₁ le₁ ro₁ s d) (writes su r st le ro call q r₂ st₂ le₂ ro₂ s e)

-- and by the answers themselves
by_answer : {A : Type 0} (told : A → Paper) (refusal : ScheduleRefusal → A) → OneToOne told refusal → OneAnswer told refusal
by_answer told refusal one su r st le ro k o r₁ r₂ st₁ le₁ ro₁ st₂ le₂ ro₂ a b i j w v =
    let e = one_outcome su r st le ro (told a) (told b) r₁ r₂ st₁ le₁ ro₁ st₂ le₂ ro₂ o w v in (one a b i j e.0, e.1)

-- a stored insertion, and the fresh start
pub one_stored : OneAnswer done_paper Err
one_stored = by_answer done_paper Err one_done

-- the other insertions
pub one_insert : OneAnswer inserted_paper Err
one_insert = by_answer inserted_paper Err one_inserted

-- window deletion and `reset`
pub one_clear : OneAnswer cleared_paper Err
one_clear = by_answer cleared_paper Err one_cleared

-- the deletions by request ID
pub one_take : OneAnswer taken_paper Err
one_take = by_answer taken_paper Err one_taken

pub one_free : OneAnswer freed_paper Err
one_free = by_answer freed_paper Err one_freed

-- the calls that only look: count, retrieval, judging
module _ {A : Type 0} (o : Outcome A) where
  pub one_count : OneSaid o counted_paper Err
  one_count a b i j w v = one_counted a b i j (w ∙ sym v)

  pub one_retrieval : OneSaid o retrieved_paper Err
  one_retrieval a b i j w v = one_retrieved a b i j (w ∙ sym v)

  pub one_judge : OneSaid o done_paper Err
  one_judge a b i j w v = one_done a b i j (w ∙ sym v)

-- setting the clock, enable, disable, in place
pub one_change : (o : Outcome Record) (r r₁ r₂ : Record) (a b : Result (Unit {0}) ScheduleRefusal) → CarriesWords Err a → CarriesWords Err b
    → done_paper a ≡ says o → r₁ ≡ after o r (λ x. x) → done_paper b ≡ says o → r₂ ≡ after o r (λ x. x) → (a ≡ b) × (r₁ ≡ r₂)
one_change o r r₁ r₂ a b i j w m v n = (one_done a b i j (w ∙ sym v), m ∙ sym n)

-- and by value: the answer hands the next record out, and a refusal keeps the one that was given
pub one_change_by_value : (o : Outcome Record) (r : Record) (a b : Result Record ScheduleRefusal) → CarriesWords Err a → CarriesWords Err b
    → changed_paper a ≡ says o → record_after r a ≡ after o r (λ x. x) → changed_paper b ≡ says o → record_after r b ≡ after o r (λ x. x) → a ≡ b
unfolding changed_paper record_after
one_change_by_value o r (Ok x) (Ok y) i j w m v n = ap Ok (m ∙ sym n)
one_change_by_value o r (Err e) (Err d) i j w m v n = ap Err (one_refusal e d (i e refl) (j d refl) (w ∙ sym v))
one_change_by_value o r (Ok x) (Err d) i j w m v n = absurd (has_number d (ap (λ (p : Paper). p.number) (v ∙ sym w)))
one_change_by_value o r (Err e) (Ok y) i j w m v n = absurd (has_number e (ap (λ (p : Paper). p.number) (w ∙ sym v)))
