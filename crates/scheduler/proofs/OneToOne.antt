-- `paper` is one-to-one: number and values tell every refusal of the schedule, and every answer of its calls, apart.
use Rattle.std.specs.Prelude.{Err}
use Rattle.rules.proofs.Back.{answer_of}
use Prim.Native.Nat.{ℕ}
use Rattle.deletions.specs.Answers.{cleared_paper}
use Rattle.by_id.specs.Answers.{freed_paper, taken_paper}
use Rattle.rules.specs.Papers.{Paper}
use Rattle.tick.specs.Promise.{tick_paper}
use Rattle.windows.specs.Answers.{retrieved_paper}
use Rattle.storing.specs.Answers.{inserted_paper}
use Rattle.record.specs.Refusals.{done_paper, paper}
use Rattle.record.specs.declared.ScheduleRefusal.{ScheduleRefusal}
use Rattle.counting.specs.Answers.{counted_paper}
use Rattle.scheduler.proofs.Back.{back, cleared_back, cleared_of, counted_back, counted_of, done_back, done_of, freed_back, freed_of, inserted_back, inserted_of, retrieved_back, retrieved_of, taken_back, taken_of, there_and_back, ticked_back, ticked_of}
use Rattle.scheduler.specs.OneOutcome.{OneToOne}
use Rattle.scheduler.specs.Words.{CarriesWords, Words}
use mathlib.Core.List.{List}
use mathlib.Core.Path.{◌∙◌, ◌≡◌, ap, sym}

pub one_refusal : (e d : ScheduleRefusal) → Words e → Words d → paper e ≡ paper d → e ≡ d
one_refusal e d w v q = sym (there_and_back e w) ∙ ap back q ∙ there_and_back d v

one_by : {A : Type 0} (told : A → Paper) (refusal : ScheduleRefusal → A) (answer : List ℕ → A)
    → ((a : A) → CarriesWords refusal a → answer_of back answer refusal (told a) ≡ a) → OneToOne told refusal
one_by told refusal answer h a b w v q = sym (h a w) ∙ ap (answer_of back answer refusal) q ∙ h b v

-- judging, a stored insertion, a fresh start, enable, disable, setting the clock
pub one_done : OneToOne done_paper Err
one_done = one_by done_paper Err done_of done_back

pub one_counted : OneToOne counted_paper Err
one_counted = one_by counted_paper Err counted_of counted_back

pub one_retrieved : OneToOne retrieved_paper Err
one_retrieved = one_by retrieved_paper Err retrieved_of retrieved_back

pub one_inserted : OneToOne inserted_paper Err
one_inserted = one_by inserted_paper Err inserted_of inserted_back

-- window deletion and `reset`
pub one_cleared : OneToOne cleared_paper Err
one_cleared = one_by cleared_paper Err cleared_of cleared_back

-- the deletions by request ID
pub one_taken : OneToOne taken_paper Err
one_taken = one_by taken_paper Err taken_of taken_back

pub one_freed : OneToOne freed_paper Err
one_freed = one_by freed_paper Err freed_of freed_back

pub one_ticked : OneToOne tick_paper Err
one_ticked = one_by tick_paper Err ticked_of ticked_back
