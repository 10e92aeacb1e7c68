-- What the laws of one outcome say: number and values tell the answers of a call apart, and a promise allows one answer and one content of
-- all that is lent.
use Rattle.std.specs.Prelude.{ℕ, List, ◌≡◌}
use Rattle.record.specs.declared.Record.{Record}
use Rattle.record.specs.declared.ScheduleRefusal.{ScheduleRefusal}
use Rattle.rules.specs.Papers.{Outcome, Paper, says}
use Rattle.schedule.specs.Promise.{WritesOver}
use Rattle.schedule.specs.State.{State}
use Rattle.schedule.specs.declared.Setup.{Setup}
use Rattle.scheduler.specs.Laws.{Same}
use Rattle.scheduler.specs.Words.{CarriesWords}

-- two answers of one number and values are equal, where the refusals in them carry words
abbrev pub OneToOne : {A : Type 0} → (A → Paper) → (ScheduleRefusal → A) → Type 0
OneToOne {A} told refusal = (a b : A) → CarriesWords refusal a → CarriesWords refusal b → told a ≡ told b → a ≡ b

-- a call that writes, by the answers themselves, whose refusals carry words; k rows held entries
abbrev pub OneAnswer : {A : Type 0} → (A → Paper) → (ScheduleRefusal → A) → Type 0
OneAnswer {A} told refusal =
    (su : Setup) (r : Record) (st le ro : List ℕ) (k : ℕ) (o : Outcome State) (r₁ r₂ : Record) (st₁ le₁ ro₁ st₂ le₂ ro₂ : List ℕ)
    (a b : A) → CarriesWords refusal a → CarriesWords refusal b → WritesOver k su r st le ro o (told a) r₁ st₁ le₁ ro₁
    → WritesOver k su r st le ro o (told b) r₂ st₂ le₂ ro₂ → (a ≡ b) × Same r₂ r₁ st₂ st₁ le₂ le₁ ro₂ ro₁

-- a call that only looks
abbrev pub OneSaid : {A B : Type 0} → Outcome A → (B → Paper) → (ScheduleRefusal → B) → Type 0
OneSaid {A} {B} o told refusal = (a b : B) → CarriesWords refusal a → CarriesWords refusal b → told a ≡ says o → told b ≡ says o → a ≡ b
