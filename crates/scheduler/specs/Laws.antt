-- What the laws say: demand 1, of steps; of record and lent lists, that they are as they were, and that a call did what the step of its
-- request says; and repeated ticks as requests.
use Rattle.std.specs.Prelude.{◌≤◌, ℕ, leb, drop, take, Bool, not, true, List, [], ◌∷◌, ◌≡◌}
use Rattle.handing.specs.Handing.{after_all}
use Rattle.record.specs.declared.Record.{Record}
use Rattle.rows.specs.Entries.{Entry, time}
use Rattle.rules.specs.Papers.{Outcome, Paper, done, refused}
use Rattle.schedule.specs.Judge.{Sound}
use Rattle.schedule.specs.State.{State, state_of, with_entries, with_pools}
use Rattle.schedule.specs.declared.Setup.{Setup}
use Rattle.scheduler.specs.Steps.{Answer, Request, Stepped, buffer_of, step, tick}
use Rattle.selection.specs.Windows.{filter}
use Rattle.tick.specs.Tick.{usable}
use Rattle.time.specs.Time.{instant}
use Rattle.turn.specs.Turns.{leave}
use Rattle.turns_laws.specs.Draining.{room_for}

-- Demand 1, of an answer to a call that was lent a buffer and found what was there: its number is 0 or one of the table's, 1 to 20; and where
-- it is a refusal, what is left is what was there, and the buffer is as it was lent
pub record AnsweredOrRefused {A : Type 0} (lent : List ℕ) (x : Answer) (there left : A) : Type 0 where
  pub in_table : x.paper.number ≤ 20
  pub kept : (x.paper.number ≡ 0 → ⊥) → (left ≡ there) × (x.buffer ≡ lent)

-- Demand 1 over steps: every setup, request and state
unfoldable pub EveryStepAnswers : Type 0
EveryStepAnswers =
    (su : Setup) (q : Request) (s : State) → AnsweredOrRefused (buffer_of q) (step su q s).answer s (step su q s).state

-- the numbers that a call gives of its own, beside 1 to 3 that are judged first
abbrev pub Own : {A : Type 0} → Outcome A → Type 0
Own (refused p) = (4 ≤ p.number) × (p.number ≤ 20)
Own (done vs x) = Unit {0}

-- x is what a request that lends a buffer made of s; and none of 1 to 3 where what is judged first was fine
pub record Told (fine : Bool) (lent : List ℕ) (s : State) (x : Stepped) : Type 0 where
  pub demand : AnsweredOrRefused lent x.answer s x.state
  pub undamaged : fine ≡ true → (n : ℕ) → 1 ≤ n → n ≤ 3 → x.answer.paper.number ≡ n → ⊥

-- record, store, length table and rows, the second of each pair as the first
pub record Same (r r' : Record) (st st' le le' ro ro' : List ℕ) : Type 0 where
  pub record_is : r' ≡ r
  pub store_is : st' ≡ st
  pub lens_is : le' ≡ le
  pub rows_is : ro' ≡ ro

-- the scheduler is sound again; answer and state are those of the step
pub record StepsAs (su : Setup) (r : Record) (st le ro : List ℕ) (q : Request) (p : Paper) (r' : Record) (st' le' ro' : List ℕ) : Type 0 where
  pub sound : Sound su r' st' le' ro'
  pub answer : p ≡ (step su q (state_of su r st le ro)).answer.paper
  pub state : state_of su r' st' le' ro' ≡ (step su q (state_of su r st le ro)).state

-- a tick for each log that is lent
abbrev pub ticks : ℕ → Bool → List (List ℕ) → List Request
ticks k del [] = []
ticks k del (log ∷ logs) = tick k del log ∷ ticks k del logs

-- the first m entries have had their turns: the others are left, and the store as those turns leave it
abbrev pub after_first : ℕ → Bool → State → State
after_first m del s = with_entries (drop m s.entries) (with_pools (after_all (leave del) (take m s.entries) s.pools) s)

-- at or before the clock's instant; the entries that are so, and those that are not, wherever they stand, in their order
abbrev pub is_due : ℕ → Entry → Bool
is_due ck e = leb (time e) ck

abbrev pub due_ones : ℕ → List Entry → List Entry
due_ones ck es = filter (is_due ck) es

abbrev pub not_due : ℕ → List Entry → List Entry
not_due ck es = filter (λ e. not (is_due ck e)) es

-- all due entries have had their turns, and no other
abbrev pub after_due : Bool → State → State
after_due del s =
    with_entries (not_due (instant s.clock) s.entries)
    (with_pools (after_all (leave del) (due_ones (instant s.clock) s.entries) s.pools) s)

-- the used part of each has room for k records with packets of `big` bytes
abbrev pub AllAmple : ℕ → ℕ → List (List ℕ) → Type 0
AllAmple k big [] = Unit {0}
AllAmple k big (log ∷ logs) = (room_for k big ≤ usable log) × AllAmple k big logs

-- none is a refusal
abbrev pub AllDone : List Answer → Type 0
AllDone [] = Unit {0}
AllDone (a ∷ rest) = (a.paper.number ≡ 0) × AllDone rest
