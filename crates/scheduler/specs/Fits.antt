-- States that a sound scheduler can be in: what refusals 1 to 3 ask of setup, record and tables, said of a state.
use Rattle.std.specs.Prelude.{◌<◌, ◌≤◌, ℕ, get_or, length, true, List, [], ◌∷◌, ◌≡◌}
use Rattle.rules.specs.Papers.{Outcome, done, refused}
use Rattle.schedule.specs.State.{State}
use Rattle.schedule.specs.declared.Setup.{Setup}
use Rattle.scheduler.specs.Steps.{Request, insert_wrapped}
use Rattle.rows.specs.Order.{ordered}
use Rattle.store_laws.specs.Fits.{PoolsFit}
use Rattle.time.specs.Time.{in_range, margin_in_range}

-- the subpools are the setup's; entries in time order and in range, no more than the capacity; clock and margin in range
pub record Fits (su : Setup) (s : State) : Type 0 where
  pub pools : PoolsFit su.store 0 s.pools
  pub kept : ordered s.entries ≡ true
  pub few : length s.entries ≤ su.entries
  pub clock : in_range s.clock ≡ true
  pub margin : margin_in_range s.margin ≡ true

-- a refusal, or a state that fits
abbrev pub Gives : Setup → Outcome State → Type 0
Gives su (refused p) = Unit {0}
Gives su (done vs s) = Fits su s

-- Bytes, as every lent slice of bytes has by its type. The stamp of a wrapped insertion is in range because its day is one of bytes.
abbrev pub Bytes : List ℕ → Type 0
Bytes s = (i : ℕ) → get_or s i 0 < 256

abbrev pub OfBytes : Request → Type 0
OfBytes q = (p : List ℕ) → q ≡ insert_wrapped p → Bytes p

abbrev pub AllOfBytes : List Request → Type 0
AllOfBytes [] = Unit {0}
AllOfBytes (q ∷ qs) = OfBytes q × AllOfBytes qs
