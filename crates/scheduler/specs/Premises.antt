-- What meets the premises of the laws over sequences: they ask no more than their words say.
use Rattle.std.specs.Prelude.{◌<◌, ◌≤◌, ℕ, length, List, [], ◌∷◌, ◌≡◌}
use Rattle.release_log.specs.Log.{max_log_bytes}
use Rattle.scheduler.specs.Fits.{AllOfBytes, Bytes, OfBytes}
use Rattle.scheduler.specs.Laws.{AllAmple}
use Rattle.scheduler.specs.Steps.{Request, insert_wrapped}
use Rattle.turns_laws.specs.Draining.{room_for}

-- numbers below 256 are bytes; a wrapped insertion of bytes is of bytes, and so is every other request
pub record BytesAre : Type 0 where
  pub no_byte : Bytes []
  pub one_more : (x : ℕ) (s : List ℕ) → x < 256 → Bytes s → Bytes (x ∷ s)
  pub wrapped : (p : List ℕ) → Bytes p → OfBytes (insert_wrapped p)
  pub others : (q : Request) → ((p : List ℕ) → q ≡ insert_wrapped p → ⊥) → OfBytes q
  pub no_request : AllOfBytes []
  pub more_requests : (q : Request) (qs : List Request) → OfBytes q → AllOfBytes qs → AllOfBytes (q ∷ qs)

-- any logs are ample that have the room, where it is no more than the used part of a log
pub record AmpleIfLong (k big : ℕ) : Type 0 where
  pub no_log : AllAmple k big []
  pub one_more : (log : List ℕ) (logs : List (List ℕ)) → room_for k big ≤ length log → room_for k big ≤ max_log_bytes → AllAmple k big logs
      → AllAmple k big (log ∷ logs)
