-- The release tick (document 01, "The release tick and its log"): what is handed out, what it answers and what it leaves.
use Rattle.std.specs.Prelude.{min, ℕ, leb, ltb, length, Bool, not, List, [], ◌∷◌}
use Rattle.release_log.specs.Log.{log_bytes, max_log_bytes}
use Rattle.rules.specs.Papers.{Outcome, done, no, refused}
use Rattle.rules.specs.Tests.{all_of, unless}
use Rattle.schedule.specs.State.{State, with_entries, with_pools}
use Rattle.time.specs.Time.{instant}
use Rattle.turn.specs.Turns.{Handout, always, handout, leave}
use Rattle.turns.specs.Released.{first_total}
use Rattle.turns_laws.specs.Due.{due}
use Rattle.std.proofs.lemmas.List.Edits.{sets}

-- "Of a log, only the first 1,048,576 bytes are used"
abbrev pub usable : List ℕ → ℕ
usable log = min (length log) max_log_bytes

-- the limit is at least 1, something is due, and a log of the first due record alone does not fit
unfoldable pub first_lacks : ℕ → ℕ → State → Bool
first_lacks limit cap s =
    all_of (ltb 0 limit ∷ ltb 0 (due (instant s.clock) s.entries) ∷ ltb cap (first_total s.entries s.pools) ∷ [])

-- what is left: the scheduler, and the log
pub record Logged : Type 0 where
  pub state : State
  pub log : List ℕ

-- the answer: how many were handed out, and how many due entries remain. The log's bytes from its total on stay
unfoldable pub handed_out : List ℕ → State → Handout → Outcome Logged
handed_out log s h =
    done (length h.records ∷ due (instant s.clock) h.left ∷ [])
    (record { state = with_entries h.left (with_pools h.pools s); log = sets log 0 (log_bytes h.records) })

-- By: the limit on records, whether packets are deleted, the log. 20 for a log under 8 bytes, which every log needs, and for one
-- that the first due record does not fit
unfoldable pub tick_in : ℕ → Bool → List ℕ → State → Outcome Logged
tick_in limit delete log s =
    unless (leb 8 (length log)) (refused (no 20 (8 ∷ [])))
    (unless (not (first_lacks limit (usable log) s)) (refused (no 20 (first_total s.entries s.pools ∷ [])))
    (handed_out log s (handout (leave delete) (always s.enabled) (instant s.clock) limit 8 (usable log) s.entries s.pools)))
