-- A state of the smaller scheduler, what the larger has in its place, and what comes of a part of it.
use Prim.Native.Nat.{ℕ}
use Rattle.record.specs.declared.Record.{Record}
use Rattle.room.proofs.Alike.{Alike, answered_too, answers, refused_too, refuses}
use Rattle.room.specs.Grown.{Fit, grow, grown, shape}
use Rattle.rules.specs.Papers.{Outcome, done, through, refused, says}
use Rattle.schedule.specs.State.{State, with_pools}
use Rattle.scheduler.specs.Steps.{with_record}
use Rattle.slots.specs.Pools.{Pool}
use mathlib.Core.List.{List}
use mathlib.Core.Path.{◌≡◌}

abbrev pub AlikeStates : List ℕ → List ℕ → Outcome State → Outcome State → Type 0
AlikeStates ns ks o o' = Alike (grown ks) (λ vs s. Fit ns s) o o'

module _ (ns ks : List ℕ) (s : State) (fits : Fit ns s) where
  -- other subpools
  pub pools_too : (ok : List ℕ → List Pool → Type 0) → ((vs : List ℕ) (ps : List Pool) → ok vs ps → shape ps ≡ ns)
      → (o o' : Outcome (List Pool)) → Alike (grow ks) ok o o'
      → AlikeStates ns ks (through (λ ps. with_pools ps s) o) (through (λ ps. with_pools ps (grown ks s)) o')
  unfolding through says
  pools_too ok f (refused p) o' a = record { same = λ h. rw (refused_too _ _ p o' a h); left = tt }
  pools_too ok f (done vs ps) o' a =
      rw (answered_too _ _ vs ps o' a) (answers _ _ vs (with_pools ps s) (record { shaped = f vs ps a.left; named = fits.named }))

  -- another record
  pub record_too : (o : Outcome Record) → AlikeStates ns ks (through (with_record s) o) (through (with_record (grown ks s)) o)
  unfolding through
  record_too (refused p) = refuses _ _ p
  record_too (done vs r) = answers _ _ vs (with_record s r) (record { shaped = fits.shaped; named = fits.named })
