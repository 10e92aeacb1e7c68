-- The entries that fit do fit: how many they are, and what their log takes.
use Rattle.rules.proofs.Cases.{either}
use Prim.Native.Nat.{◌+◌, ◌≤◌, suc, ℕ}
use Rattle.release_log.proofs.Sizes.{taken}
use Rattle.measure.specs.Fitting.{fitting}
use Rattle.slots.specs.Pools.{Pool, find}
use Rattle.rows.specs.Entries.{Entry}
use Rattle.turn.specs.Turns.{need}
use Rattle.handing.specs.Handing.{turns}
use borrow.Author.Tests.{leb-true}
use lib.ListN.{length, take}
use mathlib.Core.Bool.{Bool}
use mathlib.Core.List.{List, [], ◌∷◌}
use native.Mathlib.Omega.{arith}

module _ (after : List Pool → ℕ → List Pool) (cap : ℕ) where
  pub fitting_le : (used : ℕ) (es : List Entry) (ps : List Pool) → fitting after used cap es ps ≤ length es
  unfolding fitting
  fitting_le used [] ps = omega arith
  fitting_le used (e ∷ es) ps =
      let h = fitting_le (used + need (find ps e.addr)) es (after ps e.addr) in
      either (λ (n : ℕ). n ≤ suc (length es)) _ _ _ (λ q. omega arith) (λ q. omega arith)

  pub fitting_holds : (on : Entry → Bool) (used : ℕ) (es : List Entry) (ps : List Pool) → used ≤ cap
      → used + taken (turns after on (take (fitting after used cap es ps) es) ps) ≤ cap
  unfolding fitting turns taken
  fitting_holds on used [] ps h = omega arith
  fitting_holds on used (e ∷ es) ps h =
      either (λ (m : ℕ). used + taken (turns after on (take m (e ∷ es)) ps) ≤ cap) _ _ _
      (λ q. omega (arith, fitting_holds on (used + need (find ps e.addr)) es (after ps e.addr) (leb-true _ _ q)))
      (λ q. omega arith)
