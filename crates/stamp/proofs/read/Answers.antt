-- `stamp::read` meets its contract: the first byte picks the width, and each width cites `read_width`.
use Rattle.std.specs.Prelude.{None}
use Prim.Native.Nat.{suc, ℕ}
use Rattle.stamp.specs.Stamp.{stamp_of}
use borrow.Author.Tests.{eq-eqb, ne_eqb}
use lib.ListN.{length}
use mathlib.Core.List.{List, [], ◌∷◌}
use mathlib.Core.Path.{◌≡◌, refl}
use native.Mathlib.Omega.{arith}
use Rattle.stamp.proofs.read.Goals as goal

empty : (s : List ℕ) → length s ≡ 0 → None ≡ stamp_of s
unfolding stamp_of
empty [] h = refl
empty (x ∷ s) h = absurd (not_zero h)
  where
    not_zero : suc (length s) ≡ 0 → ⊥
    not_zero h = omega arith

pub returns-then-bytes-eq0 : goal.returns-then-bytes-eq0
returns-then-bytes-eq0 c = record { same = empty c.args.bytes.now c.if-bytes-eq0.true; timely = tt }

pub returns-then-form-eq64 : goal.returns-then-form-eq64
unfolding stamp_of
returns-then-form-eq64 c = record { same = simp (eq-eqb _ _ c.if-form-eq64.true) c.read_width.ensures.same; timely = c.read_width.ensures.timely }

pub returns-then-form-eq68 : goal.returns-then-form-eq68
unfolding stamp_of
returns-then-form-eq68 c =
    record {
      same = simp (ne_eqb _ _ c.if-form-eq64.false, eq-eqb _ _ c.if-form-eq68.true) c.read_width-then-form-eq68.ensures.same;
      timely = c.read_width-then-form-eq68.ensures.timely;
    }

pub returns : goal.returns
unfolding stamp_of
returns c = record { same = simp (ne_eqb _ _ c.if-form-eq64.false, ne_eqb _ _ c.if-form-eq68.false); timely = tt }
