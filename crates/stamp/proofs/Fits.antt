-- A stamp that was read lies within the bytes: what follows it is there to be cut out.
use Rattle.std.specs.Prelude.{Option, Some, None}
use Rattle.stamp.specs.declared.Stamp.{Stamp}
use Prim.Native.Nat.{◌+◌, ◌≤◌, ℕ}
use borrow.Author.Tests.{leb-true}
use lib.Dec.{eqb}
use lib.ListN.{get_or, length}
use mathlib.Core.Bool.{Bool, cond, false, true}
use mathlib.Core.List.{List}
use mathlib.Core.Path.{◌≡◌, subst}
use native.Mathlib.Omega.{arith}
use Rattle.rules.proofs.Order.{passed}
use Rattle.time.specs.declared.UnixTime.{UnixTime}
use Rattle.stamp.specs.Stamp.{stamp_at, stamp_of}

not_refused : (x : Stamp) → ◌≡◌ {A = Option Stamp} None (Some x) → ⊥
not_refused x q = let z : ◌≡◌ {A = ℕ} 0 1 = cc in omega arith

same_length : (x y : Stamp) → Some x ≡ Some y → x.len ≡ y.len
same_length x y q = cc

width_fits : (w : ℕ) (s : List ℕ) (x : Stamp) → stamp_at w s ≡ Some x → x.len ≤ length s
unfolding stamp_at
width_fits w s x q =
    let a = passed _ _ _ _ (not_refused x) q in
    let b = passed _ _ _ _ (not_refused x) a.1 in
    subst (λ (k : ℕ). k ≤ length s) (same_length _ x b.1) (leb-true (5 + w) (length s) a.0)

pub stamp_fits : (s : List ℕ) (x : Stamp) → stamp_of s ≡ Some x → x.len ≤ length s
unfolding stamp_of
stamp_fits s x = go (eqb (get_or s 0 0) 0x40) (eqb (get_or s 0 0) 0x44)
  where
    go : (a b : Bool) → cond a (stamp_at 2 s) (cond b (stamp_at 3 s) None) ≡ Some x → x.len ≤ length s
    go true b q = width_fits 2 s x q
    go false true q = width_fits 3 s x q
    go false false q = absurd (not_refused x q)
