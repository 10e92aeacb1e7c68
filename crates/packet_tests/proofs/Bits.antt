-- Version 0, type 1 and secondary header flag 1 are one test on the first two bytes.
use Prim.Native.Nat.{◌%◌, ◌/◌, ℕ}
use Rattle.rules.proofs.All.{all_each, each_all, fails}
use Rattle.rules.specs.Tests.{all_of}
use borrow.Author.Tests.{eq-eqb, eqb-false, eqb-true}
use lib.Dec.{eqb}
use mathlib.Core.Bool.{Bool, false, true}
use mathlib.Core.List.{[], ◌∷◌}
use mathlib.Core.Path.{◌≡◌, refl, sym}
use native.Mathlib.Omega.{arith}

pub bits_are : (x : ℕ) → eqb (x / 2048) 3 ≡ all_of (eqb (x / 8192) 0 ∷ eqb (x / 4096 % 2) 1 ∷ eqb (x / 2048 % 2) 1 ∷ [])
bits_are x = go (eqb (x / 2048) 3) refl
  where
    three : x / 8192 ≡ 0 → x / 4096 % 2 ≡ 1 → x / 2048 % 2 ≡ 1 → x / 2048 ≡ 3
    three v t f = omega arith

    go : (b : Bool) → eqb (x / 2048) 3 ≡ b → b ≡ all_of (eqb (x / 8192) 0 ∷ eqb (x / 4096 % 2) 1 ∷ eqb (x / 2048 % 2) 1 ∷ [])
    go true e =
        let h : x / 2048 ≡ 3 = eqb-true _ _ e in
        let v : x / 8192 ≡ 0 = omega arith in
        let t : x / 4096 % 2 ≡ 1 = omega arith in
        let f : x / 2048 % 2 ≡ 1 = omega arith in
        sym (each_all _ (eq-eqb _ _ v, (eq-eqb _ _ t, (eq-eqb _ _ f, tt))))
    go false e =
        sym
        (fails _
        (λ t. let h = all_each _ t in eqb-false (x / 2048) 3 e
        (three (eqb-true _ _ h.0) (eqb-true _ _ h.1.0) (eqb-true _ _ h.1.1.0))))
