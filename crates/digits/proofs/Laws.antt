-- One step of reading a number: a digit more, none next, and none left.
use Rattle.std.proofs.Common.{◌≡◌, ℕ, ◌+◌, ◌-◌, ◌*◌, ◌<◌, ◌≤◌, ◌⊎◌, List, add-one, arith, drop, get_or, length, min, ⊎_elim}
use Rattle.std.proofs.Math.ListN.{drop_of_length-le}
use Rattle.std.proofs.Math.Seq.{drop-cons}
use Rattle.std.proofs.lemmas.Bool.{cases_lt}
use Rattle.digits.specs.Digits.{digits, held, is_digit}
use borrow.Author.Tests.{le-ltb, lt-ltb}

-- what the library's two saturating steps come to
pub held_is : (v d : ℕ) → min (min (v * 10) 18446744073709551615 + d) 18446744073709551615 ≡ held (v * 10 + d)
unfolding held
held_is v d =
    ⊎_elim (λ (h : 18446744073709551615 < v * 10 + d). simp (lt-ltb _ _ h) (omega arith))
    (λ (h : v * 10 + d ≤ 18446744073709551615). simp (le-ltb _ _ h) (omega arith))
    (cases_lt 18446744073709551615 (v * 10 + d))

pub digits_more : (s : List ℕ) (v w i : ℕ) → i < length s → 48 ≤ get_or s i 0 → get_or s i 0 ≤ 57 → w ≡ held (v * 10 + (get_or s i 0 - 48))
    → digits w (drop (i + 1) s) ≡ digits v (drop i s)
unfolding digits is_digit
digits_more s v w i h f g e =
    let g' : get_or s i 0 < 58 = omega arith in
    rw (add-one, e, drop-cons s i 0 h, le-ltb _ _ f, lt-ltb _ _ g')

pub digits_stop : (s : List ℕ) (v i : ℕ) → i < length s → (get_or s i 0 < 48) ⊎ (57 < get_or s i 0) → digits v (drop i s) ≡ v
unfolding digits is_digit
digits_stop s v i h d =
    ⊎_elim (λ (l : get_or s i 0 < 48). rw (drop-cons s i 0 h, lt-ltb _ _ l))
    (λ (g : 57 < get_or s i 0). let f : 48 ≤ get_or s i 0 = omega arith in rw (drop-cons s i 0 h, le-ltb _ _ f, le-ltb _ _ g)) d

pub digits_end : (s : List ℕ) (v i : ℕ) → length s ≤ i → digits v (drop i s) ≡ v
unfolding digits
digits_end s v i h = rw (drop_of_length-le s h)
