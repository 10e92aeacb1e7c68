-- Laws of lists that the proofs cite: a part filled and a part written from the front.
use Prim.Native.Nat.{◌+◌, ◌-◌, ◌<◌, ◌≤◌, suc, zero, ℕ}
use Rattle.slots.specs.Pools.{over}
use Rattle.slots.specs.View.{part, put}
use lib.ListN.{drop, get_or, length, length-append, length-drop, length-take, replicate, set, take, take-append-drop}
use lib.Seq.{drop-append-le, length-take-le, take-length}
use mathlib.Core.List.{List, [], ◌++◌, ◌∷◌, append_assoc}
use mathlib.Core.Path.{◌∙◌, ◌≡◌, ap, refl, sym}
use native.Mathlib.Nat.{add-sub_cancel_left, le_of_suc-le-suc, not-suc-le-zero}
use native.Mathlib.Numerals.{add-one}
use native.Mathlib.Omega.{arith}

front_suc : (n : ℕ) (s d : List ℕ) → n < length s → n < length d → set (take n s ++ drop n d) n (get_or s n 0) ≡ take (suc n) s ++ drop (suc n) d
front_suc n [] d k l = absurd (not-suc-le-zero k)
front_suc n (x ∷ s) [] k l = absurd (not-suc-le-zero l)
front_suc zero (x ∷ s) (y ∷ d) k l = refl
front_suc (suc n) (x ∷ s) (y ∷ d) k l = ap (λ (t : List ℕ). x ∷ t) (front_suc n s d (le_of_suc-le-suc k) (le_of_suc-le-suc l))

pub front_more : (n : ℕ) (s d : List ℕ) → n < length s → n < length d → set (take n s ++ drop n d) n (get_or s n 0) ≡ take (n + 1) s ++ drop (n + 1) d
front_more n s d k l = rw add-one (front_suc n s d k l)

pub front_end : (s d : List ℕ) (n : ℕ) → n ≡ length s → take n s ++ drop n d ≡ over s d
unfolding over
front_end s d n e = rw (e, take-length)

-- what comes back of a part, `&mut s[from..from + size]`, that was lent
pub put_back : (from size : ℕ) (st ys zs : List ℕ) → ys ≡ zs → take from st ++ (ys ++ drop (from + size - from) (drop from st)) ≡ put from size zs st
unfolding put
put_back from size st ys zs e = rw (add-sub_cancel_left, e)

pub part_is : (from size : ℕ) (st : List ℕ) → take (from + size - from) (drop from st) ≡ part from size st
unfolding part
part_is from size st = rw add-sub_cancel_left

pub part_length : (from size : ℕ) (st : List ℕ) → from + size ≤ length st → length (part from size st) ≡ size
unfolding part
part_length from size st l = simp (length-take, length-drop) (omega arith)

pub cut_length : (from size : ℕ) (st : List ℕ) → from + size ≤ length st → length (take (from + size - from) (drop from st)) ≡ size
cut_length from size st l = ap length (part_is from size st) ∙ part_length from size st l

pub filled :
    (v from size : ℕ) (st : List ℕ) → from + size ≤ length st
    → ◌≡◌ {A = List ℕ} (replicate (length (take (from + size - from) (drop from st))) v) (replicate size v)
filled v from size st l = ap (λ (n : ℕ). replicate n v) (cut_length from size st l)

pub written : (from size : ℕ) (st da : List ℕ) → over da (take (from + size - from) (drop from st)) ≡ over da (part from size st)
written from size st da = ap (over da) (part_is from size st)

pub taken_out : (from n m : ℕ) (st : List ℕ) → n ≡ m → take (from + n - from) (drop from st) ≡ part from m st
taken_out from n m st e = part_is from n st ∙ ap (λ (k : ℕ). part from k st) e

-- and of a part from the start, `&mut s[..n]`, that was filled
pub front_filled : (v n m : ℕ) (st ys : List ℕ) → n ≡ m → m ≤ length st → ys ≡ replicate (length (take n st)) v
    → ys ++ drop n st ≡ put 0 m (replicate m v) st
unfolding put
front_filled v n m st ys e l f = rw (f, e, length-take-le m st l)

pub over_length : (da l : List ℕ) → length da ≤ length l → length (over da l) ≡ length l
unfolding over
over_length da l h = simp (length-append, length-drop) (omega arith)

-- a part written at its front only
pub put_over : (from size : ℕ) (ys st : List ℕ) → length ys ≤ size → from + size ≤ length st
    → put from size (over ys (part from size st)) st ≡ put from (length ys) ys st
unfolding put over part
put_over from size ys st h l =
    let n : length (take size (drop from st)) ≡ size = length-take-le size (drop from st) (simp length-drop (omega arith)) in
    ap (λ (x : List ℕ). take from st ++ x)
    (append_assoc ys (drop (length ys) (take size (drop from st))) (drop size (drop from st))
    ∙ ap (λ (x : List ℕ). ys ++ x)
    (sym (drop-append-le (length ys) (take size (drop from st)) (drop size (drop from st)) (omega arith))
    ∙ ap (drop (length ys)) (take-append-drop size (drop from st))))
