-- Where a subpool's rows and bytes lie, and which setups are good.
use Rattle.std.proofs.Common.{◌≡◌, ℕ, zero, suc, ◌+◌, ◌*◌, ◌<◌, ◌≤◌, Bool, true, refl, ⊎_elim, le_of_suc-le-suc, mul-le-mul, eq-or-lt_of_le, add-one, arith, eq-eqb, le-leb, leb-true}
use Rattle.layout.specs.Judge.{last_size, len_ok, pool_ok, pool_ok_at, setup_ok}
use Rattle.layout.specs.Layout.{bytes_before, rows_before, size_at, slots_at}
use Rattle.layout.specs.Limits.{max_subpools, store_free}
use Rattle.rules.proofs.All.{all_each}
use mathlib.Core.Bool.{or-true}
use Rattle.layout.specs.declared.Setup.{Setup}

pub rows_none : (su : Setup) → rows_before su 0 ≡ 0
unfolding rows_before
rows_none su = refl

pub rows_more : (su : Setup) (k : ℕ) → rows_before su (k + 1) ≡ rows_before su k + slots_at su k
unfolding rows_before
rows_more su k = rw add-one

pub bytes_none : (su : Setup) → bytes_before su 0 ≡ 0
unfolding bytes_before
bytes_none su = refl

pub bytes_more : (su : Setup) (k : ℕ) → bytes_before su (k + 1) ≡ bytes_before su k + slots_at su k * size_at su k
unfolding bytes_before
bytes_more su k = rw add-one

-- the product of two numbers of 16 bits
pub product : (a b : ℕ) → a < 65536 → b < 65536 → a * b ≤ 4294836225
product a b p q = mul-le-mul {n₁ = a} {m₁ = b} {n₂ = 65535} {m₂ = 65535} (omega arith) (omega arith)

-- a subpool's rows, and bytes, end where those of the subpools up to a later one do, or before
pub rows_within : (su : Setup) (k n : ℕ) → k < n → rows_before su k + slots_at su k ≤ rows_before su n
unfolding rows_before
rows_within su k zero l = absurd (omega arith)
rows_within su k (suc n) l =
    ⊎_elim (λ (q : k ≡ n). rw q (omega arith)) (λ (q : k < n). let h = rows_within su k n q in omega arith)
    (eq-or-lt_of_le (le_of_suc-le-suc l))

pub bytes_within : (su : Setup) (k n : ℕ) → k < n → bytes_before su k + slots_at su k * size_at su k ≤ bytes_before su n
unfolding bytes_before
bytes_within su k zero l = absurd (omega arith)
bytes_within su k (suc n) l =
    ⊎_elim (λ (q : k ≡ n). rw q (omega arith)) (λ (q : k < n). let h = bytes_within su k n q in omega arith)
    (eq-or-lt_of_le (le_of_suc-le-suc l))

pub last_none : (su : Setup) → 0 ≡ last_size su 0
unfolding last_size
last_none su = refl

pub last_more : (su : Setup) (k : ℕ) → size_at su k ≡ last_size su (k + 1)
unfolding last_size
last_more su k = rw add-one

-- a length that passes
pub len_free : (size n : ℕ) → n ≡ store_free → len_ok size n ≡ true
len_free size n p = simp (eq-eqb n store_free p)

pub len_small : (size n : ℕ) → n ≤ size → len_ok size n ≡ true
len_small size n p = simp (le-leb n size p, or-true)

-- what a test on copies of a subpool's numbers says of the subpool
pub pool_test : (su : Setup) (k last size slots : ℕ) (r b : Bool) → last ≡ last_size su k → size ≡ size_at su k → slots ≡ slots_at su k
    → r ≡ pool_ok last size slots → r ≡ b → pool_ok_at su k ≡ b
pool_test su k last size slots r b p q s e t = cc

pub setup_few : (su : Setup) → setup_ok su ≡ true → su.pools ≤ max_subpools
unfolding setup_ok
setup_few su q = leb-true _ _ (all_each _ q).1.0
