-- Laws of `each`: its length, what stands at a place, and when two of them are the same.
use Prim.Native.Nat.{◌+◌, ◌<◌, ◌≤◌, suc, zero, ℕ}
use lib.ListN.{get_or, length, replicate}
use mathlib.Core.List.{◌∷◌}
use mathlib.Core.Path.{◌∙◌, ◌≡◌, ap, ap₂, refl}
use native.Mathlib.Omega.{arith}
use Rattle.rules.specs.Lists.{each}

pub length_each : {A : Type 0} (f : ℕ → A) (n i : ℕ) → length (each f i n) ≡ n
unfolding each
length_each f zero i = refl
length_each f (suc n) i = ap suc (length_each f n (suc i))

pub each_at : {A : Type 0} (f : ℕ → A) (d : A) (n i k : ℕ) → k < n → get_or (each f i n) k d ≡ f (i + k)
unfolding each
each_at f d zero i k l = absurd (omega arith)
each_at f d (suc n) i zero l = ap f (omega arith)
each_at f d (suc n) i (suc k) l = each_at f d n (suc i) k (omega arith) ∙ ap f (omega arith)

pub each_cong : {A : Type 0} (f g : ℕ → A) (n i : ℕ) → ((t : ℕ) → i ≤ t → t < i + n → f t ≡ g t) → each f i n ≡ each g i n
unfolding each
each_cong f g zero i h = refl
each_cong f g (suc n) i h = rw (h i (omega arith) (omega arith), each_cong f g n (suc i) (λ t a b. h t (omega arith) (omega arith)))

pub each_same : {A : Type 0} (f : ℕ → A) (x : A) (n i : ℕ) → ((t : ℕ) → t < i + n → f t ≡ x) → each f i n ≡ replicate n x
unfolding each
each_same f x zero i h = refl
each_same f x (suc n) i h = ap₂ ◌∷◌ (h i (omega arith)) (each_same f x n (suc i) (λ t l. h t (omega arith)))
