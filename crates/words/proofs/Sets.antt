-- Laws of a run of stores, `lib.Seq.sets`, which writers cite; and of a number's bytes among them.
use Prim.Native.Nat.{◌%◌, ◌+◌, ◌-◌, ◌/◌, ◌<◌, ◌≤◌, suc, zero, ℕ}
use Rattle.words.specs.Words.{bytes_of}
use lib.ListN.{length, length-append, set}
use lib.Seq.{set_comm, sets}
use mathlib.Core.List.{List, [], ◌++◌, ◌∷◌}
use mathlib.Core.Logic.{◌⊎◌, inl, inr, ⊎_elim}
use mathlib.Core.Path.{◌∙◌, ◌≡◌, ap, refl, sym}
use native.Mathlib.Nat.{add-suc, add-zero, suc-add}
use native.Mathlib.Omega.{arith}

-- one run after another
pub sets_append : (l : List ℕ) (i : ℕ) (a b : List ℕ) → sets l i (a ++ b) ≡ sets (sets l i a) (i + length a) b
sets_append l i [] b = ap (λ (k : ℕ). sets l k b) (sym (add-zero i))
sets_append l i (x ∷ a) b =
    sets_append (set l i x) (suc i) a b
    ∙ ap (λ (k : ℕ). sets (sets (set l i x) (suc i) a) k b) (suc-add i (length a) ∙ sym (add-suc i (length a)))

-- the same, where the second run's start is known by an equation
pub sets_then : (l : List ℕ) (i j : ℕ) (a b : List ℕ) → j ≡ i + length a → sets (sets l i a) j b ≡ sets l i (a ++ b)
sets_then l i j a b e = ap (λ (k : ℕ). sets (sets l i a) k b) e ∙ sym (sets_append l i a b)

-- a store outside a run
pub set_sets : (l : List ℕ) (i j x : ℕ) (a : List ℕ) → (j < i) ⊎ (i + length a ≤ j) → set (sets l i a) j x ≡ sets (set l j x) i a
set_sets l i j x [] h = refl
set_sets l i j x (y ∷ a) h =
    set_sets (set l i y) (suc i) j x a
    (⊎_elim (λ u. inl (omega arith)) (λ u. inr (omega (arith, add-suc i (length a), suc-add i (length a)))) h)
    ∙ ap (λ (m : List ℕ). sets m (suc i) a)
    (set_comm l i j y x (λ e. ⊎_elim (λ u. omega arith) (λ u. omega (arith, add-suc i (length a))) h))

pub length_bytes : (k v : ℕ) → length (bytes_of k v) ≡ k
unfolding bytes_of
length_bytes zero v = refl
length_bytes (suc k) v =
    length-append (bytes_of k (v / 256)) (v % 256 ∷ []) ∙ ap (λ (n : ℕ). n + 1) (length_bytes k (v / 256)) ∙ add-suc k zero
    ∙ ap suc (add-zero k)

-- the last byte first, then those before it
last_first : (l : List ℕ) (at k v : ℕ) → sets (set l (at + k) (v % 256)) at (bytes_of k (v / 256)) ≡ sets l at (bytes_of (suc k) v)
unfolding bytes_of
last_first l at k v =
    sym (set_sets l at (at + k) (v % 256) (bytes_of k (v / 256)) (inr (omega (arith, length_bytes k (v / 256)))))
    ∙ sets_then l at (at + k) (bytes_of k (v / 256)) (v % 256 ∷ []) (ap (λ (n : ℕ). at + n) (sym (length_bytes k (v / 256))))

-- a turn of the loop that writes a number
pub bytes_turn : (l : List ℕ) (at k v : ℕ) → 0 < k
    → sets (set l (at + (k - 1)) (v % 256)) at (bytes_of (k - 1) (v / 256)) ≡ sets l at (bytes_of k v)
bytes_turn l at k v h = last_first l at (k - 1) v ∙ ap (λ (n : ℕ). sets l at (bytes_of n v)) (omega arith)
