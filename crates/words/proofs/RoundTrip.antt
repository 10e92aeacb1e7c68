-- Reading what was written gives the number back: at every width, wherever it was written.
use Prim.Native.Nat.{◌%◌, ◌*◌, ◌+◌, ◌/◌, ◌<◌, ◌^◌, ◌≤◌, suc, zero, ℕ}
use Rattle.words.proofs.Sets.{length_bytes}
use Rattle.words.specs.Words.{bytes_of, number}
use lib.ListN.{get_or-append, get_or, length, take}
use lib.Seq.{get_or-append-add, get_or_at, length-take-le, sets, sets-eq}
use mathlib.Core.List.{List, [], ◌++◌, ◌∷◌, append_assoc}
use mathlib.Core.Path.{◌∙◌, ◌≡◌, ap, ap₂, refl, sym}
use native.Mathlib.Nat.{div-add-mod', pow-suc, zero-add}
use native.Mathlib.Omega.{arith}

-- lists that agree at k places give one number
number_same : (k at bt : ℕ) (s t : List ℕ) → ((j : ℕ) → j < k → get_or s (at + j) 0 ≡ get_or t (bt + j) 0) → number k at s ≡ number k bt t
unfolding number
number_same zero at bt s t h = refl
number_same (suc k) at bt s t h =
    ap₂ (λ (x y : ℕ). x * 256 + y) (number_same k at bt s t (λ j l. h j (omega arith))) (h k (omega arith))

-- a number's bytes, read from their start
number_bytes : (k v : ℕ) → v < 256 ^ k → number k 0 (bytes_of k v) ≡ v
unfolding number bytes_of
number_bytes zero v h = omega arith
number_bytes (suc k) v h =
    ap₂ (λ (x y : ℕ). x * 256 + y) (front ∙ number_bytes k (v / 256) (bound (pow-suc 256 k))) last ∙ div-add-mod' v 256
  where
    bound : 256 ^ suc k ≡ 256 ^ k * 256 → v / 256 < 256 ^ k
    bound e = omega arith

    front : number k 0 (bytes_of k (v / 256) ++ (v % 256 ∷ [])) ≡ number k 0 (bytes_of k (v / 256))
    front =
        number_same k 0 0 (bytes_of k (v / 256) ++ (v % 256 ∷ [])) (bytes_of k (v / 256))
        (λ j l. get_or-append (bytes_of k (v / 256)) (v % 256 ∷ []) 0 (0 + j) (omega (arith, length_bytes k (v / 256))))

    last : get_or (bytes_of k (v / 256) ++ (v % 256 ∷ [])) (0 + k) 0 ≡ v % 256
    last = get_or_at (bytes_of k (v / 256)) (v % 256) [] 0 (0 + k) (length_bytes k (v / 256) ∙ sym (zero-add k))

-- a number, read where its bytes stand
pub number_at : (p q : List ℕ) (at k v : ℕ) → length p ≡ at → v < 256 ^ k → number k at (p ++ (bytes_of k v ++ q)) ≡ v
number_at p q at k v e h =
    number_same k at 0 (p ++ (bytes_of k v ++ q)) (bytes_of k v) (λ j m. byte j m) ∙ number_bytes k v h
  where
    byte : (j : ℕ) → j < k → get_or (p ++ (bytes_of k v ++ q)) (at + j) 0 ≡ get_or (bytes_of k v) (0 + j) 0
    byte j m =
        ap (λ (n : ℕ). get_or (p ++ (bytes_of k v ++ q)) (n + j) 0) (sym e) ∙ get_or-append-add p (bytes_of k v ++ q) j 0
        ∙ get_or-append (bytes_of k v) q 0 j (omega (arith, length_bytes k v))
        ∙ ap (λ (n : ℕ). get_or (bytes_of k v) n 0) (sym (zero-add j))

pub read_back : (l : List ℕ) (at k v : ℕ) → at + k ≤ length l → v < 256 ^ k → number k at (sets l at (bytes_of k v)) ≡ v
read_back l at k v h b =
    ap (number k at) (sets-eq (bytes_of k v) l at (omega (arith, length_bytes k v)) ∙ append_assoc (take at l) (bytes_of k v) _)
    ∙ number_at (take at l) _ at k v (length-take-le at l (omega arith)) b
