-- Laws of the whole log: what is left to write, a turn of the loop that writes it, and its end.
use Prim.Native.Nat.{◌*◌, ◌+◌, ◌≤◌, suc, ℕ}
use Rattle.release_log.proofs.Sizes.{size_offsets, size_record}
use Rattle.release_log.specs.Log.{LogRecord, log_bytes, offsets, record_bytes, records, records_at, total}
use Rattle.words.proofs.Sets.{length_bytes, set_sets, sets_then}
use Rattle.words.specs.Words.{bytes_of}
use lib.ListN.{length, length-append, set}
use lib.Seq.{sets}
use mathlib.Core.List.{List, [], ◌++◌, ◌∷◌}
use mathlib.Core.Logic.{inr}
use mathlib.Core.Path.{◌∙◌, ◌≡◌, ap, refl, sym}
use native.Mathlib.Omega.{arith}

-- two runs that do not meet, the first below the second
pub sets_swap : (l : List ℕ) (i j : ℕ) (a b : List ℕ) → i + length a ≤ j → sets (sets l i a) j b ≡ sets (sets l j b) i a
sets_swap l i j a [] h = refl
sets_swap l i j a (x ∷ b) h =
    ap (λ (m : List ℕ). sets m (suc j) b) (set_sets l i j x a (inr h)) ∙ sets_swap (set l j x) i (suc j) a b (omega arith)

-- what is left to write: the offsets from o on, and the records from `at` on
abbrev pub left : List ℕ → ℕ → ℕ → List LogRecord → List ℕ
left l o at rs = sets (sets l o (offsets at rs)) at (records rs)

-- a turn: the first record and its offset are written
pub turn : (l : List ℕ) {l₁ l₂ : List ℕ} (o at : ℕ) (r : LogRecord) (rs : List LogRecord)
    → l₁ ≡ sets l o (bytes_of 4 at) → l₂ ≡ sets l₁ at (record_bytes r) → o + 4 * length (r ∷ rs) ≤ at
    → left l₂ (o + 4) (at + 17 + length r.packet) rs ≡ left l o at (r ∷ rs)
unfolding offsets records
turn l {l₁} {l₂} o at r rs e₁ e₂ fits =
    let b : List ℕ = record_bytes r in
    let at' : ℕ = at + 17 + length r.packet in
    let os : List ℕ = offsets at' rs in
    ap (λ (m : List ℕ). sets (sets m (o + 4) os) at' (records rs)) e₂
    ∙ ap (λ (m : List ℕ). sets m at' (records rs)) (sym (sets_swap l₁ (o + 4) at os b (omega (arith, size_offsets at' rs))))
    ∙ sets_then (sets l₁ (o + 4) os) at at' b (records rs) (omega (arith, size_record r))
    ∙ ap (λ (m : List ℕ). sets (sets m (o + 4) os) at (b ++ records rs)) e₁
    ∙ ap (λ (m : List ℕ). sets m at (b ++ records rs)) (sets_then l o (o + 4) (bytes_of 4 at) os (omega (arith, length_bytes 4 at)))

-- the end: the count and the total are written over what the loop left
pub ended : (l : List ℕ) {l₀ l₁ l₂ : List ℕ} (rs : List LogRecord) (n t : ℕ) → n ≡ length rs → t ≡ total rs
    → l₀ ≡ left l 8 (records_at rs) rs → l₁ ≡ sets l₀ 0 (bytes_of 4 n) → l₂ ≡ sets l₁ 4 (bytes_of 4 t) → l₂ ≡ sets l 0 (log_bytes rs)
unfolding log_bytes
ended l {l₀} {l₁} {l₂} rs n t en et e₀ e₁ e₂ =
    let os : List ℕ = offsets (records_at rs) rs in
    let nb : List ℕ = bytes_of 4 (length rs) in
    let tb : List ℕ = bytes_of 4 (total rs) in
    let long : length (nb ++ tb) ≡ 8 = omega (arith, length-append nb tb, length_bytes 4 (length rs), length_bytes 4 (total rs)) in
    e₂ ∙ ap (λ (m : List ℕ). sets m 4 (bytes_of 4 t)) e₁
    ∙ ap (λ (k : ℕ). sets (sets l₀ 0 (bytes_of 4 k)) 4 (bytes_of 4 t)) en
    ∙ ap (λ (k : ℕ). sets (sets l₀ 0 nb) 4 (bytes_of 4 k)) et
    ∙ sets_then l₀ 0 4 nb tb (omega (arith, length_bytes 4 (length rs)))
    ∙ ap
    (λ (m : List ℕ). sets m 0 (nb ++ tb))
    (e₀ ∙ sets_then l 8 (records_at rs) os (records rs) (omega (arith, size_offsets (records_at rs) rs)))
    ∙ sym (sets_swap l 0 8 (nb ++ tb) (os ++ records rs) (omega arith))
    ∙ sets_then l 0 8 (nb ++ tb) (os ++ records rs) (omega arith)
