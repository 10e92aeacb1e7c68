-- Laws of the writers: a turn of the loop that copies, and a record part by part.
use Prim.Native.Nat.{◌+◌, ◌<◌, ℕ}
use Rattle.release_log.specs.Log.{LogRecord, record_bytes}
use Rattle.words.proofs.Sets.{length_bytes, sets_then}
use Rattle.words.specs.Words.{bytes_of}
use lib.ListN.{drop, get_or, length, set}
use lib.Seq.{drop-cons, sets}
use mathlib.Core.List.{List, ◌++◌}
use mathlib.Core.Path.{◌∙◌, ◌≡◌, ap}
use native.Mathlib.Nat.{add-suc}
use native.Mathlib.Numerals.{add-one}
use native.Mathlib.Omega.{arith}

pub copy_turn : (l : List ℕ) (at i : ℕ) (s : List ℕ) → i < length s
    → sets (set l (at + i) (get_or s i 0)) (at + (i + 1)) (drop (i + 1) s) ≡ sets l (at + i) (drop i s)
copy_turn l at i s h = rw (drop-cons s i 0, add-one, add-suc)

pub record_is : (l : List ℕ) (at : ℕ) (r : LogRecord) {l₂ l₃ l₄ : List ℕ}
    → l₂ ≡ sets (set l at r.flag) (at + 1) (bytes_of 8 r.id) → l₃ ≡ sets l₂ (at + 9) (bytes_of 8 r.addr)
    → l₄ ≡ sets l₃ (at + 17) r.packet → l₄ ≡ sets l at (record_bytes r)
unfolding record_bytes
record_is l at r {l₂} {l₃} {l₄} e₂ e₃ e₄ =
    let p : List ℕ = r.packet in
    let ab : List ℕ = bytes_of 8 r.addr in
    let ib : List ℕ = bytes_of 8 r.id in
    e₄ ∙ ap (λ (m : List ℕ). sets m (at + 17) p) e₃
    ∙ sets_then l₂ (at + 9) (at + 17) ab p (omega (arith, length_bytes 8 r.addr))
    ∙ ap (λ (m : List ℕ). sets m (at + 9) (ab ++ p)) e₂
    ∙ sets_then (set l at r.flag) (at + 1) (at + 9) ib (ab ++ p) (omega (arith, length_bytes 8 r.id))
    ∙ ap (λ (n : ℕ). sets (set l at r.flag) n (ib ++ (ab ++ p))) (add-one at)
