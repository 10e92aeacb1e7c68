-- What the words hold after a change: the entries, zeros in the rows vacated, and behind those all as it was.
use Prim.Native.Nat.{◌*◌, ◌+◌, ◌-◌, ◌<◌, ◌≤◌, max, ℕ}
use Rattle.rows.proofs.Rows.{entry≡, length_pack, relaid_at}
use Rattle.rows.specs.Entries.{Entry, pack, relaid, row, width}
use Rattle.selection.specs.Match.{none}
use Rattle.std.proofs.lemmas.List.{get_or-append_right}
use Rattle.table_edit.specs.Edits.{after_remove}
use lib.ListN.{get_or-append, drop, get_or, get_or-replicate, length, length-append, length-replicate, replicate}
use lib.Seq.{get_or-drop}
use mathlib.Core.List.{List, [], ◌++◌, append_assoc}
use mathlib.Core.Path.{◌∙◌, ◌≡◌, ap, refl}
use native.Mathlib.Omega.{arith}
use Rattle.table_edit.proofs.Stays.{without_all}

module _ (old : List ℕ) (n : ℕ) (es : List Entry) where
  -- every word behind the rows that were or are entries is as it was
  pub relaid_behind : (j : ℕ) → max n (length es) * width ≤ j → get_or (relaid old n es) j 0 ≡ get_or old j 0
  unfolding relaid
  relaid_behind j h =
      let z : ℕ = (n - length es) * width in
      let k : ℕ = max n (length es) * width in
      let l : length (pack es ++ replicate z 0) ≡ k = simp (length-append, length_pack, length-replicate) (omega arith) in
      let q : k + (j - k) ≡ j = omega arith in
      get_or-append_right (pack es ++ replicate z 0) (drop k old) k j 0 l h ∙ get_or-drop k old (j - k) 0 ∙ ap (λ (i : ℕ). get_or old i 0) q

  zero_at : (j : ℕ) → length es * width ≤ j → j < n * width → get_or (relaid old n es) j 0 ≡ 0
  unfolding relaid
  zero_at j h l =
      let z : ℕ = (n - length es) * width in
      let zeros : List ℕ = replicate z 0 in
      let rest : List ℕ = drop (max n (length es) * width) old in
      let lz : length zeros ≡ z = length-replicate z 0 in
      let i : ℕ = j - length es * width in
      ap (λ (x : List ℕ). get_or x j 0) (append_assoc (pack es) zeros rest)
      ∙ get_or-append_right (pack es) (zeros ++ rest) (length es * width) j 0 (length_pack es) h
      ∙ get_or-append zeros rest 0 i (omega arith)
      ∙ get_or-replicate z i 0 0 (omega arith)

  -- a row that was an entry and is none any more holds zeros
  pub relaid_vacated : (i : ℕ) → length es ≤ i → i < n → row (relaid old n es) i ≡ none
  relaid_vacated i h l =
      entry≡ (zero_at (i * width) (omega arith) (omega arith)) (zero_at (i * width + 1) (omega arith) (omega arith))
      (zero_at (i * width + 2) (omega arith) (omega arith)) (zero_at (i * width + 3) (omega arith) (omega arith))

-- all n rows removed, as a fresh start does: zeros, and behind them all as it was
pub remove_all : (w : List ℕ) (n : ℕ) → after_remove w n 0 n ≡ replicate (n * width) 0 ++ drop (n * width) w
remove_all w n =
    ap (relaid w n) (without_all w n) ∙ relaid_at w n (n * width) (n * width) [] (omega arith) (omega arith) ∙ (unfold pack in refl)
