-- Words of a good setup fit the fields that hold them; and the setup that was read.
use Rattle.rules.proofs.Each.{each_at}
use Rattle.rules.specs.Lists.{each}
use Prim.Native.Nat.{◌%◌, ◌*◌, ◌+◌, ◌-◌, ◌/◌, ◌<◌, ◌≤◌, ℕ}
use Rattle.face_reading.specs.Inside.{ReadsStore, fine, narrow}
use Rattle.face_reading.specs.Reading.{column, store_setup, switched, well_counted, word}
use Rattle.layout.proofs.Bounds.{setup_pool}
use Rattle.layout.proofs.Layouts.{setup_few}
use Rattle.layout.specs.Judge.{setup_ok}
use Rattle.layout.specs.Limits.{max_slot_size, max_slots, max_subpools}
use Rattle.rules.proofs.All.{all_at, all_end, all_of_lem, all_stop, and_left, and_right}
use borrow.Author.Count.{below_more}
use borrow.Author.Tests.{eq-eqb, eqb-false, eqb-true, le-ltb, leb-false, leb-true, lt-ltb, ltb-true}
use lib.Dec.{eqb, leb, ltb}
use lib.ListN.{get_or-eq_default, get_or, length}
use mathlib.Core.Bool.{Bool, false, true}
use mathlib.Core.List.{List, [], ◌∷◌}
use mathlib.Core.Path.{◌∙◌, ◌≡◌, ap, refl}
use native.Mathlib.Omega.{arith}
use Rattle.layout.specs.declared.Setup.{Setup}

column_at : (from : ℕ) (ws : List ℕ) (k : ℕ) → k < max_subpools → get_or (column from ws) k 0 ≡ word ws (from + 2 * k)
unfolding column
column_at from ws k l = each_at (λ j. word ws (from + 2 * j)) 0 max_subpools 0 k l ∙ ap (λ j. word ws (from + 2 * j)) (omega arith)

-- a column, word by word
pub column_of : (i : ℕ) (ws : List ℕ) (a b c d e f g h : ℕ) → a ≡ word ws i → b ≡ word ws (i + 2) → c ≡ word ws (i + 4) → d ≡ word ws (i + 6)
    → e ≡ word ws (i + 8) → f ≡ word ws (i + 10) → g ≡ word ws (i + 12) → h ≡ word ws (i + 14)
    → a ∷ b ∷ c ∷ d ∷ e ∷ f ∷ g ∷ h ∷ [] ≡ column i ws
unfolding column each
column_of i ws a b c d e f g h p q r s t u v w =
    let z : i ≡ i + 0 = omega arith in
    rw (p ∙ ap (word ws) z, q, r, s, t, u, v, w) refl

module _ (ws : List ℕ) (ok : fine ws ≡ true) where
  pub fine_counted : length ws ≡ 3 + 2 * word ws 0
  unfolding fine well_counted
  fine_counted = eqb-true _ _ (and_left (well_counted ws) (setup_ok (store_setup ws)) ok)

  good : setup_ok (store_setup ws) ≡ true
  unfolding fine
  good = and_right (well_counted ws) (setup_ok (store_setup ws)) ok

  pub fine_few : word ws 0 ≤ max_subpools
  fine_few = setup_few (store_setup ws) good

  sizes_fit : (k : ℕ) → k < word ws 0 → word ws (4 + 2 * k) ≤ max_slot_size
  sizes_fit k l = let m : k < max_subpools = omega (arith, fine_few) in rw (column_at 4 ws k m) at (setup_pool (store_setup ws) good k l).1

  slots_fit : (k : ℕ) → k < word ws 0 → word ws (3 + 2 * k) ≤ max_slots
  slots_fit k l = let m : k < max_subpools = omega (arith, fine_few) in rw (column_at 3 ws k m) at (setup_pool (store_setup ws) good k l).3

  pub fine_narrow : narrow ws ≡ true
  unfolding narrow
  fine_narrow = all_of_lem _ (2 * max_subpools) (λ i l. lt-ltb _ _ (go i (leb (length ws) (3 + i)) refl))
    where
      even : (i : ℕ) → 3 + i < length ws → i % 2 ≡ 0 → word ws (3 + i) < 65536
      even i l e =
          let k : i / 2 < word ws 0 = omega (arith, fine_counted) in
          let q : 3 + 2 * (i / 2) ≡ 3 + i = omega arith in
          let s = rw q at (slots_fit (i / 2) k) in
          omega arith

      odd : (i : ℕ) → 3 + i < length ws → i % 2 ≡ 1 → word ws (3 + i) < 65536
      odd i l e =
          let k : i / 2 < word ws 0 = omega (arith, fine_counted) in
          let q : 4 + 2 * (i / 2) ≡ 3 + i = omega arith in
          let s = rw q at (sizes_fit (i / 2) k) in
          omega arith

      by : (i : ℕ) → 3 + i < length ws → (b : Bool) → eqb (i % 2) 0 ≡ b → word ws (3 + i) < 65536
      by i l true e = even i l (eqb-true _ _ e)
      by i l false e = odd i l (let n = eqb-false (i % 2) 0 e in omega arith)

      go : (i : ℕ) → (b : Bool) → leb (length ws) (3 + i) ≡ b → word ws (3 + i) < 65536
      go i true e = rw (get_or-eq_default ws 0 {n = 3 + i} (leb-true _ _ e)) (omega arith)
      go i false e = by i (leb-false _ _ e) (eqb (i % 2) 0) refl

-- what narrow words are, one by one
narrow_at : (ws : List ℕ) → narrow ws ≡ true → (i : ℕ) → i < 16 → word ws (3 + i) < 65536
unfolding narrow
narrow_at ws q i l = ltb-true _ _ (all_at (λ j. ltb (word ws (3 + j)) 65536) (2 * max_subpools) q i l)

pub narrow_from : (ws : List ℕ) → narrow ws ≡ true → (i : ℕ) → 3 ≤ i → i < 19 → word ws i < 65536
narrow_from ws q i a l = let e : 3 + (i - 3) ≡ i = omega arith in rw e at (narrow_at ws q (i - 3) (omega arith))

-- what was read
pub reads_bad : (ws : List ℕ) (su : Setup) → (fine ws ≡ true → ⊥) → setup_ok su ≡ false → ReadsStore ws su
reads_bad ws su n e = record { same = λ f. absurd (n f); bad = λ f. e }

pub reads_good : (ws : List ℕ) (su : Setup) → well_counted ws ≡ true → su ≡ store_setup ws → ReadsStore ws su
unfolding fine
reads_good ws su w e = record { same = λ f. e; bad = λ f. rw e (rw w at f) }

-- the loop that tests them
abbrev pub Fits16 : List ℕ → ℕ → Type 0
Fits16 ws j = ltb (word ws (3 + j)) 65536 ≡ true

pub narrow_stop : (ws : List ℕ) (i w : ℕ) → i < 16 → w ≡ word ws (3 + i) → 65536 ≤ w → false ≡ narrow ws
unfolding narrow
narrow_stop ws i w l e h = all_stop (λ j. ltb (word ws (3 + j)) 65536) 16 i l (le-ltb _ _ (rw e at h))

pub narrow_more : (ws : List ℕ) (i w : ℕ) → ((j : ℕ) → j < i → Fits16 ws j) → w ≡ word ws (3 + i) → w < 65536
    → (j : ℕ) → j < i + 1 → Fits16 ws j
narrow_more ws i w h e l = below_more (Fits16 ws) i h (lt-ltb _ _ (rw e at l))

pub narrow_end : (ws : List ℕ) (i : ℕ) → 16 ≤ i → ((j : ℕ) → j < i → Fits16 ws j) → true ≡ narrow ws
unfolding narrow
narrow_end ws i l h = all_end (λ j. ltb (word ws (3 + j)) 65536) 16 i l h

-- the setup, from what was read
pub reads_all : (ws : List ℕ) (n : ℕ) (sizes slots : List ℕ) (spill : Bool) → n ≡ word ws 0 → length ws ≡ 3 + 2 * n
    → sizes ≡ column 4 ws → slots ≡ column 3 ws → spill ≡ switched (word ws 1)
    → ReadsStore ws (record { pools = n; sizes = sizes; slots = slots; spill = spill })
unfolding well_counted
reads_all ws n sizes slots spill e l a b d =
    reads_good ws _ (eq-eqb (length ws) (3 + 2 * word ws 0) (l ∙ ap (λ m. 3 + 2 * m) e)) (rw (e, a, b, d))
