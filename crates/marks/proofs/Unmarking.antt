-- Taking the marks off the length table: with all of them off it is the table that was there before.
use Prim.Native.Nat.{◌+◌, ◌-◌, ◌<◌, ◌≤◌, ℕ}
use Rattle.layout.specs.Layout.{all_rows}
use Rattle.layout.specs.Limits.{max_slot_size, store_free}
use Rattle.marks.specs.Inside.{bare}
use Rattle.marks.specs.Marks.{Marks, added}
use Rattle.marks.specs.Promise.{Restores}
use Rattle.rules.proofs.Cases.{le_or_lt}
use Rattle.rules.specs.Tests.{all_of, unless}
use Rattle.slots.specs.Pools.{Pool}
use Rattle.store.proofs.Rows.{row_plain}
use borrow.Author.Tests.{le-leb, lt-leb, lt-ltb}
use lib.ListN.{drop, get_or, get_or-append, length, length-append, length-drop, take}
use lib.Seq.{ext_get_or, length-take-le}
use Rattle.std.proofs.lemmas.List.{get_or-append_right, get_or-drop, get_or-map, get_or-take, length-map}
use mathlib.Core.List.{List, map, ◌++◌}
use mathlib.Core.Logic.{◌⊎◌, inl, inr, ⊎_elim}
use mathlib.Core.Path.{◌∙◌, ◌≡◌, ap, refl, sym}
use native.Mathlib.Omega.{arith}
use Rattle.layout.specs.declared.Setup.{Setup}

bare_low : (w : ℕ) → w < added → w ≡ bare w
unfolding bare all_of unless
bare_low w h = rw (lt-leb added w h)

bare_free : (w : ℕ) → w ≡ store_free → w ≡ bare w
unfolding bare all_of unless
bare_free w e = rw e

bare_marked : (w : ℕ) → added ≤ w → w < store_free → w - added ≡ bare w
unfolding bare all_of unless
bare_marked w h l = rw (le-leb added w h, lt-ltb w store_free l)

-- the marks are off the first n rows
pub record Unmarked (n : ℕ) (le le' : List ℕ) : Type 0 where
  pub same_length : length le' ≡ length le
  pub low : (r : ℕ) → r < n → get_or le' r 0 ≡ bare (get_or le r 0)
  pub high : (r : ℕ) → n ≤ r → get_or le' r 0 ≡ get_or le r 0

module _ (n : ℕ) (le : List ℕ) (h : n ≤ length le) where
  front_length : length (map bare (take n le)) ≡ n
  front_length = simp (length-map, length-take-le n le h) refl

  unmarked_low : (r : ℕ) → r < n → get_or (map bare (take n le) ++ drop n le) r 0 ≡ bare (get_or le r 0)
  unmarked_low r l =
      get_or-append (map bare (take n le)) (drop n le) 0 r (omega (arith, front_length))
      ∙ get_or-map bare (take n le) r 0 0 (omega (arith, length-take-le n le h))
      ∙ ap bare (get_or-take n le r 0 l)

  unmarked_high : (r : ℕ) → n ≤ r → get_or (map bare (take n le) ++ drop n le) r 0 ≡ get_or le r 0
  unmarked_high r l =
      get_or-append_right (map bare (take n le)) (drop n le) n r 0 front_length l
      ∙ get_or-drop n le (r - n) 0
      ∙ ap (λ (i : ℕ). get_or le i 0) (omega arith)

  -- what taking them off the front of a table leaves
  pub unmarked_front : (le' : List ℕ) → le' ≡ map bare (take n le) ++ drop n le → Unmarked n le le'
  unmarked_front le' e =
      rw e
      (record {
        same_length = omega (arith, length-append (map bare (take n le)) (drop n le), front_length, length-drop n le);
        low = unmarked_low;
        high = unmarked_high;
      })

module _ (su : Setup) (st le₀ : List ℕ) (ps : List Pool) (le le' : List ℕ) (k : Marks su st le₀ ps le) (u : Unmarked (all_rows su) le le') where
  bare_is : (v w : ℕ) → (w ≡ store_free) ⊎ (w ≤ max_slot_size) → (v ≡ w) ⊎ ((w ≤ max_slot_size) × (v ≡ w + added)) → bare v ≡ w
  bare_is v w (inl a) (inl b) = rw b (sym (bare_free w a))
  bare_is v w (inr a) (inl b) = rw b (sym (bare_low w (omega arith)))
  bare_is v w a (inr b) = sym (bare_marked v (omega (arith, b.1)) (omega (arith, b.0, b.1))) ∙ omega (arith, b.1)

  row_back : (r : ℕ) → (all_rows su ≤ r) ⊎ (r < all_rows su) → get_or le' r 0 ≡ get_or le₀ r 0
  row_back r (inl l) = u.high r l ∙ ⊎_elim (λ e. e) (λ e. absurd (omega (arith, e.0))) (k.rows r)
  row_back r (inr l) =
      u.low r l
      ∙ bare_is (get_or le r 0) (get_or le₀ r 0) (row_plain su st le₀ k.sound r l) (⊎_elim (λ e. inl e) (λ e. inr (e.1, e.2)) (k.rows r))

  restored : le' ≡ le₀
  restored = ext_get_or 0 le' le₀ (u.same_length ∙ k.same_length) (λ r h. row_back r (le_or_lt (all_rows su) r))

pub restores : (su : Setup) (le le' : List ℕ) → Unmarked (all_rows su) le le' → Restores su le le'
restores su le le' u = record { back = λ st le₀ ps k. restored su st le₀ ps le le' k u }
