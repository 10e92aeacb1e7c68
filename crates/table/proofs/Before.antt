-- How many entries lie before a moment: in an ordered list these are all that do; and the search, row by row.
use Prim.Native.Nat.{◌*◌, ◌+◌, ◌<◌, ◌≤◌, suc, zero, ℕ}
use Rattle.rows.proofs.Order.{ordered_at, ordered_cons}
use Rattle.rows.specs.Entries.{Entry, entries, entry, time}
use Rattle.std.proofs.lemmas.Bool.Decides.{nat_tests}
use Rattle.std.specs.List.{position_or_len}
use Rattle.time.specs.Time.{giga}
use Rattle.rows.specs.Order.{ordered, ordered_from}
use Rattle.std.specs.Option.{unwrap_or}
use Rattle.std.proofs.Common.{Option, Some, None}
use Rattle.rules.proofs.Cases.{le_or_lt}
use Rattle.table.proofs.Reached.{reached}
use Rattle.table.specs.Before.{below}
use borrow.Author.Tests.{le-ltb, lt-ltb}
use lib.Dec.{ltb}
use lib.ListN.{get_or, length, length-map}
use mathlib.Core.Bool.{cond, false, true}
use mathlib.Core.List.{List, [], ◌∷◌}
use mathlib.Core.Logic.{⊎_elim}
use mathlib.Core.Path.{◌≡◌, refl, sym}
use native.Mathlib.Nat.{le_of_suc-le-suc, not-suc-le-zero}
use native.Mathlib.Omega.{arith}

pub below_head : (t : ℕ) (x : Entry) (es : List Entry) → time x < t → below t (x ∷ es) ≡ suc (below t es)
unfolding below
below_head t x es h = rw (lt-ltb (time x) t h)

pub below_not : (t : ℕ) (x : Entry) (es : List Entry) → t ≤ time x → below t (x ∷ es) ≡ 0
unfolding below
below_not t x es h = rw (le-ltb (time x) t h)

pub below_le : (t : ℕ) (es : List Entry) → below t es ≤ length es
below_le t [] = unfold below in omega arith
below_le t (e ∷ es) =
    let r = below_le t es in
    ⊎_elim (λ (h : t ≤ time e). omega (arith, below_not t e es h)) (λ (h : time e < t). omega (arith, below_head t e es h))
    (le_or_lt t (time e))

-- from u on nothing is before f
pub below_none : (f u : ℕ) (es : List Entry) → ordered_from u es ≡ true → f ≤ u → below f es ≡ 0
below_none f u [] h l = unfold below in refl
below_none f u (e ∷ es) h l = let a = ordered_cons u e es h in below_not f e es (omega arith)

-- in an ordered list the entries before t are those below the number
pub below_under : (t : ℕ) (es : List Entry) (i : ℕ) (d : Entry) → i < length es → t ≤ time (get_or es i d) → below t es ≤ i
below_under t [] i d l h = absurd (not-suc-le-zero l)
below_under t (e ∷ es) zero d l h = omega (arith, below_not t e es h)
below_under t (e ∷ es) (suc i) d l h =
    let r = below_under t es i d (le_of_suc-le-suc l) h in
    ⊎_elim (λ (k : t ≤ time e). omega (arith, below_not t e es k)) (λ (k : time e < t). omega (arith, below_head t e es k))
    (le_or_lt t (time e))

pub below_above : (t u : ℕ) (es : List Entry) (i : ℕ) (d : Entry) → ordered_from u es ≡ true → i < length es → time (get_or es i d) < t
    → i < below t es
below_above t u [] i d o l h = absurd (not-suc-le-zero l)
below_above t u (e ∷ es) zero d o l h = omega (arith, below_head t e es h)
below_above t u (e ∷ es) (suc i) d o l h =
    let a = ordered_cons u e es o in
    let b = ordered_at (time e) es i d a.rest (le_of_suc-le-suc l) in
    omega (arith, below_head t e es (omega arith), below_above t (time e) es i d a.rest (le_of_suc-le-suc l) h)

-- ---- the search: the first row that is not before the moment

module _ (secs nanos : ℕ) (h : nanos ≤ giga) where
  reached_yes : (r : List ℕ) → secs * giga + nanos ≤ time (entry r) → (entry r).nanos < giga → reached secs nanos r ≡ true
  reached_yes r l b = grind (arith, nat_tests)

  reached_no : (r : List ℕ) → time (entry r) < secs * giga + nanos → reached secs nanos r ≡ false
  reached_no r l = grind (arith, nat_tests)

  pub reached_below : (u : ℕ) (t : List (List ℕ)) → ordered_from u (entries t) ≡ true
      → position_or_len (reached secs nanos) t ≡ below (secs * giga + nanos) (entries t)
  reached_below u [] o = unfold below in refl
  reached_below u (r ∷ t) o =
      let a = ordered_cons u (entry r) (entries t) o in
      ⊎_elim
      (λ (l : secs * giga + nanos ≤ time (entry r)). rw (reached_yes r l a.range.nanos_lt) (sym (below_not _ (entry r) (entries t) l)))
      (λ (l : time (entry r) < secs * giga + nanos).
      rw (reached_no r l) (omega (arith, below_head _ (entry r) (entries t) l, reached_below (time (entry r)) t a.rest)))
      (le_or_lt (secs * giga + nanos) (time (entry r)))

  pub found_below : (t : List (List ℕ)) (n : ℕ) (o : Option ℕ) → ordered (entries t) ≡ true → length t ≡ n
      → o ≡ cond (ltb (position_or_len (reached secs nanos) t) (length t)) (Some (position_or_len (reached secs nanos) t)) None
      → (unwrap_or o n ≤ n) × (unwrap_or o n ≡ below (secs * giga + nanos) (entries t))
  found_below t n o k l q =
      let p = reached_below 0 t k in
      let m = below_le (secs * giga + nanos) (entries t) in
      let w = length-map t entry in
      rw (q, p)
      (⊎_elim
      (λ (x : length t ≤ below (secs * giga + nanos) (entries t)). rw le-ltb (omega arith, omega arith))
      (λ (x : below (secs * giga + nanos) (entries t) < length t). rw lt-ltb (omega arith, refl))
      (le_or_lt (length t) (below (secs * giga + nanos) (entries t))))
