-- Entries in order of time: what order says of each, and of a part of them.
use Prim.Native.Nat.{◌+◌, ◌<◌, ◌≤◌, suc, zero, ℕ}
use Rattle.rows.proofs.Rows.{get_d_unpack, length_unpack}
use Rattle.rows.specs.Entries.{Entry, row, time, unpack}
use Rattle.rows.specs.Order.{in_range, ordered, ordered_from}
use Rattle.rules.proofs.All.{and_left, and_right}
use Rattle.time.specs.Time.{far, giga}
use borrow.Author.Tests.{le-leb, leb-true, lt-ltb, ltb-true}
use lib.Dec.{leb}
use lib.ListN.{drop, get_or, length}
use mathlib.Core.Bool.{true}
use mathlib.Core.List.{List, [], ◌∷◌}
use mathlib.Core.Path.{◌≡◌, refl}
use native.Mathlib.Nat.{le_of_suc-le-suc, not-suc-le-zero}
use native.Mathlib.Omega.{arith}

pub record InRange (e : Entry) : Type 0 where
  pub secs_le : e.secs ≤ far + far
  pub nanos_lt : e.nanos < giga

pub in_range_lem : (e : Entry) → in_range e ≡ true → InRange e
in_range_lem e h =
    record {
      secs_le = leb-true _ _ (and_left (leb e.secs (far + far)) _ h);
      nanos_lt = ltb-true _ _ (and_right (leb e.secs (far + far)) _ h);
    }

pub range_true : (e : Entry) → InRange e → in_range e ≡ true
range_true e r = rw (le-leb e.secs (far + far) r.secs_le) (lt-ltb e.nanos giga r.nanos_lt)

-- what the definition says of the first entry
pub record Head (t : ℕ) (e : Entry) (es : List Entry) : Type 0 where
  pub range : InRange e
  pub from : t ≤ time e
  pub rest : ordered_from (time e) es ≡ true

pub ordered_cons : (t : ℕ) (e : Entry) (es : List Entry) → ordered_from t (e ∷ es) ≡ true → Head t e es
unfolding ordered_from
ordered_cons t e es h =
    let r = and_right (in_range e) _ h in
    record {
      range = in_range_lem e (and_left (in_range e) _ h);
      from = leb-true _ _ (and_left (leb t (time e)) _ r);
      rest = and_right (leb t (time e)) _ r;
    }

pub ordered_make : (t : ℕ) (e : Entry) (es : List Entry) → Head t e es → ordered_from t (e ∷ es) ≡ true
unfolding ordered_from
ordered_make t e es h = rw (range_true e h.range, le-leb t (time e) h.from) h.rest

-- and of the entry at i
pub ordered_at : (t : ℕ) (es : List Entry) (i : ℕ) (d : Entry) → ordered_from t es ≡ true → i < length es
    → Head t (get_or es i d) (drop (suc i) es)
ordered_at t [] i d h l = absurd (not-suc-le-zero l)
ordered_at t (e ∷ es) zero d h l = ordered_cons t e es h
ordered_at t (e ∷ es) (suc i) d h l =
    let a = ordered_cons t e es h in
    let b = ordered_at (time e) es i d a.rest (le_of_suc-le-suc l) in
    record { range = b.range; from = omega arith; rest = b.rest }

pub ordered_row : (n : ℕ) (w : List ℕ) (i : ℕ) → ordered (unpack n w) ≡ true → i < n → InRange (row w i)
ordered_row n w i h l = rw (get_d_unpack n w i (row w i) l) at (ordered_at 0 (unpack n w) i (row w i) h (rw length_unpack l)).range

pub ordered_pair : (t : ℕ) (es : List Entry) (i j : ℕ) (d : Entry) → ordered_from t es ≡ true → i ≤ j → j < length es
    → time (get_or es i d) ≤ time (get_or es j d)
ordered_pair t [] i j d o h l = absurd (not-suc-le-zero l)
ordered_pair t (e ∷ es) zero zero d o h l = omega arith
ordered_pair t (e ∷ es) zero (suc j) d o h l =
    (ordered_at (time e) es j d (ordered_cons t e es o).rest (le_of_suc-le-suc l)).from
ordered_pair t (e ∷ es) (suc i) zero d o h l = absurd (not-suc-le-zero h)
ordered_pair t (e ∷ es) (suc i) (suc j) d o h l =
    ordered_pair (time e) es i j d (ordered_cons t e es o).rest (le_of_suc-le-suc h) (le_of_suc-le-suc l)

-- ---- a part in order

pub ordered_less : (t u : ℕ) (es : List Entry) → ordered_from u es ≡ true → t ≤ u → ordered_from t es ≡ true
ordered_less t u [] h l = unfold ordered_from in refl
ordered_less t u (e ∷ es) h l =
    let a = ordered_cons u e es h in
    ordered_make t e es (record { range = a.range; from = omega arith; rest = a.rest })

pub drop_ordered : (t : ℕ) (n : ℕ) (es : List Entry) → ordered_from t es ≡ true → ordered_from t (drop n es) ≡ true
drop_ordered t zero es h = h
drop_ordered t (suc n) [] h = h
drop_ordered t (suc n) (e ∷ es) h =
    let a = ordered_cons t e es h in
    ordered_less t (time e) (drop n es) (drop_ordered (time e) n es a.rest) a.from
