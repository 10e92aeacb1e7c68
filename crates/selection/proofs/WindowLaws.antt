-- The rows of a window stand together in an ordered table: each window is a span.
use Prim.Native.Nat.{◌*◌, ◌+◌, ◌-◌, ◌<◌, ◌≤◌, suc, ℕ}
use Rattle.rows.proofs.Order.{InRange, ordered_cons}
use Rattle.rows.proofs.Rows.{length_unpack}
use Rattle.rows.specs.Entries.{Entry, time, unpack}
use Rattle.rows.specs.Order.{ordered, ordered_from}
use Rattle.rules.proofs.Cases.{eq_or_ne, le_or_lt}
use Rattle.table.proofs.Before.{below_head, below_le, below_none}
use Rattle.selection.proofs.Spans.{between, filter_same, span_part}
use Rattle.table.specs.Before.{below}
use Rattle.selection.specs.Windows.{Retrieves, end_of, first_row, in_window, start_of, within}
use Rattle.time.specs.Time.{far, giga, instant_of}
use borrow.Author.Tests.{eq-eqb, le-leb, le-ltb, lt-leb, lt-ltb, ne_eqb}
use lib.Dec.{leb, ltb}
use lib.ListN.{drop, length, length-drop, length-take, take}
use mathlib.Core.Bool.{Bool, ◌&&◌, and-true, true}
use mathlib.Core.List.{List, [], ◌∷◌}
use mathlib.Core.Logic.{⊎_elim}
use mathlib.Core.Path.{◌∙◌, ◌≡◌, ap, refl, sym}
use native.Mathlib.Omega.{arith}
use Rattle.selection.specs.declared.MomentWindow.{MomentWindow}
use Rattle.selection.specs.declared.MomentWindow.TheVariants.{All, From, FromTo, To}

-- later than every time in range
abbrev top : ℕ
top = (far + far + 1) * giga

-- ---- a window as a span

pub low : MomentWindow → ℕ
low All = 0
low (FromTo f t) = instant_of f
low (From f) = instant_of f
low (To t) = 0

pub high : MomentWindow → ℕ
high All = top
high (FromTo f t) = instant_of t + 1
high (From f) = top
high (To t) = instant_of t + 1

leb_ltb : (a b : ℕ) → leb a b ≡ ltb a (b + 1)
leb_ltb a b =
    ⊎_elim (λ (h : a ≤ b). le-leb a b h ∙ sym (lt-ltb a (b + 1) (omega arith)))
    (λ (h : b < a). lt-leb a b h ∙ sym (le-ltb a (b + 1) (omega arith)))
    (le_or_lt a b)

pub within_is : (w : MomentWindow) (e : Entry) → InRange e → within w e ≡ between (low w) (high w) e
unfolding within between low high
within_is All e r =
    let s = r.secs_le in
    let n = r.nanos_lt in
    sym (rw (le-leb 0 (time e) (omega arith)) (lt-ltb (time e) top (omega arith)))
within_is (FromTo f t) e r = ap (λ (b : Bool). leb (instant_of f) (time e) && b) (leb_ltb (time e) (instant_of t))
within_is (From f) e r =
    let s = r.secs_le in
    let n = r.nanos_lt in
    sym (rw (lt-ltb (time e) top (omega arith)) (and-true (leb (instant_of f) (time e))))
within_is (To t) e r = rw (le-leb 0 (time e) (omega arith)) (leb_ltb (time e) (instant_of t))

below_all : (u : ℕ) (es : List Entry) → ordered_from u es ≡ true → below top es ≡ length es
below_all u [] o = unfold below in refl
below_all u (e ∷ es) o =
    let a = ordered_cons u e es o in
    let s = a.range.secs_le in
    let n = a.range.nanos_lt in
    below_head top e es (omega arith) ∙ ap suc (below_all (time e) es a.rest)

module _ (es : List Entry) (o : ordered es ≡ true) where
  pub start_is : (w : MomentWindow) → start_of w es ≡ below (low w) es
  unfolding start_of low
  start_is All = sym (below_none 0 0 es o (omega arith))
  start_is (FromTo f t) = refl
  start_is (From f) = refl
  start_is (To t) = sym (below_none 0 0 es o (omega arith))

  pub end_is : (w : MomentWindow) → end_of w es ≡ below (high w) es
  unfolding end_of high
  end_is All = sym (below_all 0 es o)
  end_is (FromTo f t) = refl
  end_is (From f) = sym (below_all 0 es o)
  end_is (To t) = refl

  module _ (w : MomentWindow) where
    -- the window's entries are one unbroken range of the rows
    pub window_part : in_window w es ≡ take (end_of w es - start_of w es) (drop (start_of w es) es)
    window_part =
        rw (start_is w, end_is w)
        (filter_same (within w) (between (low w) (high w)) 0 es (within_is w) o ∙ span_part (low w) (high w) 0 es o)

    pub window_number : length (in_window w es) ≡ end_of w es - start_of w es
    window_number =
        let l = below_le (high w) es in
        let e = end_is w in
        rw window_part (simp (length-take, length-drop) (omega arith))

    -- in the two numbers that retrieval answers
    pub window_covered : in_window w es ≡ take (length (in_window w es)) (drop (first_row w es) es)
    unfolding first_row
    window_covered =
        ⊎_elim
        (λ (z : length (in_window w es) ≡ 0).
        let y : end_of w es - start_of w es ≡ 0 = sym window_number ∙ z in
        rw z (window_part ∙ ap (λ (m : ℕ). take m (drop (start_of w es) es)) y))
        (λ (z : length (in_window w es) ≡ 0 → ⊥).
        rw (ne_eqb (length (in_window w es)) 0 z)
        (window_part ∙ ap (λ (m : ℕ). take m (drop (start_of w es) es)) (sym window_number)))
        (eq_or_ne (length (in_window w es)) 0)

-- the forms that the code's two answers ask for
module _ (n : ℕ) (rows : List ℕ) (o : ordered (unpack n rows) ≡ true) (w : MomentWindow) (a b : ℕ) (ea : a ≡ start_of w (unpack n rows))
    (eb : b ≡ end_of w (unpack n rows)) where
  number_is : length (in_window w (unpack n rows)) ≡ b - a
  number_is = rw (ea, eb) (window_number (unpack n rows) o w)

  pub retrieves_none : b ≤ a → Retrieves w rows n 0 0
  unfolding first_row
  retrieves_none h =
      let z : length (in_window w (unpack n rows)) ≡ 0 = omega (arith, number_is) in
      record { row = rw (eq-eqb (length (in_window w (unpack n rows))) 0 z); many = sym z; bound = omega arith }

  pub retrieves_some : a < b → Retrieves w rows n a (b - a)
  unfolding first_row
  retrieves_some h =
      let l = number_is in
      let k = below_le (high w) (unpack n rows) in
      let e = end_is (unpack n rows) o w in
      let u = length_unpack n rows in
      let z : length (in_window w (unpack n rows)) ≡ 0 → ⊥ = λ (q : length (in_window w (unpack n rows)) ≡ 0). omega arith in
      record { row = rw (ne_eqb (length (in_window w (unpack n rows))) 0 z) ea; many = sym l; bound = omega arith }
