-- Order kept by an insertion and a removal, and the place of an inserted entry.
use Prim.Native.Nat.{◌+◌, ◌<◌, ◌≤◌, suc, zero, ℕ}
use Rattle.rows.proofs.Order.{InRange, drop_ordered, ordered_cons, ordered_make}
use Rattle.rows.specs.Entries.{Entry, relaid, time, unpack}
use Rattle.rows.specs.Order.{ordered_from}
use Rattle.rules.proofs.Cases.{le_or_lt}
use Rattle.table.proofs.Before.{below_head, below_not}
use Rattle.table.specs.Before.{below}
use Rattle.table_edit.specs.Edits.{after_insert, insert_at, insert_sorted, without}
use borrow.Author.Tests.{le-leb, lt-leb}
use mathlib.Core.Bool.{Bool, cond, true}
use mathlib.Core.List.{List, [], ◌∷◌}
use mathlib.Core.Logic.{⊎_elim}
use mathlib.Core.Path.{◌∙◌, ◌≡◌, ap, refl, sym}
use native.Mathlib.Nat.{suc-add, zero-add}
use native.Mathlib.Omega.{arith}

-- ---- an insertion

pub insert_later : (e x : Entry) (es : List Entry) → time x ≤ time e → insert_sorted e (x ∷ es) ≡ x ∷ insert_sorted e es
unfolding insert_sorted
insert_later e x es h = ap (λ (b : Bool). cond b (x ∷ insert_sorted e es) (e ∷ x ∷ es)) (le-leb (time x) (time e) h)

pub insert_here : (e x : Entry) (es : List Entry) → time e < time x → insert_sorted e (x ∷ es) ≡ e ∷ x ∷ es
unfolding insert_sorted
insert_here e x es h = ap (λ (b : Bool). cond b (x ∷ insert_sorted e es) (e ∷ x ∷ es)) (lt-leb (time x) (time e) h)

-- after every entry that is not later: at the index that `below` gives
pub insert_sorted_at : (e : Entry) (es : List Entry) → insert_sorted e es ≡ insert_at (below (time e + 1) es) e es
unfolding insert_at
insert_sorted_at e [] = unfold insert_sorted below in refl
insert_sorted_at e (x ∷ es) =
    ⊎_elim
    (λ (h : time x ≤ time e).
    insert_later e x es h
    ∙ rw (below_head (time e + 1) x es (omega arith)) (ap (λ (r : List Entry). x ∷ r) (insert_sorted_at e es)))
    (λ (h : time e < time x). insert_here e x es h ∙ rw (below_not (time e + 1) x es (omega arith)))
    (le_or_lt (time x) (time e))

-- the words, where the index is known
pub insert_is : (w y : List ℕ) (n at : ℕ) (e : Entry) → at ≡ below (time e + 1) (unpack n w) → y ≡ relaid w n (insert_at at e (unpack n w))
    → y ≡ after_insert w n e
insert_is w y n at e h q =
    q ∙ ap (λ (i : ℕ). relaid w n (insert_at i e (unpack n w))) h ∙ ap (relaid w n) (sym (insert_sorted_at e (unpack n w)))

-- an entry in range, put where it belongs, keeps the order
pub insert_ordered : (t : ℕ) (e : Entry) (es : List Entry) → ordered_from t es ≡ true → InRange e → t ≤ time e
    → ordered_from t (insert_sorted e es) ≡ true
insert_ordered t e [] h r l = unfold insert_sorted ordered_from in ordered_make t e [] (record { range = r; from = l; rest = h })
insert_ordered t e (x ∷ es) h r l =
    let a = ordered_cons t x es h in
    ⊎_elim
    (λ (k : time x ≤ time e).
    rw (insert_later e x es k)
    (ordered_make t x (insert_sorted e es) (record { range = a.range; from = a.from; rest = insert_ordered (time x) e es a.rest r k })))
    (λ (k : time e < time x).
    let b = ordered_make (time e) x es (record { range = a.range; from = omega arith; rest = a.rest }) in
    rw (insert_here e x es k) (ordered_make t e (x ∷ es) (record { range = r; from = l; rest = b })))
    (le_or_lt (time x) (time e))

-- ---- a removal

pub without_ordered : (t i n : ℕ) (es : List Entry) → ordered_from t es ≡ true → ordered_from t (without i n es) ≡ true
unfolding without
without_ordered t zero n es h = rw (zero-add n) (drop_ordered t n es h)
without_ordered t (suc i) n [] h = rw (suc-add i n) h
without_ordered t (suc i) n (e ∷ es) h =
    let a = ordered_cons t e es h in
    rw (suc-add i n)
    (ordered_make t e (without i n es) (record { range = a.range; from = a.from; rest = without_ordered (time e) i n es a.rest }))
