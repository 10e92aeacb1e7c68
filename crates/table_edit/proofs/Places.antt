-- Where an inserted entry stands: behind every entry that is not later, equal times in insertion order.
use Prim.Native.Nat.{◌+◌, ◌<◌, ◌≤◌, ℕ}
use Rattle.rows.proofs.Order.{ordered_cons}
use Rattle.rows.specs.Entries.{Entry, time}
use Rattle.rows.specs.Order.{ordered, ordered_from}
use Rattle.rules.proofs.Cases.{eq_or_ne, le_or_lt}
use Rattle.selection.proofs.Spans.{filter_in, filter_none, filter_out}
use Rattle.selection.specs.Match.{none}
use Rattle.selection.specs.Windows.{filter}
use Rattle.table.proofs.Before.{below_above, below_le, below_under}
use Rattle.table.specs.Before.{below}
use Rattle.table_edit.proofs.Ordering.{insert_here, insert_later, insert_sorted_at}
use Rattle.table_edit.specs.Edits.{insert_at, insert_sorted}
use borrow.Author.Tests.{eq-eqb, ne_eqb}
use lib.Dec.{eqb}
use lib.ListN.{get_or, length}
use mathlib.Core.Bool.{true}
use mathlib.Core.List.{List, [], ◌++◌, ◌∷◌}
use mathlib.Core.Logic.{⊎_elim}
use mathlib.Core.Path.{◌∙◌, ◌≡◌, ap, refl}
use native.Mathlib.Omega.{arith}

pub record Placed (e : Entry) (es : List Entry) (k : ℕ) : Type 0 where
  pub made : insert_sorted e es ≡ insert_at k e es
  pub before : (j : ℕ) → j < k → time (get_or es j none) ≤ time e
  pub behind : (j : ℕ) → k ≤ j → j < length es → time e < time (get_or es j none)

pub insert_place : (e : Entry) (es : List Entry) → ordered es ≡ true → Placed e es (below (time e + 1) es)
insert_place e es o =
    let k = below_le (time e + 1) es in
    record {
      made = insert_sorted_at e es;
      before = λ j h.
          ⊎_elim (λ (l : time (get_or es j none) ≤ time e). l)
          (λ (l : time e < time (get_or es j none)). omega (arith, below_under (time e + 1) es j none (omega arith) (omega arith)))
          (le_or_lt (time (get_or es j none)) (time e));
      behind = λ j h l.
          ⊎_elim (λ (m : time (get_or es j none) ≤ time e). omega (arith, below_above (time e + 1) 0 es j none o l (omega arith)))
          (λ (m : time e < time (get_or es j none)). m)
          (le_or_lt (time (get_or es j none)) (time e));
    }

-- the entries of a time, in their order
abbrev pub of_time : ℕ → List Entry → List Entry
of_time t es = filter (λ x. eqb (time x) t) es

of_yes : (t : ℕ) (x : Entry) (es : List Entry) → time x ≡ t → of_time t (x ∷ es) ≡ x ∷ of_time t es
of_yes t x es h = filter_in _ x es (eq-eqb (time x) t h)

of_no : (t : ℕ) (x : Entry) (es : List Entry) → (time x ≡ t → ⊥) → of_time t (x ∷ es) ≡ of_time t es
of_no t x es h = filter_out _ x es (ne_eqb (time x) t h)

-- an inserted entry is the last of its time
pub insert_last : (u : ℕ) (e : Entry) (es : List Entry) → ordered_from u es ≡ true
    → of_time (time e) (insert_sorted e es) ≡ of_time (time e) es ++ e ∷ []
insert_last u e [] o = unfold insert_sorted filter in rw (eq-eqb (time e) (time e) refl)
insert_last u e (x ∷ es) o =
    let a = ordered_cons u x es o in
    let ih = insert_last (time x) e es a.rest in
    ⊎_elim
    (λ (k : time x ≤ time e).
    rw (insert_later e x es k)
    (⊎_elim
    (λ (q : time x ≡ time e).
    rw (of_yes (time e) x (insert_sorted e es) q, of_yes (time e) x es q) (ap (λ (r : List Entry). x ∷ r) ih))
    (λ (q : time x ≡ time e → ⊥). rw (of_no (time e) x (insert_sorted e es) q, of_no (time e) x es q) ih)
    (eq_or_ne (time x) (time e))))
    (λ (k : time e < time x).
    let z : of_time (time e) (x ∷ es) ≡ []
    = of_no (time e) x es (λ (q : time x ≡ time e). omega arith)
    ∙ filter_none _ (time x) es a.rest (λ y l. ne_eqb (time y) (time e) (λ (q : time y ≡ time e). omega arith)) in
    rw (insert_here e x es k) (of_yes (time e) e (x ∷ es) refl ∙ rw z))
    (le_or_lt (time x) (time e))

-- and the entries of another time stay as they are
pub insert_others : (t : ℕ) (e : Entry) (es : List Entry) → (time e ≡ t → ⊥) → of_time t (insert_sorted e es) ≡ of_time t es
insert_others t e [] h = unfold insert_sorted filter in rw (ne_eqb (time e) t h)
insert_others t e (x ∷ es) h =
    let ih = insert_others t e es h in
    ⊎_elim
    (λ (k : time x ≤ time e).
    rw (insert_later e x es k)
    (⊎_elim
    (λ (q : time x ≡ t). rw (of_yes t x (insert_sorted e es) q, of_yes t x es q) (ap (λ (r : List Entry). x ∷ r) ih))
    (λ (q : time x ≡ t → ⊥). rw (of_no t x (insert_sorted e es) q, of_no t x es q) ih)
    (eq_or_ne (time x) t)))
    (λ (k : time e < time x). rw (insert_here e x es k) (of_no t e (x ∷ es) h))
    (le_or_lt (time x) (time e))
