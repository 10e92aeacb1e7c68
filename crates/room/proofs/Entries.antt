-- Entries whose addresses name slots of the smaller store: every change of the schedule keeps that.
use Prim.Native.Nat.{◌+◌, ◌<◌, suc, zero, ℕ}
use Rattle.room.specs.Grown.{Slots, Slotted}
use Rattle.table_edit.specs.Edits.{insert_sorted, without}
use Rattle.rows.specs.Entries.{Entry, time}
use Rattle.selection.specs.Windows.{filter}
use lib.Dec.{leb}
use lib.ListN.{drop, get_or, length, take}
use mathlib.Core.Bool.{Bool, cond, false, true}
use mathlib.Core.List.{List, [], ◌++◌, ◌∷◌}
use native.Mathlib.Nat.{le_of_suc-le-suc, not-suc-le-zero}

module _ (ns : List ℕ) where
  either : (b : Bool) (xs ys : List Entry) → Slots ns xs → Slots ns ys → Slots ns (cond b xs ys)
  either true xs ys f g = f
  either false xs ys f g = g

  pub insert_slots : (e : Entry) (es : List Entry) → Slotted ns e.addr → Slots ns es → Slots ns (insert_sorted e es)
  unfolding insert_sorted
  insert_slots e [] m n = (m, tt)
  insert_slots e (x ∷ es) m n = either (leb (time x) (time e)) (x ∷ insert_sorted e es) (e ∷ x ∷ es) (n.0, insert_slots e es m n.1) (m, n)

  pub filter_slots : (p : Entry → Bool) (es : List Entry) → Slots ns es → Slots ns (filter p es)
  unfolding filter
  filter_slots p [] n = tt
  filter_slots p (e ∷ es) n = either (p e) (e ∷ filter p es) (filter p es) (n.0, filter_slots p es n.1) (filter_slots p es n.1)

  take_slots : (i : ℕ) (es : List Entry) → Slots ns es → Slots ns (take i es)
  take_slots zero es n = tt
  take_slots (suc i) [] n = tt
  take_slots (suc i) (e ∷ es) n = (n.0, take_slots i es n.1)

  pub drop_slots : (i : ℕ) (es : List Entry) → Slots ns es → Slots ns (drop i es)
  drop_slots zero es n = n
  drop_slots (suc i) [] n = tt
  drop_slots (suc i) (e ∷ es) n = drop_slots i es n.1

  append_slots : (xs ys : List Entry) → Slots ns xs → Slots ns ys → Slots ns (xs ++ ys)
  append_slots [] ys f g = g
  append_slots (x ∷ xs) ys f g = (f.0, append_slots xs ys f.1 g)

  pub without_slots : (i m : ℕ) (es : List Entry) → Slots ns es → Slots ns (without i m es)
  unfolding without
  without_slots i m es n = append_slots (take i es) (drop (i + m) es) (take_slots i es n) (drop_slots (i + m) es n)

  pub slot_at : (es : List Entry) (i : ℕ) (d : Entry) → i < length es → Slots ns es → Slotted ns (get_or es i d).addr
  slot_at [] i d l n = absurd (not-suc-le-zero l)
  slot_at (e ∷ es) zero d l n = n.0
  slot_at (e ∷ es) (suc i) d l n = slot_at es i d (le_of_suc-le-suc l) n.1
