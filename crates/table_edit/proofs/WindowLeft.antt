-- A window's entries removed: what is left is what the removal of its unbroken range of rows leaves.
use Prim.Native.Nat.{◌-◌, ◌<◌, ◌≤◌, suc, ℕ}
use Rattle.rows.proofs.Order.{ordered_cons}
use Rattle.rows.specs.Entries.{Entry, time}
use Rattle.rows.specs.Order.{ordered, ordered_from}
use Rattle.rules.proofs.Cases.{eq_or_ne, le_or_lt}
use Rattle.selection.proofs.Spans.{before, behind, between, filter_all, filter_in, filter_out, filter_same, inside}
use Rattle.selection.proofs.WindowLaws.{end_is, high, low, start_is, window_number, within_is}
use Rattle.selection.specs.Windows.{end_of, filter, first_row, in_window, outside, start_of, within}
use Rattle.table.proofs.Before.{below_head, below_none, below_not}
use Rattle.table.specs.Before.{below}
use Rattle.table_edit.specs.Edits.{without}
use borrow.Author.Tests.{eq-eqb, ne_eqb}
use lib.ListN.{length, take-append-drop}
use mathlib.Core.Bool.{Bool, false, not, true}
use mathlib.Core.List.{List, [], ◌∷◌}
use mathlib.Core.Logic.{⊎_elim}
use mathlib.Core.Path.{◌∙◌, ◌≡◌, ap, refl, sym}
use native.Mathlib.Nat.{add-zero, sub-zero, suc-add, suc-sub-suc, zero-add}
use native.Mathlib.Omega.{arith}
use Rattle.selection.specs.declared.MomentWindow.{MomentWindow}

unfoldable pub out : ℕ → ℕ → Entry → Bool
out lo hi e = not (between lo hi e)

module _ (lo hi : ℕ) (e : Entry) where
  pub out_of : (b : Bool) → between lo hi e ≡ b → out lo hi e ≡ not b
  unfolding out
  out_of b h = ap not h

-- ---- a range removed, one step

pub without_none : (i : ℕ) (es : List Entry) → without i 0 es ≡ es
unfolding without
without_none i es = rw (add-zero i) (take-append-drop i es)

without_front : (m : ℕ) (e : Entry) (es : List Entry) → without 0 (suc m) (e ∷ es) ≡ without 0 m es
unfolding without
without_front m e es = rw (zero-add m, zero-add (suc m))

without_later : (i m : ℕ) (e : Entry) (es : List Entry) → without (suc i) m (e ∷ es) ≡ e ∷ without i m es
unfolding without
without_later i m e es = rw (suc-add i m)

-- ---- a span removed from an ordered list

module _ (lo hi : ℕ) where
  pub span_left : (u : ℕ) (es : List Entry) → ordered_from u es ≡ true
      → filter (out lo hi) es ≡ without (below lo es) (below hi es - below lo es) es
  span_left u [] o = unfold filter below without in refl
  span_left u (e ∷ es) o =
      let a = ordered_cons u e es o in
      let ih = span_left (time e) es a.rest in
      let all : hi ≤ time e → filter (out lo hi) (e ∷ es) ≡ e ∷ es
      = λ (m : hi ≤ time e).
      filter_in (out lo hi) e es (out_of lo hi e false (behind lo hi e m))
      ∙ ap (λ (r : List Entry). e ∷ r)
      (filter_all (out lo hi) (time e) es a.rest (λ x k. out_of lo hi x false (behind lo hi x (omega arith)))) in
      ⊎_elim
      (λ (k : lo ≤ time e).
      let z : below lo es ≡ 0 = below_none lo (time e) es a.rest k in
      ⊎_elim
      (λ (m : hi ≤ time e).
      let y : below hi (e ∷ es) - below lo (e ∷ es) ≡ 0 = omega (arith, below_not hi e es m) in
      rw y (all m ∙ sym (without_none _ (e ∷ es))))
      (λ (m : time e < hi).
      rw (below_not lo e es k, below_head hi e es m, sub-zero)
      (filter_out (out lo hi) e es (out_of lo hi e true (inside lo hi e k m))
      ∙ (rw (z, sub-zero) at ih)
      ∙ sym (without_front (below hi es) e es)))
      (le_or_lt hi (time e)))
      (λ (k : time e < lo).
      ⊎_elim
      (λ (m : hi ≤ time e).
      let y : below hi (e ∷ es) - below lo (e ∷ es) ≡ 0 = omega (arith, below_not hi e es m) in
      rw y (all m ∙ sym (without_none _ (e ∷ es))))
      (λ (m : time e < hi).
      rw (below_head lo e es k, below_head hi e es m, suc-sub-suc)
      (filter_in (out lo hi) e es (out_of lo hi e false (before lo hi e k))
      ∙ ap (λ (r : List Entry). e ∷ r) ih
      ∙ sym (without_later (below lo es) (below hi es - below lo es) e es)))
      (le_or_lt hi (time e)))
      (le_or_lt lo (time e))

-- ---- a window

module _ (es : List Entry) (o : ordered es ≡ true) (w : MomentWindow) where
  -- the entries outside it are what the removal of its range leaves
  pub window_left : outside w es ≡ without (start_of w es) (end_of w es - start_of w es) es
  window_left =
      rw (start_is es o w, end_is es o w)
      (filter_same (λ e. not (within w e)) (out (low w) (high w)) 0 es (λ e r. ap not (within_is w e r) ∙ sym (out_of (low w) (high w) e _ refl)) o
      ∙ span_left (low w) (high w) 0 es o)

  -- in the two numbers that retrieval answers
  pub window_rows : outside w es ≡ without (first_row w es) (length (in_window w es)) es
  unfolding first_row
  window_rows =
      ⊎_elim
      (λ (z : length (in_window w es) ≡ 0).
      let y : end_of w es - start_of w es ≡ 0 = sym (window_number es o w) ∙ z in
      rw (eq-eqb (length (in_window w es)) 0 z, z)
      (window_left ∙ ap (λ (m : ℕ). without (start_of w es) m es) y ∙ without_none _ es ∙ sym (without_none 0 es)))
      (λ (z : length (in_window w es) ≡ 0 → ⊥).
      rw (ne_eqb (length (in_window w es)) 0 z) (window_left ∙ ap (λ (m : ℕ). without (start_of w es) m es) (sym (window_number es o w))))
      (eq_or_ne (length (in_window w es)) 0)
