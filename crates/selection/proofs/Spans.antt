-- Spans of an ordered list, from one number up to another, the second outside: an unbroken range of the entries.
use Prim.Native.Nat.{◌-◌, ◌<◌, ◌≤◌, suc, ℕ}
use Rattle.rows.proofs.Order.{InRange, ordered_cons}
use Rattle.rows.specs.Entries.{Entry, time}
use Rattle.rows.specs.Order.{ordered_from}
use Rattle.rules.proofs.All.{and_right, fails}
use Rattle.rules.proofs.Cases.{le_or_lt}
use Rattle.table.proofs.Before.{below_head, below_none, below_not}
use Rattle.table.specs.Before.{below}
use Rattle.selection.specs.Windows.{filter}
use borrow.Author.Tests.{le-leb, lt-leb, lt-ltb, ltb-true}
use lib.Dec.{leb, ltb}
use lib.ListN.{drop, take}
use mathlib.Core.Bool.{Bool, ◌&&◌, false, true}
use mathlib.Core.List.{List, [], ◌∷◌}
use mathlib.Core.Logic.{⊎_elim}
use mathlib.Core.Path.{◌∙◌, ◌≡◌, ap, refl}
use native.Mathlib.Nat.{sub-zero, suc-sub-suc}
use native.Mathlib.Omega.{arith}

unfoldable pub between : ℕ → ℕ → Entry → Bool
between lo hi e = leb lo (time e) && ltb (time e) hi

-- ---- one step of each definition

pub filter_in : (p : Entry → Bool) (e : Entry) (es : List Entry) → p e ≡ true → filter p (e ∷ es) ≡ e ∷ filter p es
unfolding filter
filter_in p e es h = rw h

pub filter_out : (p : Entry → Bool) (e : Entry) (es : List Entry) → p e ≡ false → filter p (e ∷ es) ≡ filter p es
unfolding filter
filter_out p e es h = rw h

pub filter_same : (p q : Entry → Bool) (u : ℕ) (es : List Entry) → ((e : Entry) → InRange e → p e ≡ q e) → ordered_from u es ≡ true
    → filter p es ≡ filter q es
unfolding filter
filter_same p q u [] h o = refl
filter_same p q u (e ∷ es) h o =
    let a = ordered_cons u e es o in
    rw (h e a.range, filter_same p q (time e) es h a.rest)

-- of a list in order from u on: none passes, and all do
pub filter_none : (p : Entry → Bool) (u : ℕ) (es : List Entry) → ordered_from u es ≡ true → ((e : Entry) → u ≤ time e → p e ≡ false) →
    filter p es ≡ []
filter_none p u [] o h = unfold filter in refl
filter_none p u (e ∷ es) o h =
    let a = ordered_cons u e es o in
    filter_out p e es (h e a.from) ∙ filter_none p (time e) es a.rest (λ x k. h x (omega arith))

pub filter_all : (p : Entry → Bool) (u : ℕ) (es : List Entry) → ordered_from u es ≡ true → ((e : Entry) → u ≤ time e → p e ≡ true) → filter p es ≡ es
filter_all p u [] o h = unfold filter in refl
filter_all p u (e ∷ es) o h =
    let a = ordered_cons u e es o in
    filter_in p e es (h e a.from) ∙ ap (λ (r : List Entry). e ∷ r) (filter_all p (time e) es a.rest (λ x k. h x (omega arith)))

module _ (lo hi : ℕ) (e : Entry) where
  pub inside : lo ≤ time e → time e < hi → between lo hi e ≡ true
  unfolding between
  inside h k = rw (le-leb lo (time e) h) (lt-ltb (time e) hi k)

  pub before : time e < lo → between lo hi e ≡ false
  unfolding between
  before h = rw (lt-leb lo (time e) h)

  pub behind : hi ≤ time e → between lo hi e ≡ false
  unfolding between
  behind h = fails (leb lo (time e) && ltb (time e) hi) (λ t. omega (arith, ltb-true (time e) hi (and_right (leb lo (time e)) (ltb (time e) hi) t)))

-- ---- a span of an ordered list

module _ (lo hi : ℕ) where
  none_behind : (u : ℕ) (es : List Entry) → ordered_from u es ≡ true → hi ≤ u → filter (between lo hi) es ≡ []
  none_behind u es o h = filter_none (between lo hi) u es o (λ e k. behind lo hi e (omega arith))

  pub span_part : (u : ℕ) (es : List Entry) → ordered_from u es ≡ true
      → filter (between lo hi) es ≡ take (below hi es - below lo es) (drop (below lo es) es)
  span_part u [] o = unfold filter below in refl
  span_part u (e ∷ es) o =
      let a = ordered_cons u e es o in
      let ih = span_part (time e) es a.rest in
      ⊎_elim
      (λ (k : lo ≤ time e).
      let z : below lo es ≡ 0 = below_none lo (time e) es a.rest k in
      ⊎_elim
      (λ (m : hi ≤ time e).
      rw (below_not lo e es k, below_not hi e es m)
      (filter_out (between lo hi) e es (behind lo hi e m) ∙ none_behind (time e) es a.rest m))
      (λ (m : time e < hi).
      rw (below_not lo e es k, below_head hi e es m, sub-zero)
      (filter_in (between lo hi) e es (inside lo hi e k m) ∙ ap (λ (r : List Entry). e ∷ r) (rw (z, sub-zero) at ih)))
      (le_or_lt hi (time e)))
      (λ (k : time e < lo).
      ⊎_elim
      (λ (m : hi ≤ time e).
      let z : 0 - suc (below lo es) ≡ 0 = omega arith in
      rw (below_head lo e es k, below_not hi e es m, z)
      (filter_out (between lo hi) e es (before lo hi e k) ∙ none_behind (time e) es a.rest m))
      (λ (m : time e < hi).
      rw (below_head lo e es k, below_head hi e es m, suc-sub-suc) (filter_out (between lo hi) e es (before lo hi e k) ∙ ih))
      (le_or_lt hi (time e)))
      (le_or_lt lo (time e))
