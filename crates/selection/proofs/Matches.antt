-- Entries by their request ID: the first match, and the last at a time, entry by entry.
use Prim.Native.Nat.{◌+◌, ◌<◌, suc, ℕ}
use Rattle.rows.specs.Entries.{Entry, time}
use Rattle.rules.proofs.All.{and_left, and_right}
use Rattle.rules.proofs.Cases.{eq_or_ne}
use Rattle.selection.specs.Match.{first_match, is_match, last_match}
use borrow.Author.Tests.{eq-eqb, eqb-true, ne_eqb}
use lib.Dec.{eqb}
use lib.ListN.{get_or, length}
use mathlib.Core.Bool.{Bool, cond, true}
use mathlib.Core.List.{List, [], ◌∷◌}
use mathlib.Core.Logic.{⊎_elim}
use mathlib.Core.Path.{◌≡◌, ap}
use native.Mathlib.Nat.{not-suc-le-zero}
use native.Mathlib.Omega.{arith}

-- ---- the ID at a time

pub record Matched (id t : ℕ) (e : Entry) : Type 0 where
  pub same : e.id ≡ id
  pub then : time e ≡ t

pub match_facts : (id t : ℕ) (e : Entry) → is_match id t e ≡ true → Matched id t e
unfolding is_match
match_facts id t e h =
    record { same = eqb-true _ _ (and_left (eqb e.id id) _ h); then = eqb-true _ _ (and_right (eqb e.id id) _ h) }

pub match_true : (id t : ℕ) (e : Entry) → e.id ≡ id → time e ≡ t → is_match id t e ≡ true
unfolding is_match
match_true id t e p q = rw (eq-eqb e.id id p) (eq-eqb (time e) t q)

-- ---- the first match

pub first_hit : (id : ℕ) (e : Entry) (es : List Entry) → e.id ≡ id → first_match id (e ∷ es) ≡ 0
unfolding first_match
first_hit id e es h = rw (eq-eqb e.id id h)

pub first_miss : (id : ℕ) (e : Entry) (es : List Entry) → (e.id ≡ id → ⊥) → first_match id (e ∷ es) ≡ suc (first_match id es)
unfolding first_match
first_miss id e es h = rw (ne_eqb e.id id h)

pub first_found : (id : ℕ) (es : List Entry) (d : Entry) → first_match id es < length es → (get_or es (first_match id es) d).id ≡ id
first_found id [] d h = absurd (not-suc-le-zero h)
first_found id (e ∷ es) d h =
    ⊎_elim (λ (m : e.id ≡ id). rw (first_hit id e es m) m)
    (λ (m : e.id ≡ id → ⊥). let q = first_miss id e es m in rw q (first_found id es d (omega arith)))
    (eq_or_ne e.id id)

-- ---- the last match at a time

pub last_step : (id t k b : ℕ) (e : Entry) (es : List Entry) (m : Bool) → is_match id t e ≡ m
    → last_match id t k b (e ∷ es) ≡ last_match id t (k + 1) (cond m k b) es
unfolding last_match
last_step id t k b e es m h = ap (λ (x : Bool). last_match id t (k + 1) (cond x k b) es) h
