-- In an ordered schedule the due entries are those at the front, and what follows them is not due.
use Prim.Native.Nat.{◌+◌, ◌-◌, ◌<◌, ◌≤◌, suc, zero, ℕ}
use Rattle.rules.specs.Tests.{unless}
use Rattle.rows.proofs.Order.{Head, ordered_cons}
use Rattle.table.proofs.Before.{below_head, below_not}
use Rattle.rows.specs.Entries.{Entry, time}
use Rattle.rows.specs.Order.{ordered_from}
use Rattle.table.specs.Before.{below}
use Rattle.turns_laws.specs.Due.{due, due_count}
use borrow.Author.Tests.{leb-false, leb-true, lt-leb}
use lib.Dec.{leb, ltb}
use lib.ListN.{drop}
use mathlib.Core.Bool.{Bool, cond, false, true}
use mathlib.Core.List.{List, [], ◌∷◌}
use mathlib.Core.Path.{◌∙◌, ◌≡◌, ap, refl, sym}
use native.Mathlib.Omega.{arith}

none_after : (ck t : ℕ) (es : List Entry) → ck < t → ordered_from t es ≡ true → due_count ck es ≡ 0
unfolding due_count unless
none_after ck t [] h o = refl
none_after ck t (e ∷ es) h o =
    let d = ordered_cons t e es o in
    rw (lt-leb (time e) ck (omega (arith, d.from))) (none_after ck (time e) es (omega (arith, d.from)) d.rest)

-- the due entries are those at the front
pub due_is : (ck t : ℕ) (es : List Entry) → ordered_from t es ≡ true → due ck es ≡ due_count ck es
unfolding due_count unless
due_is ck t [] o = unfold below in refl
due_is ck t (e ∷ es) o = go (leb (time e) ck) refl (ordered_cons t e es o) (λ h. due_is ck (time e) es h)
  where
    go : (b : Bool) → leb (time e) ck ≡ b → Head t e es → (ordered_from (time e) es ≡ true → due ck es ≡ due_count ck es)
        → due ck (e ∷ es) ≡ unless b (due_count ck es) (suc (due_count ck es))
    go true q d ih = below_head (ck + 1) e es (omega (arith, leb-true (time e) ck q)) ∙ ap suc (ih d.rest)
    go false q d ih =
        below_not (ck + 1) e es (omega (arith, leb-false (time e) ck q)) ∙ sym (none_after ck (time e) es (leb-false (time e) ck q) d.rest)

-- of the due entries at the front as many fewer are left as went
pub below_drop : (t m : ℕ) (es : List Entry) → m ≤ below t es → below t (drop m es) ≡ below t es - m
unfolding below
below_drop t zero es h = omega arith
below_drop t (suc m) [] h = absurd (omega arith)
below_drop t (suc m) (e ∷ es) h = go (ltb (time e) t) h (below_drop t m es)
  where
    go : (b : Bool) → suc m ≤ cond b (suc (below t es)) 0 → (m ≤ below t es → below t (drop m es) ≡ below t es - m)
        → below t (drop m es) ≡ cond b (suc (below t es)) 0 - suc m
    go true l ih = ih (omega arith) ∙ omega arith
    go false l ih = absurd (omega arith)
