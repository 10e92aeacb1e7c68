-- A refusal of `add` and of `delete` has a number, so the answer tells which outcome it is of.
use Rattle.std.specs.Prelude.{Result, Ok, Err}
use Prim.Native.Nat.{ℕ}
use lib.ListN.{length}
use mathlib.Core.Bool.{Bool}
use mathlib.Core.List.{List, [], ◌∷◌}
use mathlib.Core.Path.{◌≡◌, ap, refl, subst, sym}
use native.Mathlib.Omega.{arith}
use Rattle.rules.specs.Papers.{Outcome, Paper, done, refused, says}
use Rattle.store.specs.Calls.{add_in, delete_in, place}
use Rattle.lookup.proofs.Numbers.{not_done}
use Rattle.lookup.specs.Calls.{if_held, if_named}
use Rattle.lookup.specs.Refusals.{paper}
use Rattle.slots.specs.Pools.{Choice, Found, Pool, all_taken, choose, find, held, into, no_pool, no_slot, too_large, vacant}
use Rattle.slots.specs.declared.StoreRefusal.{StoreRefusal}
use Rattle.store.specs.Edits.{edit, wipe}
use Rattle.store.specs.Refusals.{added_paper, done_paper}

refused_number : {A : Type 0} (p q : Paper) → ◌≡◌ {A = Outcome A} (refused p) (refused q) → p.number ≡ q.number
refused_number p q e = cc

no_answer : {A : Type 0} (vs : List ℕ) (x : A) (p : Paper) → done vs x ≡ refused p → ⊥
no_answer vs x p e = let z : ◌≡◌ {A = ℕ} 0 1 = cc in omega arith

add_numbered : (spill : Bool) (ps : List Pool) (d : List ℕ) (p : Paper) → add_in spill ps d ≡ refused p → p.number ≡ 0 → ⊥
unfolding add_in place
add_numbered spill ps d p = go (choose spill ps (length d))
  where
    go : (c : Choice) → place ps d c ≡ refused p → p.number ≡ 0 → ⊥
    go too_large e z = omega (arith, refused_number _ _ e)
    go (all_taken k) e z = omega (arith, refused_number _ _ e)
    go (into k i) e z = no_answer _ _ _ e

delete_numbered : (ps : List Pool) (a : ℕ) (p : Paper) → delete_in ps a ≡ refused p → p.number ≡ 0 → ⊥
unfolding delete_in if_held if_named
delete_numbered ps a p = go (find ps a)
  where
    go : (x : Found) → if_held a x (λ n b. done [] (edit wipe ps a)) ≡ refused p → p.number ≡ 0 → ⊥
    go no_pool e z = omega (arith, refused_number _ _ e)
    go no_slot e z = omega (arith, refused_number _ _ e)
    go vacant e z = omega (arith, refused_number _ _ e)
    go (held n b) e z = no_answer _ _ _ e

-- what holds of a refusal and its answer, and of an outcome that is none and its answer, holds of what the call came to and of what it answered
pub by_added : (P : Outcome (List Pool) → Result ℕ StoreRefusal → Type 0) (spill : Bool) (ps : List Pool) (d : List ℕ) (r : Result ℕ StoreRefusal)
    → added_paper r ≡ says (add_in spill ps d)
    → ((e : StoreRefusal) → P (refused (paper e)) (Err e)) → ((a : ℕ) (qs : List Pool) → P (done (a ∷ []) qs) (Ok a))
    → P (add_in spill ps d) r
unfolding added_paper says
by_added P spill ps d r q bad good = go (add_in spill ps d) r q (add_numbered spill ps d)
  where
    go : (o : Outcome (List Pool)) (r : Result ℕ StoreRefusal) → added_paper r ≡ says o → ((p : Paper) → o ≡ refused p → p.number ≡ 0 → ⊥) → P o r
    go (refused p) (Ok a) q h = absurd (h p refl (sym (ap (λ (x : Paper). x.number) q)))
    go (refused p) (Err e) q h = subst (λ (x : Paper). P (refused x) (Err e)) q (bad e)
    go (done vs qs) (Ok a) q h = subst (λ (x : Paper). P (done x.values qs) (Ok a)) q (good a qs)
    go (done vs qs) (Err e) q h = absurd (not_done e vs q)

pub by_deleted : (P : Outcome (List Pool) → Result (Unit {0}) StoreRefusal → Type 0) (ps : List Pool) (a : ℕ) (r : Result (Unit {0}) StoreRefusal)
    → done_paper r ≡ says (delete_in ps a)
    → ((e : StoreRefusal) → P (refused (paper e)) (Err e)) → ((vs : List ℕ) (qs : List Pool) → P (done vs qs) (Ok tt)) → P (delete_in ps a) r
unfolding done_paper says
by_deleted P ps a r q bad good = go (delete_in ps a) r q (delete_numbered ps a)
  where
    go : (o : Outcome (List Pool)) (r : Result (Unit {0}) StoreRefusal) → done_paper r ≡ says o
        → ((p : Paper) → o ≡ refused p → p.number ≡ 0 → ⊥) → P o r
    go (refused p) (Ok _) q h = absurd (h p refl (sym (ap (λ (x : Paper). x.number) q)))
    go (refused p) (Err e) q h = subst (λ (x : Paper). P (refused x) (Err e)) q (bad e)
    go (done vs qs) (Ok _) q h = good vs qs
    go (done vs qs) (Err e) q h = absurd (not_done e vs q)
