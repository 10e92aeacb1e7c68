-- What the lists stand for after a public call on a sound store: its promise in a judged call's form.
use Rattle.std.specs.Prelude.{Ok}
use Prim.Native.Nat.{ℕ}
use Rattle.rules.specs.Papers.{Outcome, Paper, done, no, refused, says}
use Rattle.rules.specs.Tests.{unless}
use Rattle.store.proofs.Chosen.{add_at, room_there}
use Rattle.lookup.proofs.Packets.{packet_there}
use Rattle.store.proofs.Modifying.{modify_at, modify_refused}
use Rattle.store.proofs.Promises.{delete_at, does_refused, writes}
use Rattle.store.proofs.Start.{fresh_done, fresh_leaves}
use Rattle.address.specs.Address.{address_of, pool_of, slot_of}
use Rattle.store.specs.Calls.{add_in, delete_in, fresh_in, fresh_pools, modify_in, place}
use Rattle.lookup.specs.Calls.{if_held, if_named, judging, packet_in}
use Rattle.slots.specs.Inside.{cell_of}
use Rattle.layout.specs.Judge.{Sized, Sound, buffers_ok, setup_ok, sized}
use Rattle.slots.specs.Pools.{Choice, Found, Pool, all_taken, choose, find, held, into, no_pool, no_slot, too_large, vacant}
use Rattle.store.specs.Promise.{Does, Writes}
use Rattle.store.specs.Refusals.{done_paper}
use Rattle.slots.specs.View.{Leaves, view}
use lib.ListN.{length, take}
use mathlib.Core.Bool.{Bool, false, true}
use mathlib.Core.List.{List, [], ◌∷◌}
use mathlib.Core.Path.{◌∙◌, ◌≡◌, ap, refl, sym}
use native.Mathlib.Omega.{arith}
use Rattle.layout.specs.declared.Setup.{Setup}

pub sized_of : {su : Setup} {st le : List ℕ} → Sound su st le → Sized su st le
sized_of s = record { setup = s.setup; buffers = s.buffers }

-- the address of a chosen slot decodes to it
pub address_back : (su : Setup) (st le : List ℕ) → Sound su st le → (n k i : ℕ) → choose su.spill (view su st le) n ≡ into k i
    → (pool_of (address_of k i) ≡ k) × (slot_of (address_of k i) ≡ i)
address_back su st le s n k i q =
    let w = (room_there su st le s n k i q).inside in
    let a = w.pool_fits in
    let b = w.few_pools in
    let c = w.slot_fits in
    let d = w.few_slots in
    (omega arith, omega arith)

does_by : (su : Setup) (st le : List ℕ) (call : List Pool → Outcome (List Pool)) (p q : Paper) (st₁ le₁ st₂ le₂ : List ℕ)
    → q ≡ p → st₂ ≡ st₁ → le₂ ≡ le₁ → Does su st le call p st₁ le₁ → Does su st le call q st₂ le₂
does_by su st le call p q st₁ le₁ st₂ le₂ e f g d = rw (e, f, g) d

module _ (su : Setup) (st le : List ℕ) (s : Sound su st le) where
  -- the promise allows one outcome, so that of lists which a judged call may leave is that of all
  as_judged : (call : List Pool → Outcome (List Pool)) (p q : Paper) (st₁ le₁ st₂ le₂ : List ℕ)
      → Does su st le call p st₁ le₁ → Writes su st le (judging su st le call) q st₂ le₂ → Does su st le call q st₂ le₂
  as_judged call p q st₁ le₁ st₂ le₂ d w =
      let v = writes su st le call p st₁ le₁ s d in
      does_by su st le call p q st₁ le₁ st₂ le₂ (w.answer ∙ sym v.answer) (w.store ∙ sym v.store) (w.lens ∙ sym v.lens) d

  pub add_done : (d : List ℕ) (p : Paper) (st' le' : List ℕ)
      → Writes su st le (judging su st le (λ ps. add_in su.spill ps d)) p st' le' → Does su st le (λ ps. add_in su.spill ps d) p st' le'
  unfolding add_in place
  add_done d p st' le' w = go (choose su.spill (view su st le) (length d)) refl
    where
      go : (x : Choice) → choose su.spill (view su st le) (length d) ≡ x → Does su st le (λ ps. add_in su.spill ps d) p st' le'
      go too_large e = as_judged _ (no 11 (length d ∷ [])) p st le st' le' (does_refused su st le _ _ (rw e)) w
      go (all_taken k) e = as_judged _ (no 12 (k ∷ [])) p st le st' le' (does_refused su st le _ _ (rw e)) w
      go (into k i) e =
          as_judged _ _ p _ _ st' le'
          (add_at su st le d s (cell_of su k i) (room_there su st le s (length d) k i e) (address_of k i) _ _ refl refl refl) w

  pub delete_done : (a : ℕ) (p : Paper) (st' le' : List ℕ)
      → Writes su st le (judging su st le (λ ps. delete_in ps a)) p st' le' → Does su st le (λ ps. delete_in ps a) p st' le'
  unfolding delete_in if_held if_named
  delete_done a p st' le' w = go (find (view su st le) a) refl
    where
      go : (x : Found) → find (view su st le) a ≡ x → Does su st le (λ ps. delete_in ps a) p st' le'
      go no_pool e = as_judged _ (no 16 (pool_of a ∷ [])) p st le st' le' (does_refused su st le _ _ (rw e)) w
      go no_slot e = as_judged _ (no 17 (slot_of a ∷ [])) p st le st' le' (does_refused su st le _ _ (rw e)) w
      go vacant e = as_judged _ (no 18 (address_of (pool_of a) (slot_of a) ∷ [])) p st le st' le' (does_refused su st le _ _ (rw e)) w
      go (held n b) e =
          as_judged _ _ p _ _ st' le'
          (delete_at su st le a s (cell_of su (pool_of a) (slot_of a)) (packet_there su st le s a n b e) _ _ refl refl) w

  pub modify_done : (a : ℕ) (ys : List ℕ) (p : Paper) (st' le' : List ℕ)
      → Writes su st le (judging su st le (λ ps. modify_in ps a ys)) p st' le' → Does su st le (λ ps. modify_in ps a ys) p st' le'
  unfolding packet_in if_held if_named
  modify_done a ys p st' le' w = go (find (view su st le) a) refl
    where
      go : (x : Found) → find (view su st le) a ≡ x → Does su st le (λ ps. modify_in ps a ys) p st' le'
      go no_pool e = as_judged _ (no 16 (pool_of a ∷ [])) p st le st' le' (modify_refused su st le a ys _ (rw e)) w
      go no_slot e = as_judged _ (no 17 (slot_of a ∷ [])) p st le st' le' (modify_refused su st le a ys _ (rw e)) w
      go vacant e = as_judged _ (no 18 (address_of (pool_of a) (slot_of a) ∷ [])) p st le st' le' (modify_refused su st le a ys _ (rw e)) w
      go (held n b) e = as_judged _ (no 0 (n ∷ [])) p _ le st' le' (modify_at su st le a ys s n (take n b) (rw e)) w

both_passed : (a b : Bool) (ps : List Pool) → no 0 [] ≡ says (unless a (refused (no 1 [])) (unless b (refused (no 2 [])) (done [] ps)))
    → (a ≡ true) × (b ≡ true)
unfolding unless says
both_passed true true ps q = (refl, refl)
both_passed false b ps q = let z : ◌≡◌ {A = ℕ} 0 1 = ap (λ (p : Paper). p.number) q in absurd (omega arith)
both_passed true false ps q = let z : ◌≡◌ {A = ℕ} 0 2 = ap (λ (p : Paper). p.number) q in absurd (omega arith)

-- a fresh start that was not refused
pub fresh_made : (su : Setup) (st le st' le' : List ℕ) → Writes su st le (fresh_in su st le) (done_paper (Ok tt)) st' le'
    → Sized su st le × Leaves su st le (fresh_pools su) st' le'
unfolding fresh_in sized done_paper
fresh_made su st le st' le' w =
    let b = both_passed (setup_ok su) (buffers_ok su (length st) (length le)) (fresh_pools su) w.answer in
    let s : Sized su st le = record { setup = b.0; buffers = b.1 } in
    let l = fresh_leaves su st le s _ _ refl refl in
    let v = fresh_done su st le s _ _ l in
    (s, rw (w.store ∙ sym v.store, w.lens ∙ sym v.lens) l)
