-- Every slot but the one that a call names is the same slot after it: free or taken as it was, raw bytes included.
-- A refused call changes no slot (RefusalKeeps); the calls that read are lent the lists for reading alone.
use Prim.Native.Nat.{ℕ}
use Rattle.rules.specs.Papers.{Paper, after, done, no}
use Rattle.store.proofs.Chosen.{choose_open}
use Rattle.store.proofs.Slots.{Other}
use Rattle.address.specs.Address.{pool_of, slot_of}
use Rattle.store.specs.Calls.{add_in, delete_in, modify_in, place}
use Rattle.lookup.specs.Calls.{if_held, if_named, judging}
use Rattle.layout.specs.Judge.{Sound}
use Rattle.slots.specs.Pools.{Found, Pool, choose, find, held, into, no_pool, no_slot, taken, vacant}
use Rattle.store.specs.Edits.{edit, fill, rewrite, wipe}
use Rattle.store.specs.Promise.{Writes}
use Rattle.slots.specs.View.{view}
use Rattle.store_laws.proofs.Elsewhere.{named, placed_keeps, slot_else}
use Rattle.store_laws.proofs.Reached.{add_done, address_back, delete_done, modify_done}
use Rattle.store_laws.specs.Requests.{Elsewhere, the_slot}
use lib.ListN.{length}
use mathlib.Core.Bool.{Bool}
use mathlib.Core.List.{List, [], ◌∷◌}
use mathlib.Core.Option.{some}
use mathlib.Core.Path.{◌∙◌, ◌≡◌, ap, refl, sym}
use Rattle.layout.specs.declared.Setup.{Setup}

-- over the subpools
pub modify_others : (ps : List Pool) (a : ℕ) (d : List ℕ) (k i : ℕ) → Elsewhere k i a
    → the_slot (after (modify_in ps a d) ps (λ qs. qs)) k i ≡ the_slot ps k i
unfolding modify_in after if_held if_named
modify_others ps a d k i o = go (find ps a)
  where
    go : (x : Found) → the_slot (after (if_held a x (λ n b. done (n ∷ []) (edit (rewrite d) ps a))) ps (λ qs. qs)) k i ≡ the_slot ps k i
    go no_pool = refl
    go no_slot = refl
    go vacant = refl
    go (held n b) = slot_else (rewrite d) ps k i (pool_of a) (slot_of a) o

pub delete_others : (ps : List Pool) (a k i : ℕ) → Elsewhere k i a → the_slot (after (delete_in ps a) ps (λ qs. qs)) k i ≡ the_slot ps k i
unfolding delete_in after if_held if_named
delete_others ps a k i o = go (find ps a)
  where
    go : (x : Found) → the_slot (after (if_held a x (λ n b. done [] (edit wipe ps a))) ps (λ qs. qs)) k i ≡ the_slot ps k i
    go no_pool = refl
    go no_slot = refl
    go vacant = refl
    go (held n b) = slot_else wipe ps k i (pool_of a) (slot_of a) o

-- an addition touches the slot that it chooses alone; a slot that was taken stays in any case
pub add_others : (spill : Bool) (ps : List Pool) (d : List ℕ) (m j : ℕ) → choose spill ps (length d) ≡ into m j → (k i : ℕ) → Other k i m j
    → the_slot (after (add_in spill ps d) ps (λ qs. qs)) k i ≡ the_slot ps k i
unfolding add_in place after
add_others spill ps d m j q k i o = rw q (slot_else (fill d) ps k i m j o)

pub add_keeps : (spill : Bool) (ps : List Pool) (d : List ℕ) (k i n : ℕ) (b : List ℕ) → the_slot ps k i ≡ some (taken n b)
    → the_slot (after (add_in spill ps d) ps (λ qs. qs)) k i ≡ some (taken n b)
unfolding add_in
add_keeps spill ps d k i n b h = placed_keeps ps d (choose spill ps (length d)) (choose_open spill ps (length d)) k i n b h

-- over the lent lists of a sound store: the public calls
module _ (su : Setup) (st le : List ℕ) (s : Sound su st le) (st' le' : List ℕ) (k i : ℕ) where
  pub others_delete : (a : ℕ) (p : Paper) → Writes su st le (judging su st le (λ ps. delete_in ps a)) p st' le' → Elsewhere k i a
      → the_slot (view su st' le') k i ≡ the_slot (view su st le) k i
  others_delete a p w o =
      ap (λ (ps : List Pool). the_slot ps k i) (delete_done su st le s a p st' le' w).lists.seen ∙ delete_others (view su st le) a k i o

  pub others_modify : (a : ℕ) (ys : List ℕ) (p : Paper) → Writes su st le (judging su st le (λ ps. modify_in ps a ys)) p st' le'
      → Elsewhere k i a → the_slot (view su st' le') k i ≡ the_slot (view su st le) k i
  others_modify a ys p w o =
      ap (λ (ps : List Pool). the_slot ps k i) (modify_done su st le s a ys p st' le' w).lists.seen
      ∙ modify_others (view su st le) a ys k i o

  pub others_add : (d : List ℕ) (a : ℕ) → Writes su st le (judging su st le (λ ps. add_in su.spill ps d)) (no 0 (a ∷ [])) st' le' → Elsewhere k i a
      → the_slot (view su st' le') k i ≡ the_slot (view su st le) k i
  unfolding add_in
  others_add d a w o =
      let e = add_done su st le s d _ st' le' w in
      let c = named (view su st le) d (choose su.spill (view su st le) (length d)) a (sym e.answer) in
      let f = address_back su st le s (length d) c.0 c.1 c.2 in
      ap (λ (ps : List Pool). the_slot ps k i) e.lists.seen
      ∙ add_others su.spill (view su st le) d c.0 c.1 c.2 k i
      (λ g. o (g.0 ∙ sym f.0 ∙ ap pool_of (sym c.3), g.1 ∙ sym f.1 ∙ ap slot_of (sym c.3)))
