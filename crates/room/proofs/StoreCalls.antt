-- The store's calls on the smaller store and on the larger.
use Prim.Native.Nat.{◌≤◌, ℕ}
use Rattle.room.proofs.Alike.{Alike, Left, answers, refuses, strikes}
use Rattle.room.proofs.Choosing.{choose_grow, is_full, slotted, vacant_named}
use Rattle.room.proofs.Grow.{edit_grow, edit_at_grow, find_grow, shape_edit, shape_edit_at}
use Rattle.room.specs.Room.{struck}
use Rattle.rules.specs.Papers.{done, through}
use Rattle.store.proofs.Chosen.{Open, choose_open}
use Rattle.store.specs.Calls.{add_in, delete_in, modify_in, place}
use Rattle.lookup.specs.Calls.{if_held, if_named}
use Rattle.presence.specs.Presence.{has_in, len_in}
use Rattle.reading.specs.Reading.{read_in}
use Rattle.room.specs.Grown.{Narrow, Slotted, grow, shape}
use Rattle.slots.specs.Pools.{Choice, Found, Pool, Slot, all_taken, find, held, no_pool, no_slot, too_large, vacant}
use Rattle.store.specs.Edits.{edit, fill, rewrite, wipe}
use Rattle.slots.specs.Pools as P
use lib.ListN.{get_or, length}
use mathlib.Core.Bool.{Bool, false}
use mathlib.Core.List.{List, [], ◌∷◌}
use mathlib.Core.Path.{◌∙◌, ◌≡◌, refl}

-- what an addition leaves has the same shape, and its answer is the address of a slot of the smaller
abbrev pub Placed : List ℕ → List ℕ → List Pool → Type 0
Placed ns vs qs = (shape qs ≡ ns) × Slotted ns (get_or vs 0 0)

module _ (ns ks : List ℕ) (ps : List Pool) (shaped : shape ps ≡ ns) where
  module _ (a : ℕ) (named : Slotted ns a) where
    pub here : Slotted (shape ps) a
    here = rw shaped named

    pub found : find (grow ks ps) a ≡ find ps a
    found = find_grow ks ps a here

    pub read_grow : (buf : List ℕ) → read_in (grow ks ps) a buf ≡ read_in ps a buf
    unfolding read_in
    read_grow buf = rw found

    pub has_grow : has_in (grow ks ps) a ≡ has_in ps a
    unfolding has_in
    has_grow = rw found

    pub len_grow : len_in (grow ks ps) a ≡ len_in ps a
    unfolding len_in
    len_grow = rw found

    -- a call that edits the slot of a packet that is found
    module _ (f : Slot → Slot) (vs : ℕ → List ℕ) where
      edit_by : (x : Found) (qs : List Pool) → if_held a x (λ n b. done (vs n) (grow ks qs)) ≡ through (grow ks) (if_held a x (λ n b. done (vs n) qs))
      unfolding through if_held if_named
      edit_by no_pool qs = refl
      edit_by no_slot qs = refl
      edit_by vacant qs = refl
      edit_by (held n b) qs = refl

      shape_by : (x : Found) (qs : List Pool) → shape qs ≡ ns → Left (λ vs rs. shape rs ≡ ns) (if_held a x (λ n b. done (vs n) qs))
      unfolding if_held if_named
      shape_by no_pool qs e = tt
      shape_by no_slot qs e = tt
      shape_by vacant qs e = tt
      shape_by (held n b) qs e = e

      edited_grow : if_held a (find (grow ks ps) a) (λ n b. done (vs n) (edit f (grow ks ps) a))
          ≡ through (grow ks) (if_held a (find ps a) (λ n b. done (vs n) (edit f ps a)))
      edited_grow = rw (found, edit_grow f ks ps a here) (edit_by (find ps a) (edit f ps a))

      edited_shape : Left (λ vs rs. shape rs ≡ ns) (if_held a (find ps a) (λ n b. done (vs n) (edit f ps a)))
      edited_shape = shape_by (find ps a) (edit f ps a) (shape_edit f ps a ∙ shaped)

    pub delete_grow : delete_in (grow ks ps) a ≡ through (grow ks) (delete_in ps a)
    unfolding delete_in
    delete_grow = edited_grow wipe (λ n. [])

    pub delete_shape : Left (λ vs rs. shape rs ≡ ns) (delete_in ps a)
    unfolding delete_in
    delete_shape = edited_shape wipe (λ n. [])

    pub deletes : Alike (grow ks) (λ vs rs. shape rs ≡ ns) (delete_in ps a) (delete_in (grow ks ps) a)
    deletes = record { same = λ h. delete_grow; left = delete_shape }

    pub modifies : (ys : List ℕ) → Alike (grow ks) (λ vs rs. shape rs ≡ ns) (modify_in ps a ys) (modify_in (grow ks ps) a ys)
    unfolding modify_in
    modifies ys = record { same = λ h. edited_grow (rewrite ys) (λ n. n ∷ []); left = edited_shape (rewrite ys) (λ n. n ∷ []) }

  module _ (narrow : Narrow ns) (few : length ns ≤ 256) where
    places : (d : List ℕ) (x x' : Choice) → (is_full x ≡ false → x' ≡ x) → Open ps (length d) x
        → Alike (grow ks) (Placed ns) (place ps d x) (place (grow ks ps) d x')
    unfolding place struck
    places d too_large x' f h = rw (f refl) (refuses _ _ _)
    places d (all_taken k) x' f h = strikes _ _ _ _ refl
    places d (P.into k i) x' f h =
        let n = vacant_named ps k i h.0 in
        rw (f refl, edit_at_grow (fill d) ks ps k i n)
        (answers _ _ _ _ (shape_edit_at (fill d) ps k i ∙ shaped, slotted ns k i narrow few (rw shaped at n)))

    pub adds : (d : List ℕ) (x y : Bool) → x ≡ false → Alike (grow ks) (Placed ns) (add_in x ps d) (add_in y (grow ks ps) d)
    unfolding add_in
    adds d x y e = rw e (places d _ _ (choose_grow y ks ps (length d)) (choose_open false ps (length d)))
