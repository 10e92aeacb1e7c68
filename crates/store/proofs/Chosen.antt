-- What is known where room was chosen, or refused.
use Rattle.std.specs.Prelude.{Ok, Err}
use Prim.Native.Nat.{◌*◌, ◌+◌, ◌<◌, ◌≤◌, suc, zero, ℕ}
use Rattle.address.specs.Address.{address_of}
use Rattle.layout.proofs.Bounds.{bounds}
use Rattle.layout.proofs.Cases.{SlotCase, has_slot, past_pools, past_slots, slot_case}
use Rattle.layout.specs.Judge.{Sound}
use Rattle.layout.specs.Layout.{bytes_before, rows_before, size_at, slots_at}
use Rattle.layout.specs.Limits.{store_free}
use Rattle.lookup.proofs.Packets.{spot_paper}
use Rattle.lookup.proofs.Within.{Within, within}
use Rattle.lookup.specs.Refusals.{paper}
use Rattle.rules.proofs.Cases.{eq_or_ne}
use Rattle.rules.specs.Papers.{refused, says}
use Rattle.slots.proofs.Find.{find_held, find_no_pool, find_no_slot, found_apart}
use Rattle.slots.specs.Inside.{cell_of, room_of}
use Rattle.slots.specs.Pools.{Choice, Pool, Slot, all_taken, choose, find_at, find_slot, free, into, lowest, next, over, pick, shift_pool, spill_into, taken, too_large, vacant}
use Rattle.slots.specs.View.{part, pool_in, put, view}
use Rattle.rules.specs.Lists.{each}
use Rattle.store.proofs.Edit.{leaves_fill}
use Rattle.store.proofs.Promises.{does_done, does_refused}
use Rattle.store.specs.Calls.{add_in, place}
use Rattle.store.specs.Edits.{edit_at, fill}
use Rattle.store.specs.Promise.{Does}
use Rattle.store.specs.Refusals.{added_paper}
use borrow.Author.Tests.{leb-true}
use lib.Dec.{leb}
use lib.ListN.{get_or, length, set}
use mathlib.Core.Bool.{Bool, false, true}
use mathlib.Core.List.{List, [], ◌∷◌}
use mathlib.Core.Option.{Option, none, some}
use mathlib.Core.Logic.{⊎_elim}
use mathlib.Core.Path.{◌≡◌, ap, refl, subst, sym}
use native.Mathlib.Nat.{not-suc-le-zero}
use native.Mathlib.Omega.{arith}
use Rattle.layout.specs.declared.Setup.{Setup}
use Rattle.slots.specs.declared.Cell.{Cell}
use Rattle.slots.specs.declared.StoreRefusal.{StoreRefusal}

-- the slot size of a subpool
unfoldable pub size_in : List Pool → ℕ → ℕ
size_in [] k = 0
size_in (p ∷ ps) zero = p.size
size_in (p ∷ ps) (suc k) = size_in ps k

-- what is chosen is vacant, and holds the bytes
abbrev OpenIn : List Slot → Option ℕ → Type 0
OpenIn xs none = Unit {0}
OpenIn xs (some i) = find_slot xs i ≡ vacant

abbrev pub Open : List Pool → ℕ → Choice → Type 0
Open ps n too_large = Unit {0}
Open ps n (all_taken k) = Unit {0}
Open ps n (into k i) = (find_at ps k i ≡ vacant) × (n ≤ size_in ps k)

next_open : (x : Slot) (xs : List Slot) (o : Option ℕ) → OpenIn xs o → OpenIn (x ∷ xs) (next o)
next_open x xs none h = tt
next_open x xs (some i) h = h

lowest_open : (xs : List Slot) → OpenIn xs (lowest xs)
lowest_open [] = tt
lowest_open (free b ∷ xs) = refl
lowest_open (taken n b ∷ xs) = next_open (taken n b) xs (lowest xs) (lowest_open xs)

shift_open : (p : Pool) (ps : List Pool) (n : ℕ) (r : Choice) → Open ps n r → Open (p ∷ ps) n (shift_pool r)
unfolding find_at size_in
shift_open p ps n too_large h = tt
shift_open p ps n (all_taken k) h = tt
shift_open p ps n (into k i) h = h

spill_open : (sp : Bool) (ps : List Pool) (n : ℕ) (r : Choice) → Open ps n r → Open ps n (spill_into sp r)
spill_open false ps n r h = tt
spill_open true ps n too_large h = tt
spill_open true ps n (all_taken k) h = tt
spill_open true ps n (into k i) h = h

pick_open : (sp b : Bool) (p : Pool) (ps : List Pool) (n : ℕ) (o : Option ℕ) (r : Choice) → leb n p.size ≡ b → OpenIn p.slots o
    → Open (p ∷ ps) n r → Open (p ∷ ps) n (pick sp b o r)
unfolding find_at size_in
pick_open sp false p ps n o r e h g = g
pick_open sp true p ps n (some i) r e h g = (h, leb-true _ _ e)
pick_open sp true p ps n none r e h g = spill_open sp (p ∷ ps) n r g

pub choose_open : (sp : Bool) (ps : List Pool) (n : ℕ) → Open ps n (choose sp ps n)
unfolding choose
choose_open sp [] n = tt
choose_open sp (p ∷ ps) n =
    pick_open sp (leb n p.size) p ps n (lowest p.slots) (shift_pool (choose sp ps n)) refl (lowest_open p.slots)
    (shift_open p ps n (choose sp ps n) (choose_open sp ps n))

size_each : (f : ℕ → Pool) (n k j t : ℕ) → k + j ≡ t → j < n → size_in (each f k n) j ≡ (f t).size
unfolding each size_in
size_each f zero k j t e l = absurd (not-suc-le-zero l)
size_each f (suc n) k zero t e l = let q : t ≡ k = omega arith in rw q
size_each f (suc n) k (suc j) t e l = size_each f n (suc k) j t (omega arith) (omega arith)

size_view : (su : Setup) (st le : List ℕ) (k : ℕ) → k < su.pools → size_in (view su st le) k ≡ size_at su k
unfolding view
size_view su st le k l = size_each (pool_in su st le) su.pools 0 k k (omega arith) l

pub record Room (su : Setup) (st le : List ℕ) (n : ℕ) (c : Cell) : Type 0 where
  pub is : c ≡ cell_of su c.pool c.slot
  pub inside : Within su (length st) le c
  pub chosen : choose su.spill (view su st le) n ≡ into c.pool c.slot
  pub vacant_there : find_at (view su st le) c.pool c.slot ≡ vacant
  pub is_free : get_or le c.row 0 ≡ store_free
  pub holds : n ≤ c.size

module _ (su : Setup) (st le : List ℕ) (k i : ℕ) (q : find_at (view su st le) k i ≡ vacant) where
  vacant_inside : (k < su.pools) × (i < slots_at su k) × (get_or le (rows_before su k + i) 0 ≡ store_free)
  vacant_inside = go (slot_case su k i)
    where
      go : SlotCase su k i → (k < su.pools) × (i < slots_at su k) × (get_or le (rows_before su k + i) 0 ≡ store_free)
      go (past_pools l) = absurd (found_apart tt (find_no_pool su st le k i l) q)
      go (past_slots l m) = absurd (found_apart tt (find_no_slot su st le k i l m) q)
      go (has_slot l m) =
          ⊎_elim (λ e. (l, m, e)) (λ n. absurd (found_apart tt (find_held su st le k i l m n) q))
          (eq_or_ne (get_or le (rows_before su k + i) 0) store_free)

room_at_cell : (su : Setup) (n : ℕ) (x : Choice) (c : Cell) → room_of su n x ≡ Ok c → (k : ℕ) × (i : ℕ) × (x ≡ into k i) × (c ≡ cell_of su k i)
unfolding room_of
room_at_cell su n too_large c q = let z : ◌≡◌ {A = ℕ} 0 1 = cc in absurd (omega arith)
room_at_cell su n (all_taken k) c q = let z : ◌≡◌ {A = ℕ} 0 1 = cc in absurd (omega arith)
room_at_cell su n (into k i) c q = (k, i, refl, cc)

module _ (su : Setup) (st le : List ℕ) (fine : Sound su st le) (n : ℕ) where
  pub room_there : (k i : ℕ) → choose su.spill (view su st le) n ≡ into k i → Room su st le n (cell_of su k i)
  room_there k i q =
      let o : Open (view su st le) n (into k i) = subst (λ (x : Choice). Open (view su st le) n x) q (choose_open su.spill (view su st le) n) in
      let h = vacant_inside su st le k i o.0 in
      record {
        is = refl;
        inside = within su (length st) le (bounds fine) k i h.0 h.1;
        chosen = q;
        vacant_there = o.0;
        is_free = h.2;
        holds = rw (size_view su st le k h.0) at o.1;
      }

  pub room_found : (c : Cell) → Ok c ≡ room_of su n (choose su.spill (view su st le) n) → Room su st le n c
  room_found c q =
      let s = room_at_cell su n _ c (sym q) in
      subst (Room su st le n) (sym s.3) (room_there s.0 s.1 s.2)

-- add
place_refused : (su : Setup) (ps : List Pool) (d : List ℕ) (x : Choice) (e : StoreRefusal) → room_of su (length d) x ≡ Err e
    → place ps d x ≡ refused (paper e)
unfolding room_of place spot_paper paper
place_refused su ps d too_large e q = ap refused (ap spot_paper q)
place_refused su ps d (all_taken k) e q = ap refused (ap spot_paper q)
place_refused su ps d (into k i) e q = let z : ◌≡◌ {A = ℕ} 0 1 = cc in absurd (omega arith)

module _ (su : Setup) (st le d : List ℕ) where
  pub add_refused : (e : StoreRefusal) → Err e ≡ room_of su (length d) (choose su.spill (view su st le) (length d))
      → Does su st le (λ ps. add_in su.spill ps d) (added_paper (Err e)) st le
  unfolding add_in added_paper
  add_refused e q = does_refused su st le _ (paper e) (place_refused su (view su st le) d _ e (sym q))

  -- what `add` says of a place, where nothing is written
  pub add_says : (c : Cell) → Room su st le (length d) c → (a : ℕ) → a ≡ address_of c.pool c.slot
      → added_paper (Ok a) ≡ says (add_in su.spill (view su st le) d)
  unfolding add_in added_paper place says
  add_says c k a e = rw (k.chosen, e)

  pub add_at : Sound su st le → (c : Cell) → Room su st le (length d) c → (a : ℕ) (st' le' : List ℕ) → a ≡ address_of c.pool c.slot
      → st' ≡ put c.from c.size (over d (part c.from c.size st)) st → le' ≡ set le c.row (length d)
      → Does su st le (λ ps. add_in su.spill ps d) (added_paper (Ok a)) st' le'
  unfolding add_in added_paper place
  add_at fine c k a st' le' e p q =
      let w = k.inside in
      let size : c.size ≡ size_at su c.pool = ap (λ (x : Cell). x.size) k.is in
      let row : c.row ≡ rows_before su c.pool + c.slot = ap (λ (x : Cell). x.row) k.is in
      let l = leaves_fill su st le (bounds fine) c.pool c.slot w.pool_fits w.slot_fits d (rw row at k.is_free)
      (rw size at k.holds) in
      let from : c.from ≡ bytes_before su c.pool + c.slot * size_at su c.pool = ap (λ (x : Cell). x.from) k.is in
      does_done su st le st' le' (λ ps. add_in su.spill ps d) (a ∷ []) (edit_at (fill d) (view su st le) c.pool c.slot)
      (rw (k.chosen, e)) (rw (p, q, from, size, row) l)
