-- What is known where the search for an address has found a packet, or refused.
use Rattle.std.specs.Prelude.{Result, Ok, Err}
use Prim.Native.Nat.{◌+◌, ◌<◌, ◌≤◌, ℕ}
use Rattle.address.specs.Address.{pool_of, slot_of}
use Rattle.layout.proofs.Bounds.{bounds}
use Rattle.layout.proofs.Cases.{SlotCase, has_slot, past_pools, past_slots, slot_case}
use Rattle.layout.specs.Judge.{Sound}
use Rattle.layout.specs.Layout.{rows_before, slots_at}
use Rattle.layout.specs.Limits.{store_free}
use Rattle.lookup.proofs.Within.{Within, within}
use Rattle.lookup.specs.Calls.{if_held, if_named}
use Rattle.lookup.specs.Refusals.{paper}
use Rattle.rules.specs.Papers.{Outcome, Paper, no, refused}
use Rattle.slots.proofs.Find.{find_held, find_no_pool, find_no_slot, find_vacant, found_apart}
use Rattle.slots.specs.Inside.{cell_of, spot_of}
use Rattle.slots.specs.Pools.{Found, find, find_at, held, no_pool, no_slot, vacant}
use Rattle.slots.specs.View.{bytes_at, part, view}
use lib.ListN.{get_or, length}
use mathlib.Core.List.{List, []}
use mathlib.Core.Logic.{⊎_elim}
use mathlib.Core.Path.{◌≡◌, ap, refl, subst, sym}
use native.Mathlib.Omega.{arith}
use Rattle.layout.specs.declared.Setup.{Setup}
use Rattle.slots.specs.declared.Cell.{Cell}
use Rattle.slots.specs.declared.StoreRefusal.{StoreRefusal}

-- an address names the packet in this cell
pub record PacketAt (su : Setup) (st le : List ℕ) (a : ℕ) (c : Cell) : Type 0 where
  pub is : c ≡ cell_of su (pool_of a) (slot_of a)
  pub inside : Within su (length st) le c
  pub there : find (view su st le) a ≡ held (get_or le c.row 0) (part c.from c.size st)
  pub short : get_or le c.row 0 ≤ c.size

pub spot_at : (su : Setup) (a : ℕ) (x : Found) (c : Cell) → spot_of su a x ≡ Ok c
    → (n : ℕ) × (b : List ℕ) × (x ≡ held n b) × (c ≡ cell_of su (pool_of a) (slot_of a))
unfolding spot_of
spot_at su a no_pool c q = let z : ◌≡◌ {A = ℕ} 0 1 = cc in absurd (omega arith)
spot_at su a no_slot c q = let z : ◌≡◌ {A = ℕ} 0 1 = cc in absurd (omega arith)
spot_at su a vacant c q = let z : ◌≡◌ {A = ℕ} 0 1 = cc in absurd (omega arith)
spot_at su a (held n b) c q = (n, b, refl, cc)

-- what a search that refused says
unfoldable pub spot_paper : Result Cell StoreRefusal → Paper
spot_paper (Err e) = paper e
spot_paper (Ok c) = no 0 []

pub spot_refused : {A : Type 0} (su : Setup) (a : ℕ) (x : Found) (e : StoreRefusal) (f : ℕ → List ℕ → Outcome A) → spot_of su a x ≡ Err e
    → if_held a x f ≡ refused (paper e)
unfolding spot_of if_held if_named spot_paper paper
spot_refused su a no_pool e f q = ap refused (ap spot_paper q)
spot_refused su a no_slot e f q = ap refused (ap spot_paper q)
spot_refused su a vacant e f q = ap refused (ap spot_paper q)
spot_refused su a (held n b) e f q = let z : ◌≡◌ {A = ℕ} 0 1 = cc in absurd (omega arith)

module _ (su : Setup) (st le : List ℕ) (k i : ℕ) (n : ℕ) (b : List ℕ) (q : find_at (view su st le) k i ≡ held n b) where
  pub held_inside : (k < su.pools) × (i < slots_at su k) × (get_or le (rows_before su k + i) 0 ≡ store_free → ⊥)
  held_inside = go (slot_case su k i)
    where
      go : SlotCase su k i → (k < su.pools) × (i < slots_at su k) × (get_or le (rows_before su k + i) 0 ≡ store_free → ⊥)
      go (past_pools l) = absurd (found_apart tt (find_no_pool su st le k i l) q)
      go (past_slots l m) = absurd (found_apart tt (find_no_slot su st le k i l m) q)
      go (has_slot l m) = (l, m, λ f. found_apart tt (find_vacant su st le k i l m f) q)

module _ (su : Setup) (st le : List ℕ) (fine : Sound su st le) (a : ℕ) where
  pub packet_there : (n : ℕ) (b : List ℕ) → find (view su st le) a ≡ held n b → PacketAt su st le a (cell_of su (pool_of a) (slot_of a))
  unfolding bytes_at
  packet_there n b q =
      let h = held_inside su st le (pool_of a) (slot_of a) n b q in
      let w = within su (length st) le (bounds fine) (pool_of a) (slot_of a) h.0 h.1 in
      record {
        is = refl;
        inside = w;
        there = find_held su st le (pool_of a) (slot_of a) h.0 h.1 h.2;
        short = ⊎_elim (λ f. absurd (h.2 f)) (λ l. l) w.len_ok;
      }

  pub packet_found : (c : Cell) → Ok c ≡ spot_of su a (find (view su st le) a) → PacketAt su st le a c
  packet_found c q =
      let s = spot_at su a _ c (sym q) in
      subst (PacketAt su st le a) (sym s.3) (packet_there s.0 s.1 s.2)
