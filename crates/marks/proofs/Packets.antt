-- The packet of an address, by its row of the length table.
use Prim.Native.Nat.{◌<◌, ◌≤◌, ℕ}
use Rattle.layout.specs.Judge.{Sound}
use Rattle.layout.specs.Layout.{all_rows, row_of}
use Rattle.lookup.specs.Calls.{if_held, if_named, packet_in}
use Rattle.marks.specs.Marks.{added, packet_at}
use Rattle.rules.specs.Papers.{after, done}
use Rattle.slots.specs.Pools.{Found, Pool, find, held, no_pool, no_slot, vacant}
use Rattle.slots.specs.View.{view}
use Rattle.store.proofs.Rows.{RowSays, row_says}
use Rattle.store_laws.proofs.Wiped.{Missing}
use lib.ListN.{get_or, length, take}
use lib.Seq.{length-take-le}
use mathlib.Core.List.{List, [], ◌∷◌}
use mathlib.Core.Logic.{◌⊎◌, inl, inr}
use mathlib.Core.Path.{◌∙◌, ◌≡◌, ap, refl, sym}
use native.Mathlib.Omega.{arith}
use Rattle.layout.specs.declared.Setup.{Setup}

pub packet_none : (ps : List Pool) (a : ℕ) → Missing (find ps a) → packet_at ps a ≡ []
unfolding packet_at packet_in if_held if_named after
packet_none ps a h = go (find ps a) h
  where
    go : (x : Found) → Missing x → after (if_held a x (λ n b. done (n ∷ []) (take n b))) [] (λ b. b) ≡ []
    go no_pool m = refl
    go no_slot m = refl
    go vacant m = refl
    go (held n b) m = absurd m

pub packet_same : (ps qs : List Pool) (a : ℕ) → find ps a ≡ find qs a → packet_at ps a ≡ packet_at qs a
unfolding packet_at packet_in
packet_same ps qs a e = ap (λ (x : Found). after (if_held a x (λ n b. done (n ∷ []) (take n b))) [] (λ b. b)) e

-- in a sound store: none where the setup has no such slot or the length is no packet's, and else as long as the length says
module _ (su : Setup) (st le : List ℕ) (ok : Sound su st le) (a : ℕ) where
  pub no_packet : (all_rows su ≤ row_of su a) ⊎ (added ≤ get_or le (row_of su a) 0) → packet_at (view su st le) a ≡ []
  no_packet o = packet_none (view su st le) a (go (find (view su st le) a) (row_says su st le ok a) o)
    where
      go : (x : Found) → RowSays su le a x → (all_rows su ≤ row_of su a) ⊎ (added ≤ get_or le (row_of su a) 0) → Missing x
      go no_pool h m = tt
      go no_slot h m = tt
      go vacant h m = tt
      go (held n b) h (inl m) = absurd (omega (arith, h.0))
      go (held n b) h (inr m) = absurd (omega (arith, h.1, h.3))

  pub packet_long : row_of su a < all_rows su → get_or le (row_of su a) 0 < added → length (packet_at (view su st le) a) ≡ get_or le (row_of su a) 0
  unfolding packet_at packet_in if_held if_named after
  packet_long l m = go (find (view su st le) a) (row_says su st le ok a)
    where
      go : (x : Found) → RowSays su le a x
          → length (after (if_held a x (λ n b. done (n ∷ []) (take n b))) [] (λ b. b)) ≡ get_or le (row_of su a) 0
      go no_pool h = absurd (omega arith)
      go no_slot h = absurd (omega arith)
      go vacant h = absurd (omega (arith, h.1))
      go (held n b) h = length-take-le n b h.2 ∙ sym h.1
