-- Presence and length: what the calls answer, from what the code read.
use Rattle.std.specs.Prelude.{Ok, Err}
use Prim.Native.Nat.{ℕ}
use Rattle.address.specs.Address.{pool_of, slot_of}
use Rattle.layout.specs.Limits.{store_free}
use Rattle.lookup.specs.Calls.{if_named}
use Rattle.lookup.specs.Refusals.{length_paper, paper, presence_paper}
use Rattle.presence.specs.Presence.{has_in, len_in}
use Rattle.rules.specs.Papers.{says}
use Rattle.slots.proofs.Place.{held_there, invalid_cases, vacant_there}
use Rattle.slots.specs.Inside.{validated}
use Rattle.slots.specs.View.{view}
use borrow.Author.Tests.{eqb-false, eqb-true}
use lib.Dec.{eqb}
use lib.ListN.{get_or}
use mathlib.Core.Bool.{Bool, false, not, true}
use mathlib.Core.List.{List}
use mathlib.Core.Logic.{⊎_elim}
use mathlib.Core.Path.{◌≡◌, refl}
use Rattle.layout.specs.declared.Setup.{Setup}
use Rattle.slots.specs.declared.Cell.{Cell}
use Rattle.slots.specs.declared.StoreRefusal.{StoreRefusal}

module _ (su : Setup) (st le : List ℕ) (a k s : ℕ) (p : k ≡ pool_of a) (q : s ≡ slot_of a) where
  pub has_refused : (e : StoreRefusal) → validated su k s ≡ Err e → presence_paper (Err e) ≡ says (has_in (view su st le) a)
  unfolding has_in if_named says presence_paper paper
  has_refused e v = ⊎_elim (λ h. rw (h.0, h.1)) (λ h. rw (h.0, h.1)) (invalid_cases su st le a k s p q e v)

  pub has_answered : (c : Cell) → validated su k s ≡ Ok c
      → presence_paper (Ok (not (eqb (get_or le c.row 0) store_free))) ≡ says (has_in (view su st le) a)
  unfolding has_in if_named says presence_paper
  has_answered c v = go (eqb (get_or le c.row 0) store_free) refl
    where
      go : (t : Bool) → eqb (get_or le c.row 0) store_free ≡ t → presence_paper (Ok (not t)) ≡ says (has_in (view su st le) a)
      go true e = rw (vacant_there su st le a k s p q c v (eqb-true _ _ e))
      go false e = rw (held_there su st le a k s p q c v (eqb-false _ _ e))

  pub len_refused : (e : StoreRefusal) → validated su k s ≡ Err e → length_paper (Err e) ≡ says (len_in (view su st le) a)
  unfolding len_in if_named says length_paper paper
  len_refused e v = ⊎_elim (λ h. rw (h.0, h.1)) (λ h. rw (h.0, h.1)) (invalid_cases su st le a k s p q e v)

  pub len_vacant : (c : Cell) → validated su k s ≡ Ok c → get_or le c.row 0 ≡ store_free → length_paper (Ok 0) ≡ says (len_in (view su st le) a)
  unfolding len_in if_named says length_paper
  len_vacant c v e = rw (vacant_there su st le a k s p q c v e)

  pub len_held : (c : Cell) → validated su k s ≡ Ok c → (get_or le c.row 0 ≡ store_free → ⊥) → (n : ℕ) → n ≡ get_or le c.row 0
      → length_paper (Ok n) ≡ says (len_in (view su st le) a)
  unfolding len_in if_named says length_paper
  len_held c v e n f = rw (held_there su st le a k s p q c v e, f)
