-- Each refusal found again from its number and values.
use Prim.Native.Nat.{ℕ}
use Rattle.rules.specs.Papers.{Paper}
use Rattle.lookup.specs.Refusals.{paper}
use lib.Dec.{eqb}
use lib.ListN.{get_or}
use mathlib.Core.Bool.{cond}
use mathlib.Core.Path.{◌≡◌, refl}
use Rattle.slots.specs.declared.StoreRefusal.{StoreRefusal}
use Rattle.slots.specs.declared.StoreRefusal.TheVariants.{BadSetup, BadBuffers, StateDamaged, DataTooLarge, StoreFull, InvalidStoreId, DataDoesNotExist, BufferTooSmall}
use Rattle.slots.specs.declared.StoreIdError.TheVariants.{InvalidSubpool, InvalidPacketIdx}

-- the refusal of a number and values
refusal_of : ℕ → ℕ → ℕ → StoreRefusal
refusal_of n a b =
    cond (eqb n 1) BadSetup
    (cond (eqb n 2) BadBuffers
    (cond (eqb n 3) StateDamaged
    (cond (eqb n 11) (DataTooLarge a)
    (cond (eqb n 12) (StoreFull a)
    (cond (eqb n 16) (InvalidStoreId (InvalidSubpool a))
    (cond (eqb n 17) (InvalidStoreId (InvalidPacketIdx a))
    (cond (eqb n 18) (DataDoesNotExist a) (BufferTooSmall a b))))))))

pub back : Paper → StoreRefusal
back p = refusal_of p.number (get_or p.values 0 0) (get_or p.values 1 0)

pub there_and_back : (e : StoreRefusal) → back (paper e) ≡ e
unfolding back paper refusal_of
there_and_back BadSetup = refl
there_and_back BadBuffers = refl
there_and_back StateDamaged = refl
there_and_back (DataTooLarge n) = refl
there_and_back (StoreFull k) = refl
there_and_back (InvalidStoreId (InvalidSubpool k)) = refl
there_and_back (InvalidStoreId (InvalidPacketIdx k)) = refl
there_and_back (DataDoesNotExist a) = refl
there_and_back (BufferTooSmall f n) = refl
