-- No refusal has the number 0, which is an answer's.
use Prim.Native.Nat.{ℕ}
use Rattle.lookup.specs.Refusals.{paper}
use Rattle.rules.specs.Papers.{Paper, no}
use borrow.Author.Tests.{eqb-false}
use lib.Dec.{eqb}
use mathlib.Core.Bool.{false}
use mathlib.Core.List.{List}
use mathlib.Core.Path.{◌≡◌, ap, refl}
use Rattle.slots.specs.declared.StoreRefusal.{StoreRefusal}
use Rattle.slots.specs.declared.StoreRefusal.TheVariants.{BadSetup, BadBuffers, StateDamaged, DataTooLarge, StoreFull, InvalidStoreId, DataDoesNotExist, BufferTooSmall}
use Rattle.slots.specs.declared.StoreIdError.TheVariants.{InvalidSubpool, InvalidPacketIdx}

-- a refusal has a number
pub numbered : (e : StoreRefusal) → eqb (paper e).number 0 ≡ false
unfolding paper
numbered BadSetup = refl
numbered BadBuffers = refl
numbered StateDamaged = refl
numbered (DataTooLarge n) = refl
numbered (StoreFull k) = refl
numbered (InvalidStoreId (InvalidSubpool k)) = refl
numbered (InvalidStoreId (InvalidPacketIdx k)) = refl
numbered (DataDoesNotExist a) = refl
numbered (BufferTooSmall f n) = refl

pub has_number : (e : StoreRefusal) → (paper e).number ≡ 0 → ⊥
has_number e q = eqb-false (paper e).number 0 (numbered e) q

pub not_done : (e : StoreRefusal) (vs : List ℕ) → paper e ≡ no 0 vs → ⊥
not_done e vs q = has_number e (ap (λ (p : Paper). p.number) q)
