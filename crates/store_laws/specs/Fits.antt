-- Subpools that fit a setup: what the store's part of refusals 1 to 3 asks of setup and lent lists, said of the subpools that they stand for.
use Rattle.std.specs.Prelude.{◌≤◌, suc, ℕ, length, List, [], ◌∷◌, ◌≡◌}
use Rattle.layout.specs.Layout.{size_at, slots_at}
use Rattle.layout.specs.declared.Setup.{Setup}
use Rattle.slots.specs.Pools.{Pool, Slot, free, taken}

-- a slot of z bytes: it has them all, and a packet in it is no longer
abbrev pub SlotFits : ℕ → Slot → Type 0
SlotFits z (free b) = length b ≡ z
SlotFits z (taken n b) = (length b ≡ z) × (n ≤ z)

abbrev pub SlotsFit : ℕ → List Slot → Type 0
SlotsFit z [] = Unit {0}
SlotsFit z (x ∷ xs) = SlotFits z x × SlotsFit z xs

-- subpool k of the setup
pub record PoolFits (su : Setup) (k : ℕ) (p : Pool) : Type 0 where
  pub size : p.size ≡ size_at su k
  pub number : length p.slots ≡ slots_at su k
  pub slots : SlotsFit p.size p.slots

-- the subpools of the setup from k on, one after another
abbrev pub PoolsFit : Setup → ℕ → List Pool → Type 0
PoolsFit su k [] = k ≡ su.pools
PoolsFit su k (p ∷ ps) = PoolFits su k p × PoolsFit su (suc k) ps
