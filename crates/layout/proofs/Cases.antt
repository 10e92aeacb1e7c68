-- Whether the setup has subpool k, and slot i of it: the three ways that it goes.
use Rattle.std.proofs.Common.{ℕ, ◌<◌, ◌≤◌, ⊎_elim}
use Rattle.layout.specs.Layout.{slots_at}
use Rattle.rules.proofs.Cases.{le_or_lt}
use Rattle.layout.specs.declared.Setup.{Setup}

pub data SlotCase (su : Setup) (k i : ℕ) : Type 0 where
  past_pools : su.pools ≤ k → SlotCase su k i
  past_slots : k < su.pools → slots_at su k ≤ i → SlotCase su k i
  has_slot : k < su.pools → i < slots_at su k → SlotCase su k i

pub slot_case : (su : Setup) (k i : ℕ) → SlotCase su k i
slot_case su k i =
    ⊎_elim (λ (l : su.pools ≤ k). past_pools l)
    (λ (l : k < su.pools).
    ⊎_elim (λ (m : slots_at su k ≤ i). past_slots l m) (λ (m : i < slots_at su k). has_slot l m) (le_or_lt (slots_at su k) i))
    (le_or_lt su.pools k)
