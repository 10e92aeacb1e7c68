-- Document 01's number and values for each refusal of the store, and for each answer of a call that looks a packet up: 0 for one
-- that is no refusal.
use Rattle.std.specs.Prelude.{Result, Ok, Err, ℕ, Bool, false, true, [], ◌∷◌}
use Rattle.rules.specs.Papers.{Paper, no}
use Rattle.slots.specs.declared.StoreIdError.{StoreIdError}
use Rattle.slots.specs.declared.StoreIdError.TheVariants.{InvalidSubpool, InvalidPacketIdx}
use Rattle.slots.specs.declared.StoreRefusal.{StoreRefusal}
use Rattle.slots.specs.declared.StoreRefusal.TheVariants.{BadSetup, BadBuffers, StateDamaged, DataTooLarge, StoreFull, InvalidStoreId, DataDoesNotExist, BufferTooSmall}

abbrev pub bad_paper : StoreIdError → Paper
bad_paper (InvalidSubpool k) = no 16 (k ∷ [])
bad_paper (InvalidPacketIdx i) = no 17 (i ∷ [])

unfoldable pub paper : StoreRefusal → Paper
paper BadSetup = no 1 []
paper BadBuffers = no 2 []
paper StateDamaged = no 3 []
paper (DataTooLarge n) = no 11 (n ∷ [])
paper (StoreFull k) = no 12 (k ∷ [])
paper (InvalidStoreId b) = bad_paper b
paper (DataDoesNotExist a) = no 18 (a ∷ [])
paper (BufferTooSmall found expected) = no 19 (found ∷ expected ∷ [])

unfoldable pub length_paper : Result ℕ StoreRefusal → Paper
length_paper (Ok n) = no 0 (n ∷ [])
length_paper (Err e) = paper e

abbrev pub bit : Bool → ℕ
bit true = 1
bit false = 0

unfoldable pub presence_paper : Result Bool StoreRefusal → Paper
presence_paper (Ok b) = no 0 (bit b ∷ [])
presence_paper (Err e) = paper e
