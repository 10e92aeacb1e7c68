-- Addresses that name slots, and bytes, decided by computing.
use Prim.Native.Nat.{ℕ}
use Rattle.address.specs.Address.{pool_of, slot_of}
use Rattle.layout.specs.Layout.{slots_at}
use Rattle.room.specs.Room.{AllNamed, EveryNamed, addresses}
use Rattle.rules.proofs.All.{and_left, and_right}
use Rattle.schedule.specs.declared.Setup.{Setup}
use Rattle.scheduler.proofs.Premises.{bytes_are}
use Rattle.scheduler.specs.Fits.{AllOfBytes, Bytes, OfBytes}
use Rattle.scheduler.specs.Steps.{Request, add, count, delete, delete_by_id, delete_keeping, delete_window, disable, enable, has_element_at, insert_stored, insert_unwrapped, insert_wrapped, len_of_data, modify, read, reset, retrieve, set_clock, tick}
use borrow.Author.Tests.{ltb-true}
use lib.Dec.{ltb}
use mathlib.Core.Bool.{Bool, ◌&&◌, true}
use mathlib.Core.List.{List, [], ◌∷◌}
use mathlib.Core.Path.{◌≡◌, subst}

module _ (su : Setup) where
  abbrev names : ℕ → Bool
  names a = ltb (pool_of a) su.store.pools && ltb (slot_of a) (slots_at su.store (pool_of a))

  abbrev all_names : List ℕ → Bool
  all_names [] = true
  all_names (a ∷ xs) = names a && all_names xs

  abbrev pub every_names : List Request → Bool
  every_names [] = true
  every_names (q ∷ qs) = all_names (addresses q) && every_names qs

  all_named : (xs : List ℕ) → all_names xs ≡ true → AllNamed su xs
  all_named [] e = tt
  all_named (a ∷ xs) e =
      let n = and_left (names a) (all_names xs) e in (
        (
          ltb-true _ _ (and_left (ltb (pool_of a) su.store.pools) (ltb (slot_of a) (slots_at su.store (pool_of a))) n),
          ltb-true _ _ (and_right (ltb (pool_of a) su.store.pools) (ltb (slot_of a) (slots_at su.store (pool_of a))) n),
        ),
        all_named xs (and_right (names a) (all_names xs) e),
      )

  pub every_named : (qs : List Request) → every_names qs ≡ true → EveryNamed su qs
  every_named [] e = tt
  every_named (q ∷ qs) e = (
    all_named (addresses q) (and_left (all_names (addresses q)) (every_names qs) e),
    every_named qs (and_right (all_names (addresses q)) (every_names qs) e),
  )

abbrev all_bytes : List ℕ → Bool
all_bytes [] = true
all_bytes (x ∷ s) = ltb x 256 && all_bytes s

all_bytes_lem : (s : List ℕ) → all_bytes s ≡ true → Bytes s
all_bytes_lem [] e = bytes_are.no_byte
all_bytes_lem (x ∷ s) e =
    bytes_are.one_more x s (ltb-true _ _ (and_left (ltb x 256) (all_bytes s) e)) (all_bytes_lem s (and_right (ltb x 256) (all_bytes s) e))

-- the packet of a wrapped insertion
abbrev wrapped : Request → List ℕ
wrapped (add d) = []
wrapped (read a buf) = []
wrapped (modify a d) = []
wrapped (delete a) = []
wrapped (has_element_at a) = []
wrapped (len_of_data a) = []
wrapped (set_clock t) = []
wrapped enable = []
wrapped disable = []
wrapped count = []
wrapped (insert_wrapped p) = p
wrapped (insert_unwrapped t p) = []
wrapped (insert_stored t id a) = []
wrapped (retrieve w) = []
wrapped (delete_window w) = []
wrapped reset = []
wrapped (delete_keeping id) = []
wrapped (delete_by_id id) = []
wrapped (tick limit del log) = []

of_bytes : (q : Request) → all_bytes (wrapped q) ≡ true → OfBytes q
of_bytes q h p e = subst (λ (r : Request). Bytes (wrapped r)) e (all_bytes_lem (wrapped q) h)

abbrev pub every_of_bytes : List Request → Bool
every_of_bytes [] = true
every_of_bytes (q ∷ qs) = all_bytes (wrapped q) && every_of_bytes qs

pub all_of_bytes : (qs : List Request) → every_of_bytes qs ≡ true → AllOfBytes qs
all_of_bytes [] e = bytes_are.no_request
all_of_bytes (q ∷ qs) e =
    bytes_are.more_requests q qs (of_bytes q (and_left (all_bytes (wrapped q)) (every_of_bytes qs) e))
    (all_of_bytes qs (and_right (all_bytes (wrapped q)) (every_of_bytes qs) e))
