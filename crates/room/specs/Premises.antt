-- What meets the premises of demand 3: they ask no more than their words say.
use Rattle.std.specs.Prelude.{◌<◌, ◌≤◌, ℕ, get_or, Bool, true, List, [], ◌∷◌, ◌≡◌}
use Rattle.address.specs.Address.{address_of}
use Rattle.layout.specs.Layout.{slots_at}
use Rattle.room.specs.Room.{AllNamed, EveryNamed, Named, Roomier, Spills, addresses}
use Rattle.schedule.specs.Judge.{setup_ok}
use Rattle.schedule.specs.declared.Setup.{Setup}
use Rattle.scheduler.specs.Steps.{Request, delete, has_element_at, insert_stored, len_of_data, modify, read}
use Rattle.time.specs.declared.UnixTime.{UnixTime}

-- where a request carries an address, it names a slot; of a request that carries none, nothing is asked
pub record OwnNamed (su : Setup) (q : Request) : Type 0 where
  pub read_from : (a : ℕ) (buf : List ℕ) → q ≡ read a buf → Named su a
  pub modified : (a : ℕ) (d : List ℕ) → q ≡ modify a d → Named su a
  pub deleted : (a : ℕ) → q ≡ delete a → Named su a
  pub looked_for : (a : ℕ) → q ≡ has_element_at a → Named su a
  pub measured : (a : ℕ) → q ≡ len_of_data a → Named su a
  pub inserted : (t : UnixTime) (id a : ℕ) → q ≡ insert_stored t id a → Named su a

-- that is enough, of one request and of all
pub record NamesItsOwn (su : Setup) : Type 0 where
  pub one : (q : Request) → OwnNamed su q → AllNamed su (addresses q)
  pub none : EveryNamed su []
  pub more : (q : Request) (qs : List Request) → OwnNamed su q → EveryNamed su qs → EveryNamed su (q ∷ qs)

-- each slot of a setup that is none of refusal 1 is named by its own address
unfoldable pub SlotsAreNamed : Type 0
SlotsAreNamed =
    (su : Setup) (k i : ℕ) → setup_ok su ≡ true → k < su.store.pools → i < slots_at su.store k → Named su (address_of k i)

-- the same subpools and slot sizes, with other numbers of slots and of entries
abbrev pub resized : Setup → List ℕ → ℕ → Bool → Setup
resized su slots entries spill =
    record {
      store = record { pools = su.store.pools; sizes = su.store.sizes; slots = slots; spill = spill };
      entries = entries;
    }

-- a setup has the room of itself, and so has one with more slots, or as many, and more entries, or as many
pub record MoreIsRoomier (su : Setup) : Type 0 where
  pub itself : Roomier su su
  pub more : (slots : List ℕ) (entries : ℕ) (spill : Bool) → ((k : ℕ) → slots_at su.store k ≤ get_or slots k 0) → su.entries ≤ entries
      → Roomier su (resized su slots entries spill)

-- any two setups spill as they do
unfoldable pub SpillAsTheyDo : Type 0
SpillAsTheyDo = (su lu : Setup) → Spills su.store.spill lu.store.spill su lu
