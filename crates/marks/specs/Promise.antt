-- What is promised of a table with marks, whatever it was before and whatever subpools it stands for.
use Rattle.std.specs.Prelude.{◌≤◌, ℕ, length, List, ◌≡◌}
use Rattle.layout.specs.Layout.{all_rows, row_of}
use Rattle.layout.specs.Limits.{max_slot_size}
use Rattle.marks.specs.Marks.{Marks, packet_at}
use Rattle.slots.specs.Pools.{Pool}
use Rattle.store.specs.Edits.{edit, wipe}
use Rattle.layout.specs.declared.Setup.{Setup}

-- where the table keeps the slot that an address names, and how many slots it keeps: numbers that a caller looks up and hands on
pub record Place (su : Setup) (a place : ℕ) : Type 0 where
  pub row : place ≡ row_of su a

pub record Places (su : Setup) (all : ℕ) : Type 0 where
  pub rows : all ≡ all_rows su

-- it stands for some subpools: what is asked of a caller
pub record Marking (su : Setup) (le : List ℕ) : Type 0 where
  pub store : List ℕ
  pub before : List ℕ
  pub pools : List Pool
  pub marks : Marks su store before pools le

-- n is the length of the packet that an address of this place names
pub record Tells (su : Setup) (le : List ℕ) (place n : ℕ) : Type 0 where
  pub bytes : (st le₀ : List ℕ) (ps : List Pool) (a : ℕ) → Marks su st le₀ ps le → Place su a place → n ≡ length (packet_at ps a)
  pub short : n ≤ max_slot_size

-- le' is le with the packet that an address of this place names deleted
pub record Deletes (su : Setup) (le : List ℕ) (place : ℕ) (le' : List ℕ) : Type 0 where
  pub wiped : (st le₀ : List ℕ) (ps : List Pool) (a : ℕ) → Marks su st le₀ ps le → Place su a place → Marks su st le₀ (edit wipe ps a) le'

-- le' is what le was before it had marks
pub record Restores (su : Setup) (le le' : List ℕ) : Type 0 where
  pub back : (st le₀ : List ℕ) (ps : List Pool) → Marks su st le₀ ps le → le' ≡ le₀
