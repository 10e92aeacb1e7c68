-- What counting leaves of the store while it goes on, in the store's own words.
-- A reader need not believe this file: contracts below the public calls cite it, no public call's promise does.
use Rattle.std.specs.Prelude.{ℕ, Bool, false, List, ◌≡◌}
use Rattle.marks.specs.Marks.{Marks}
use Rattle.marks.specs.Promise.{Place}
use Rattle.slots.specs.Pools.{Pool}
use Rattle.turn.specs.Turns.{leave}
use Rattle.layout.specs.declared.Setup.{Setup}

-- a turn: the table stands for what it leaves of any subpools that it stood for, and in keep mode is as it was
pub record Left (del : Bool) (su : Setup) (le : List ℕ) (place : ℕ) (le' : List ℕ) : Type 0 where
  pub marks : (st le₀ : List ℕ) (ps : List Pool) (a : ℕ) → Marks su st le₀ ps le → Place su a place → Marks su st le₀ (leave del ps a) le'
  pub kept : del ≡ false → le' ≡ le

-- several: the table le₀ has marks, and in keep mode none
pub record Counted (del : Bool) (su : Setup) (st le₀ le : List ℕ) : Type 0 where
  pub pools : List Pool
  pub marks : Marks su st le₀ pools le
  pub kept : del ≡ false → le ≡ le₀
