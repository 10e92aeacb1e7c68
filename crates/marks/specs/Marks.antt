-- What a length table with marks stands for: the store in which each marked packet is deleted, though nothing is yet.
use Rattle.std.specs.Prelude.{◌+◌, ◌<◌, ◌≤◌, ℕ, ltb, get_or, length, List, [], ◌⊎◌, ◌≡◌}
use Rattle.layout.specs.Judge.{Sound}
use Rattle.layout.specs.Layout.{all_rows, row_of}
use Rattle.layout.specs.Limits.{max_slot_size}
use Rattle.lookup.specs.Calls.{packet_in}
use Rattle.rules.specs.Papers.{after}
use Rattle.rules.specs.Tests.{unless}
use Rattle.slots.specs.Pools.{Pool}
use Rattle.slots.specs.View.{view}
use Rattle.layout.specs.declared.Setup.{Setup}

-- what a mark adds to a packet's length
abbrev pub added : ℕ
added = 8192

-- the bytes of the packet that an address names; none where it names none
unfoldable pub packet_at : List Pool → ℕ → List ℕ
packet_at ps a = after (packet_in ps a) [] (λ b. b)

-- a packet, and none where its length has a mark
unfoldable pub unless_marked : ℕ → List ℕ → List ℕ
unless_marked w packet = unless (ltb w added) [] packet

-- The table le is le₀ with marks at some packets' lengths, and stands for the subpools ps: there an address names the packet that it
-- named before, and none where its length is marked.
pub record Marks (su : Setup) (st le₀ : List ℕ) (ps : List Pool) (le : List ℕ) : Type 0 where
  pub sound : Sound su st le₀
  pub same_length : length le ≡ length le₀
  pub rows : (r : ℕ) → (get_or le r 0 ≡ get_or le₀ r 0) ⊎
      ((r < all_rows su) × (get_or le₀ r 0 ≤ max_slot_size) × (get_or le r 0 ≡ get_or le₀ r 0 + added))
  pub packets : (a : ℕ) → packet_at ps a ≡ unless_marked (get_or le (row_of su a) 0) (packet_at (view su st le₀) a)
