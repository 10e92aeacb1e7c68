-- The total's bounds, as facts.
use Prim.Native.Nat.{◌≤◌, ℕ}
use Rattle.packet_tests.specs.Tests.{shortest, total_in_bounds, total_of}
use Rattle.rules.proofs.All.{all_each}
use borrow.Author.Tests.{leb-true}
use lib.ListN.{length}
use mathlib.Core.Bool.{true}
use mathlib.Core.List.{List}
use mathlib.Core.Path.{◌≡◌}

pub total_fits : (w : ℕ) (s : List ℕ) → total_in_bounds w s ≡ true → (shortest w ≤ total_of s) × (total_of s ≤ length s)
unfolding total_in_bounds
total_fits w s e = let h = all_each _ e in (leb-true _ _ h.0, leb-true _ _ h.1.0)
