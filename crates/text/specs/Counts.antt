-- How much of a buffer is filled.
use Rattle.std.specs.Prelude.{◌≡◌, ℕ, ◌≤◌, List, length, take}

-- `&xs[..n]` is in bounds and has n bytes. The second part follows from the first, and spares a caller's `&buf[..n]` a proof file.
abbrev pub IsPrefixLen : ℕ → List ℕ → Type 0
IsPrefixLen n xs = (n ≤ length xs) × (n ≡ length (take n xs))
