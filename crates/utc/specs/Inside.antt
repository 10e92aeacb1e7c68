-- The year or month in which a day falls.
-- A reader need not believe this file: contracts below the public calls cite it, no public call's promise does.
use Rattle.std.specs.List.{range_with_len}
use Rattle.std.specs.Prelude.{◌+◌, ◌-◌, ◌<◌, ◌≤◌, ℕ, map, sum, ◌≡◌}
use Rattle.utc.specs.declared.Within.{Within}

-- the days of n years or months from `first` on, where number k has `days_of k`
abbrev pub days_from : (ℕ → ℕ) → ℕ → ℕ → ℕ
days_from days_of first n = sum (map days_of (range_with_len first n))

-- whole ones from `first` on, and what is left of the next
pub record Falls (days_of : ℕ → ℕ) (days first : ℕ) (w : Within) : Type 0 where
  pub sum : days_from days_of first (w.at - first) + w.left ≡ days
  pub less : w.left < days_of w.at
  pub from : first ≤ w.at
