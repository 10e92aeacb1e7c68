-- The Gregorian calendar from 1970 on: how long years and months are, and how many days lie before a date.
use Rattle.std.specs.Prelude.{◌%◌, ◌+◌, ◌-◌, ◌≤◌, suc, zero, ℕ, eqb, Bool, cond, false, true, ◌≡◌}
use Rattle.utc.specs.declared.Date.{Date}

-- every fourth year, no hundredth, but every four hundredth
unfoldable pub leap : ℕ → Bool
leap y = cond (eqb (y % 400) 0) true (cond (eqb (y % 100) 0) false (eqb (y % 4) 0))

unfoldable pub year_days : ℕ → ℕ
year_days y = cond (leap y) 366 365

-- thirty days hath September, April, June and November
unfoldable pub month_days : ℕ → ℕ → ℕ
month_days y m =
    cond (eqb m 2) (cond (leap y) 29 28)
    (cond (eqb m 4) 30 (cond (eqb m 6) 30 (cond (eqb m 9) 30 (cond (eqb m 11) 30 31))))

-- the days of the first n years from 1970 on
unfoldable pub years_days : ℕ → ℕ
years_days zero = 0
years_days (suc n) = years_days n + year_days (1970 + n)

-- the days of the first n months of a year
unfoldable pub months_days : ℕ → ℕ → ℕ
months_days y zero = 0
months_days y (suc n) = months_days y n + month_days y (suc n)

-- a date's day, counted from 1 January 1970 as 0
unfoldable pub day_number : Date → ℕ
day_number d = years_days (d.year - 1970) + months_days d.year (d.month - 1) + (d.day - 1)

-- a date that the calendar has
pub record Proper (d : Date) : Type 0 where
  pub from_1970 : 1970 ≤ d.year
  pub month_from : 1 ≤ d.month
  pub month_to : d.month ≤ 12
  pub day_from : 1 ≤ d.day
  pub day_to : d.day ≤ month_days d.year d.month

-- what the date of a day promises
pub record DateOf (day : ℕ) (d : Date) : Type 0 where
  pub proper : Proper d
  pub same : day_number d ≡ day

-- what the day of a date promises: no more than of a year of four digits, and the date's number if there is such a date
pub record DayOf (d : Date) (r : ℕ) : Type 0 where
  pub most : r ≤ 2940000
  pub same : Proper d → d.year ≤ 9999 → r ≡ day_number d
