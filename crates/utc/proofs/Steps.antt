-- One year and one month more: what sums over the calendar go by.
use Rattle.std.proofs.Common.{◌≡◌, ◌∙◌, ℕ, suc, zero, ◌+◌, ◌-◌, ◌*◌, ◌<◌, ◌≤◌, Bool, true, false, cond, eqb, add-one, ap, ap₂, arith, one-add, refl, sym, ⊎_elim}
use Rattle.std.proofs.lemmas.Bool.{cases_lt}
use Rattle.std.proofs.lemmas.List.FromFn.{sum_by-map-range_with_len_more}
use Rattle.utc.specs.Calendar.{DateOf, day_number, leap, month_days, months_days, year_days, years_days}
use Rattle.utc.specs.Inside.{Falls, days_from}
use Rattle.utc.specs.declared.Within.{Within}

-- one year or month more
pub one_more : (f : ℕ → ℕ) (a n : ℕ) → days_from f a (n + 1) ≡ days_from f a n + f (a + n)
one_more f a n = sum_by-map-range_with_len_more (λ (x : ℕ). x) f a n (a + n) refl

next : (f : ℕ → ℕ) (a n : ℕ) → days_from f a (suc n) ≡ days_from f a n + f (a + n)
next f a n = ap (days_from f a) (sym (add-one n)) ∙ one_more f a n

-- the same, where the number of the next is known
pub turn : (f : ℕ → ℕ) (days first at left next : ℕ) → first ≤ at → days_from f first (at - first) + left ≡ days → next ≡ f at → next ≤ left
    → days_from f first (at + 1 - first) + (left - next) ≡ days
turn f days first at left next h e d l =
    let n : at + 1 - first ≡ at - first + 1 = omega arith in
    let k : first + (at - first) ≡ at = omega arith in
    ap (λ (n : ℕ). days_from f first n + (left - next)) n ∙ omega (arith, one_more f first (at - first), ap f k, e, d)

-- the calendar's sums, as the code takes them
pub years_are : (n : ℕ) → days_from year_days 1970 n ≡ years_days n
unfolding years_days
years_are zero = refl
years_are (suc n) = next year_days 1970 n ∙ ap (λ (s : ℕ). s + year_days (1970 + n)) (years_are n)

pub months_are : (y n : ℕ) → days_from (month_days y) 1 n ≡ months_days y n
unfolding months_days
months_are y zero = refl
months_are y (suc n) = next (month_days y) 1 n ∙ ap₂ (λ (s m : ℕ). s + month_days y m) (months_are y n) (one-add n)

-- a year is not empty, and no longer than 366 days
pub record Between (low n high : ℕ) : Type 0 where
  pub from : low ≤ n
  pub to : n ≤ high

pub year_between : (y : ℕ) → Between 365 (year_days y) 366
unfolding year_days
year_between y = go (leap y)
  where
    go : (b : Bool) → Between 365 (cond b 366 365) 366
    go true = record { from = omega arith; to = omega arith }
    go false = record { from = omega arith; to = omega arith }

-- nor is a month, of 31
pub month_between : (y m : ℕ) → Between 28 (month_days y m) 31
unfolding month_days
month_between y m = go (leap y) (eqb m 2) (eqb m 4) (eqb m 6) (eqb m 9) (eqb m 11)
  where
    go : (l a b c d e : Bool) → Between 28 (cond a (cond l 29 28) (cond b 30 (cond c 30 (cond d 30 (cond e 30 31))))) 31
    go true true b c d e = record { from = omega arith; to = omega arith }
    go false true b c d e = record { from = omega arith; to = omega arith }
    go l false true c d e = record { from = omega arith; to = omega arith }
    go l false false true d e = record { from = omega arith; to = omega arith }
    go l false false false true e = record { from = omega arith; to = omega arith }
    go l false false false false true = record { from = omega arith; to = omega arith }
    go l false false false false false = record { from = omega arith; to = omega arith }

-- n years or months of m days at most
pub most : (f : ℕ → ℕ) (m : ℕ) → ((k : ℕ) → f k ≤ m) → (a n : ℕ) → days_from f a n ≤ m * n
most f m h a zero = omega arith
most f m h a (suc n) = omega (arith, next f a n, h (a + n), most f m h a n)

pub years_most : (n : ℕ) → days_from year_days 1970 n ≤ 366 * n
years_most n = most year_days 366 (λ k. (year_between k).to) 1970 n

pub months_most : (y n : ℕ) → days_from (month_days y) 1 n ≤ 31 * n
months_most y n = most (month_days y) 31 (λ k. (month_between y k).to) 1 n

pub some_year : (y : ℕ) → 0 < year_days y
some_year y = omega (arith, (year_between y).from)

pub some_month : (y m : ℕ) → 0 < month_days y m
some_month y m = omega (arith, (month_between y m).from)

-- twelve months are the year, and no more months are less
twelve : (y : ℕ) → months_days y 12 ≡ year_days y
unfolding months_days month_days year_days
twelve y = go (leap y)
  where
    go : (b : Bool) → 31 + cond b 29 28 + 31 + 30 + 31 + 30 + 31 + 31 + 30 + 31 + 30 + 31 ≡ cond b 366 365
    go true = refl
    go false = refl

beyond : (y k : ℕ) → year_days y ≤ months_days y (12 + k)
unfolding months_days
beyond y zero = omega (arith, twelve y)
beyond y (suc k) = let e : 12 + suc k ≡ suc (12 + k) = omega arith in rw e (omega (arith, beyond y k))

in_year : (y n left : ℕ) → months_days y n + left < year_days y → n < 12
in_year y n left h = ⊎_elim (λ (l : n < 12). l) (λ (l : 12 ≤ n). absurd (past l)) (cases_lt n 12)
  where
    past : 12 ≤ n → ⊥
    past l = let e : 12 + (n - 12) ≡ n = omega arith in omega (arith, rw e at (beyond y (n - 12)))

-- the year of a day, and in it the month of what is left, are a date
pub dated : (day : ℕ) (y m : Within) → Falls year_days day 1970 y → Falls (month_days y.at) y.left 1 m
    → DateOf day (record { year = y.at; month = m.at; day = 1 + m.left })
dated day y m a b =
    let ys = years_are (y.at - 1970) in
    let ms = months_are y.at (m.at - 1) in
    record {
      proper =
          record {
            from_1970 = a.from;
            month_from = b.from;
            month_to = omega (arith, in_year y.at (m.at - 1) m.left (omega (arith, a.less, b.sum, ms)), b.from);
            day_from = omega arith;
            day_to = omega (arith, b.less);
          };
      same = unfold day_number in omega (arith, a.sum, b.sum, ys, ms);
    }
