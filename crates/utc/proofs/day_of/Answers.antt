-- `utc::day_of` meets its contract: no month is longer than 31 days, and the sums are the calendar's.
use Rattle.std.proofs.Common.{◌≡◌, ◌∙◌, ◌+◌, ◌-◌, ◌≤◌, arith, refl, rules}
use Rattle.std.proofs.lemmas.Iterator.{YieldsList-from_map, YieldsList-from_range}
use Rattle.std.proofs.lemmas.Iterator.Consumers.{fits_from_yields_list, sum_from_yields_List}
use Rattle.utc.specs.Calendar.{day_number, month_days, months_days, year_days, years_days}
use Rattle.utc.proofs.Steps.{month_between, months_are, months_most, years_are, years_most}
use Rattle.utc.proofs.day_of.Goals as goal
use Rattle.utc.proofs.day_of.Goals.{After-sum-months}

pub returns-in_default-4 : goal.returns-in_default-4
returns-in_default-4 c =
    let d = c.args.d in
    record { most = omega arith; same = λ p f. absurd (omega (arith, p.day_to, (month_between d.year d.month).to)) }

pub sum-years-requires-clause-fits : goal.sum-years-requires-clause-fits
sum-years-requires-clause-fits c =
    let d = c.args.d in
    fits_from_yields_list _ _
    (YieldsList-from_map _ year_days (YieldsList-from_range 1970 d.year _ (search rules) refl) c.map.ensures.closure
    (λ x r q k. search rules))
    (omega (arith, years_most (d.year - 1970)))

pub sum-months-requires-clause-fits : goal.sum-months-requires-clause-fits
sum-months-requires-clause-fits c =
    let d = c.args.d in
    fits_from_yields_list _ _
    (YieldsList-from_map _ (month_days d.year) (YieldsList-from_range 1 d.month _ (search rules) refl) c.map-2.ensures.closure
    (λ x r q k. search rules))
    (omega (arith, months_most d.year (d.month - 1)))

-- what the two sums are, and how large at most
record Sums (c : After-sum-months) : Type 0 where
  years : c.sum-years.result ≡ years_days (c.args.d.year - 1970)
  months : c.sum-months.result ≡ months_days c.args.d.year (c.args.d.month - 1)
  most : c.sum-years.result + c.sum-months.result ≤ 2939000

sums : (c : After-sum-months) → Sums c
sums c =
    let d = c.args.d in
    let y =
    sum_from_yields_List _ _ c.sum-years.ensures.ran
    (YieldsList-from_map _ year_days (YieldsList-from_range 1970 d.year _ (search rules) refl) c.map.ensures.closure
    (λ x r q k. search rules)) in
    let m =
    sum_from_yields_List _ _ c.sum-months.ensures.ran
    (YieldsList-from_map _ (month_days d.year) (YieldsList-from_range 1 d.month _ (search rules) refl) c.map-2.ensures.closure
    (λ x r q k. search rules)) in
    record {
      years = y ∙ years_are (d.year - 1970);
      months = m ∙ months_are d.year (d.month - 1);
      most = omega (arith, y, m, years_most (d.year - 1970), months_most d.year (d.month - 1));
    }

pub overflow_add-result : goal.overflow_add-result
overflow_add-result c = omega (arith, (sums c).most)

pub overflow_add-result-2 : goal.overflow_add-result-2
overflow_add-result-2 c = omega (arith, (sums c).most)

pub returns : goal.returns
unfolding day_number
returns c = let s = sums c in record { most = omega (arith, s.most); same = λ p f. omega (arith, s.years, s.months) }
