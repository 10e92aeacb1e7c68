-- `utc::date_of`: how many days a year and a month have.
use Rattle.utc.specs.Calendar.{month_days, year_days}
use Rattle.utc.proofs.date_of.Given as goal

abbrev pub ghost-place : goal.ghost-place
ghost-place a = year_days

abbrev pub ghost-place-2 : goal.ghost-place-2
ghost-place-2 a = month_days a.length.0.now
