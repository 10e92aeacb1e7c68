-- What the test of 3 asks.
-- A reader need not believe this file: contracts below the public calls cite it, no public call's promise does.
use Rattle.std.specs.Prelude.{◌*◌, ◌≤◌, ℕ, true, ◌≡◌}
use Rattle.layout.specs.Layout.{all_rows}
use Rattle.rows.specs.Entries.{width}
use Rattle.schedule.specs.Judge.{setup_ok}
use Rattle.schedule.specs.declared.Setup.{Setup}

-- what the test of 3 asks: 1 is not given, and the tables are long enough to be looked at
pub record Long (su : Setup) (lens rows : ℕ) : Type 0 where
  pub setup : setup_ok su ≡ true
  pub lens_fit : all_rows su.store ≤ lens
  pub rows_fit : su.entries * width ≤ rows
