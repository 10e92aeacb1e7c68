-- Words as they were read.
-- A reader need not believe this file: contracts below the public calls cite it, no public call's promise does.
use Rattle.std.specs.Prelude.{◌*◌, ◌+◌, ℕ, ltb, Bool, ◌&&◌, cond, false, true, List, [], ◌≡◌}
use Rattle.face_reading.specs.Reading.{store_setup, well_counted, word}
use Rattle.record.specs.Record.{times_in_range}
use Rattle.rules.specs.Papers.{Paper, no}
use Rattle.rules.specs.Tests.{all_below}
use Rattle.schedule.specs.Judge.{setup_ok}
use Rattle.layout.specs.Limits.{max_subpools}
use Rattle.record.specs.declared.Record.{Record}
use Rattle.schedule.specs.declared.Setup.{Setup}
use Rattle.layout.specs.Judge.{setup_ok as store_setup_ok}
use Rattle.layout.specs.declared.Setup.{Setup as StoreSetup}

-- the words of the subpools fit the fields that hold them
unfoldable pub narrow : List ℕ → Bool
narrow ws = all_below (λ i. ltb (word ws (3 + i)) 65536) (2 * max_subpools)

-- words of which the store's part gives no refusal 1
unfoldable pub fine : List ℕ → Bool
fine ws = well_counted ws && store_setup_ok (store_setup ws)

-- a setup that was read is what the words say; where refusal 1 is due, it is due for what was read too
pub record ReadsStore (ws : List ℕ) (su : StoreSetup) : Type 0 where
  pub same : fine ws ≡ true → su ≡ store_setup ws
  pub bad : fine ws ≡ false → store_setup_ok su ≡ false

pub record ReadsSetup (ws : List ℕ) (su : Setup) : Type 0 where
  pub store : ReadsStore ws su.store
  pub entries : su.entries ≡ word ws 2

-- nanoseconds that do not fit 32 bits are taken for the most that do, which is out of range too
unfoldable pub clipped : ℕ → ℕ
clipped w = cond (ltb w 4294967296) w 4294967295

-- a record that was read is what the words say; where its clock or margin is out of range, so is what was read
pub record Stands (x r : Record) : Type 0 where
  pub count : r.count ≡ x.count
  pub same : times_in_range x ≡ true → r ≡ x
  pub damaged : times_in_range x ≡ false → times_in_range r ≡ false

-- a record of fewer than 6 words: all of 1 comes before it
unfoldable pub short_paper : Setup → Paper
short_paper su = no (cond (setup_ok su) 2 1) []
