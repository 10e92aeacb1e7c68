-- A range of rows cleared.
-- A reader need not believe this file: contracts below the public calls cite it, no public call's promise does.
use Rattle.std.specs.Prelude.{◌-◌, ℕ, drop, take, Bool}
use Rattle.record.specs.declared.Record.{Record}
use Rattle.rules.specs.Papers.{Outcome}
use Rattle.schedule.specs.State.{State}
use Rattle.table_edit.specs.Edits.{without}
use Rattle.selection.specs.declared.Part.{Part}
use Rattle.deletions.specs.Deleting.{clear_in, enabled_as}

-- the entries of a range of rows go, with their packets; enabled or disabled afterwards
unfoldable pub clear_part : Part → Bool → State → Outcome State
clear_part p b s =
    clear_in (take p.number (drop p.first s.entries)) (without p.first p.number s.entries) (enabled_as b s)

-- the record with n entries fewer, enabled or disabled
abbrev pub left_of : Record → ℕ → Bool → Record
left_of r n b = record { count = r.count - n; clock = r.clock; margin = r.margin; enabled = b }
