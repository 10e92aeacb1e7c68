-- How many entries are due: at or before the present clock.
use Rattle.std.specs.Prelude.{◌+◌, suc, ℕ, leb, List, [], ◌∷◌}
use Rattle.rules.specs.Tests.{unless}
use Rattle.rows.specs.Entries.{Entry, time}
use Rattle.table.specs.Before.{below}

-- the due entries at the front, by the instant of the clock
abbrev pub due : ℕ → List Entry → ℕ
due ck es = below (ck + 1) es

-- the due entries, wherever they stand
unfoldable pub due_count : ℕ → List Entry → ℕ
due_count ck [] = 0
due_count ck (e ∷ es) = unless (leb (time e) ck) (due_count ck es) (suc (due_count ck es))
