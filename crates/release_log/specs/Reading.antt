-- Reading a log: as many records as it counts, each at its offset, the last up to the total.
use Rattle.std.specs.Prelude.{◌*◌, ◌+◌, ◌-◌, suc, zero, ℕ, ltb, drop, get_or, take, cond, List, [], ◌∷◌}
use Rattle.release_log.specs.Log.{LogRecord}
use Rattle.words.specs.Words.{number}

abbrev pub count_of : List ℕ → ℕ
count_of log = number 4 0 log

abbrev pub total_of : List ℕ → ℕ
total_of log = number 4 4 log

abbrev pub offset_of : List ℕ → ℕ → ℕ
offset_of log i = number 4 (8 + 4 * i) log

-- record i ends where the next one starts, and the last at the total
abbrev pub end_of : List ℕ → ℕ → ℕ
end_of log i = cond (ltb (i + 1) (count_of log)) (offset_of log (i + 1)) (total_of log)

-- the record from `at` up to `end`
unfoldable pub record_in : List ℕ → ℕ → ℕ → LogRecord
record_in log at end =
    record {
      flag = get_or log at 0;
      id = number 8 (at + 1) log;
      addr = number 8 (at + 9) log;
      packet = take (end - (at + 17)) (drop (at + 17) log);
    }

-- n records from record i on
unfoldable pub read_from : List ℕ → ℕ → ℕ → List LogRecord
read_from log i zero = []
read_from log i (suc n) = record_in log (offset_of log i) (end_of log i) ∷ read_from log (suc i) n

unfoldable pub read_log : List ℕ → List LogRecord
read_log log = read_from log 0 (count_of log)
