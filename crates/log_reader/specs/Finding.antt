-- Record i of a log, where the log's numbers keep it inside the bytes given. Places and numbers are those of `log`'s `Reading`.
use Rattle.std.specs.Prelude.{Option, Some, None, ◌*◌, ◌+◌, ◌-◌, ℕ, ltb, drop, length, take, cond, List}
use Rattle.release_log.specs.Log.{LogRecord}
use Rattle.release_log.specs.Reading.{record_in, count_of, end_of, offset_of}
use Rattle.log_reader.specs.declared.Item.{Item}

-- the record from `at` up to `end`; its packet is the bytes behind the flag, the ID and the address
abbrev pub item_in : List ℕ → ℕ → ℕ → Item
item_in log at end =
    record {
      flag = (record_in log at end).flag;
      id = (record_in log at end).id;
      addr = (record_in log at end).addr;
      from = at + 17;
      to = end;
    }

-- what an item says of the log that it was found in
abbrev pub item_record : List ℕ → Item → LogRecord
item_record log it =
    record {
      flag = it.flag;
      id = it.id;
      addr = it.addr;
      packet = take (it.to - it.from) (drop it.from log);
    }

-- a record has 17 bytes or more, and ends inside the log
unfoldable pub between : List ℕ → ℕ → ℕ → Option Item
between log at end = cond (ltb (length log) end) None (cond (ltb end (at + 17)) None (Some (item_in log at end)))

-- how many records a log counts; none where it is too short for its numbers
unfoldable pub counted : List ℕ → ℕ
counted log = cond (ltb (length log) 8) 0 (cond (ltb (length log) (8 + 4 * count_of log)) 0 (count_of log))

unfoldable pub found_in : List ℕ → ℕ → Option Item
found_in log i = cond (ltb i (counted log)) (between log (offset_of log i) (end_of log i)) None
