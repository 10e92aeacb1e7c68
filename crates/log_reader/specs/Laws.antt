-- What the reader owes to a log that holds records: it counts them, finds each one, and no more.
use Rattle.std.specs.Prelude.{Some, None, ◌<◌, ◌≤◌, ℕ, get_or, length, List, ◌≡◌}
use Rattle.release_log.specs.Log.{LogRecord}
use Rattle.log_reader.specs.Finding.{counted, found_in, item_record}
use Rattle.log_reader.specs.declared.Item.{Item}

-- there is an item at i, it says what r does, and its packet's bytes lie inside the log
pub record Finds (log : List ℕ) (i : ℕ) (r : LogRecord) : Type 0 where
  pub item : Item
  pub found : found_in log i ≡ Some item
  pub same : item_record log item ≡ r
  pub forward : item.from ≤ item.to
  pub inside : item.to ≤ length log

-- record i of rs is found as i, whichever record d stands for none
pub record FindsAll (log : List ℕ) (rs : List LogRecord) : Type 0 where
  pub count : counted log ≡ length rs
  pub each : (d : LogRecord) (i : ℕ) → i < length rs → Finds log i (get_or rs i d)
  pub no_more : (i : ℕ) → length rs ≤ i → found_in log i ≡ None
