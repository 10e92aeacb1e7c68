-- The log's bytes (document 01, "The release tick and its log"): all numbers high byte first.
use Rattle.std.specs.Prelude.{◌*◌, ◌+◌, ℕ, length, List, [], ◌++◌, ◌∷◌}
use Rattle.words.specs.Words.{bytes_of}

-- "Of a log, only the first 1,048,576 bytes are used"
abbrev pub max_log_bytes : ℕ
max_log_bytes = 1048576

-- what a record says: flag, request ID, address as inserted, packet
pub record LogRecord : Type 0 where
  pub flag : ℕ
  pub id : ℕ
  pub addr : ℕ
  pub packet : List ℕ

-- one flag byte, request ID (8), address (8), packet bytes
unfoldable pub record_bytes : LogRecord → List ℕ
record_bytes r = r.flag ∷ (bytes_of 8 r.id ++ (bytes_of 8 r.addr ++ r.packet))

-- the records, back to back
unfoldable pub records : List LogRecord → List ℕ
records [] = []
records (r ∷ rs) = record_bytes r ++ records rs

-- where each starts, the first at `at` (4 bytes each)
unfoldable pub offsets : ℕ → List LogRecord → List ℕ
offsets at [] = []
offsets at (r ∷ rs) = bytes_of 4 at ++ offsets (at + 17 + length r.packet) rs

-- count (4), total (4) and offsets stand before the records
abbrev pub records_at : List LogRecord → ℕ
records_at rs = 8 + 4 * length rs

-- the total T
unfoldable pub total : List LogRecord → ℕ
total rs = records_at rs + length (records rs)

unfoldable pub log_bytes : List LogRecord → List ℕ
log_bytes rs = (bytes_of 4 (length rs) ++ bytes_of 4 (total rs)) ++ (offsets (records_at rs) rs ++ records rs)
