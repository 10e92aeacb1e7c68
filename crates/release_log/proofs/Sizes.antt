-- How long a log is: its total T, which is 8 and for each record an offset (4), flag (1), request ID (8), address (8) and packet.
use Prim.Native.Nat.{◌*◌, ◌+◌, ◌≤◌, ℕ}
use Rattle.release_log.specs.Log.{LogRecord, log_bytes, offsets, record_bytes, records, total}
use Rattle.words.proofs.Sets.{length_bytes}
use Rattle.words.specs.Words.{bytes_of}
use lib.ListN.{drop, length, length-append}
use lib.Seq.{drop_at, sets, sets-eq}
use mathlib.Core.List.{List, [], ◌++◌, ◌∷◌}
use mathlib.Core.Path.{◌∙◌, ◌≡◌, ap, ap₂, refl}
use native.Mathlib.Nat.{zero-add}
use native.Mathlib.Omega.{arith}

pub size_record : (r : LogRecord) → length (record_bytes r) ≡ 17 + length r.packet
unfolding record_bytes
size_record r =
    omega (
      arith,
      length-append (bytes_of 8 r.id) (bytes_of 8 r.addr ++ r.packet),
      length-append (bytes_of 8 r.addr) r.packet,
      length_bytes 8 r.id,
      length_bytes 8 r.addr,
    )

pub size_records : (r : LogRecord) (rs : List LogRecord) → length (records (r ∷ rs)) ≡ 17 + length r.packet + length (records rs)
unfolding records
size_records r rs = omega (arith, length-append (record_bytes r) (records rs), size_record r)

pub size_offsets : (at : ℕ) (rs : List LogRecord) → length (offsets at rs) ≡ 4 * length rs
unfolding offsets
size_offsets at [] = refl
size_offsets at (r ∷ rs) = length-append (bytes_of 4 at) _ ∙ ap₂ ◌+◌ (length_bytes 4 at) (size_offsets (at + 17 + length r.packet) rs) ∙ omega arith

-- the log has as many bytes as its total says
pub size_log : (rs : List LogRecord) → length (log_bytes rs) ≡ total rs
unfolding log_bytes total
size_log rs = simp (length-append, length_bytes, size_offsets) (omega arith)

-- 21 bytes and the packet's, for each record
unfoldable pub taken : List LogRecord → ℕ
taken [] = 0
taken (r ∷ rs) = 21 + length r.packet + taken rs

pub total_more : (r : LogRecord) (rs : List LogRecord) → total (r ∷ rs) ≡ 21 + length r.packet + total rs
unfolding total
total_more r rs = omega (arith, size_records r rs)

pub total_parts : (rs : List LogRecord) → total rs ≡ 8 + taken rs
unfolding taken
total_parts [] = unfold total records in refl
total_parts (r ∷ rs) = omega (arith, total_more r rs, total_parts rs)

-- what stands in a log after it was written
pub written : (log : List ℕ) (rs : List LogRecord) → total rs ≤ length log → sets log 0 (log_bytes rs) ≡ log_bytes rs ++ drop (total rs) log
written log rs h =
    let s = size_log rs in
    sets-eq (log_bytes rs) log 0 (omega arith) ∙ ap (λ (n : ℕ). log_bytes rs ++ drop n log) (zero-add (length (log_bytes rs)) ∙ s)

-- "Bytes from T on stay"
pub rest_stays : (log : List ℕ) (rs : List LogRecord) → total rs ≤ length log
    → drop (total rs) (sets log 0 (log_bytes rs)) ≡ drop (total rs) log
rest_stays log rs h = ap (drop (total rs)) (written log rs h) ∙ drop_at (log_bytes rs) (drop (total rs) log) (total rs) (size_log rs)
