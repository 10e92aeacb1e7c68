-- Which bytes are a telecommand packet, by the tests of `packet_tests`, and what it says (document 01, module 2; CCSDS 133.0-B, the primary
-- header in bytes 0 to 5; ECSS-E-ST-70-41C, the secondary header from byte 6 on). `w` is the width of the source ID in bytes: 2 in this edition.
use Rattle.std.specs.Prelude.{Result, Ok, Err, ◌%◌, ◌*◌, ◌+◌, ◌-◌, ℕ, drop, get_or, take, List, [], ◌≡◌}
use Rattle.packet.specs.declared.Fault.{Fault}
use Rattle.packet_tests.specs.Tests.{check_bytes, data_from, header_bits, long_enough, shortest, total_in_bounds, total_of, version_nibble}
use Rattle.rules.specs.Tests.{unless}
use Rattle.words.specs.Words.{number}
use Rattle.packet.specs.declared.Fault.TheVariants.{Length, Total, HeaderBits, VersionNibble, CheckBytes}
use Rattle.packet.specs.declared.Header.{Header}
use Rattle.packet.specs.declared.RequestId.{RequestId}

-- APID: the low 11 bits of bytes 0-1; sequence count: the low 14 of 2-3; byte 7 is service, 8 subservice, from 9 on the source ID
abbrev pub header_of : ℕ → List ℕ → Header
header_of w s =
    record {
      service = get_or s 7 0;
      subservice = get_or s 8 0;
      source_id = number w 9 s;
      apid = number 2 0 s % 2048;
      seq_count = number 2 2 s % 16384;
      total = total_of s;
    }

-- what bytes are
unfoldable pub read_of : ℕ → List ℕ → Result Header Fault
read_of w s =
    unless (long_enough w s) (Err Length)
    (unless (total_in_bounds w s) (Err Total)
    (unless (header_bits s) (Err HeaderBits)
    (unless (version_nibble s) (Err VersionNibble)
    (unless (check_bytes s) (Err CheckBytes)
    (Ok (header_of w s))))))

-- user data: from behind the source ID to total - 2; none where the packet is unreadable
unfoldable pub data_of : ℕ → List ℕ → Result Header Fault → List ℕ
data_of w s (Ok h) = take (h.total - shortest w) (drop (data_from w) s)
data_of w s (Err f) = []

abbrev pub user_data_of : ℕ → List ℕ → List ℕ
user_data_of w s = data_of w s (read_of w s)

-- a request ID, and its word as the original's `as_u64` gives it
abbrev pub id_of : Header → RequestId
id_of h = record { source_id = h.source_id; apid = h.apid; seq_count = h.seq_count }

abbrev pub id_word : RequestId → ℕ
id_word i = i.source_id * 4294967296 + i.apid * 65536 + i.seq_count

-- what handing back the user data promises: the bytes, and that they are a part of the packet, uncopied (`from` and `place` are a
-- block of memory and a place in it): from `data_from` on where the packet is readable, and empty at its start where it is not
unfoldable pub data_at : ℕ → Result Header Fault → ℕ
data_at w (Ok h) = data_from w
data_at w (Err f) = 0

pub record HandsBack (w : ℕ) (s : List ℕ) (from : ℕ × ℕ) (part : List ℕ) (place : ℕ × ℕ) : Type 0 where
  pub bytes : part ≡ user_data_of w s
  pub block : place.0 ≡ from.0
  pub offset : place.1 ≡ data_at w (read_of w s) + from.1
