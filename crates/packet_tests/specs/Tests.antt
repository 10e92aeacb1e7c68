-- The tests that bytes pass if they are a telecommand packet (document 01, module 2; CCSDS 133.0-B, the primary header in bytes 0 to 5;
-- ECSS-E-ST-70-41C, the secondary header from byte 6 on). `w` is the width of the source ID in bytes: 2 in this edition.
use Rattle.std.specs.Prelude.{◌%◌, ◌+◌, ◌-◌, ◌/◌, ℕ, eqb, leb, get_or, length, take, Bool, List, [], ◌∷◌}
use Rattle.check_code.specs.CheckCode.{check_code}
use Rattle.rules.specs.Tests.{all_of}
use Rattle.words.specs.Words.{number}

-- where the user data starts: bytes 0 to 8 and the source ID stand before it
abbrev pub data_from : ℕ → ℕ
data_from w = 9 + w

-- a packet without user data: those, and two check bytes. 13 bytes where w is 2
abbrev pub shortest : ℕ → ℕ
shortest w = data_from w + 2

-- the whole packet's length: the length field, bytes 4-5, and 7
abbrev pub total_of : List ℕ → ℕ
total_of s = number 2 4 s + 7

-- the five tests, in the order in which a fault is named

-- at least 13 bytes
abbrev pub long_enough : ℕ → List ℕ → Bool
long_enough w s = leb (shortest w) (length s)

-- the total is between 13 and the bytes given
unfoldable pub total_in_bounds : ℕ → List ℕ → Bool
total_in_bounds w s = all_of (leb (shortest w) (total_of s) ∷ leb (total_of s) (length s) ∷ [])

-- packet version 0 (three bits), type 1, secondary header flag 1
unfoldable pub header_bits : List ℕ → Bool
header_bits s = all_of (eqb (number 2 0 s / 8192) 0 ∷ eqb (number 2 0 s / 4096 % 2) 1 ∷ eqb (number 2 0 s / 2048 % 2) 1 ∷ [])

-- the PUS version, the high half of byte 6, is 2
unfoldable pub version_nibble : List ℕ → Bool
version_nibble s = eqb (get_or s 6 0 / 16) 2

-- the last two bytes of the total are the check code of those before
unfoldable pub check_bytes : List ℕ → Bool
check_bytes s = eqb (number 2 (total_of s - 2) s) (check_code (take (total_of s - 2) s))
