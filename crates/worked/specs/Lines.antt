-- Document 01's worked lines marked T, in its order, as one table, and one statement over it: each comes of the definitions.
use Rattle.std.specs.Prelude.{Option, Some, None, Result, Ok, Err, ◌-◌, ℕ, length, replicate, Bool, false, true, List, [], ◌++◌, ◌∷◌, ◌≡◌, refl, negsuc, pos}
use Rattle.packet.specs.declared.Header.{Header}
use Rattle.packet.specs.declared.Fault.{Fault}
use Rattle.check_code.specs.CheckCode.{check_code, feed, shift}
use Rattle.release_log.specs.Log.{log_bytes, offsets, record_bytes, records, total}
use Rattle.packet.specs.Packet.{id_of, id_word, read_of}
use Rattle.packet_tests.specs.Tests.{check_bytes, header_bits, total_in_bounds, version_nibble}
use Rattle.rows.specs.Entries.{Entry}
use Rattle.rules.specs.Papers.{after, no, says}
use Rattle.rules.specs.Tests.{all_of, unless}
use Rattle.schedule.specs.State.{State}
use Rattle.stamp.specs.Stamp.{stamp_at, stamp_of}
use Rattle.address.specs.Address.{address_of, pool_of, slot_of}
use Rattle.slots.specs.Pools.{find_at, free, taken}
use Rattle.table.specs.Before.{below}
use Rattle.tick.specs.Tick.{first_lacks, handed_out, tick_in}
use Rattle.turn.specs.Turns.{handout, leave}
use Rattle.time.specs.Time.{earliest, far, in_time_margin, instant}
use Rattle.words.specs.Words.{bytes_of, number}
use Rattle.stamp.specs.declared.Stamp.{Stamp}
use Rattle.time.specs.declared.Margin.{Margin}
use Rattle.time.specs.declared.UnixTime.{UnixTime}

-- a line: what is given, and what document 01 says comes of it
pub data Line : Type 0 where
  -- a stamp's bytes: the time and the stamp's length, or refused
  stamp : List ℕ → Option Stamp → Line
  -- clock, margin and release: whether 13 is given
  early : UnixTime → Margin → UnixTime → Bool → Line
  -- clock and margin: the earliest release
  first : UnixTime → Margin → UnixTime → Line
  -- subpool and slot, and the address that they have
  encode : ℕ → ℕ → ℕ → Line
  -- an address, and the subpool and slot that it names
  decode : ℕ → ℕ → ℕ → Line
  -- bytes, and their check code
  code : List ℕ → ℕ → Line
  -- a packet, and a log: a tick with limit 1 that keeps packets, over a scheduler that holds this packet alone, at address 1, due under
  -- the request ID that it is read with. The log's bytes afterwards; or 20, and the bytes needed
  logs : List ℕ → List ℕ → List ℕ → Line
  lacks : List ℕ → List ℕ → ℕ → Line

-- seconds and nanoseconds; `before n` is -(n + 1) s
abbrev at : ℕ → ℕ → UnixTime
at s n = record { secs = pos s; nanos = n }

abbrev before : ℕ → UnixTime
before n = record { secs = negsuc n; nanos = 0 }

-- a stamp that was read: its time and its length
abbrev read_as : UnixTime → ℕ → Option Stamp
read_as t n = Some (record { time = t; len = n })

abbrev margin : ℕ → ℕ → Margin
margin s n = record { secs = s; nanos = n }

-- the entry of a packet at address 1, due at 0 s, by what the packet's bytes are read as: its request ID is the header's. What is no
-- packet has no entry
abbrev entry_read : Result Header Fault → List Entry
entry_read (Ok h) = record { secs = far; nanos = 0; id = id_word (id_of h); addr = 1 } ∷ []
entry_read (Err f) = []

-- a packet of at most 16 bytes in slot 1 of 2, its entry alone due; enabled, clock 0
abbrev holding : List ℕ → State
holding p =
    record {
      pools = record { size = 16; slots = free (replicate 16 0) ∷ taken (length p) (p ++ replicate (16 - length p) 0) ∷ [] } ∷ [];
      entries = entry_read (read_of 2 p);
      clock = at 0 0;
      margin = margin 0 0;
      enabled = true;
    }

abbrev pub Holds : Line → Type 0
Holds (stamp s r) = stamp_of s ≡ r
Holds (early c m r b) = in_time_margin c m r ≡ b
Holds (first c m r) = earliest c m ≡ instant r
Holds (encode k i a) = address_of k i ≡ a
Holds (decode a k i) = (pool_of a ≡ k) × (slot_of a ≡ i)
Holds (code s n) = check_code s ≡ n
Holds (logs p log bytes) = after (tick_in 1 false log (holding p)) [] (λ x. x.log) ≡ bytes
Holds (lacks p log n) = says (tick_in 1 false log (holding p)) ≡ no 20 (n ∷ [])

abbrev pub Every : List Line → Type 0
Every [] = Unit {0}
Every (l ∷ ls) = Holds l × Every ls

-- P and its check bytes
abbrev head_of_p : List ℕ
head_of_p = 0x18 ∷ 0x02 ∷ 0xC0 ∷ 0x11 ∷ 0x00 ∷ 0x06 ∷ 0x2F ∷ 0x11 ∷ 0x01 ∷ 0x00 ∷ 0x00 ∷ []

abbrev packet_p : List ℕ
packet_p = head_of_p ++ bytes_of 2 (check_code head_of_p)

abbrev pub lines : List Line
lines =
    -- day 4,383, ms 0: 0 s. Day 0: -378,691,200 s. Day 4,383, ms 1,500: 1 s 500,000,000 ns
    stamp (0x40 ∷ 0x11 ∷ 0x1F ∷ 0 ∷ 0 ∷ 0 ∷ 0 ∷ []) (read_as (at 0 0) 7) ∷
    stamp (0x40 ∷ 0 ∷ 0 ∷ 0 ∷ 0 ∷ 0 ∷ 0 ∷ []) (read_as (before 378691199) 7) ∷
    stamp (0x40 ∷ 0x11 ∷ 0x1F ∷ 0 ∷ 0 ∷ 0x05 ∷ 0xDC ∷ []) (read_as (at 1 500000000) 7) ∷
    -- 24-bit day 16,777,215, ms 0: 1,449,172,684,800 s. ms 86,400,000: refused
    stamp (0x44 ∷ 0xFF ∷ 0xFF ∷ 0xFF ∷ 0 ∷ 0 ∷ 0 ∷ 0 ∷ []) (read_as (at 1449172684800 0) 8) ∷
    stamp (0x40 ∷ 0x11 ∷ 0x1F ∷ 0x05 ∷ 0x26 ∷ 0x5C ∷ 0 ∷ []) None ∷
    -- clock 100 s, margin 5 s: 105 s accepted; 104 s 999,999,999 ns: 13
    early (at 100 0) (margin 5 0) (at 105 0) false ∷
    early (at 100 0) (margin 5 0) (at 104 999999999) true ∷
    -- clock 0 s 600,000,000 ns, margin 0 s 500,000,000 ns: earliest is 1 s 100,000,000 ns
    first (at 0 600000000) (margin 0 500000000) (at 1 100000000) ∷
    -- subpool 1, slot 3: address 65,539. Address 256: subpool 0, slot 0
    encode 1 3 65539 ∷
    decode 256 0 0 ∷
    -- check code of the ASCII digits 1 to 9: 0x29B1
    code (49 ∷ 50 ∷ 51 ∷ 52 ∷ 53 ∷ 54 ∷ 55 ∷ 56 ∷ 57 ∷ []) 0x29B1 ∷
    -- P at address 1, enabled, alone due: 42 bytes, its request ID as P is read, and those behind them stay. A 41-byte log gets 20 with 42
    logs packet_p (replicate 43 7)
    ((0 ∷ 0 ∷ 0 ∷ 1 ∷ 0 ∷ 0 ∷ 0 ∷ 0x2A ∷ 0 ∷ 0 ∷ 0 ∷ 0x0C ∷ 1 ∷ 0 ∷ 0 ∷ 0 ∷ 0 ∷ 0 ∷ 2 ∷ 0 ∷ 0x11 ∷ 0 ∷ 0 ∷ 0 ∷ 0 ∷ 0 ∷ 0 ∷ 0 ∷ 1 ∷
    []) ++ packet_p ++ (7 ∷ [])) ∷
    lacks packet_p (replicate 41 7) 42 ∷
    []

pub worked : Every lines
unfolding after all_of below bytes_of check_bytes check_code feed find_at first_lacks handed_out handout header_bits leave log_bytes number offsets
    read_of record_bytes records says shift stamp_at stamp_of tick_in total total_in_bounds unless version_nibble
worked = (refl, (refl, (refl, (refl, (refl, (refl, (refl, (refl, (refl, ((refl, refl), (refl, (refl, (refl, tt)))))))))))))
