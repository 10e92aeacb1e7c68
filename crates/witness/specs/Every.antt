-- Two more schedulers, and requests of every kind: two subpools, a margin, a larger that spills and has as many entries as the smaller.
use Rattle.std.specs.Prelude.{ℕ, replicate, Bool, false, true, List, [], ◌++◌, ◌∷◌}
use Rattle.demands.specs.Calling.{Lent}
use Rattle.record.specs.declared.Record.{Record}
use Rattle.schedule.specs.declared.Setup.{Setup}
use Rattle.scheduler.specs.Steps.{Answer, Request, add, count, delete, delete_by_id, delete_keeping, delete_window, disable, enable, has_element_at, insert_stored, insert_unwrapped, insert_wrapped, len_of_data, modify, read, reset, retrieve, set_clock, tick}
use Rattle.time.specs.declared.Margin.{Margin}
use Rattle.windows.specs.declared.TimeWindow.TheVariants.{From, To}
use Rattle.witness.specs.Given.{lent, outer, packet_p, plain, secs}

-- slots of 16 and of 32 bytes: two of the first size, and so many of the second
abbrev pub two_sizes : ℕ → Bool → Setup
two_sizes slots spill =
    record {
      store =
          record {
            pools = 2;
            sizes = 16 ∷ 32 ∷ 0 ∷ 0 ∷ 0 ∷ 0 ∷ 0 ∷ 0 ∷ [];
            slots = 2 ∷ slots ∷ 0 ∷ 0 ∷ 0 ∷ 0 ∷ 0 ∷ 0 ∷ [];
            spill = spill;
          };
      entries = 3;
    }

abbrev pub small : Setup
small = two_sizes 1 false

abbrev pub large : Setup
large = two_sizes 2 true

abbrev pub two_seconds : Margin
two_seconds = record { secs = 2; nanos = 0 }

-- what was lent before the fresh start, and after it
abbrev other : Record
other = record { count = 9; clock = secs 5; margin = two_seconds; enabled = false }

abbrev pub before : Lent
before = record { rec = other; store = replicate 65 7; lens = replicate 3 3; rows = replicate 13 1 }

abbrev pub before' : Lent
before' = record { rec = other; store = replicate 96 7; lens = replicate 5 3; rows = replicate 12 1 }

abbrev started : Record
started = record { count = 0; clock = secs 10; margin = two_seconds; enabled = true }

abbrev pub fresh : Lent
fresh = record { rec = started; store = replicate 64 0 ++ (7 ∷ []); lens = replicate 3 65535; rows = replicate 12 0 ++ (1 ∷ []) }

abbrev pub fresh' : Lent
fresh' = record { rec = started; store = replicate 96 0; lens = replicate 4 65535 ++ (3 ∷ []); rows = replicate 12 0 }

-- P is refused inside the margin, inserted at its end; a wrapped one is refused there; and a packet of 20 bytes is added
abbrev early : List Request
early =
    insert_unwrapped (secs 11) packet_p ∷
    insert_unwrapped (secs 12) packet_p ∷
    insert_wrapped outer ∷
    add (replicate 20 5) ∷
    []

-- it is scheduled, and an address without a packet behind it
abbrev middle : List Request
middle = insert_stored (secs 13) 7 65536 ∷ insert_stored (secs 13) 8 1 ∷ []

-- Disabled, the first two are handed out and deleted; enabled, the third, whose packet is missing. A packet comes and goes. P again and
-- addresses without a packet are scheduled, and go by request ID, by window and by reset. The clock is set out of range
abbrev late : List Request
late =
    has_element_at 1 ∷
    len_of_data 65536 ∷
    modify 65536 (1 ∷ 2 ∷ []) ∷
    count ∷
    retrieve (From (secs 13)) ∷
    disable ∷
    set_clock (secs 13) ∷
    tick 2 true (replicate 84 0) ∷
    enable ∷
    tick 5 false (replicate 29 0) ∷
    delete 65536 ∷
    add (replicate 20 6) ∷
    delete 65536 ∷
    insert_unwrapped (secs 15) packet_p ∷
    insert_stored (secs 16) 5 1 ∷
    insert_stored (secs 17) 5 1 ∷
    delete_keeping 5 ∷
    delete_by_id 5 ∷
    delete_window (To (secs 15)) ∷
    read 0 (replicate 4 0) ∷
    insert_stored (secs 18) 6 0 ∷
    reset ∷
    set_clock (secs 4398046511105) ∷
    count ∷
    []

-- between them an addition to the full subpool, which the larger would hold, and an insertion into the full schedule
abbrev pub requests : List Request
requests = early ++ (add (replicate 17 6) ∷ middle) ++ (insert_stored (secs 20) 9 0 ∷ late)

abbrev pub kept : List Request
kept = early ++ middle ++ late

abbrev answers_early : List Answer
answers_early =
    plain 13 (10 ∷ 0 ∷ 2 ∷ 0 ∷ 11 ∷ 0 ∷ []) ∷
    plain 0 (0 ∷ 0x20011 ∷ []) ∷
    plain 13 (10 ∷ 0 ∷ 2 ∷ 0 ∷ 1 ∷ 0 ∷ []) ∷
    plain 0 (65536 ∷ []) ∷
    []

abbrev answers_middle : List Answer
answers_middle = plain 0 [] ∷ plain 0 [] ∷ []

-- flag 0, due while disabled, with the packet's bytes; and flag 2, without
abbrev disabled_log : List ℕ
disabled_log =
    (0 ∷ 0 ∷ 0 ∷ 2 ∷ 0 ∷ 0 ∷ 0 ∷ 83 ∷ 0 ∷ 0 ∷ 0 ∷ 16 ∷ 0 ∷ 0 ∷ 0 ∷ 46 ∷ 0 ∷ 0 ∷ 0 ∷ 0 ∷ 0 ∷ 0 ∷ 2 ∷ 0 ∷ 0x11 ∷ [])
    ++ replicate 8 0 ++ packet_p
    ++ (0 ∷ 0 ∷ 0 ∷ 0 ∷ 0 ∷ 0 ∷ 0 ∷ 0 ∷ 7 ∷ 0 ∷ 0 ∷ 0 ∷ 0 ∷ 0 ∷ 1 ∷ 0 ∷ 0 ∷ 1 ∷ 2 ∷ [])
    ++ replicate 18 5 ++ (0 ∷ [])

abbrev missing_log : List ℕ
missing_log =
    0 ∷ 0 ∷ 0 ∷ 1 ∷ 0 ∷ 0 ∷ 0 ∷ 29 ∷ 0 ∷ 0 ∷ 0 ∷ 12 ∷ 2 ∷ 0 ∷ 0 ∷ 0 ∷ 0 ∷ 0 ∷ 0 ∷ 0 ∷ 8 ∷ 0 ∷ 0 ∷ 0 ∷ 0 ∷ 0 ∷ 0 ∷ 0 ∷ 1 ∷ []

abbrev answers_late : List Answer
answers_late =
    plain 0 (0 ∷ []) ∷
    plain 0 (20 ∷ []) ∷
    plain 0 (20 ∷ []) ∷
    plain 0 (3 ∷ []) ∷
    plain 0 (1 ∷ 2 ∷ []) ∷
    plain 0 [] ∷
    plain 0 [] ∷
    lent 0 (2 ∷ 1 ∷ []) disabled_log ∷
    plain 0 [] ∷
    lent 0 (1 ∷ 0 ∷ []) missing_log ∷
    plain 18 (65536 ∷ []) ∷
    plain 0 (65536 ∷ []) ∷
    plain 0 [] ∷
    plain 0 (0 ∷ 0x20011 ∷ []) ∷
    plain 0 [] ∷
    plain 0 [] ∷
    plain 0 (1 ∷ 1 ∷ []) ∷
    plain 0 (1 ∷ 0 ∷ 18 ∷ 1 ∷ []) ∷
    plain 0 (1 ∷ 0 ∷ 0 ∷ []) ∷
    lent 18 (0 ∷ []) (replicate 4 0) ∷
    plain 0 [] ∷
    plain 0 (0 ∷ 1 ∷ 18 ∷ 0 ∷ []) ∷
    plain 4 [] ∷
    plain 0 (0 ∷ []) ∷
    []

abbrev pub answers : List Answer
answers = answers_early ++ (plain 12 (1 ∷ []) ∷ answers_middle) ++ (plain 14 [] ∷ answers_late)

-- 4, 13 and 18 are left
abbrev pub kept_answers : List Answer
kept_answers = answers_early ++ answers_middle ++ answers_late

-- tables as they stand before the first tick, disabled; two logs of the room that two records of 32 bytes ask; and what ticks with limit 2
-- answer
abbrev pub loaded : Lent
loaded =
    record {
      rec = record { count = 3; clock = secs 13; margin = two_seconds; enabled = false };
      store = packet_p ++ replicate 19 0 ++ (1 ∷ 2 ∷ []) ++ replicate 18 5 ++ replicate 12 0;
      lens = 13 ∷ 65535 ∷ 20 ∷ [];
      rows = 4398046511116 ∷ 0 ∷ 0x20011 ∷ 0 ∷ 4398046511117 ∷ 0 ∷ 7 ∷ 65536 ∷ 4398046511117 ∷ 0 ∷ 8 ∷ 1 ∷ [];
    }

abbrev pub logs : List (List ℕ)
logs = replicate 114 0 ∷ replicate 114 0 ∷ []

abbrev pub handed : List Answer
handed = lent 0 (2 ∷ 1 ∷ []) (disabled_log ++ replicate 30 0) ∷ lent 0 (1 ∷ 0 ∷ []) (missing_log ++ replicate 85 0) ∷ []
