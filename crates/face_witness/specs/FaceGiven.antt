-- Two setups' words, memory, calls, and what they are answered.
use Rattle.std.specs.Prelude.{ℕ, pos, replicate, true, List, [], ◌++◌, ◌∷◌}
use Rattle.face_demands.specs.FaceCalling.{Asked, FaceAnswer, FaceLent, FaceRequest, count, insert_stored, set_clock, store_add, store_part, store_read, tick}
use Rattle.face_words.specs.Padding.{padded}
use Rattle.time.specs.declared.Margin.{Margin}
use Rattle.time.specs.declared.UnixTime.{UnixTime}

-- two subpools, of slots of 4 and of 8 bytes, no spilling: so many entries, and so many slots of 4 bytes; one of 8
abbrev pub sized : ℕ → ℕ → List ℕ
sized entries slots = 2 ∷ 0 ∷ entries ∷ slots ∷ 4 ∷ 1 ∷ 8 ∷ []

abbrev pub small : List ℕ
small = sized 1 1

abbrev pub large : List ℕ
large = sized 2 2

abbrev pub secs : ℕ → UnixTime
secs s = record { secs = pos s; nanos = 0 }

abbrev pub none : Margin
none = record { secs = 0; nanos = 0 }

-- what was lent before the fresh start, of any content; the first is longer than the setup asks
abbrev pub before : FaceLent
before = record { rec = 9 ∷ 5 ∷ 0 ∷ 0 ∷ 0 ∷ 0 ∷ 77 ∷ []; store = replicate 13 7; lens = replicate 3 3; rows = replicate 5 1 }

abbrev pub before' : FaceLent
before' = record { rec = 9 ∷ 5 ∷ 0 ∷ 0 ∷ 0 ∷ 0 ∷ []; store = replicate 16 7; lens = replicate 3 3; rows = replicate 8 1 }

-- and after it
abbrev pub fresh : FaceLent
fresh =
    record {
      rec = 0 ∷ 0 ∷ 0 ∷ 0 ∷ 0 ∷ 1 ∷ 77 ∷ [];
      store = replicate 12 0 ++ (7 ∷ []);
      lens = 65535 ∷ 65535 ∷ 3 ∷ [];
      rows = replicate 4 0 ++ (1 ∷ []);
    }

abbrev pub fresh' : FaceLent
fresh' = record { rec = 0 ∷ 0 ∷ 0 ∷ 0 ∷ 0 ∷ 1 ∷ []; store = replicate 16 0; lens = replicate 3 65535; rows = replicate 8 0 }

-- each call is lent an answer of 9 words
abbrev asking : FaceRequest → Asked
asking q = record { request = q; answer = replicate 9 5 }

-- a packet goes into the one slot of 4 bytes, so another is refused; one of 5 bytes goes to address 65,536, is written over through `part`, read,
-- and inserted for 2 s; the one row is taken, so another insertion is refused. The tick hands it out
abbrev pub calls : List Asked
calls =
    asking (store_add (1 ∷ 2 ∷ 3 ∷ [])) ∷
    asking (store_add (4 ∷ [])) ∷
    asking (store_add (1 ∷ 2 ∷ 3 ∷ 4 ∷ 5 ∷ [])) ∷
    asking (store_part 65536 (9 ∷ 8 ∷ [])) ∷
    asking (store_read 65536 (replicate 6 0)) ∷
    asking (insert_stored (secs 2) 7 65536) ∷
    asking (insert_stored (secs 3) 8 0) ∷
    asking (set_clock (secs 2)) ∷
    asking (tick (replicate 34 0) 1 true) ∷
    asking count ∷
    []

-- a number, values in 8 words with the ninth behind them, and a buffer
abbrev lent : ℕ → List ℕ → List ℕ → FaceAnswer
lent n vs b = record { number = n; words = padded vs ++ (5 ∷ []); buffer = b }

abbrev plain : ℕ → List ℕ → FaceAnswer
plain n vs = lent n vs []

abbrev log : List ℕ
log =
    0 ∷ 0 ∷ 0 ∷ 1 ∷ 0 ∷ 0 ∷ 0 ∷ 34 ∷ 0 ∷ 0 ∷ 0 ∷ 12 ∷ 1 ∷ 0 ∷ 0 ∷ 0 ∷ 0 ∷ 0 ∷ 0 ∷ 0 ∷ 7 ∷ 0 ∷ 0 ∷ 0 ∷ 0 ∷ 0 ∷ 1 ∷ 0 ∷ 0 ∷ 9 ∷ 8 ∷ 3 ∷ 4 ∷ 5 ∷ []

abbrev pub answers : List FaceAnswer
answers =
    plain 0 (0 ∷ []) ∷
    plain 12 (0 ∷ []) ∷
    plain 0 (65536 ∷ []) ∷
    plain 0 (4 ∷ 5 ∷ []) ∷
    lent 0 (5 ∷ []) (9 ∷ 8 ∷ 3 ∷ 4 ∷ 5 ∷ 0 ∷ []) ∷
    plain 0 [] ∷
    plain 14 [] ∷
    plain 0 [] ∷
    lent 0 (1 ∷ 0 ∷ []) log ∷
    plain 0 (0 ∷ []) ∷
    []

-- without what was refused as full
abbrev pub kept : List Asked
kept =
    asking (store_add (1 ∷ 2 ∷ 3 ∷ [])) ∷
    asking (store_add (1 ∷ 2 ∷ 3 ∷ 4 ∷ 5 ∷ [])) ∷
    asking (store_part 65536 (9 ∷ 8 ∷ [])) ∷
    asking (store_read 65536 (replicate 6 0)) ∷
    asking (insert_stored (secs 2) 7 65536) ∷
    asking (set_clock (secs 2)) ∷
    asking (tick (replicate 34 0) 1 true) ∷
    asking count ∷
    []

-- what is answered where the slot of 8 bytes starts at a place of the store: 4 in the smaller, 8 in the larger
abbrev pub kept_answers : ℕ → List FaceAnswer
kept_answers place =
    plain 0 (0 ∷ []) ∷
    plain 0 (65536 ∷ []) ∷
    plain 0 (place ∷ 5 ∷ []) ∷
    lent 0 (5 ∷ []) (9 ∷ 8 ∷ 3 ∷ 4 ∷ 5 ∷ 0 ∷ []) ∷
    plain 0 [] ∷
    plain 0 [] ∷
    lent 0 (1 ∷ 0 ∷ []) log ∷
    plain 0 (0 ∷ []) ∷
    []
