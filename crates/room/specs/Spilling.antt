-- Document 01's line "Spilling against demand 3": slot sizes 16, 32, 64; slots 1, 1, 1 against 2, 1, 1.
use Rattle.std.specs.Prelude.{ℕ, pos, get_or, replicate, Bool, List, [], ◌∷◌}
use Rattle.room.specs.Room.{answers_of}
use Rattle.rules.specs.Papers.{Paper, no}
use Rattle.schedule.specs.declared.Setup.{Setup}
use Rattle.scheduler.specs.Steps.{Answer, Request, add, delete}

-- whether it spills, and so many slots in the first subpool
abbrev pub slots : Bool → ℕ → Setup
slots spilling n =
    record {
      store =
          record {
            pools = 3;
            sizes = 16 ∷ 32 ∷ 64 ∷ 0 ∷ 0 ∷ 0 ∷ 0 ∷ 0 ∷ [];
            slots = n ∷ 1 ∷ 1 ∷ 0 ∷ 0 ∷ 0 ∷ 0 ∷ 0 ∷ [];
            spill = spilling;
          };
      entries = 1;
    }

-- add a, r (16 bytes) and q (32), delete r, add t (32), delete q, add w (64), where r and q lie at these addresses
abbrev pub line : ℕ → ℕ → List Request
line r q =
    add (replicate 16 0x0a) ∷
    add (replicate 16 0x0b) ∷
    add (replicate 32 0x0c) ∷
    delete r ∷
    add (replicate 32 0x0d) ∷
    delete q ∷
    add (replicate 64 0x0e) ∷
    []

-- what w is answered, by a fresh scheduler
abbrev pub last_answer : Setup → List Request → Paper
last_answer su qs =
    let given : List Answer = answers_of su (record { secs = pos 0; nanos = 0 }) (record { secs = 0; nanos = 0 }) qs in
    (get_or given 6 (record { paper = no 0 []; buffer = [] })).paper
