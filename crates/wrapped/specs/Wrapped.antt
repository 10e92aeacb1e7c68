-- The wrapped insertion: 9, 5, 6, 7, 8, then as unwrapped.
use Rattle.std.specs.Prelude.{Option, Some, None, Result, Ok, Err, ℕ, eqb, leb, drop, length, List, [], ◌∷◌}
use Rattle.packet.specs.declared.Header.{Header}
use Rattle.packet.specs.declared.Fault.{Fault}
use Rattle.insertions.specs.Inserting.{insert_tc}
use Rattle.packet.specs.Packet.{read_of, user_data_of}
use Rattle.rules.specs.Papers.{Outcome, no, refused}
use Rattle.rules.specs.Tests.{unless}
use Rattle.stamp.specs.Stamp.{stamp_of}
use Rattle.stamp.specs.declared.Stamp.{Stamp}
use Rattle.schedule.specs.State.{State}
use Rattle.schedule.specs.declared.Setup.{Setup}

-- user data is a stamp (8) and the command
unfoldable pub stamped : Setup → List ℕ → State → Option Stamp → Outcome State
stamped su d s None = refused (no 8 [])
stamped su d s (Some x) = insert_tc su x.time (drop x.len d) s

-- the outer packet is opened: 9, 5, 6, 7
unfoldable pub opened : Setup → List ℕ → State → Result Header Fault → Outcome State
opened su d s (Err f) = refused (no 9 [])
opened su d s (Ok h) =
    unless (eqb h.service 11) (refused (no 5 (h.service ∷ [])))
    (unless (eqb h.subservice 4) (refused (no 6 (h.subservice ∷ [])))
    (unless (leb 1 (length d)) (refused (no 7 []))
    (stamped su d s (stamp_of d))))

unfoldable pub insert_wrapped_in : Setup → List ℕ → State → Outcome State
insert_wrapped_in su outer s = opened su (user_data_of 2 outer) s (read_of 2 outer)
