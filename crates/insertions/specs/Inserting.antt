-- The insertions by bytes: a command of a time, 9 to 14; unwrapped, with 4 before them.
use Rattle.std.specs.Prelude.{Result, Ok, Err, ℕ, eqb, Bool, ◌&&◌, not, List, []}
use Rattle.packet.specs.declared.Fault.{Fault}
use Rattle.gate.specs.Entering.{timed}
use Rattle.packet.specs.Packet.{id_of, id_word, read_of}
use Rattle.packet.specs.declared.Header.{Header}
use Rattle.rules.specs.Papers.{Outcome, no, refused}
use Rattle.rules.specs.Tests.{unless}
use Rattle.store.specs.Calls.{add_in}
use Rattle.storing.specs.Entered.{entered}
use Rattle.time.specs.declared.UnixTime.{UnixTime}
use Rattle.schedule.specs.State.{State}
use Rattle.schedule.specs.declared.Setup.{Setup}

-- a command that is itself an insertion
abbrev pub nested : Header → Bool
nested h = eqb h.service 11 && eqb h.subservice 4

-- a command of any time in range: 9 where it is unreadable, 10 where it is itself an insertion, then as above. All of its bytes are stored,
-- those after its total too
unfoldable pub activity : Setup → UnixTime → List ℕ → State → Result Header Fault → Outcome State
activity su t tc s (Err f) = refused (no 9 [])
activity su t tc s (Ok h) =
    unless (not (nested h)) (refused (no 10 [])) (entered su t (id_word (id_of h)) s (add_in su.store.spill s.pools tc))

abbrev pub insert_tc : Setup → UnixTime → List ℕ → State → Outcome State
insert_tc su t tc s = activity su t tc s (read_of 2 tc)

-- with its time as an argument: 4 before all of these
unfoldable pub insert_unwrapped_in : Setup → UnixTime → List ℕ → State → Outcome State
insert_unwrapped_in su t tc s = timed t (insert_tc su t tc s)
