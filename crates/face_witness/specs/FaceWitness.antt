-- The premises of the demands over sequences of C calls, all met by the words and calls of `FaceGiven`, and what demand 3 says there.
use Rattle.face_demands.specs.FaceCalling.{FaceBegins, FaceLent, FaceRuns}
use Rattle.face_demands.specs.FaceDemands.{AllRoomy, FaceAnswersAlike, as_answers}
use Rattle.face_demands.specs.FaceStanding.{asks, requests_of}
use Rattle.face_reading.specs.Reading.{setup_from}
use Rattle.face_witness.specs.FaceGiven.{answers, before, before', calls, fresh, fresh', kept, kept_answers, large, none, secs, small}
use Rattle.room.specs.Room.{EveryNamed, Roomier, Spills, strike}
use Rattle.scheduler.specs.Fits.{AllOfBytes}
use Rattle.std.specs.Prelude.{false, ◌≡◌}

pub record FaceMet : Type 0 where
  pub begins : FaceBegins small (secs 0) none before fresh
  pub roomy : AllRoomy calls
  pub named : EveryNamed (setup_from small) (requests_of calls)
  pub bytes : AllOfBytes (requests_of calls)
  pub end : FaceLent
  pub runs : FaceRuns small calls fresh answers end
  pub roomier : Roomier (setup_from small) (setup_from large)
  pub spills : Spills false false (setup_from small) (setup_from large)
  pub begins_larger : FaceBegins large (secs 0) none before' fresh'

-- the larger answers alike; and what it does answer has another offset
pub record FaceAlikeThere : Type 0 where
  pub calls_left : strike (as_answers answers) (asks calls) ≡ asks kept
  pub answers_left : strike (as_answers answers) answers ≡ kept_answers 4
  pub alike : FaceAnswersAlike large (asks kept) fresh' (kept_answers 4)
  pub end : FaceLent
  pub runs : FaceRuns large kept fresh' (kept_answers 8) end
