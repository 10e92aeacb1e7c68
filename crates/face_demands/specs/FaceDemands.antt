-- The demands over calls of the C face: every call returns 0 or a number of the table and a refusal changes nothing, the promises allow exactly
-- one result, a sequence of calls answers as the definitions say and is never damaged, and room never changes an answer.
use Rattle.std.specs.Prelude.{◌<◌, ◌≤◌, ℕ, eqb, drop, length, take, Bool, true, List, [], ◌∷◌, ◌≡◌}
use Rattle.demands.specs.Calling.{Runs, lent_to}
use Rattle.demands.specs.Following.{stands}
use Rattle.face.specs.Face.{roomy}
use Rattle.face.specs.RecordFace.{long_enough}
use Rattle.face_demands.specs.FaceCalling.{Asked, FaceAnswer, FaceBegins, FaceCall, FaceLent, FacePromised, FaceRequest, FaceRuns}
use Rattle.face_demands.specs.FaceStanding.{all_told, asks, call_of, part_at, requests_of, stands_for}
use Rattle.face_reading.specs.Reading.{setup_from, well_counted}
use Rattle.face_words.specs.Padding.{answer_words}
use Rattle.room.specs.Room.{EveryNamed, Roomier, Spills, strike}
use Rattle.rules.specs.Papers.{no}
use Rattle.rules.specs.Tests.{unless}
use Rattle.schedule.specs.Judge.{buffers_ok, setup_ok}
use Rattle.scheduler.specs.Fits.{AllOfBytes}
use Rattle.scheduler.specs.Steps.{Answer, run}
use Rattle.starting.specs.Starting.{fresh_state}
use Rattle.time.specs.Time.{in_range, margin_in_range}
use Rattle.time.specs.declared.Margin.{Margin}
use Rattle.time.specs.declared.UnixTime.{UnixTime}
use Rattle.std.proofs.Math.Option.{Option, none, some}

-- Demand 1, for every function of the header and anything lent, as long as it must be or not, sound or not: 0, or one of refusals 1 to 20; and
-- a number other than 0 leaves all that is lent, but the answer, as it was. Of the answer, words behind the 8th are as they were; where it has
-- fewer than 8, the number is 2 and no word of it is written
pub record FaceAnswered (an lent : List ℕ) (x : FaceAnswer) (t u : FaceLent) : Type 0 where
  pub in_table : x.number ≤ 20
  pub kept : (x.number ≡ 0 → ⊥) → (u ≡ t) × (x.buffer ≡ lent)
  pub behind : drop answer_words x.words ≡ drop answer_words an
  pub short : length an < answer_words → (x.number ≡ 2) × (x.words ≡ an)

unfoldable pub EveryFaceCallAnswers : Type 0
EveryFaceCallAnswers =
    (sw an : List ℕ) (c : FaceCall) (t : FaceLent) (x : FaceAnswer) (u : FaceLent) → FacePromised sw an c t x u →
    FaceAnswered an (lent_to (call_of c)) x t u

-- The promises can be kept, whatever is lent: each call has a result that its promise allows, and any calls one after another have a run
pub record FaceResult (sw an : List ℕ) (c : FaceCall) (t : FaceLent) : Type 0 where
  pub answer : FaceAnswer
  pub left : FaceLent
  pub call : FacePromised sw an c t answer left

unfoldable pub SomeFaceOutcome : Type 0
SomeFaceOutcome = (sw an : List ℕ) (c : FaceCall) (t : FaceLent) → FaceResult sw an c t

pub record FaceRunsTo (sw : List ℕ) (qs : List Asked) (t : FaceLent) : Type 0 where
  pub answers : List FaceAnswer
  pub end : FaceLent
  pub runs : FaceRuns sw qs t answers end

unfoldable pub FaceRunsExist : Type 0
FaceRunsExist = (sw : List ℕ) (qs : List Asked) (t : FaceLent) → FaceRunsTo sw qs t

-- and a fresh start with as many words as it must have, a fine setup, tables of its size, a clock and a margin in range returns 0
pub record FaceBeginsWith (sw : List ℕ) (clock : UnixTime) (margin : Margin) (t : FaceLent) : Type 0 where
  pub fresh : FaceLent
  pub begins : FaceBegins sw clock margin t fresh

unfoldable pub FaceStartsExist : Type 0
FaceStartsExist =
    (sw : List ℕ) (clock : UnixTime) (margin : Margin) (t : FaceLent) →
    well_counted sw ≡ true →
    long_enough t.rec ≡ true →
    setup_ok (setup_from sw) ≡ true →
    buffers_ok (setup_from sw) (length t.store) (length t.lens) (length t.rows) ≡ true →
    in_range clock ≡ true →
    margin_in_range margin ≡ true →
    FaceBeginsWith sw clock margin t

-- The promises determine the number, the answer's words, the buffer and all that is lent afterwards: of one call, and of any number of calls
unfoldable pub OneFaceOutcome : Type 0
OneFaceOutcome =
    (sw an : List ℕ) (c : FaceCall) (t : FaceLent) (x y : FaceAnswer) (u v : FaceLent) → FacePromised sw an c t x u → FacePromised sw an c t y v →
    (x ≡ y) × (u ≡ v)

unfoldable pub FaceRunsAgree : Type 0
FaceRunsAgree =
    (sw : List ℕ) (qs : List Asked) (t : FaceLent) (xs ys : List FaceAnswer) (u v : FaceLent) → FaceRuns sw qs t xs u → FaceRuns sw qs t ys v →
    (xs ≡ ys) × (u ≡ v)

-- What the calls do is what their requests do over what the words stand for. Each is lent an answer of 8 words at least: with fewer it is
-- answered 2 and changes nothing
abbrev pub AllRoomy : List Asked → Type 0
AllRoomy [] = Unit {0}
AllRoomy (q ∷ qs) = (roomy q.answer ≡ true) × AllRoomy qs

pub record FaceRunsStand (sw : List ℕ) (qs : List Asked) (t : FaceLent) (xs : List FaceAnswer) (u : FaceLent) : Type 0 where
  pub answers : List Answer
  pub told : xs ≡ all_told sw qs answers
  pub runs : Runs (setup_from sw) (requests_of qs) (stands_for t) answers (stands_for u)

unfoldable pub WordsStand : Type 0
WordsStand =
    (sw : List ℕ) (qs : List Asked) (t : FaceLent) (xs : List FaceAnswer) (u : FaceLent) →
    well_counted sw ≡ true →
    long_enough t.rec ≡ true →
    AllRoomy qs →
    FaceRuns sw qs t xs u →
    FaceRunsStand sw qs t xs u

-- Demand 2 over sequences, after a fresh start that returned 0: numbers, words and buffers are those that tell the definitions' answers, and
-- what is lent stands in the end for the state that the definitions leave. A wrapped packet is one of bytes, as every lent slice of bytes is by
-- its type
pub record FaceAsTheModel (sw : List ℕ) (clock : UnixTime) (margin : Margin) (qs : List Asked) (given : List FaceAnswer) (end : FaceLent)
    : Type 0 where
  pub answers : given ≡ all_told sw qs (run (setup_from sw) (requests_of qs) (fresh_state (setup_from sw) clock margin)).answers
  pub state : stands (setup_from sw) (stands_for end) ≡ (run (setup_from sw) (requests_of qs) (fresh_state (setup_from sw) clock margin)).state

unfoldable pub FaceSameAsTheModel : Type 0
FaceSameAsTheModel =
    (sw : List ℕ) (clock : UnixTime) (margin : Margin) (before fresh : FaceLent) (qs : List Asked) (given : List FaceAnswer) (end : FaceLent) →
    FaceBegins sw clock margin before fresh →
    AllRoomy qs →
    AllOfBytes (requests_of qs) →
    FaceRuns sw qs fresh given end →
    FaceAsTheModel sw clock margin qs given end

-- none of the numbers is 1, BadSetup, 2, BadBuffers, or 3, StateDamaged
abbrev pub NoneBad : List FaceAnswer → Type 0
NoneBad [] = Unit {0}
NoneBad (x ∷ xs) = ((x.number ≡ 1 → ⊥) × (x.number ≡ 2 → ⊥) × (x.number ≡ 3 → ⊥)) × NoneBad xs

unfoldable pub FaceNeverDamaged : Type 0
FaceNeverDamaged =
    (sw : List ℕ) (clock : UnixTime) (margin : Margin) (before fresh : FaceLent) (qs : List Asked) (given : List FaceAnswer) (end : FaceLent) →
    FaceBegins sw clock margin before fresh →
    AllRoomy qs →
    AllOfBytes (requests_of qs) →
    FaceRuns sw qs fresh given end →
    NoneBad given

-- Demand 3: two setups' words, the second with at least the room of the first and alike in all else, each with a fresh start over its own
-- memory. The first is given any calls whose addresses name slots of it; the second can be given those whose number was neither 12 nor 14, each
-- with an answer of 8 words at least, its own or the same, and it answers them as the first did: number, the 8 words and buffer. But of `part`
-- that returned 0 the first word, the offset, is a place in the caller's own store, and is not compared
abbrev pub as_answers : List FaceAnswer → List Answer
as_answers [] = []
as_answers (x ∷ xs) = record { paper = no x.number x.words; buffer = x.buffer } ∷ as_answers xs

abbrev pub behind_offset : Option ℕ → List ℕ → List ℕ
behind_offset none ws = ws
behind_offset (some a) ws = drop 1 ws

abbrev pub compared : FaceRequest → FaceAnswer → List ℕ
compared q x = unless (eqb x.number 0) (take answer_words x.words) (behind_offset (part_at q) (take answer_words x.words))

pub record FaceAlike (q : FaceRequest) (x y : FaceAnswer) : Type 0 where
  pub number : y.number ≡ x.number
  pub words : compared q y ≡ compared q x
  pub buffer : y.buffer ≡ x.buffer

abbrev pub AllAlike : List FaceRequest → List FaceAnswer → List FaceAnswer → Type 0
AllAlike [] [] [] = Unit {0}
AllAlike [] [] (y ∷ ys) = ⊥
AllAlike [] (x ∷ xs) ys = ⊥
AllAlike (q ∷ qs) [] ys = ⊥
AllAlike (q ∷ qs) (x ∷ xs) [] = ⊥
AllAlike (q ∷ qs) (x ∷ xs) (y ∷ ys) = FaceAlike q x y × AllAlike qs xs ys

pub record FaceAnswersAlike (sw : List ℕ) (rs : List FaceRequest) (t : FaceLent) (xs : List FaceAnswer) : Type 0 where
  pub some_run : (qs : List Asked) → asks qs ≡ rs → FaceRunsTo sw qs t
  pub always : (qs : List Asked) (ys : List FaceAnswer) (u : FaceLent) → asks qs ≡ rs → AllRoomy qs → FaceRuns sw qs t ys u →
      AllAlike rs xs ys

unfoldable pub FaceRoomChangesNoAnswer : Bool → Bool → Type 0
FaceRoomChangesNoAnswer smaller larger =
    (sw lw : List ℕ) (clock : UnixTime) (margin : Margin) (qs : List Asked) (before fresh end before' fresh' : FaceLent)
    (given : List FaceAnswer) →
    Roomier (setup_from sw) (setup_from lw) →
    Spills smaller larger (setup_from sw) (setup_from lw) →
    EveryNamed (setup_from sw) (requests_of qs) →
    AllRoomy qs →
    AllOfBytes (requests_of qs) →
    FaceBegins sw clock margin before fresh →
    FaceRuns sw qs fresh given end →
    FaceBegins lw clock margin before' fresh' →
    FaceAnswersAlike lw (strike (as_answers given) (asks qs)) fresh' (strike (as_answers given) given)
