-- Calls of the C face one after another from a fresh start: they answer as the definitions say, none is damaged, and room changes no answer.
use Prim.Native.Nat.{◌≤◌, ℕ}
use Rattle.demands.proofs.Sequences.{never_damaged, room_changes_no_answer, same_as_the_model}
use Rattle.demands.specs.Calling.{Begins, Promised, Runs}
use Rattle.demands.specs.Demands.{NeverDamaged, NoneDamaged, RoomChangesNoAnswer, SameAsTheModel}
use Rattle.face.specs.Face.{roomy}
use Rattle.face.specs.RecordFace.{long_enough}
use Rattle.face.specs.ScheduleFace.{all_written}
use Rattle.face_demands.proofs.FaceFollowing.{left_long, words_stand}
use Rattle.face_demands.proofs.FaceKeepable.{face_runs_exist}
use Rattle.face_demands.proofs.FaceKeeping.{padded_long}
use Rattle.face_demands.specs.FaceCalling.{Asked, FaceAnswer, FaceBegins, FaceLent, FacePromised, FaceRequest, of_start}
use Rattle.face_demands.specs.FaceDemands.{AllAlike, FaceAlike, FaceAnswersAlike, FaceNeverDamaged, FaceRoomChangesNoAnswer, FaceRunsExist, FaceSameAsTheModel, NoneBad, WordsStand, as_answers, behind_offset}
use Rattle.face_demands.specs.FaceStanding.{ahead, all_told, asks, made, part_at, request_of, requests_of, stands_for, told_of, values_of}
use Rattle.face_laws.proofs.FaceCalls.{start_face}
use Rattle.face_laws.proofs.Kept.{and_first}
use Rattle.face_laws.proofs.Wording.{uncounted_refused}
use Rattle.face_laws.specs.Standing.{Counted}
use Rattle.face_reading.specs.Reading.{record_words, setup_from, store_setup, well_counted}
use Rattle.face_words.specs.Padding.{answer_words, padded}
use Rattle.layout.specs.declared.Setup.{Setup as StoreSetup}
use Rattle.room.specs.Room.{strike, struck}
use Rattle.rules.specs.Papers.{Outcome, no, refused, says}
use Rattle.rules.specs.Tests.{unless}
use Rattle.schedule.specs.State.{State}
use Rattle.scheduler.specs.Steps.{Answer, Request}
use Rattle.tied.specs.Lending.{told}
use Rattle.time.specs.declared.Margin.{Margin}
use Rattle.time.specs.declared.UnixTime.{UnixTime}
use borrow.Author.Tests.{le-leb}
use lib.Dec.{eqb}
use lib.ListN.{drop, length, take}
use lib.Seq.{take-append_seam}
use mathlib.Core.Bool.{Bool, ◌&&◌, cond, false, true}
use mathlib.Core.List.{List, [], ◌++◌, ◌∷◌}
use mathlib.Core.Logic.{◌⊎◌, inl, inr}
use mathlib.Core.Option.{Option, none, some}
use mathlib.Core.Path.{◌∙◌, ◌≡◌, ap, refl, subst, sym}
use native.Mathlib.Omega.{arith}

-- a fresh start that returned 0: the words were as many as they must be, and over what they stand for it is one too
and_second : (a b : Bool) → (a && b) ≡ true → b ≡ true
and_second true b e = e
and_second false b e = let z : ◌≡◌ {A = ℕ} 0 1 = cc in absurd (omega arith)

refused_above : (o : Outcome State) (n k : ℕ) → o ≡ refused (no k []) → n ≡ (says o).number → n ≡ 0 → 1 ≤ k → ⊥
unfolding says
refused_above o n k e f z l = let h : n ≡ k = rw e at f in omega arith

module _ (sw : List ℕ) (clock : UnixTime) (margin : Margin) (t u : FaceLent) (b : FaceBegins sw clock margin t u) where
  begun_counted : Counted b.lent sw t.rec
  unfolding FacePromised
  begun_counted = go (roomy b.lent && (well_counted sw && long_enough t.rec)) refl
    where
      go : (v : Bool) → (roomy b.lent && (well_counted sw && long_enough t.rec)) ≡ v → Counted b.lent sw t.rec
      go true e =
          let f = and_second (roomy b.lent) (well_counted sw && long_enough t.rec) e in
          record {
            answer = and_first (roomy b.lent) (well_counted sw && long_enough t.rec) e;
            setup = and_first (well_counted sw) (long_enough t.rec) f;
            rec = and_second (well_counted sw) (long_enough t.rec) f;
          }
      go false e = absurd (either (uncounted_refused b.lent sw t.rec _ e))
        where
          o : Outcome State
          o = of_start sw b.lent t clock margin

          either : (o ≡ refused (no 1 [])) ⊎ (o ≡ refused (no 2 [])) → ⊥
          either (inl h) = refused_above o b.answer.number 1 h b.starts.tables.answer.number b.not_refused (omega arith)
          either (inr h) = refused_above o b.answer.number 2 h b.starts.tables.answer.number b.not_refused (omega arith)

  all_long : (s : State) → long_enough (all_written t.rec s) ≡ true
  all_long s = le-leb record_words (length (all_written t.rec s)) (omega arith)

  begun_long : long_enough u.rec ≡ true
  unfolding FacePromised
  begun_long =
      rw b.starts.tables.words
      (left_long (of_start sw b.lent t clock margin) t.rec (all_written t.rec) all_long begun_counted.rec)

  begun : Begins (setup_from sw) clock margin (stands_for t) (stands_for u)
  unfolding FacePromised Promised
  begun =
      let k =
      start_face b.lent sw t.rec t.store t.lens t.rows begun_counted b.answer.number b.answer.words u.rec u.store
      u.lens u.rows clock margin b.starts.tables in
      record { answer = told k.paper []; starts = k.promised; not_refused = sym k.number ∙ b.not_refused }

pub face_same_as_the_model : FaceSameAsTheModel
unfolding FaceSameAsTheModel SameAsTheModel WordsStand
face_same_as_the_model sw clock margin before fresh qs given end b a o r =
    let w = words_stand sw qs fresh given end (begun_counted sw clock margin before fresh b).setup (begun_long sw clock margin before fresh b) a r in
    let m =
    same_as_the_model (setup_from sw) clock margin (stands_for before) (stands_for fresh) (requests_of qs) w.answers (stands_for end)
    (begun sw clock margin before fresh b) o w.runs in
    record { answers = w.told ∙ ap (all_told sw qs) m.answers; state = m.state }

told_undamaged : (sw : List ℕ) (qs : List Asked) (xs : List Answer) → NoneDamaged xs → NoneBad (all_told sw qs xs)
told_undamaged sw [] xs n = tt
told_undamaged sw (q ∷ qs) [] n = tt
told_undamaged sw (q ∷ qs) (x ∷ xs) n = (n.0, told_undamaged sw qs xs n.1)

pub face_never_damaged : FaceNeverDamaged
unfolding FaceNeverDamaged NeverDamaged WordsStand
face_never_damaged sw clock margin before fresh qs given end b a o r =
    let w = words_stand sw qs fresh given end (begun_counted sw clock margin before fresh b).setup (begun_long sw clock margin before fresh b) a r in
    let n =
    never_damaged (setup_from sw) clock margin (stands_for before) (stands_for fresh) (requests_of qs) w.answers (stands_for end)
    (begun sw clock margin before fresh b) o w.runs in
    subst NoneBad (sym w.told) (told_undamaged sw qs w.answers n)

-- what is struck of calls, and of their numbers, words and buffers
padded_front : (vs ws : List ℕ) → take answer_words (padded vs ++ ws) ≡ padded vs
padded_front vs ws = subst (λ n. take n (padded vs ++ ws) ≡ padded vs) (padded_long vs) (take-append_seam (padded vs) ws)

none_asked : {A : Type 0} (r : FaceRequest) (rs : List FaceRequest) → [] ≡ r ∷ rs → A
none_asked r rs e = let z : ◌≡◌ {A = ℕ} 0 1 = cc in absurd (omega arith)

no_more : (p : Asked) (ps : List Asked) {A : Type 0} → asks (p ∷ ps) ≡ [] → A
no_more p ps e = let z : ◌≡◌ {A = ℕ} 0 1 = cc in absurd (omega arith)

first_asked : (p r : FaceRequest) (ps rs : List FaceRequest) → p ∷ ps ≡ r ∷ rs → (p ≡ r) × (ps ≡ rs)
first_asked p r ps rs e = (cc, cc)

module _ (sw : List ℕ) where
  abbrev numbers : List Asked → List Answer → List Answer
  numbers qs xs = as_answers (all_told sw qs xs)

  requests_one : (b : Bool) (q : FaceRequest) (qs : List FaceRequest) (rs : List Request) → made qs ≡ rs
      → made (cond b qs (q ∷ qs)) ≡ cond b rs (request_of q ∷ rs)
  requests_one true q qs rs e = e
  requests_one false q qs rs e = ap (λ (ss : List Request). request_of q ∷ ss) e

  struck_requests : (qs : List Asked) (xs : List Answer) → made (strike (numbers qs xs) (asks qs)) ≡ strike xs (requests_of qs)
  unfolding strike struck
  struck_requests [] [] = refl
  struck_requests [] (x ∷ xs) = refl
  struck_requests (q ∷ qs) [] = refl
  struck_requests (q ∷ qs) (x ∷ xs) =
      requests_one (struck x.paper) q.request (strike (numbers qs xs) (asks qs)) (strike xs (requests_of qs)) (struck_requests qs xs)

  module _ (lw : List ℕ) where
    abbrev words : List ℕ → StoreSetup → Bool → Option ℕ → List ℕ
    words vs su b m = padded (unless b vs (ahead su m vs))

    -- the offset is the one word that tells the setups apart
    words_alike : (vs : List ℕ) (b : Bool) (m : Option ℕ)
        → unless b (words vs (store_setup lw) b m) (behind_offset m (words vs (store_setup lw) b m))
        ≡ unless b (words vs (store_setup sw) b m) (behind_offset m (words vs (store_setup sw) b m))
    unfolding unless ahead padded
    words_alike vs true none = refl
    words_alike vs true (some a) = refl
    words_alike vs false m = refl

    told_alike : (q p : Asked) (x : Answer) → p.request ≡ q.request → FaceAlike q.request (told_of sw q x) (told_of lw p x)
    told_alike q p x e =
        record {
          number = refl;
          words =
              rw (
                e,
                padded_front (values_of (store_setup lw) q.request x.paper) (drop answer_words p.answer),
                padded_front (values_of (store_setup sw) q.request x.paper) (drop answer_words q.answer),
              )
              (words_alike x.paper.values (eqb x.paper.number 0) (part_at q.request));
          buffer = refl;
        }

    alike_one : (b : Bool) (q : Asked) (x : Answer) (rs : List FaceRequest) (given : List FaceAnswer) (ys : List Answer)
        → ((ps : List Asked) → asks ps ≡ rs → AllAlike rs given (all_told lw ps ys)) → (ps : List Asked)
        → asks ps ≡ cond b rs (q.request ∷ rs)
        → AllAlike (cond b rs (q.request ∷ rs)) (cond b given (told_of sw q x ∷ given)) (all_told lw ps (cond b ys (x ∷ ys)))
    alike_one true q x rs given ys h ps e = h ps e
    alike_one false q x rs given ys h [] e = none_asked q.request rs e
    alike_one false q x rs given ys h (p ∷ ps) e =
        let f = first_asked p.request q.request (asks ps) rs e in (told_alike q p x f.0, h ps f.1)

    struck_alike : (qs : List Asked) (xs : List Answer) (ps : List Asked) → asks ps ≡ strike (numbers qs xs) (asks qs)
        → AllAlike (strike (numbers qs xs) (asks qs)) (strike (numbers qs xs) (all_told sw qs xs)) (all_told lw ps (strike xs xs))
    unfolding strike struck
    struck_alike [] [] [] e = tt
    struck_alike [] [] (p ∷ ps) e = no_more p ps e
    struck_alike [] (x ∷ xs) [] e = tt
    struck_alike [] (x ∷ xs) (p ∷ ps) e = no_more p ps e
    struck_alike (q ∷ qs) [] [] e = tt
    struck_alike (q ∷ qs) [] (p ∷ ps) e = no_more p ps e
    struck_alike (q ∷ qs) (x ∷ xs) ps e =
        alike_one (struck x.paper) q x (strike (numbers qs xs) (asks qs)) (strike (numbers qs xs) (all_told sw qs xs)) (strike xs xs)
        (λ ps e. struck_alike qs xs ps e) ps e

pub face_room_changes_no_answer : (larger : Bool) → FaceRoomChangesNoAnswer false larger
unfolding FaceRoomChangesNoAnswer RoomChangesNoAnswer FaceRunsExist WordsStand
face_room_changes_no_answer larger sw lw clock margin qs before fresh end before' fresh' given m off named a o b r b' =
    let w = words_stand sw qs fresh given end (begun_counted sw clock margin before fresh b).setup (begun_long sw clock margin before fresh b) a r in
    let xs : List Answer = w.answers in
    let k =
    room_changes_no_answer larger (setup_from sw) (setup_from lw) clock margin (requests_of qs) (stands_for before) (stands_for fresh)
    (stands_for end) (stands_for before') (stands_for fresh') xs m off named o (begun sw clock margin before fresh b) w.runs
    (begun lw clock margin before' fresh' b') in
    subst (λ (g : List FaceAnswer). FaceAnswersAlike lw (strike (as_answers g) (asks qs)) fresh' (strike (as_answers g) g)) (sym w.told)
    (record {
      some_run = λ ps e. face_runs_exist lw ps fresh';
      always = λ ps ys u e c h.
          let v =
          words_stand lw ps fresh' ys u (begun_counted lw clock margin before' fresh' b').setup
          (begun_long lw clock margin before' fresh' b') c h in
          let f =
          k.always v.answers (stands_for u)
          (subst (λ (rs : List Request). Runs (setup_from lw) rs (stands_for fresh') v.answers (stands_for u))
          (ap made e ∙ struck_requests sw qs xs) v.runs) in
          subst (λ (g : List FaceAnswer). AllAlike (strike (numbers sw qs xs) (asks qs)) (strike (numbers sw qs xs) (all_told sw qs xs)) g)
          (sym (v.told ∙ ap (all_told lw ps) f)) (struck_alike sw lw qs xs ps e);
    })
