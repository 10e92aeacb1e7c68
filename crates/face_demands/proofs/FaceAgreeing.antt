-- The promises of the C face determine the number, the answer's words, the buffer and all that is lent, of one call and of any number of calls.
use Prim.Native.Nat.{ℕ}
use Rattle.face.proofs.Once.{one_answer, one_buffer, one_record, one_schedule, one_store, one_tick}
use Rattle.face_demands.proofs.FaceSame.{same_answer, same_lent}
use Rattle.face_demands.specs.FaceCalling.{Asked, FaceAnswer, FaceCalls, FaceLent, FaceLooks, FaceParts, FacePromised, FaceReads, FaceRecords, FaceRequest, FaceRuns, FaceSchedules, FaceStores, FaceTicks, caller_writes, count, delete_by_id, delete_by_id_keep, delete_window, disable, enable, fresh, insert_stored, insert_unwrapped, insert_wrapped, request, reset, set_clock, store_add, store_delete, store_has, store_len, store_modify, store_part, store_read, tick, window}
use Rattle.face_demands.specs.FaceDemands.{FaceRunsAgree, OneFaceOutcome}
use Rattle.record.specs.declared.Record.{Record}
use Rattle.rules.specs.Papers.{Outcome}
use Rattle.schedule.specs.State.{State}
use Rattle.slots.specs.Pools.{Pool}
use Rattle.tick.specs.Tick.{Logged}
use mathlib.Core.List.{List, [], ◌∷◌}
use mathlib.Core.Path.{◌∙◌, ◌≡◌, ap, ap₂, refl, subst, sym}

module _ (sw an : List ℕ) (t : FaceLent) (x y : FaceAnswer) (u v : FaceLent) where
  looks : {A : Type 0} (o : Outcome A) → FaceLooks sw an t x u o → FaceLooks sw an t y v o → (x ≡ y) × (u ≡ v)
  looks o c d = (same_answer x y (one_answer c.answer d.answer) (c.buffer ∙ sym d.buffer), c.lent ∙ sym d.lent)

  reads : (o : Outcome (List ℕ)) (buf : List ℕ) → FaceReads sw an t x u o buf → FaceReads sw an t y v o buf → (x ≡ y) × (u ≡ v)
  reads o buf c d = let e = one_buffer c.read d.read in (same_answer x y e.0 e.1, c.lent ∙ sym d.lent)

  -- what the caller writes is told by the answer
  parts : (o : Outcome (Unit {0})) (ys : List ℕ) → FaceParts sw an t x u o ys → FaceParts sw an t y v o ys → (x ≡ y) × (u ≡ v)
  parts o ys c d =
      let e = same_answer x y (one_answer c.answer d.answer) (c.buffer ∙ sym d.buffer) in (
        e,
        c.lent
            ∙ ap (λ (z : FaceAnswer). record { rec = t.rec; store = caller_writes z ys t.store; lens = t.lens; rows = t.rows }) e
            ∙ sym d.lent,
      )

  stores : (o : Outcome (List Pool)) → FaceStores sw an t x u o → FaceStores sw an t y v o → (x ≡ y) × (u ≡ v)
  stores o c d =
      let e = one_store c.tables d.tables in
      (same_answer x y e.0 (c.buffer ∙ sym d.buffer), same_lent v u (c.rec ∙ sym d.rec) e.1 e.2 (c.rows ∙ sym d.rows))

  records : (o : Outcome Record) (f : Record → List ℕ) → FaceRecords sw an t x u o f → FaceRecords sw an t y v o f → (x ≡ y) × (u ≡ v)
  records o f c d =
      let e = one_record c.words d.words in (
        same_answer x y e.0 (c.buffer ∙ sym d.buffer),
        same_lent v u e.1 (c.store ∙ sym d.store) (c.lens ∙ sym d.lens) (c.rows ∙ sym d.rows),
      )

  schedules : (k : ℕ) (o : Outcome State) (f : State → List ℕ) → FaceSchedules sw an t x u k o f → FaceSchedules sw an t y v k o f
      → (x ≡ y) × (u ≡ v)
  schedules k o f c d =
      let e = one_schedule c.tables d.tables in
      (same_answer x y e.0 (c.buffer ∙ sym d.buffer), same_lent v u e.1 e.2 e.3 e.4)

  ticks : (o : Outcome Logged) (f : State → List ℕ) (log : List ℕ) → FaceTicks sw an t x u o f log → FaceTicks sw an t y v o f log
      → (x ≡ y) × (u ≡ v)
  ticks o f log c d =
      let e = one_tick c.tables d.tables in
      (same_answer x y e.0.0 e.1, same_lent v u e.0.1 e.0.2 e.0.3 e.0.4)

  agree : (q : FaceRequest) → FaceCalls sw an q t x u → FaceCalls sw an q t y v → (x ≡ y) × (u ≡ v)
  unfolding FaceCalls
  agree (store_add d) c e = stores _ c e
  agree (store_read a buf) c e = reads _ buf c e
  agree (store_modify a) c e = looks _ c e
  agree (store_part a ys) c e = parts _ ys c e
  agree (store_delete a) c e = stores _ c e
  agree (store_has a) c e = looks _ c e
  agree (store_len a) c e = looks _ c e
  agree (set_clock k) c e = records _ _ c e
  agree enable c e = records _ _ c e
  agree disable c e = records _ _ c e
  agree count c e = looks _ c e
  agree (insert_wrapped p) c e = schedules _ _ _ c e
  agree (insert_unwrapped k p) c e = schedules _ _ _ c e
  agree (insert_stored k id a) c e = schedules _ _ _ c e
  agree (window f from g to) c e = looks _ c e
  agree (delete_window f from g to) c e = schedules _ _ _ c e
  agree reset c e = schedules _ _ _ c e
  agree (delete_by_id_keep id) c e = schedules _ _ _ c e
  agree (delete_by_id id) c e = schedules _ _ _ c e
  agree (tick log limit del) c e = ticks _ _ log c e

pub one_face_outcome : OneFaceOutcome
unfolding OneFaceOutcome FacePromised
one_face_outcome sw an (fresh clock margin) t x y u v c d = schedules sw an t x y u v _ _ _ c d
one_face_outcome sw an (request q) t x y u v c d = agree sw an t x y u v q c d

all_agree : (sw : List ℕ) (qs : List Asked) (t : FaceLent) (xs ys : List FaceAnswer) (u v : FaceLent) → FaceRuns sw qs t xs u
    → FaceRuns sw qs t ys v → (xs ≡ ys) × (u ≡ v)
unfolding FaceRuns
all_agree sw [] t [] [] u v r s = (refl, r ∙ sym s)
all_agree sw [] t [] (y ∷ ys) u v r s = absurd s
all_agree sw [] t (x ∷ xs) ys u v r s = absurd r
all_agree sw (q ∷ qs) t [] ys u v r s = absurd r
all_agree sw (q ∷ qs) t (x ∷ xs) [] u v r s = absurd s
all_agree sw (q ∷ qs) t (x ∷ xs) (y ∷ ys) u v r s =
    let e = agree sw q.answer t x y r.left s.left q.request r.call s.call in
    let h = all_agree sw qs s.left xs ys u v (subst (λ (w : FaceLent). FaceRuns sw qs w xs u) e.1 r.others) s.others in
    (ap₂ ◌∷◌ e.0 h.0, h.1)

pub face_runs_agree : FaceRunsAgree
unfolding FaceRunsAgree
face_runs_agree sw qs t xs ys u v r s = all_agree sw qs t xs ys u v r s
