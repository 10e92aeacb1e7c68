-- The promises determine answer, record and every lent byte, of one call and of any number of calls, for anything lent.
use Prim.Native.Nat.{ℕ}
use Rattle.demands.proofs.Parts.{same_answer, same_lent}
use Rattle.demands.specs.Calling.{Calls, ScheduleChanges, Lent, ScheduleLooks, RecordChanges, Promised, ReadsInto, Runs, StartsOver, StoreChanges, StoreLooks, TicksOver, fresh_start, request}
use Rattle.demands.specs.Demands.{OneOutcome, RunsAgree}
use Rattle.record.specs.declared.Record.{Record}
use Rattle.rules.specs.Papers.{Outcome}
use Rattle.schedule.specs.State.{State}
use Rattle.schedule.specs.declared.Setup.{Setup}
use Rattle.scheduler.proofs.OneOutcome.{one_outcome}
use Rattle.scheduler.proofs.Releasing.{one_tick}
use Rattle.scheduler.specs.Steps.{Answer, Request, add, count, delete, delete_by_id, delete_keeping, delete_window, disable, enable, has_element_at, insert_stored, insert_unwrapped, insert_wrapped, len_of_data, modify, read, reset, retrieve, set_clock, tick}
use Rattle.slots.specs.Pools.{Pool}
use Rattle.time.specs.declared.Margin.{Margin}
use Rattle.time.specs.declared.UnixTime.{UnixTime}
use mathlib.Core.Bool.{Bool}
use mathlib.Core.List.{List, [], ◌∷◌}
use mathlib.Core.Path.{◌∙◌, ◌≡◌, ap₂, refl, subst, sym}

module _ (su : Setup) (t : Lent) (x y : Answer) (u v : Lent) where
  starts : (clock : UnixTime) (margin : Margin) → StartsOver su t x u clock margin → StartsOver su t y v clock margin → (x ≡ y) × (u ≡ v)
  starts clock margin c d =
      let o = one_outcome su _ _ _ _ _ _ _ _ _ _ _ _ _ _ _ c.tables d.tables in
      (same_answer x y o.0 (c.buffer ∙ sym d.buffer), same_lent v u o.1)

  changes : (call : State → Outcome State) → ScheduleChanges su t x u call → ScheduleChanges su t y v call → (x ≡ y) × (u ≡ v)
  changes call c d =
      let o =
      one_outcome su t.rec t.store t.lens t.rows x.paper y.paper u.rec v.rec u.store u.lens u.rows v.store
      v.lens v.rows _ c.tables d.tables in
      (same_answer x y o.0 (c.buffer ∙ sym d.buffer), same_lent v u o.1)

  ticks : (limit : ℕ) (del : Bool) (log : List ℕ) → TicksOver su t x u limit del log → TicksOver su t y v limit del log → (x ≡ y) × (u ≡ v)
  ticks limit del log c d =
      let o =
      one_tick su t.rec t.store t.lens t.rows log limit del x.paper u.rec u.store u.lens u.rows x.buffer c.tables
      y.paper v.rec v.store v.lens v.rows y.buffer d.tables in
      (same_answer x y o.0 o.2, same_lent v u o.1)

  looks : (call : State → Outcome (Unit {0})) → ScheduleLooks su t x u call → ScheduleLooks su t y v call → (x ≡ y) × (u ≡ v)
  looks call c d = (same_answer x y (c.answer ∙ sym d.answer) (c.buffer ∙ sym d.buffer), c.lent ∙ sym d.lent)

  marks : (call : Record → Outcome Record) → RecordChanges su t x u call → RecordChanges su t y v call → (x ≡ y) × (u ≡ v)
  marks call c d = (same_answer x y (c.answer ∙ sym d.answer) (c.buffer ∙ sym d.buffer), c.lent ∙ sym d.lent)

  store_changes : (call : List Pool → Outcome (List Pool)) → StoreChanges su t x u call → StoreChanges su t y v call → (x ≡ y) × (u ≡ v)
  store_changes call c d = (
    same_answer x y (c.tables.answer ∙ sym d.tables.answer) (c.buffer ∙ sym d.buffer),
    same_lent v u
        (record {
          record_is = c.rec ∙ sym d.rec;
          store_is = c.tables.store ∙ sym d.tables.store;
          lens_is = c.tables.lens ∙ sym d.tables.lens;
          rows_is = c.rows ∙ sym d.rows;
        }),
  )

  store_looks : (call : List Pool → Outcome (Unit {0})) → StoreLooks su t x u call → StoreLooks su t y v call → (x ≡ y) × (u ≡ v)
  store_looks call c d = (same_answer x y (c.answer ∙ sym d.answer) (c.buffer ∙ sym d.buffer), c.lent ∙ sym d.lent)

  reads : (a : ℕ) (buf : List ℕ) → ReadsInto su t x u a buf → ReadsInto su t y v a buf → (x ≡ y) × (u ≡ v)
  reads a buf c d =
      (same_answer x y (c.read.answer ∙ sym d.read.answer) (c.read.buffer ∙ sym d.read.buffer), c.lent ∙ sym d.lent)

  agree : (q : Request) → Calls su q t x u → Calls su q t y v → (x ≡ y) × (u ≡ v)
  unfolding Calls
  agree (add d) c e = store_changes _ c e
  agree (read a buf) c e = reads a buf c e
  agree (modify a ys) c e = store_changes _ c e
  agree (delete a) c e = store_changes _ c e
  agree (has_element_at a) c e = store_looks _ c e
  agree (len_of_data a) c e = store_looks _ c e
  agree (set_clock k) c e = marks _ c e
  agree enable c e = marks _ c e
  agree disable c e = marks _ c e
  agree count c e = looks _ c e
  agree (insert_wrapped p) c e = changes _ c e
  agree (insert_unwrapped k p) c e = changes _ c e
  agree (insert_stored k id a) c e = changes _ c e
  agree (retrieve w) c e = looks _ c e
  agree (delete_window w) c e = changes _ c e
  agree reset c e = changes _ c e
  agree (delete_keeping id) c e = changes _ c e
  agree (delete_by_id id) c e = changes _ c e
  agree (tick limit del log) c e = ticks limit del log c e

pub one_outcome_each : OneOutcome
unfolding OneOutcome Promised
one_outcome_each su (fresh_start clock margin) t x y u v c d = starts su t x y u v clock margin c d
one_outcome_each su (request q) t x y u v c d = agree su t x y u v q c d

all_agree : (su : Setup) (qs : List Request) (t : Lent) (xs ys : List Answer) (u v : Lent) → Runs su qs t xs u → Runs su qs t ys v
    → (xs ≡ ys) × (u ≡ v)
unfolding Runs
all_agree su [] t [] [] u v r s = (refl, r ∙ sym s)
all_agree su [] t [] (y ∷ ys) u v r s = absurd s
all_agree su [] t (x ∷ xs) ys u v r s = absurd r
all_agree su (q ∷ qs) t [] ys u v r s = absurd r
all_agree su (q ∷ qs) t (x ∷ xs) [] u v r s = absurd s
all_agree su (q ∷ qs) t (x ∷ xs) (y ∷ ys) u v r s =
    let e = agree su t x y r.left s.left q r.call s.call in
    let h = all_agree su qs s.left xs ys u v (subst (λ (w : Lent). Runs su qs w xs u) e.1 r.others) s.others in
    (ap₂ ◌∷◌ e.0 h.0, h.1)

pub runs_agree : RunsAgree
unfolding RunsAgree
runs_agree su qs t xs ys u v r s = all_agree su qs t xs ys u v r s
