-- Each promise of the C face allows one number, one answer and one set of tables; and a refusal changes nothing but the answer.
use Prim.Native.Nat.{ℕ}
use Rattle.record.specs.declared.Record.{Record}
use Rattle.rules.proofs.Order.{through_says, refusal_keeps}
use Rattle.rules.specs.Papers.{Outcome, says}
use Rattle.schedule.specs.State.{State}
use Rattle.slots.specs.Pools.{Pool}
use Rattle.face.specs.Face.{Answers}
use Rattle.face.specs.RecordFace.{RecordFaces}
use Rattle.face.specs.ScheduleFace.{ScheduleFaces}
use Rattle.face.specs.StoreFace.{BufferFaces, StoreFaces}
use Rattle.face.specs.TickFace.{TickFaces}
use Rattle.tick.specs.Tick.{Logged}
use mathlib.Core.List.{List}
use mathlib.Core.Path.{◌∙◌, ◌≡◌, ap, sym}

pub one_answer : {A : Type 0} {o : Outcome A} {an x y : List ℕ} {n m : ℕ} → Answers o an n x → Answers o an m y → (n ≡ m) × (x ≡ y)
one_answer p q = (p.number ∙ sym q.number, p.words ∙ sym q.words)

-- a number above 0 is a refusal's
refuses : {A : Type 0} {o : Outcome A} {an x : List ℕ} {n : ℕ} → Answers o an n x → (n ≡ 0 → ⊥) → (says o).number ≡ 0 → ⊥
refuses p h e = h (p.number ∙ e)

module _ {sw st le an : List ℕ} {o : Outcome (List Pool)} where
  pub one_store : {s s' l l' x y : List ℕ} {n m : ℕ} → StoreFaces sw o st le an n s l x → StoreFaces sw o st le an m s' l' y
      → ((n ≡ m) × (x ≡ y)) × (s ≡ s') × (l ≡ l')
  one_store p q = (one_answer p.answer q.answer, p.store ∙ sym q.store, p.lens ∙ sym q.lens)

  pub refused_store_keeps : {s l x : List ℕ} {n : ℕ} → StoreFaces sw o st le an n s l x → (n ≡ 0 → ⊥) → (s ≡ st) × (l ≡ le)
  refused_store_keeps p h =
      let u = refuses p.answer h in
      (p.store ∙ refusal_keeps o st _ u, p.lens ∙ refusal_keeps o le _ u)

module _ {buf an : List ℕ} {o : Outcome (List ℕ)} where
  pub one_buffer : {b b' x y : List ℕ} {n m : ℕ} → BufferFaces o buf an n b x → BufferFaces o buf an m b' y
      → ((n ≡ m) × (x ≡ y)) × (b ≡ b')
  one_buffer p q = (one_answer p.answer q.answer, p.buffer ∙ sym q.buffer)

  pub refused_read_keeps : {b x : List ℕ} {n : ℕ} → BufferFaces o buf an n b x → (n ≡ 0 → ⊥) → b ≡ buf
  refused_read_keeps p h = p.buffer ∙ refusal_keeps o buf _ (refuses p.answer h)

module _ {f : Record → List ℕ} {ws an : List ℕ} {o : Outcome Record} where
  pub one_record : {r r' x y : List ℕ} {n m : ℕ} → RecordFaces o f ws an n r x → RecordFaces o f ws an m r' y
      → ((n ≡ m) × (x ≡ y)) × (r ≡ r')
  one_record p q = (one_answer p.answer q.answer, p.words ∙ sym q.words)

  pub refused_record_keeps : {r x : List ℕ} {n : ℕ} → RecordFaces o f ws an n r x → (n ≡ 0 → ⊥) → r ≡ ws
  refused_record_keeps p h = p.words ∙ refusal_keeps o ws _ (refuses p.answer h)

module _ {sw : List ℕ} {k : ℕ} {o : Outcome State} {f : State → List ℕ} {ws st le ro an : List ℕ} where
  pub one_schedule : {r r' s s' l l' t t' x y : List ℕ} {n m : ℕ} → ScheduleFaces sw k o f ws st le ro an n r s l t x
      → ScheduleFaces sw k o f ws st le ro an m r' s' l' t' y → ((n ≡ m) × (x ≡ y)) × (r ≡ r') × (s ≡ s') × (l ≡ l') × (t ≡ t')
  one_schedule p q = (
    one_answer p.answer q.answer,
    p.words ∙ sym q.words,
    p.store ∙ sym q.store,
    p.lens ∙ sym q.lens,
    p.rows ∙ sym q.rows,
  )

  -- a number above 0 leaves record, store, lengths and rows as they were
  pub refusal_keeps_all : {r s l t x : List ℕ} {n : ℕ} → ScheduleFaces sw k o f ws st le ro an n r s l t x → (n ≡ 0 → ⊥)
      → (r ≡ ws) × (s ≡ st) × (l ≡ le) × (t ≡ ro)
  refusal_keeps_all p h =
      let u = refuses p.answer h in
      (p.words ∙ refusal_keeps o ws _ u, p.store ∙ refusal_keeps o st _ u, p.lens ∙ refusal_keeps o le _ u, p.rows ∙ refusal_keeps o ro _ u)

-- the tick: its number, answer and tables as any scheduler's call, and its log
module _ {sw : List ℕ} {k : ℕ} {o : Outcome Logged} {f : State → List ℕ} {ws st le ro lo an : List ℕ} where
  pub one_tick : {r r' s s' l l' t t' g g' x y : List ℕ} {n m : ℕ} → TickFaces sw k o f ws st le ro lo an n r s l t g x
      → TickFaces sw k o f ws st le ro lo an m r' s' l' t' g' y
      → (((n ≡ m) × (x ≡ y)) × (r ≡ r') × (s ≡ s') × (l ≡ l') × (t ≡ t')) × (g ≡ g')
  one_tick p q = (one_schedule p.tables q.tables, p.log ∙ sym q.log)

  pub refused_tick_keeps_all : {r s l t g x : List ℕ} {n : ℕ} → TickFaces sw k o f ws st le ro lo an n r s l t g x → (n ≡ 0 → ⊥)
      → ((r ≡ ws) × (s ≡ st) × (l ≡ le) × (t ≡ ro)) × (g ≡ lo)
  refused_tick_keeps_all p h =
      let u : (says o).number ≡ 0 → ⊥ = λ e. h (p.tables.answer.number ∙ ap (λ v. v.number) (through_says _ o) ∙ e) in
      (refusal_keeps_all p.tables h, p.log ∙ refusal_keeps o lo _ u)
