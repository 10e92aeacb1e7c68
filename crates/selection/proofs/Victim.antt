-- What the victim is: it has the ID, no entry with the ID is earlier, and of those at its time it is the last.
use Prim.Native.Nat.{◌+◌, ◌-◌, ◌<◌, ◌≤◌, suc, zero, ℕ}
use Rattle.rows.proofs.Order.{InRange, ordered_at, ordered_pair}
use Rattle.std.specs.Prelude.{MatchOption}
use Rattle.std.proofs.Common.{Option, Some, None}
use Rattle.rows.specs.Entries.{Entry, entries, entry, nth, time}
use Rattle.rows.specs.Order.{ordered}
use Rattle.rules.proofs.Cases.{eq_or_ne, le_or_lt, true_or_false}
use Rattle.selection.proofs.Matches.{first_found, first_hit, first_miss, last_step, match_facts, match_true, Matched}
use Rattle.selection.specs.Inside.{Bears}
use Rattle.selection.specs.Match.{first_match, is_match, last_match, none, victim}
use lib.ListN.{get_or, get_or-map, length, length-map}
use mathlib.Core.Bool.{false, true}
use mathlib.Core.List.{List, [], ◌∷◌}
use mathlib.Core.Logic.{◌⊎◌, inl, inr, ⊎_elim}
use mathlib.Core.Path.{◌∙◌, ◌≡◌, ap, refl}
use native.Mathlib.Nat.{le_of_suc-le-suc, not-suc-le-zero, sub-zero}
use native.Mathlib.Omega.{arith}

pub record Victim (id : ℕ) (es : List Entry) (k : ℕ) : Type 0 where
  pub match : (get_or es k none).id ≡ id
  pub earliest : (j : ℕ) → j < length es → (get_or es j none).id ≡ id → time (get_or es k none) ≤ time (get_or es j none)
  pub last : (j : ℕ) → j < length es → (get_or es j none).id ≡ id → time (get_or es j none) ≡ time (get_or es k none) → j ≤ k

first_le : (id : ℕ) (es : List Entry) (j : ℕ) → j < length es → (get_or es j none).id ≡ id → first_match id es ≤ j
first_le id [] j l h = absurd (not-suc-le-zero l)
first_le id (e ∷ es) zero l h = omega (arith, first_hit id e es h)
first_le id (e ∷ es) (suc j) l h =
    let r = first_le id es j (le_of_suc-le-suc l) h in
    ⊎_elim (λ (m : e.id ≡ id). omega (arith, first_hit id e es m)) (λ (m : e.id ≡ id → ⊥). omega (arith, first_miss id e es m))
    (eq_or_ne e.id id)

-- ---- the last match at a time

module _ (id t : ℕ) where
  -- one entry more: it is the last so far, or it is not
  last_either : (P : ℕ → Type 0) (k b : ℕ) (x : Entry) (es : List Entry) → (is_match id t x ≡ true → P (last_match id t (k + 1) k es))
      → (is_match id t x ≡ false → P (last_match id t (k + 1) b es)) → P (last_match id t k b (x ∷ es))
  last_either P k b x es hit miss =
      ⊎_elim (λ (h : is_match id t x ≡ true). rw (last_step id t k b x es true h) (hit h))
      (λ (h : is_match id t x ≡ false). rw (last_step id t k b x es false h) (miss h))
      (true_or_false (is_match id t x))

  last_ge : (k b : ℕ) (es : List Entry) → b ≤ k → b ≤ last_match id t k b es
  last_ge k b [] l = unfold last_match in omega arith
  last_ge k b (x ∷ es) l =
      last_either (λ r. b ≤ r) k b x es (λ h. omega (arith, last_ge (k + 1) k es (omega arith))) (λ h. last_ge (k + 1) b es (omega arith))

  last_upper : (k b : ℕ) (es : List Entry) (j : ℕ) → j < length es → is_match id t (get_or es j none) ≡ true → k + j ≤ last_match id t k b es
  last_upper k b [] j m h = absurd (not-suc-le-zero m)
  last_upper k b (x ∷ es) zero m h = omega (arith, last_step id t k b x es true h, last_ge (k + 1) k es (omega arith))
  last_upper k b (x ∷ es) (suc j) m h =
      let l = le_of_suc-le-suc m in
      last_either (λ r. k + suc j ≤ r) k b x es (λ g. omega (arith, last_upper (k + 1) k es j l h))
      (λ g. omega (arith, last_upper (k + 1) b es j l h))

  record Later (k r : ℕ) (es : List Entry) : Type 0 where
    from : k ≤ r
    to : r < k + length es
    alike : is_match id t (get_or es (r - k) none) ≡ true

  later : (k r : ℕ) (x : Entry) (es : List Entry) → Later (k + 1) r es → Later k r (x ∷ es)
  later k r x es h =
      let a = h.from in
      let b = h.to in
      let z : r - k ≡ suc (r - (k + 1)) = omega arith in
      record { from = omega arith; to = omega arith; alike = rw z h.alike }

  last_in : (k b : ℕ) (es : List Entry) → (last_match id t k b es ≡ b) ⊎ Later k (last_match id t k b es) es
  last_in k b [] = inl (unfold last_match in refl)
  last_in k b (x ∷ es) =
      last_either (λ r. (r ≡ b) ⊎ Later k r (x ∷ es)) k b x es
      (λ h.
      ⊎_elim
      (λ (m : last_match id t (k + 1) k es ≡ k).
      let z : k - k ≡ 0 = omega arith in
      inr (rw m (record { from = omega arith; to = omega arith; alike = rw z h })))
      (λ (m : Later (k + 1) (last_match id t (k + 1) k es) es). inr (later k _ x es m))
      (last_in (k + 1) k es))
      (λ h.
      ⊎_elim (λ (m : last_match id t (k + 1) b es ≡ b). inl m)
      (λ (m : Later (k + 1) (last_match id t (k + 1) b es) es). inr (later k _ x es m))
      (last_in (k + 1) b es))

  -- where there is a match, one is found
  last_found : (k b : ℕ) (es : List Entry) (j : ℕ) → j < length es → is_match id t (get_or es j none) ≡ true → last_match id t k b es < k + length es
  last_found k b [] j l h = absurd (not-suc-le-zero l)
  last_found k b (x ∷ es) zero l h =
      let q = last_step id t k b x es true h in
      ⊎_elim (λ (m : last_match id t (k + 1) k es ≡ k). omega arith)
      (λ (m : Later (k + 1) (last_match id t (k + 1) k es) es). omega (arith, m.to))
      (last_in (k + 1) k es)
  last_found k b (x ∷ es) (suc j) l h =
      let m = le_of_suc-le-suc l in
      last_either (λ r. r < k + length (x ∷ es)) k b x es (λ g. omega (arith, last_found (k + 1) k es j m h))
      (λ g. omega (arith, last_found (k + 1) b es j m h))

-- ---- the laws

abbrev first_time : ℕ → List Entry → ℕ
first_time id es = time (get_or es (first_match id es) none)

victim_in : (id : ℕ) (es : List Entry) → (victim id es ≡ length es) ⊎ Later id (first_time id es) 0 (victim id es) es
unfolding victim
victim_in id es = last_in id (first_time id es) 0 (length es) es

victim_upper : (id : ℕ) (es : List Entry) (j : ℕ) → j < length es → is_match id (first_time id es) (get_or es j none) ≡ true → j ≤ victim id es
unfolding victim
victim_upper id es j l h = omega (arith, last_upper id (first_time id es) 0 (length es) es j l h)

victim_found : (id : ℕ) (es : List Entry) (j : ℕ) → j < length es → is_match id (first_time id es) (get_or es j none) ≡ true →
    victim id es < length es
unfolding victim
victim_found id es j l h = omega (arith, last_found id (first_time id es) 0 (length es) es j l h)

pub victim_le : (id : ℕ) (es : List Entry) → victim id es ≤ length es
victim_le id es =
    ⊎_elim (λ (m : victim id es ≡ length es). omega arith)
    (λ (m : Later id (first_time id es) 0 (victim id es) es). omega (arith, m.to))
    (victim_in id es)

pub victim_is : (id : ℕ) (es : List Entry) → ordered es ≡ true → victim id es < length es → Victim id es (victim id es)
victim_is id es o h =
    ⊎_elim (λ (m : victim id es ≡ length es). absurd (omega arith)) (λ (m : Later id (first_time id es) 0 (victim id es) es). is m)
    (victim_in id es)
  where
    is : Later id (first_time id es) 0 (victim id es) es → Victim id es (victim id es)
    is m =
        let f = match_facts id (first_time id es) (get_or es (victim id es) none) (rw sub-zero at m.alike) in
        let s = f.same in
        let t = f.then in
        record {
          match = s;
          earliest = λ j l g. let q = first_le id es j l g in omega (arith, ordered_pair 0 es (first_match id es) j none o q l);
          last = λ j l g e. victim_upper id es j l (match_true id (first_time id es) (get_or es j none) g (e ∙ t));
        }

-- where there is none, no entry has the ID
pub no_victim : (id : ℕ) (es : List Entry) → length es ≤ victim id es → (j : ℕ) → j < length es → (get_or es j none).id ≡ id → ⊥
no_victim id es h j l m =
    let q = first_le id es j l m in
    let g = first_found id es none (omega arith) in
    omega (arith, victim_found id es (first_match id es) (omega arith) (match_true id (first_time id es) (get_or es (first_match id es) none) g refl))

-- ---- the search: the first row with the ID, and from the end on the first with its ID and time

module _ (id : ℕ) (t : List (List ℕ)) where
  at : (k : ℕ) → get_or (entries t) k none ≡ nth t k
  at k = get_or-map entry t k []

  -- what stands at the victim's place
  found_at : Later id (first_time id (entries t)) 0 (victim id (entries t)) (entries t)
      → Matched id (first_time id (entries t)) (nth t (victim id (entries t)))
  found_at m = rw (at (victim id (entries t))) at (match_facts id (first_time id (entries t)) _ (rw sub-zero at m.alike))

  pub victim_of_none : ((k : ℕ) → k < length t → (nth t k).id ≡ id → ⊥) → victim id (entries t) ≡ length t
  victim_of_none h =
      let n = length-map t entry in
      ⊎_elim
      (λ (m : victim id (entries t) ≡ length (entries t)). omega arith)
      (λ (m : Later id (first_time id (entries t)) 0 (victim id (entries t)) (entries t)).
      absurd (h (victim id (entries t)) (omega (arith, m.to)) (found_at m).same))
      (victim_in id (entries t))

  -- row p is the first with the ID
  module _ (o : ordered (entries t) ≡ true) (p : ℕ) (l : p < length t) (has : (nth t p).id ≡ id)
      (before : (k : ℕ) → k < p → (nth t k).id ≡ id → ⊥) where
    abbrev Same : ℕ → Type 0
    Same k = Bears t k (nth t p).secs (nth t p).nanos id

    first_is : first_match id (entries t) ≡ p
    first_is =
        let n = length-map t entry in
        let m = first_le id (entries t) p (omega arith) (rw at has) in
        let f = rw (at (first_match id (entries t))) at (first_found id (entries t) none (omega arith)) in
        ⊎_elim (λ (x : p ≤ first_match id (entries t)). omega arith) (λ (x : first_match id (entries t) < p). absurd (before _ x f))
        (le_or_lt p (first_match id (entries t)))

    first_time_is : first_time id (entries t) ≡ time (nth t p)
    first_time_is = ap (λ (k : ℕ). time (get_or (entries t) k none)) first_is ∙ ap time (at p)

    range : (k : ℕ) → k < length t → InRange (nth t k)
    range k h = let n = length-map t entry in rw (at k) at (ordered_at 0 (entries t) k none o (omega arith)).range

    pub victim_of_some : (r : Option ℕ)
        → MatchOption r ((k : ℕ) → k < length t → Same k → ⊥)
        (λ i. (i < length t) × Same i × ((k : ℕ) → i < k → k < length t → Same k → ⊥))
        → MatchOption r (victim id (entries t) ≡ length t) (λ i. (i < length t) × (i ≡ victim id (entries t)))
    victim_of_some None h = absurd (h p l (refl, refl, has))
    victim_of_some (Some i) h =
        let n = length-map t entry in
        let v = victim id (entries t) in
        let x : time (get_or (entries t) i none) ≡ first_time id (entries t) = rw (at i, first_time_is) (omega (arith, h.1)) in
        let m = match_true id (first_time id (entries t)) (get_or (entries t) i none) (rw (at i) h.1.2) x in
        let up = victim_upper id (entries t) i (omega (arith, h.0)) m in
        let to = victim_found id (entries t) i (omega (arith, h.0)) m in (
          h.0,
          ⊎_elim (λ (y : v ≤ i). omega arith)
              (λ (y : i < v).
              ⊎_elim
              (λ (z : v ≡ length (entries t)). absurd (omega arith))
              (λ (z : Later id (first_time id (entries t)) 0 v (entries t)).
              let f = found_at z in
              let a = f.then in
              let b = range v (omega arith) in
              let c = range p l in
              absurd (h.2 v y (omega arith) (omega (arith, first_time_is), omega (arith, first_time_is), f.same)))
              (victim_in id (entries t)))
              (le_or_lt v i),
        )
