-- The flat search for room is the model's choice.
use Rattle.std.specs.Prelude.{Ok, Err}
use Prim.Native.Nat.{◌+◌, ◌-◌, ◌<◌, ◌≤◌, suc, zero, ℕ}
use Rattle.layout.proofs.Bounds.{setup_rising}
use Rattle.layout.specs.Judge.{setup_ok}
use Rattle.layout.specs.Layout.{rows_before, size_at, slots_at}
use Rattle.layout.specs.Limits.{store_free}
use Rattle.rules.proofs.First.{first_before, first_ge, first_passes}
use Rattle.rules.specs.Tests.{first_from, unless}
use Rattle.slots.specs.Inside.{cell_of, fits, free_row, free_slot, has_free, last_tried, room_in, room_of}
use Rattle.slots.specs.Pools.{Choice, Pool, Slot, all_taken, choose, free, into, lowest, next, pick, shift_pool, spill_into, taken, too_large}
use Rattle.slots.specs.View.{bytes_at, len_at, marked, pool_in, slot_from, slot_in, view}
use Rattle.rules.specs.Lists.{each}
use borrow.Author.Tests.{le-leb, leb-true, lt-ltb, ltb-false, ltb-true}
use lib.Dec.{eqb, leb, ltb}
use lib.ListN.{get_or}
use mathlib.Core.Bool.{Bool, cond, false, true}
use mathlib.Core.List.{List, ◌∷◌}
use mathlib.Core.Logic.{◌⊎◌, inl, inr}
use mathlib.Core.Option.{none, some}
use mathlib.Core.Path.{◌∙◌, ◌≡◌, ap, refl, subst, sym}
use native.Mathlib.Nat.{le_trans, not-suc-le-zero}
use native.Mathlib.Omega.{arith}
use Rattle.layout.specs.declared.Setup.{Setup}
use Rattle.slots.specs.declared.StoreRefusal.TheVariants.{DataTooLarge, StoreFull}

abbrev IsFree : Slot → Type 0
IsFree (free b) = Unit {0}
IsFree (taken n b) = ⊥

abbrev IsTaken : Slot → Type 0
IsTaken (free b) = ⊥
IsTaken (taken n b) = Unit {0}

free_from : (w : ℕ) (b : List ℕ) → eqb w store_free ≡ true → IsFree (slot_from w b)
unfolding marked
free_from w b e = rw e tt

taken_from : (w : ℕ) (b : List ℕ) → eqb w store_free ≡ false → IsTaken (slot_from w b)
unfolding marked
taken_from w b e = rw e tt

-- the lowest free slot of a list
lowest_here : (x : Slot) (xs : List Slot) → IsFree x → lowest (x ∷ xs) ≡ some 0
lowest_here (free b) xs h = refl
lowest_here (taken n b) xs h = absurd h

lowest_past : (x : Slot) (xs : List Slot) → IsTaken x → lowest (x ∷ xs) ≡ next (lowest xs)
lowest_past (free b) xs h = absurd h
lowest_past (taken n b) xs h = refl

lowest_is : (f : ℕ → Slot) (n i j t : ℕ) → i + j ≡ t → j < n → IsFree (f t) → ((s : ℕ) → i ≤ s → s < t → IsTaken (f s)) → lowest (each f i n) ≡ some j
unfolding each
lowest_is f zero i j t e l h g = absurd (not-suc-le-zero l)
lowest_is f (suc n) i zero t e l h g = let q : t ≡ i = omega arith in lowest_here (f i) (each f (suc i) n) (rw q at h)
lowest_is f (suc n) i (suc j) t e l h g =
    lowest_past (f i) (each f (suc i) n) (g i (omega arith) (omega arith))
    ∙ ap next (lowest_is f n (suc i) j t (omega arith) (omega arith) h (λ s a b. g s (omega arith) b))

lowest_none : (f : ℕ → Slot) (n i : ℕ) → ((s : ℕ) → i ≤ s → s < i + n → IsTaken (f s)) → lowest (each f i n) ≡ none
unfolding each
lowest_none f zero i g = refl
lowest_none f (suc n) i g =
    lowest_past (f i) (each f (suc i) n) (g i (omega arith) (omega arith))
    ∙ ap next (lowest_none f n (suc i) (λ s a b. g s (omega arith) (omega arith)))

-- the choice among subpools
module _ (f : ℕ → Pool) (len : ℕ) where
  -- a subpool that is passed over
  Passed : Bool → ℕ → Type 0
  Passed sp s = (leb len (f s).size ≡ false) ⊎ ((sp ≡ true) × (lowest (f s).slots ≡ none))

  pass : (sp : Bool) (s : ℕ) (r : Choice) (j i : ℕ) → Passed sp s → r ≡ into j i
      → pick sp (leb len (f s).size) (lowest (f s).slots) (shift_pool r) ≡ into (suc j) i
  unfolding Passed
  pass sp s r j i (inl e) q = rw (e, q)
  pass sp s r j i (inr e) q = rw (e.0, e.1, q) (go (leb len (f s).size))
    where
      go : (b : Bool) → pick true b none (into (suc j) i) ≡ into (suc j) i
      go true = refl
      go false = refl

  choose_into : (sp : Bool) (n k j t i : ℕ) → k + j ≡ t → j < n → leb len (f t).size ≡ true → lowest (f t).slots ≡ some i
      → ((s : ℕ) → k ≤ s → s < t → Passed sp s) → choose sp (each f k n) len ≡ into j i
  unfolding each choose
  choose_into sp zero k j t i e l h o g = absurd (not-suc-le-zero l)
  choose_into sp (suc n) k zero t i e l h o g = let q : t ≡ k = omega arith in rw (rw q at h, rw q at o)
  choose_into sp (suc n) k (suc j) t i e l h o g =
      pass sp k (choose sp (each f (suc k) n) len) j i (g k (omega arith) (omega arith))
      (choose_into sp n (suc k) j t i (omega arith) (omega arith) h o (λ s a b. g s (omega arith) b))

  choose_large : (sp : Bool) (n k : ℕ) → ((s : ℕ) → k ≤ s → s < k + n → leb len (f s).size ≡ false) → choose sp (each f k n) len ≡ too_large
  unfolding each choose
  choose_large sp zero k g = refl
  choose_large sp (suc n) k g = rw (g k (omega arith) (omega arith), choose_large sp n (suc k) (λ s a b. g s (omega arith) (omega arith)))

  choose_one : (n k j t : ℕ) → k + j ≡ t → j < n → leb len (f t).size ≡ true → lowest (f t).slots ≡ none
      → ((s : ℕ) → k ≤ s → s < t → leb len (f s).size ≡ false) → choose false (each f k n) len ≡ all_taken j
  unfolding each choose
  choose_one zero k j t e l h o g = absurd (not-suc-le-zero l)
  choose_one (suc n) k zero t e l h o g = let q : t ≡ k = omega arith in rw (rw q at h, rw q at o)
  choose_one (suc n) k (suc j) t e l h o g =
      rw (g k (omega arith) (omega arith), choose_one n (suc k) j t (omega arith) (omega arith) h o (λ s a b. g s (omega arith) b))

  choose_all : (n k : ℕ) → ((s : ℕ) → k ≤ s → s < k + suc n → (leb len (f s).size ≡ true) × (lowest (f s).slots ≡ none))
      → choose true (each f k (suc n)) len ≡ all_taken n
  unfolding each choose
  choose_all zero k g = let h = g k (omega arith) (omega arith) in rw (h.0, h.1)
  choose_all (suc n) k g =
      let h = g k (omega arith) (omega arith) in
      let r = choose_all n (suc k) (λ s a b. g s (omega arith) (omega arith)) in
      rw (h.0, h.1) (ap (λ (x : Choice). spill_into true (shift_pool x)) r)

  past : (k n m : ℕ) → leb len (f k).size ≡ false → choose true (each f (suc k) n) len ≡ all_taken m
      → choose true (each f k (suc n)) len ≡ all_taken (suc m)
  unfolding each choose
  past k n m e q = rw (e, q)

  choose_spilt : (n k j t m : ℕ) → k + j ≡ t → j < n → n ≡ suc m → ((s : ℕ) → k ≤ s → s < t → leb len (f s).size ≡ false)
      → ((s : ℕ) → t ≤ s → s < k + n → (leb len (f s).size ≡ true) × (lowest (f s).slots ≡ none)) → choose true (each f k n) len ≡ all_taken m
  choose_spilt zero k j t m e l q g h = absurd (not-suc-le-zero l)
  choose_spilt (suc n) k zero t m e l q g h = let w : m ≡ n = omega arith in rw w (choose_all n k (λ s a b. h s (omega arith) b))
  choose_spilt (suc n) k (suc j) t zero e l q g h = absurd (omega arith)
  choose_spilt (suc n) k (suc j) t (suc m) e l q g h =
      past k n m (g k (omega arith) (omega arith))
      (choose_spilt n (suc k) j t m (omega arith) (omega arith) (omega arith) (λ s a b. g s (omega arith) b)
      (λ s a b. h s a (omega arith)))

module _ (su : Setup) (st le : List ℕ) where
  lowest_free : (k : ℕ) → has_free su le k ≡ true → lowest (pool_in su st le k).slots ≡ some (free_slot su le k)
  unfolding free_slot len_at
  lowest_free k h =
      let p = free_row le (rows_before su k) in
      let l = ltb-true (first_from p 0 (slots_at su k)) (slots_at su k) h in
      lowest_is (slot_in su st le k) (slots_at su k) 0 (first_from p 0 (slots_at su k)) (first_from p 0 (slots_at su k)) (omega arith) l
      (free_from (get_or le (rows_before su k + first_from p 0 (slots_at su k)) 0) (bytes_at su st k (first_from p 0 (slots_at su k)))
      (first_passes p (slots_at su k) 0 (omega arith)))
      (λ s a b. taken_from (get_or le (rows_before su k + s) 0) (bytes_at su st k s) (first_before p (slots_at su k) 0 s a b))

  lowest_full : (k : ℕ) → has_free su le k ≡ false → lowest (pool_in su st le k).slots ≡ none
  unfolding free_slot len_at
  lowest_full k h =
      let p = free_row le (rows_before su k) in
      let l = ltb-false (first_from p 0 (slots_at su k)) (slots_at su k) h in
      lowest_none (slot_in su st le k) (slots_at su k) 0
      (λ s a b. taken_from (get_or le (rows_before su k + s) 0) (bytes_at su st k s)
      (first_before p (slots_at su k) 0 s a (omega arith)))

  pub chosen_large : (len k : ℕ) → k ≡ first_from (fits su len) 0 su.pools → su.pools ≤ k
      → Err (DataTooLarge len) ≡ room_of su len (choose su.spill (view su st le) len)
  unfolding view room_of
  chosen_large len k e l =
      rw
      (choose_large (pool_in su st le) len su.spill su.pools 0
      (λ s a b. first_before (fits su len) su.pools 0 s a (omega arith)))

module _ (su : Setup) (ok : setup_ok su ≡ true) (st le : List ℕ) (len k : ℕ) (e : k ≡ first_from (fits su len) 0 su.pools) (l : k < su.pools) where
  early : (s : ℕ) → s < k → leb len (size_at su s) ≡ false
  early s b = first_before (fits su len) su.pools 0 s (omega arith) (omega arith)

  holds : (s : ℕ) → k ≤ s → s < su.pools → leb len (size_at su s) ≡ true
  holds s a b =
      let p : leb len (size_at su k) ≡ true = subst (λ (j : ℕ). leb len (size_at su j) ≡ true) (sym e)
      (first_passes (fits su len) su.pools 0 (omega arith)) in
      le-leb _ _ (le_trans (leb-true _ _ p) (setup_rising su ok k s a b))

  passed_by : (sp : Bool) (s : ℕ) (b : Bool) → ltb s k ≡ b → (k ≤ s → (sp ≡ true) × (lowest (pool_in su st le s).slots ≡ none))
      → Passed (pool_in su st le) len sp s
  unfolding Passed
  passed_by sp s true e h = inl (early s (ltb-true _ _ e))
  passed_by sp s false e h = inr (h (ltb-false _ _ e))

  -- room in a subpool that is tried
  into_at : (sp : Bool) (t : ℕ) → k ≤ t → t < cond sp su.pools (k + 1) → has_free su le t ≡ true
      → ((s : ℕ) → k ≤ s → s < t → has_free su le s ≡ false) → choose sp (view su st le) len ≡ into t (free_slot su le t)
  unfolding view
  into_at true t a b h g =
      choose_into (pool_in su st le) len true su.pools 0 t t _ (omega arith) b (holds t a b) (lowest_free su st le t h)
      (λ s u v. passed_by true s (ltb s k) refl (λ m. (refl, lowest_full su st le s (g s m v))))
  into_at false t a b h g =
      choose_into (pool_in su st le) len false su.pools 0 t t _ (omega arith) (omega arith) (holds t a (omega arith)) (lowest_free su st le t h)
      (λ s u v. passed_by false s true (lt-ltb s k (omega arith)) (λ m. absurd (omega arith)))

  full_at : (sp : Bool) → ((s : ℕ) → k ≤ s → s < cond sp su.pools (k + 1) → has_free su le s ≡ false)
      → choose sp (view su st le) len ≡ all_taken (cond sp su.pools (k + 1) - 1)
  unfolding view
  full_at true g =
      choose_spilt (pool_in su st le) len su.pools 0 k k (su.pools - 1) (omega arith) l (omega arith) (λ s u v. early s v)
      (λ s u v. (holds s u (omega arith), lowest_full su st le s (g s u (omega arith))))
  full_at false g =
      choose_one (pool_in su st le) len su.pools 0 k k (omega arith) l (holds k (omega arith) l)
      (lowest_full su st le k (g k (omega arith) (omega arith))) (λ s u v. early s v) ∙ ap all_taken (omega arith)

  pub chosen_room : (n : ℕ) → n ≡ last_tried su k → room_in su le k n ≡ room_of su len (choose su.spill (view su st le) len)
  unfolding room_in room_of last_tried unless
  chosen_room n q = go (ltb (first_from (has_free su le) k (n - k)) n) refl
    where
      go : (b : Bool) → ltb (first_from (has_free su le) k (n - k)) n ≡ b
          → unless b (Err (StoreFull (n - 1)))
          (Ok (cell_of su (first_from (has_free su le) k (n - k)) (free_slot su le (first_from (has_free su le) k (n - k)))))
          ≡ room_of su len (choose su.spill (view su st le) len)
      go true m =
          rw
          (into_at su.spill (first_from (has_free su le) k (n - k)) (first_ge (has_free su le) (n - k) k)
          (subst (λ (x : ℕ). first_from (has_free su le) k (n - k) < x) q (ltb-true _ _ m))
          (first_passes (has_free su le) (n - k) k
          (let z = ltb-true (first_from (has_free su le) k (n - k)) n m in
          let y = first_ge (has_free su le) (n - k) k in omega arith))
          (λ s u v. first_before (has_free su le) (n - k) k s u v))
      go false m =
          rw (
            full_at su.spill
                (λ s u v. first_before (has_free su le) (n - k) k s u
                (let z = ltb-false (first_from (has_free su le) k (n - k)) n m in omega arith)),
            ← q,
          )
