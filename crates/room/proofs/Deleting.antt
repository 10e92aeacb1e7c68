-- The deletions on the smaller scheduler and on the larger.
use Prim.Native.Nat.{ℕ}
use Rattle.deletions.specs.Deleting.{clear_in, delete_window_in, enabled_as, reset_in}
use Rattle.sweep.specs.Sweep.{Swept, sweep, swept, unswept}
use Rattle.by_id.specs.ById.{delete_by_id_in, delete_keeping_in, freed, take_in}
use Rattle.windows.specs.Windowing.{window_of, windowed}
use Rattle.windows.specs.declared.TimeWindow.{TimeWindow}
use Rattle.room.proofs.Alike.{Left, answers, by_test, refuses}
use Rattle.room.proofs.Entries.{filter_slots, slot_at, without_slots}
use Rattle.room.proofs.States.{AlikeStates}
use Rattle.room.proofs.StoreCalls.{delete_grow, delete_shape}
use Rattle.room.specs.Grown.{Fit, Slots, Slotted, grow, grown, shape}
use Rattle.rules.specs.Papers.{Outcome, done, through, refused}
use Rattle.rules.specs.Tests.{unless}
use Rattle.schedule.specs.State.{State, with_entries, with_pools}
use Rattle.store.specs.Calls.{delete_in}
use Rattle.slots.specs.Pools.{Pool}
use Rattle.table_edit.specs.Edits.{without}
use Rattle.rows.specs.Entries.{Entry}
use Rattle.selection.specs.Match.{none, victim}
use Rattle.selection.specs.Windows.{in_window, outside, within}
use borrow.Author.Tests.{ltb-true}
use lib.Dec.{ltb}
use lib.ListN.{get_or, length}
use mathlib.Core.Bool.{Bool, false, not, true}
use mathlib.Core.List.{List, [], ◌∷◌}
use mathlib.Core.Path.{◌≡◌, refl}

module _ (ns ks : List ℕ) where
  -- the packets of entries, in schedule order
  abbrev grown_sweep : Swept → Swept
  grown_sweep x = record { deleted = x.deleted; missing = x.missing; last = x.last; pools = grow ks x.pools }

  swept_grow : (x : Swept) (o : Outcome (List Pool)) → swept (grown_sweep x) (through (grow ks) o) ≡ grown_sweep (swept x o)
  unfolding swept through
  swept_grow x (refused p) = refl
  swept_grow x (done vs ps) = refl

  swept_shape : (x : Swept) (o : Outcome (List Pool)) → shape x.pools ≡ ns → Left (λ vs ps. shape ps ≡ ns) o → shape (swept x o).pools ≡ ns
  unfolding swept
  swept_shape x (refused p) h l = h
  swept_shape x (done vs ps) h l = l

  one_shape : (x : Swept) (e : Entry) → shape x.pools ≡ ns → Slotted ns e.addr → shape (swept x (delete_in x.pools e.addr)).pools ≡ ns
  one_shape x e h n = swept_shape x (delete_in x.pools e.addr) h (delete_shape ns ks x.pools h e.addr n)

  pub sweep_grow : (es : List Entry) (x : Swept) → shape x.pools ≡ ns → Slots ns es → sweep es (grown_sweep x) ≡ grown_sweep (sweep es x)
  unfolding sweep
  sweep_grow [] x h n = refl
  sweep_grow (e ∷ es) x h n =
      rw (delete_grow ns ks x.pools h e.addr n.0, swept_grow x (delete_in x.pools e.addr))
      (sweep_grow es (swept x (delete_in x.pools e.addr)) (one_shape x e h n.0) n.1)

  pub sweep_shape : (es : List Entry) (x : Swept) → shape x.pools ≡ ns → Slots ns es → shape (sweep es x).pools ≡ ns
  unfolding sweep
  sweep_shape [] x h n = h
  sweep_shape (e ∷ es) x h n = sweep_shape es (swept x (delete_in x.pools e.addr)) (one_shape x e h n.0) n.1

  pub clears : (gone left : List Entry) (s : State) → shape s.pools ≡ ns → Slots ns gone → Slots ns left
      → AlikeStates ns ks (clear_in gone left s) (clear_in gone left (grown ks s))
  unfolding clear_in
  clears gone left s h m n =
      rw (sweep_grow gone (unswept s.pools) h m) (answers _ _ _ _ (record { shaped = sweep_shape gone (unswept s.pools) h m; named = n }))

  pub resets : (s : State) → Fit ns s → AlikeStates ns ks (reset_in s) (reset_in (grown ks s))
  unfolding reset_in
  resets s f = clears s.entries [] (enabled_as false s) f.shaped f.named tt

  pub windows : (w : TimeWindow) (s : State) → Fit ns s → AlikeStates ns ks (delete_window_in w s) (delete_window_in w (grown ks s))
  unfolding delete_window_in windowed
  windows w s f =
      by_test _ _ _ _ _ _ _ (refuses _ _ _)
      (by_test _ _ _ _ _ _ _ (refuses _ _ _)
      (clears (in_window (window_of w) s.entries) (outside (window_of w) s.entries) s f.shaped
      (filter_slots ns (within (window_of w)) s.entries f.named) (filter_slots ns (λ e. not (within (window_of w) e)) s.entries f.named)))

  -- by request ID
  takes : (id : ℕ) (found : ℕ → State → Outcome State)
      → ((a : ℕ) (s : State) → Slotted ns a → Fit ns s → AlikeStates ns ks (found a s) (found a (grown ks s)))
      → (s : State) → Fit ns s → AlikeStates ns ks (take_in id found s) (take_in id found (grown ks s))
  unfolding take_in unless
  takes id found h s f = go (ltb (victim id s.entries) (length s.entries)) refl
    where
      go : (b : Bool) → ltb (victim id s.entries) (length s.entries) ≡ b
          → AlikeStates ns ks
          (unless b (done (0 ∷ []) s)
          (found (get_or s.entries (victim id s.entries) none).addr (with_entries (without (victim id s.entries) 1 s.entries) s)))
          (unless b (done (0 ∷ []) (grown ks s))
          (found (get_or s.entries (victim id s.entries) none).addr
          (with_entries (without (victim id s.entries) 1 s.entries) (grown ks s))))
      go true e =
          h _ (with_entries (without (victim id s.entries) 1 s.entries) s)
          (slot_at ns s.entries (victim id s.entries) none (ltb-true _ _ e) f.named)
          (record { shaped = f.shaped; named = without_slots ns (victim id s.entries) 1 s.entries f.named })
      go false e = answers _ _ _ s f

  pub keeping : (id : ℕ) (s : State) → Fit ns s → AlikeStates ns ks (delete_keeping_in id s) (delete_keeping_in id (grown ks s))
  unfolding delete_keeping_in
  keeping id s f = takes id (λ a t. done (1 ∷ a ∷ []) t) (λ a t n g. answers _ _ _ t g) s f

  freed_too : (s : State) (o : Outcome (List Pool)) → Fit ns s → Left (λ vs ps. shape ps ≡ ns) o
      → AlikeStates ns ks (freed s o) (freed (grown ks s) (through (grow ks) o))
  unfolding freed through
  freed_too s (refused p) f l = answers _ _ _ s f
  freed_too s (done vs ps) f l = answers _ _ _ (with_pools ps s) (record { shaped = l; named = f.named })

  pub by_id : (id : ℕ) (s : State) → Fit ns s → AlikeStates ns ks (delete_by_id_in id s) (delete_by_id_in id (grown ks s))
  unfolding delete_by_id_in
  by_id id s f =
      takes id (λ a t. freed t (delete_in t.pools a))
      (λ a t n g.
      rw (delete_grow ns ks t.pools g.shaped a n) (freed_too t (delete_in t.pools a) g (delete_shape ns ks t.pools g.shaped a n)))
      s f
