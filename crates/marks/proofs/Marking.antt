-- A table with marks: without one yet, what its rows tell, and one mark more.
use Prim.Native.Nat.{◌+◌, ◌<◌, ◌≤◌, ℕ}
use Rattle.address.specs.Address.{pool_of, slot_of}
use Rattle.layout.proofs.Bounds.{bounds}
use Rattle.layout.specs.Judge.{Sound}
use Rattle.layout.specs.Layout.{all_rows, row_of}
use Rattle.layout.specs.Limits.{max_slot_size}
use Rattle.marks.proofs.Packets.{no_packet, packet_long, packet_none, packet_same}
use Rattle.marks.specs.Marks.{Marks, added, packet_at, unless_marked}
use Rattle.marks.specs.Promise.{Deletes, Marking, Tells}
use Rattle.rules.proofs.Cases.{eq_or_ne, le_or_lt}
use Rattle.rules.specs.Tests.{unless}
use Rattle.slots.specs.Pools.{Pool, find}
use Rattle.slots.specs.View.{view}
use Rattle.store.proofs.Rows.{SameSlot, row_plain, row_slot, slot_row}
use Rattle.store.specs.Edits.{edit, wipe}
use Rattle.store_laws.proofs.Wiped.{Missing, find_else, find_wiped}
use borrow.Author.Tests.{le-ltb, lt-ltb}
use lib.ListN.{get_or, length, length-set, set}
use lib.Seq.{get_or-set_other, get_or-set_same}
use mathlib.Core.List.{List, []}
use mathlib.Core.Logic.{◌⊎◌, inl, inr, ⊎_elim}
use mathlib.Core.Path.{◌∙◌, ◌≡◌, ap, refl, sym}
use native.Mathlib.Omega.{arith}
use Rattle.layout.specs.declared.Setup.{Setup}

-- what a row's length says of a packet p
module _ (w : ℕ) (p : List ℕ) where
  gone : added ≤ w → unless_marked w p ≡ []
  unfolding unless_marked unless
  gone h = rw (le-ltb w added h)

  stays : w < added → unless_marked w p ≡ p
  unfolding unless_marked unless
  stays h = rw (lt-ltb w added h)

  none : p ≡ [] → unless_marked w p ≡ []
  none e = ⊎_elim (λ h. gone h) (λ h. stays h ∙ e) (le_or_lt added w)

pub marks_first : (su : Setup) (st le : List ℕ) → Sound su st le → Marks su st le (view su st le) le
marks_first su st le ok =
    record {
      sound = ok;
      same_length = refl;
      rows = λ r. inl refl;
      packets =
          λ a. ⊎_elim (λ h. no_packet su st le ok a (inr h) ∙ sym (gone _ _ h)) (λ h. sym (stays _ _ h)) (le_or_lt added (get_or le (row_of su a) 0));
    }

pub marking : {su : Setup} {st le₀ le : List ℕ} {ps : List Pool} → Marks su st le₀ ps le → Marking su le
marking {su} {st} {le₀} {le} {ps} k = record { store = st; before = le₀; pools = ps; marks = k }

module _ (su : Setup) (st le₀ : List ℕ) (ps : List Pool) (le : List ℕ) (k : Marks su st le₀ ps le) where
  rows_fit : all_rows su ≤ length le
  rows_fit = let b = (bounds k.sound).rows_fit in let e = k.same_length in omega arith

  -- a length below a mark is the one that was there
  unmarked : (r : ℕ) → get_or le r 0 < added → get_or le r 0 ≡ get_or le₀ r 0
  unmarked r m = ⊎_elim (λ u. u) (λ u. absurd (omega (arith, u.2))) (k.rows r)

  length_plain : (r : ℕ) → r < all_rows su → get_or le r 0 < added → get_or le r 0 ≤ max_slot_size
  length_plain r h m =
      let u = unmarked r m in
      ⊎_elim (λ e. absurd (omega arith)) (λ e. omega arith) (row_plain su st le₀ k.sound r h)

  module _ (a : ℕ) where
    -- no packet: the setup has no such slot, or its length is no packet's
    nothing : (all_rows su ≤ row_of su a) ⊎ (added ≤ get_or le (row_of su a) 0) → packet_at ps a ≡ []
    nothing (inl h) = k.packets a ∙ none _ _ (no_packet su st le₀ k.sound a (inl h))
    nothing (inr h) = k.packets a ∙ gone _ _ h

    something : row_of su a < all_rows su → get_or le (row_of su a) 0 < added → get_or le (row_of su a) 0 ≡ length (packet_at ps a)
    something h m =
        let u = unmarked (row_of su a) m in
        let p = ap length (k.packets a ∙ stays _ _ m) in
        let l = packet_long su st le₀ k.sound a h (omega arith) in
        omega arith

    -- the slot of a is wiped where le' has no packet at its row, and all other rows are as they were
    module _ (le' : List ℕ) (here : (all_rows su ≤ row_of su a) ⊎ (added ≤ get_or le' (row_of su a) 0))
        (there : (b : ℕ) → (SameSlot a b → ⊥) → get_or le' (row_of su b) 0 ≡ get_or le (row_of su b) 0) where
      wiped_at : (b : ℕ) → SameSlot a b ⊎ (SameSlot a b → ⊥)
          → packet_at (edit wipe ps a) b ≡ unless_marked (get_or le' (row_of su b) 0) (packet_at (view su st le₀) b)
      wiped_at b (inl e) =
          let m : Missing (find (edit wipe ps a) b) = rw (← e.0, ← e.1) (find_wiped ps (pool_of a) (slot_of a)) in
          packet_none (edit wipe ps a) b m
          ∙ sym
          (⊎_elim (λ h. none _ _ (no_packet su st le₀ k.sound b (inl h))) (λ h. gone _ _ h)
          (rw (slot_row su a b e) at here))
      wiped_at b (inr o) =
          let f : find (edit wipe ps a) b ≡ find ps b = find_else wipe ps (pool_of b) (slot_of b) (pool_of a) (slot_of a) o in
          packet_same (edit wipe ps a) ps b f ∙ k.packets b ∙ ap (λ (w : ℕ). unless_marked w (packet_at (view su st le₀) b)) (sym (there b o))

    same_slot : (b : ℕ) → SameSlot a b ⊎ (SameSlot a b → ⊥)
    same_slot b =
        ⊎_elim (λ p. ⊎_elim (λ q. inl (p, q)) (λ q. inr (λ e. q e.1)) (eq_or_ne (slot_of a) (slot_of b))) (λ p. inr (λ e. p e.0))
        (eq_or_ne (pool_of a) (pool_of b))

    wiped_none : (all_rows su ≤ row_of su a) ⊎ (added ≤ get_or le (row_of su a) 0) → Marks su st le₀ (edit wipe ps a) le
    wiped_none h =
        record {
          sound = k.sound;
          same_length = k.same_length;
          rows = k.rows;
          packets = λ b. wiped_at le h (λ c o. refl) b (same_slot b);
        }

    module _ (h : row_of su a < all_rows su) (m : get_or le (row_of su a) 0 < added) where
      abbrev le' : List ℕ
      le' = set le (row_of su a) (get_or le (row_of su a) 0 + added)

      here : get_or le' (row_of su a) 0 ≡ get_or le (row_of su a) 0 + added
      here = let l = rows_fit in get_or-set_same le (row_of su a) (get_or le (row_of su a) 0 + added) 0 (omega arith)

      elsewhere : (r : ℕ) → (r ≡ row_of su a → ⊥) → get_or le' r 0 ≡ get_or le r 0
      elsewhere r o = get_or-set_other le (row_of su a) r (get_or le (row_of su a) 0 + added) 0 o

      row_marked : (r : ℕ) → (r ≡ row_of su a) ⊎ (r ≡ row_of su a → ⊥)
          → (get_or le' r 0 ≡ get_or le₀ r 0) ⊎ ((r < all_rows su) × (get_or le₀ r 0 ≤ max_slot_size) × (get_or le' r 0 ≡ get_or le₀ r 0 + added))
      row_marked r (inl e) =
          let u = unmarked (row_of su a) m in
          let p = length_plain (row_of su a) h m in
          let g = here in
          rw e (inr (h, omega arith, omega arith))
      row_marked r (inr o) = rw (elsewhere r o) (k.rows r)

      wiped_one : Marks su st le₀ (edit wipe ps a) le'
      wiped_one =
          record {
            sound = k.sound;
            same_length = length-set le (row_of su a) (get_or le (row_of su a) 0 + added) ∙ k.same_length;
            rows = λ r. row_marked r (eq_or_ne r (row_of su a));
            packets =
                λ b. wiped_at le' (inr (let g = here in omega arith)) (λ c o. elsewhere (row_of su c) (row_slot su a c h o)) b (same_slot b);
          }

-- what the functions promise, by where a row lies and what length it has
module _ (su : Setup) (le : List ℕ) (row : ℕ) where
  pub tells_none : (all_rows su ≤ row) ⊎ (added ≤ get_or le row 0) → Tells su le row 0
  tells_none h =
      record { bytes = λ st le₀ ps a k e. sym (ap length (nothing su st le₀ ps le k a (rw e.row at h))); short = omega arith }

  pub deletes_none : (all_rows su ≤ row) ⊎ (added ≤ get_or le row 0) → Deletes su le row le
  deletes_none h = record { wiped = λ st le₀ ps a k e. wiped_none su st le₀ ps le k a (rw e.row at h) }

  module _ (h : row < all_rows su) (m : get_or le row 0 < added) where
    pub tells_one : Marking su le → (n : ℕ) → n ≡ get_or le row 0 → Tells su le row n
    tells_one d n q =
        let p = length_plain su d.store d.before d.pools le d.marks row h m in
        record {
          bytes = λ st le₀ ps a k e. q ∙ ap (λ (r : ℕ). get_or le r 0) e.row ∙ something su st le₀ ps le k a (rw e.row at h) (rw e.row at m);
          short = omega arith;
        }

    pub deletes_one : (v : ℕ) → v ≡ get_or le row 0 + added → Deletes su le row (set le row v)
    deletes_one v q = record { wiped = λ st le₀ ps a k e. rw (q, e.row) (wiped_one su st le₀ ps le k a (rw e.row at h) (rw e.row at m)) }

pub rows_inside : {su : Setup} {le : List ℕ} → Marking su le → all_rows su ≤ length le
rows_inside d = rows_fit _ d.store d.before d.pools _ d.marks

pub row_inside : (su : Setup) (le : List ℕ) (row : ℕ) → Marking su le → row < all_rows su → row < length le
row_inside su le row d h = omega (arith, rows_inside d)
