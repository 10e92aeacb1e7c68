-- What is known where none of 1 to 3 is given.
use Prim.Native.Nat.{◌*◌, ◌≤◌, ℕ}
use borrow.Author.Tests.{leb-true}
use lib.ListN.{length}
use native.Mathlib.Omega.{arith}
use mathlib.Core.Bool.{true}
use mathlib.Core.List.{List}
use mathlib.Core.Path.{◌≡◌}
use Rattle.record.specs.declared.Record.{Record}
use Rattle.rules.proofs.All.{all_each, and_left, and_right}
use Rattle.layout.proofs.Bounds.{buffers_fit}
use Rattle.layout.specs.Judge.{Sized, Sound as StoreSound, setup_ok as store_setup_ok}
use Rattle.rows.specs.Entries.{unpack, width}
use Rattle.rows.specs.Order.{max_entries, ordered, Sound as TableSound, Held}
use Rattle.time.proofs.Judged.{margin_judged, time_judged}
use Rattle.time.specs.Time.{InRange, MarginInRange, in_range, margin_in_range}
use Rattle.schedule.specs.Inside.{Long}
use Rattle.schedule.specs.Judge.{Sound, buffers_ok, setup_ok, state_ok}
use Rattle.schedule.specs.declared.Setup.{Setup}

pub record Facts (su : Setup) (r : Record) (st le ro : List ℕ) : Type 0 where
  pub store : StoreSound su.store st le
  pub some : 1 ≤ su.entries
  pub few : su.entries ≤ max_entries
  pub room : su.entries * width ≤ length ro
  pub count : r.count ≤ su.entries
  pub clock : InRange r.clock
  pub margin : MarginInRange r.margin
  pub kept : ordered (unpack r.count ro) ≡ true

pub facts : {su : Setup} {r : Record} {st le ro : List ℕ} → Sound su r st le ro → Facts su r st le ro
unfolding setup_ok buffers_ok state_ok
facts {su} {r} {st} {le} {ro} s =
    let a = all_each _ s.setup in
    let b = all_each _ s.buffers in
    let d = all_each _ s.state in
    record {
      store = record { setup = a.0; buffers = b.0; lengths = d.1.1.1.0 };
      some = leb-true _ _ a.1.0;
      few = leb-true _ _ a.1.1.0;
      room = leb-true _ _ b.1.0;
      count = leb-true _ _ d.0;
      clock = time_judged r.clock (and_left (in_range r.clock) (margin_in_range r.margin) d.1.0);
      margin = margin_judged r.margin (and_right (in_range r.clock) (margin_in_range r.margin) d.1.0);
      kept = d.1.1.0;
    }

-- the table's own forms
pub table_sound : {su : Setup} {r : Record} {st le ro : List ℕ} → Facts su r st le ro → TableSound ro r.count
table_sound f = record { room = omega arith; few = omega arith; kept = f.kept }

pub table_held : {su : Setup} {r : Record} {st le ro : List ℕ} → Facts su r st le ro → Held ro r.count
table_held f = record { room = omega arith }

-- what a good setup says by itself
pub setup_facts : (su : Setup) → setup_ok su ≡ true → (store_setup_ok su.store ≡ true) × (1 ≤ su.entries) × (su.entries ≤ max_entries)
unfolding setup_ok
setup_facts su e = let a = all_each _ e in (a.0, leb-true _ _ a.1.0, leb-true _ _ a.1.1.0)

pub long_enough : (su : Setup) (room lens rows : ℕ) → setup_ok su ≡ true → buffers_ok su room lens rows ≡ true → Long su lens rows
unfolding buffers_ok
long_enough su room lens rows p q =
    let b = all_each _ q in
    record { setup = p; lens_fit = (buffers_fit su.store room lens b.0).1; rows_fit = leb-true _ _ b.1.0 }

-- the store's part of 1 and 2
pub store-sized :
    (su : Setup) (st le : List ℕ) (rows : ℕ) → setup_ok su ≡ true → buffers_ok su (length st) (length le) rows ≡ true
    → Sized su.store st le
unfolding setup_ok buffers_ok
store-sized su st le rows p q = record { setup = (all_each _ p).0; buffers = (all_each _ q).0 }
