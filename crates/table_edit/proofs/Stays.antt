-- A sound table stays sound: read back from the words that an insertion or a removal leaves.
use Prim.Native.Nat.{◌+◌, ◌-◌, ◌≤◌, ℕ}
use Rattle.rows.proofs.Order.{InRange}
use Rattle.rows.proofs.Rows.{length_relaid, length_unpack, past_end, unpack_relaid}
use Rattle.rows.specs.Entries.{Entry, time, unpack}
use Rattle.rows.specs.Order.{Sound, ordered}
use Rattle.table.proofs.Before.{below_le}
use Rattle.table_edit.proofs.Ordering.{insert_ordered, insert_sorted_at, without_ordered}
use Rattle.table_edit.specs.Edits.{Spare, after_insert, after_remove, insert_at, insert_sorted, without}
use lib.ListN.{drop, length, length-append, length-drop, length-take}
use mathlib.Core.List.{List, []}
use mathlib.Core.Path.{◌∙◌, ◌≡◌, ap}
use native.Mathlib.Nat.{zero-add}
use native.Mathlib.Omega.{arith}

pub length_insert_sorted : (e : Entry) (es : List Entry) → length (insert_sorted e es) ≡ length es + 1
length_insert_sorted e es =
    let l = below_le (time e + 1) es in
    rw (insert_sorted_at e es) (unfold insert_at in simp (length-append, length-take, length-drop) (omega arith))

pub length_without : (i m : ℕ) (es : List Entry) → i + m ≤ length es → length (without i m es) ≡ length es - m
unfolding without
length_without i m es h = simp (length-append, length-take, length-drop) (omega arith)

-- the first m removed, as a tick does
pub without_first : (m : ℕ) (es : List Entry) → without 0 m es ≡ drop m es
unfolding without
without_first m es = rw (zero-add m)

module _ (w : List ℕ) (n : ℕ) where
  -- all removed, as a fresh start and `reset` do
  pub without_all : without 0 n (unpack n w) ≡ []
  without_all = without_first n (unpack n w) ∙ past_end n w n (omega arith)

  -- the number of entries afterwards
  pub insert_number : (e : Entry) → length (insert_sorted e (unpack n w)) ≡ n + 1
  insert_number e = rw (length_unpack n w) at (length_insert_sorted e (unpack n w))

  pub remove_number : (i m : ℕ) → i + m ≤ n → length (without i m (unpack n w)) ≡ n - m
  remove_number i m h = let l = length_unpack n w in omega (arith, length_without i m (unpack n w) (omega arith))

  -- the entries that the words hold afterwards
  pub insert_reads : (e : Entry) → unpack (n + 1) (after_insert w n e) ≡ insert_sorted e (unpack n w)
  insert_reads e = rw (insert_number e) at (unpack_relaid w n (insert_sorted e (unpack n w)))

  pub remove_reads : (i m : ℕ) → i + m ≤ n → unpack (n - m) (after_remove w n i m) ≡ without i m (unpack n w)
  remove_reads i m h = rw (remove_number i m h) at (unpack_relaid w n (without i m (unpack n w)))

  pub insert_sound : (e : Entry) → Sound w n → Spare w n → InRange e → Sound (after_insert w n e) (n + 1)
  insert_sound e s p r =
      let a = p.room in
      let b = p.few in
      let l = insert_number e in
      record {
        room = rw (length_relaid w n (insert_sorted e (unpack n w)) (omega arith)) a;
        few = omega arith;
        kept = ap ordered (insert_reads e) ∙ insert_ordered 0 e (unpack n w) s.kept r (omega arith);
      }

  pub remove_sound : (i m : ℕ) → i + m ≤ n → Sound w n → Sound (after_remove w n i m) (n - m)
  remove_sound i m h s =
      let a = s.room in
      let b = s.few in
      let l = remove_number i m h in
      record {
        room = rw (length_relaid w n (without i m (unpack n w)) (omega arith)) (omega arith);
        few = omega arith;
        kept = ap ordered (remove_reads i m h) ∙ without_ordered 0 i m (unpack n w) s.kept;
      }
