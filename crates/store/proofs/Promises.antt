-- The promises, from what the code did to the lists.
use Rattle.std.specs.Prelude.{Ok, Err}
use Prim.Native.Nat.{◌≤◌, ℕ}
use Rattle.address.specs.Address.{pool_of, slot_of}
use Rattle.layout.proofs.Bounds.{bounds}
use Rattle.layout.specs.Judge.{Sound}
use Rattle.layout.specs.Layout.{all_rows}
use Rattle.layout.specs.Limits.{store_free}
use Rattle.lookup.proofs.Judging.{judging_fine}
use Rattle.lookup.proofs.Packets.{PacketAt, held_inside, spot_refused}
use Rattle.lookup.specs.Calls.{if_held, if_named, judging}
use Rattle.lookup.specs.Refusals.{paper}
use Rattle.rules.specs.Papers.{Outcome, Paper, after, done, no, refused, says}
use Rattle.slots.specs.Inside.{spot_of}
use Rattle.slots.specs.Pools.{Pool, find}
use Rattle.slots.specs.View.{Leaves, lens_with, put, store_with, view}
use Rattle.store.proofs.Edit.{leaves_wipe}
use Rattle.laid.proofs.Laid.{leaves_same, lens_laid, same_lens, same_store, store_laid}
use Rattle.store.specs.Calls.{delete_in}
use Rattle.store.specs.Edits.{edit, wipe}
use Rattle.store.specs.Promise.{Does, Writes}
use Rattle.store.specs.Refusals.{done_paper}
use lib.ListN.{length, replicate, set}
use mathlib.Core.List.{List, []}
use mathlib.Core.Path.{◌≡◌, sym}
use Rattle.layout.specs.declared.Setup.{Setup}
use Rattle.slots.specs.declared.Cell.{Cell}
use Rattle.slots.specs.declared.StoreRefusal.{StoreRefusal}

-- a judged call that refuses
pub does_refused : (su : Setup) (st le : List ℕ) (call : List Pool → Outcome (List Pool)) (p : Paper) → call (view su st le) ≡ refused p
    → Does su st le call p st le
unfolding says after
does_refused su st le call p q = record { answer = rw q; lists = rw q (leaves_same su st le) }

pub does_done : (su : Setup) (st le st' le' : List ℕ) (call : List Pool → Outcome (List Pool)) (vs : List ℕ) (ps : List Pool)
    → call (view su st le) ≡ done vs ps → Leaves su st le ps st' le' → Does su st le call (no 0 vs) st' le'
unfolding says after
does_done su st le st' le' call vs ps q l = record { answer = rw q; lists = rw q l }

module _ (su : Setup) (st le st' le' : List ℕ) (fits : all_rows su ≤ length le) where
  store_by : (o : Outcome (List Pool)) → Leaves su st le (after o (view su st le) (λ ps. ps)) st' le' → st' ≡ after o st (store_with su st)
  unfolding after
  store_by (refused p) l = same_store su st le st' le' fits l
  store_by (done vs ps) l = store_laid su st le ps st' le' l

  lens_by : (o : Outcome (List Pool)) → Leaves su st le (after o (view su st le) (λ ps. ps)) st' le' → le' ≡ after o le (lens_with su le)
  unfolding after
  lens_by (refused p) l = same_lens su st le st' le' fits l
  lens_by (done vs ps) l = lens_laid su st le ps st' le' l fits

-- a public call: judged first
module _ (su : Setup) (st le : List ℕ) (call : List Pool → Outcome (List Pool)) where
  pub writes : (p : Paper) (st' le' : List ℕ) → Sound su st le → Does su st le call p st' le' → Writes su st le (judging su st le call) p st' le'
  writes p st' le' s d =
      rw (judging_fine su st le call s)
      (record {
        answer = d.answer;
        store = store_by su st le st' le' (bounds s).rows_fit (call (view su st le)) d.lists;
        lens = lens_by su st le st' le' (bounds s).rows_fit (call (view su st le)) d.lists;
      })

-- delete
module _ (su : Setup) (st le : List ℕ) (a : ℕ) where
  pub delete_refused : (e : StoreRefusal) → Err e ≡ spot_of su a (find (view su st le) a)
      → Does su st le (λ ps. delete_in ps a) (done_paper (Err e)) st le
  unfolding delete_in done_paper
  delete_refused e q = does_refused su st le _ (paper e) (spot_refused su a _ e _ (sym q))

  pub delete_at : Sound su st le → (c : Cell) → PacketAt su st le a c → (st' le' : List ℕ) → st' ≡ put c.from c.size (replicate c.size 0) st
      → le' ≡ set le c.row store_free → Does su st le (λ ps. delete_in ps a) (done_paper (Ok tt)) st' le'
  unfolding delete_in done_paper if_held if_named
  delete_at fine c k st' le' p q =
      let h = held_inside su st le (pool_of a) (slot_of a) _ _ k.there in
      let l = leaves_wipe su st le (bounds fine) (pool_of a) (slot_of a) h.0 h.1 h.2 in
      does_done su st le st' le' (λ ps. delete_in ps a) [] (edit wipe (view su st le) a) (rw k.there) (rw (p, q, k.is) l)
