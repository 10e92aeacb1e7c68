-- What was added is read back, at the address that was answered, until it is deleted or modified, whatever else is added, deleted or modified.
use Prim.Native.Nat.{◌≤◌, ℕ}
use Rattle.rules.specs.Papers.{done, no, refused}
use Rattle.rules.specs.Tests.{unless}
use Rattle.address.specs.Address.{pool_of, slot_of}
use Rattle.store.specs.Calls.{add_in, delete_in}
use Rattle.lookup.specs.Calls.{if_held, if_named, packet_in}
use Rattle.reading.specs.Reading.{read_in}
use Rattle.layout.specs.Judge.{Sound}
use Rattle.slots.specs.Pools.{Pool, over}
use Rattle.store.specs.Edits.{edit, wipe}
use Rattle.slots.specs.View.{view}
use Rattle.store_laws.proofs.Elsewhere.{slot_here, slot_seen}
use Rattle.store_laws.proofs.Keeping.{Kept, added, held_packet, run_keeps}
use Rattle.store_laws.specs.Requests.{AllSpare, StoreRequest, run}
use borrow.Author.Tests.{le-leb}
use lib.ListN.{length}
use mathlib.Core.List.{List, [], ◌∷◌}
use mathlib.Core.Path.{◌∙◌, ◌≡◌, ap}
use Rattle.layout.specs.declared.Setup.{Setup}

-- d was added and a answered; then come any requests that neither delete nor modify the slot that a names.
-- Whoever asks for the packet at a gets d; a read gets d; a deletion is done, and makes it 18
module _ (su : Setup) (st le : List ℕ) (s : Sound su st le) (d : List ℕ) (a : ℕ) (qs : List Pool)
    (q : add_in su.spill (view su st le) d ≡ done (a ∷ []) qs)
    (rs : List StoreRequest) (o : AllSpare a rs) where
  pub packet_back : packet_in (run su.spill qs rs) a ≡ done (length d ∷ []) d
  unfolding Kept
  packet_back =
      let k = (added su st le s d a qs q).0 in
      let h = run_keeps su.spill qs rs a (length d) k.0 o k.1 in
      held_packet _ a (length d) k.0 (slot_seen _ (pool_of a) (slot_of a) _ h) ∙ ap (done (length d ∷ [])) k.2

  pub read_back : (buf : List ℕ) → length d ≤ length buf → read_in (run su.spill qs rs) a buf ≡ done (length d ∷ []) (over d buf)
  unfolding Kept read_in if_held if_named unless
  read_back buf l =
      let k = (added su st le s d a qs q).0 in
      let h = slot_seen _ (pool_of a) (slot_of a) _ (run_keeps su.spill qs rs a (length d) k.0 o k.1) in
      rw (h, le-leb _ _ l, k.2)

  pub deleted_gone : (ps : List Pool) × (delete_in (run su.spill qs rs) a ≡ done [] ps) × (packet_in ps a ≡ refused (no 18 (a ∷ [])))
  unfolding Kept delete_in packet_in if_held if_named
  deleted_gone =
      let e = added su st le s d a qs q in
      let k = e.0 in
      let h = run_keeps su.spill qs rs a (length d) k.0 o k.1 in
      let g = slot_seen _ (pool_of a) (slot_of a) _ (slot_here wipe (run su.spill qs rs) (pool_of a) (slot_of a) _ h) in
      (edit wipe (run su.spill qs rs) a, rw (slot_seen _ (pool_of a) (slot_of a) _ h), rw (g, e.1))
