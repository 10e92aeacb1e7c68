-- What a modify that is given its bytes promises, from what looking the packet up comes to.
use Prim.Native.Nat.{◌+◌, ℕ}
use Rattle.address.specs.Address.{pool_of, slot_of}
use Rattle.layout.proofs.Bounds.{bounds}
use Rattle.layout.specs.Judge.{Sound}
use Rattle.layout.specs.Layout.{rows_before}
use Rattle.layout.specs.declared.Setup.{Setup}
use Rattle.lookup.proofs.Finding.{finds_at, held_by}
use Rattle.lookup.proofs.Packets.{held_inside, packet_there}
use Rattle.lookup.specs.Calls.{if_held, if_named, packet_in}
use Rattle.lookup.specs.Promise.{found_as, packet_start}
use Rattle.rules.specs.Papers.{Outcome, Paper, done, no, refused}
use Rattle.slots.proofs.Lists.{part_length}
use Rattle.slots.specs.Inside.{cell_of}
use Rattle.slots.specs.Pools.{Found, Pool, find, held, no_pool, no_slot, over, vacant}
use Rattle.slots.specs.View.{Leaves, part, put, view}
use Rattle.store.proofs.Edit.{leaves_rewrite}
use Rattle.store.proofs.Promises.{does_done, does_refused}
use Rattle.store.specs.Calls.{modify_in}
use Rattle.store.specs.Edits.{edit, rewrite}
use Rattle.store.specs.Promise.{Does}
use lib.ListN.{get_or, length, take}
use mathlib.Core.List.{List, [], ◌∷◌}
use mathlib.Core.Path.{◌∙◌, ◌≡◌, ap, subst, sym}
use native.Mathlib.Omega.{arith}

refused_by : (a : ℕ) (x : Found) (p : Paper) (f : ℕ → List ℕ → Outcome (List Pool)) → if_held a x (λ n b. done (n ∷ []) (take n b)) ≡ refused p
    → if_held a x f ≡ refused p
unfolding if_held if_named
refused_by a no_pool p f q = cc
refused_by a no_slot p f q = cc
refused_by a vacant p f q = cc
refused_by a (held n b) p f q = let z : ◌≡◌ {A = ℕ} 0 1 = cc in absurd (omega arith)

same_put : (from n : ℕ) (ys b st : List ℕ) → b ≡ part from n st → length b ≡ n
    → put from n (over (take n ys) (part from n st)) st ≡ put from (length b) (over (take (length b) ys) b) st
same_put from n ys b st e l = rw (l, e)

held_alike : (m n : ℕ) (b c : List ℕ) → held m b ≡ held n c → m ≡ n
held_alike m n b c q = cc

done_alike : (vs : List ℕ) (b c : List ℕ) → done vs b ≡ done vs c → b ≡ c
done_alike vs b c q = cc

module _ (su : Setup) (st le : List ℕ) (a : ℕ) (ys : List ℕ) where
  pub modify_refused : (p : Paper) → packet_in (view su st le) a ≡ refused p → Does su st le (λ ps. modify_in ps a ys) p st le
  unfolding packet_in modify_in
  modify_refused p q = does_refused su st le _ p (refused_by a _ p _ q)

  module _ (fine : Sound su st le) (n : ℕ) (b : List ℕ) (q : packet_in (view su st le) a ≡ done (n ∷ []) b) where
    abbrev there : (raw : List ℕ) × (find (view su st le) a ≡ held n raw) × (take n raw ≡ b)
    unfolding packet_in
    there = held_by a n b _ (sym q)

    -- ys over the packet's bytes b is the packet rewritten, and nothing else
    pub modify_leaves : Leaves su st le (edit (rewrite ys) (view su st le) a)
        (put (packet_start su a) (length b) (over (take (length b) ys) b) st) le
    unfolding found_as
    modify_leaves =
        let h = held_inside su st le (pool_of a) (slot_of a) n there.0 there.1 in
        let k = packet_there su st le fine a n there.0 there.1 in
        let e : get_or le (rows_before su (pool_of a) + slot_of a) 0 ≡ n = held_alike _ _ _ _ (sym k.there ∙ there.1) in
        let f = finds_at su st le a (cell_of su (pool_of a) (slot_of a)) k n (sym e) in
        let r : b ≡ part (packet_start su a) n st = done_alike _ _ _ (sym q ∙ sym f.same) in
        let l : length b ≡ n = ap length r ∙ part_length (packet_start su a) n st f.inside.1 in
        subst (λ (x : List ℕ). Leaves su st le (edit (rewrite ys) (view su st le) a) x le) (same_put (packet_start su a) n ys b st r l)
        (leaves_rewrite su st le (bounds fine) (pool_of a) (slot_of a) h.0 h.1 ys n e (λ z. h.2 (e ∙ z)))

    pub modify_at : Does su st le (λ ps. modify_in ps a ys) (no 0 (n ∷ []))
        (put (packet_start su a) (length b) (over (take (length b) ys) b) st) le
    unfolding modify_in if_held if_named
    modify_at =
        does_done su st le _ le (λ ps. modify_in ps a ys) (n ∷ []) (edit (rewrite ys) (view su st le) a) (rw there.1) modify_leaves
