-- A packet copied to a buffer: what `read` answers and leaves, from where the packet was found.
use Rattle.std.specs.Prelude.{Ok, Err}
use Prim.Native.Nat.{◌<◌, ◌≤◌, ℕ}
use Rattle.address.specs.Address.{address_of, pool_of, slot_of}
use Rattle.lookup.proofs.Finding.{found_held_at}
use Rattle.lookup.specs.Calls.{if_held, if_named, packet_in}
use Rattle.lookup.specs.Promise.{Finds, Reads, found_as}
use Rattle.lookup.specs.Refusals.{length_paper, paper}
use Rattle.reading.specs.Reading.{read_in}
use Rattle.rules.specs.Papers.{Outcome, Paper, after, done, no, refused, says}
use Rattle.rules.specs.Tests.{unless}
use Rattle.slots.specs.Pools.{Found, find, held, no_pool, no_slot, over, vacant}
use Rattle.slots.specs.View.{part, view}
use borrow.Author.Tests.{le-leb, lt-leb}
use lib.ListN.{length, take}
use mathlib.Core.List.{List, [], ◌∷◌}
use mathlib.Core.Path.{◌∙◌, ◌≡◌, ap, refl, sym}
use native.Mathlib.Omega.{arith}
use Rattle.layout.specs.declared.Setup.{Setup}
use Rattle.lookup.specs.declared.Span.{Span}
use Rattle.slots.specs.declared.StoreRefusal.{StoreRefusal}
use Rattle.slots.specs.declared.StoreRefusal.TheVariants.{BufferTooSmall}

refused_by : {A : Type 0} (a : ℕ) (p : Paper) (x : Found) (f : ℕ → List ℕ → Outcome A) → refused p ≡ if_held a x (λ m b. done (m ∷ []) (take m b))
    → if_held a x f ≡ refused p
unfolding if_held if_named
refused_by a p no_pool f q = let e : p ≡ no 16 (pool_of a ∷ []) = cc in ap refused (sym e)
refused_by a p no_slot f q = let e : p ≡ no 17 (slot_of a ∷ []) = cc in ap refused (sym e)
refused_by a p vacant f q = let e : p ≡ no 18 (address_of (pool_of a) (slot_of a) ∷ []) = cc in ap refused (sym e)
refused_by a p (held m b) f q = let z : ◌≡◌ {A = ℕ} 0 1 = cc in absurd (omega arith)

module _ (su : Setup) (st le : List ℕ) (a : ℕ) (buf : List ℕ) where
  pub read_refused : (e : StoreRefusal) → Finds su st le a (Err e) → Reads (read_in (view su st le) a buf) buf (length_paper (Err e)) buf
  unfolding read_in packet_in found_as length_paper says after
  read_refused e f = rw (refused_by a (paper e) (find (view su st le) a) _ f.same) (record { answer = refl; buffer = refl })

  pub read_small : (s : Span) → Finds su st le a (Ok s) → length buf < s.len
      → Reads (read_in (view su st le) a buf) buf (length_paper (Err (BufferTooSmall (length buf) s.len))) buf
  unfolding read_in if_held if_named length_paper paper says after unless
  read_small s f l = let h = found_held_at su st le a s f in rw (h.1, lt-leb _ _ l) (record { answer = refl; buffer = refl })

  pub read_at : (s : Span) → Finds su st le a (Ok s) → s.len ≤ length buf → (buf' : List ℕ)
      → buf' ≡ over (part s.from s.len st) buf → Reads (read_in (view su st le) a buf) buf (length_paper (Ok s.len)) buf'
  unfolding read_in if_held if_named length_paper says after unless
  read_at s f l buf' e =
      let h = found_held_at su st le a s f in
      rw (h.1, le-leb _ _ l) (record { answer = refl; buffer = e ∙ ap (λ (x : List ℕ). over x buf) (sym h.2) })
