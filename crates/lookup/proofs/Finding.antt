-- What a search answers, from what the code read, and what is there where it found a packet.
use Rattle.std.specs.Prelude.{Ok, Err}
use Prim.Native.Nat.{ℕ}
use Rattle.lookup.proofs.Packets.{PacketAt, spot_refused}
use Rattle.lookup.specs.Calls.{if_held, if_named, packet_in}
use Rattle.lookup.specs.Promise.{Finds, found_as}
use Rattle.rules.specs.Papers.{done}
use Rattle.slots.specs.Inside.{spot_of}
use Rattle.slots.specs.Pools.{Found, find, held, no_pool, no_slot, vacant}
use Rattle.slots.specs.View.{part, view}
use lib.ListN.{get_or, take}
use lib.Seq.{take-take}
use mathlib.Core.List.{List, [], ◌∷◌}
use mathlib.Core.Path.{◌∙◌, ◌≡◌, ap, sym}
use native.Mathlib.Omega.{arith}
use Rattle.layout.specs.declared.Setup.{Setup}
use Rattle.lookup.specs.declared.Span.{Span}
use Rattle.slots.specs.declared.Cell.{Cell}
use Rattle.slots.specs.declared.StoreRefusal.{StoreRefusal}

module _ (su : Setup) (st le : List ℕ) (a : ℕ) where
  pub finds_refused : (e : StoreRefusal) → Err e ≡ spot_of su a (find (view su st le) a) → Finds su st le a (Err e)
  unfolding found_as packet_in
  finds_refused e q = record { same = sym (spot_refused su a _ e _ (sym q)); inside = tt }

  pub finds_at : (c : Cell) → PacketAt su st le a c → (n : ℕ) → n ≡ get_or le c.row 0 → Finds su st le a (Ok (record { from = c.from; len = n }))
  unfolding found_as packet_in if_held if_named part
  finds_at c k n e =
      let s = k.short in
      let w = k.inside.bytes_fit in
      let z = k.inside.small in
      record {
        same = rw (k.there, e) (ap (λ (l : List ℕ). done (get_or le c.row 0 ∷ []) l) (sym (take-take (get_or le c.row 0) c.size _ s)));
        inside = (ap (λ (x : Cell). x.from) k.is, omega arith, omega arith);
      }

-- what is known where looking a packet up is done
pub held_by : (a n : ℕ) (l : List ℕ) (x : Found) → done (n ∷ []) l ≡ if_held a x (λ m b. done (m ∷ []) (take m b))
    → (raw : List ℕ) × (x ≡ held n raw) × (take n raw ≡ l)
unfolding if_held if_named
held_by a n l no_pool q = let z : ◌≡◌ {A = ℕ} 0 1 = cc in absurd (omega arith)
held_by a n l no_slot q = let z : ◌≡◌ {A = ℕ} 0 1 = cc in absurd (omega arith)
held_by a n l vacant q = let z : ◌≡◌ {A = ℕ} 0 1 = cc in absurd (omega arith)
held_by a n l (held m b) q =
    let e : m ≡ n = cc in
    let f : take m b ≡ l = cc in
    (b, ap (λ (k : ℕ). held k b) e, ap (λ (k : ℕ). take k b) (sym e) ∙ f)

module _ (su : Setup) (st le : List ℕ) (a : ℕ) where
  pub found_held_at : (s : Span) → Finds su st le a (Ok s)
      → (raw : List ℕ) × (find (view su st le) a ≡ held s.len raw) × (take s.len raw ≡ part s.from s.len st)
  unfolding found_as packet_in
  found_held_at s f = held_by a s.len _ _ f.same
