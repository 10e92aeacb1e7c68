-- Where a packet's bytes lie, from the store's search.
use Rattle.std.specs.Prelude.{Result, Ok, Err}
use Prim.Native.Nat.{ℕ}
use Rattle.rules.specs.Papers.{Outcome, Paper, done, no, refused, says}
use Rattle.lookup.proofs.Judging.{judging_fine}
use Rattle.lookup.specs.Calls.{if_held, if_named, judging, packet_in}
use Rattle.layout.specs.Judge.{Sound}
use Rattle.slots.specs.Pools.{Found, find, held, no_pool, no_slot, vacant}
use Rattle.lookup.specs.Promise.{Finds, found_as, packet_start}
use Rattle.lookup.specs.Refusals.{paper}
use Rattle.slots.specs.View.{view}
use Rattle.layout.specs.declared.Setup.{Setup}
use Rattle.lookup.specs.declared.Span.{Span}
use Rattle.slots.specs.declared.StoreRefusal.{StoreRefusal}
use Rattle.face_words.proofs.Told.{two_is}
use Rattle.face_words.specs.Inside.{words_of}
use Rattle.face.specs.StoreFace.{part_in}
use Rattle.face_words.specs.declared.Words.{Words}
use lib.ListN.{take}
use mathlib.Core.List.{List, [], ◌∷◌}
use mathlib.Core.Path.{◌∙◌, ◌≡◌}
use native.Mathlib.Omega.{arith}

abbrev Placed : ℕ → ℕ → Found → Outcome (Unit {0})
Placed a k x = if_held a x (λ n b. done (k ∷ n ∷ []) tt)

abbrev Packet : ℕ → Found → Outcome (List ℕ)
Packet a x = if_held a x (λ n b. done (n ∷ []) (take n b))

refused_part : (a k : ℕ) (x : Found) (p : Paper) → refused p ≡ Packet a x → Placed a k x ≡ refused p
unfolding if_held if_named
refused_part a k no_pool p e = cc
refused_part a k no_slot p e = cc
refused_part a k vacant p e = cc
refused_part a k (held n b) p e = let z : ◌≡◌ {A = ℕ} 0 1 = cc in absurd (omega arith)

found_part : (a k : ℕ) (x : Found) (m : ℕ) (bs : List ℕ) → done (m ∷ []) bs ≡ Packet a x → Placed a k x ≡ done (k ∷ m ∷ []) tt
unfolding if_held if_named
found_part a k no_pool m bs e = let z : ◌≡◌ {A = ℕ} 0 1 = cc in absurd (omega arith)
found_part a k no_slot m bs e = let z : ◌≡◌ {A = ℕ} 0 1 = cc in absurd (omega arith)
found_part a k vacant m bs e = let z : ◌≡◌ {A = ℕ} 0 1 = cc in absurd (omega arith)
found_part a k (held n b) m bs e = cc

module _ (su : Setup) (st le : List ℕ) (a : ℕ) (s : Sound su st le) (r : Result Span StoreRefusal) (f : Finds su st le a r) where
  whole : judging su st le (part_in a su) ≡ Placed a (packet_start su a) (find (view su st le) a)
  unfolding part_in
  whole = judging_fine su st le (part_in a su) s

  pub part_refused : (e : StoreRefusal) (w : Words) → r ≡ Err e → w ≡ words_of (paper e) → w ≡ words_of (says (judging su st le
      (part_in a su)))
  unfolding packet_in found_as says
  part_refused e w q h =
      let g : refused (paper e) ≡ Packet a (find (view su st le) a) = rw q at f.same in
      rw (whole, refused_part a (packet_start su a) (find (view su st le) a) (paper e) g) h

  pub part_found : (v : Span) (w : Words) (x y : ℕ) → r ≡ Ok v → w ≡ words_of (no 0 (x ∷ y ∷ [])) → x ≡ v.from → y ≡ v.len
      → w ≡ words_of (says (judging su st le (part_in a su)))
  unfolding packet_in found_as says
  part_found v w x y q h i j =
      let i' = rw q at f.inside in
      rw (whole, found_part a (packet_start su a) (find (view su st le) a) v.len _ (rw q at f.same)) (two_is h (i ∙ i'.0) j)
