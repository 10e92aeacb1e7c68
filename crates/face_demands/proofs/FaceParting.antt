-- `part` and what the caller then writes, over the store: it is what modify answers and leaves.
use Rattle.std.specs.Prelude.{Ok}
use Prim.Native.Nat.{ℕ}
use Rattle.address.specs.Address.{address_of, pool_of, slot_of}
use Rattle.face.specs.Face.{Answers, roomy}
use Rattle.face.specs.StoreFace.{part_in}
use Rattle.face_demands.specs.FaceCalling.{FaceAnswer, caller_writes, written_at}
use Rattle.face_laws.proofs.Wording.{words_are}
use Rattle.face_words.specs.Padding.{answer_words, padded}
use Rattle.layout.specs.Judge.{Sound, buffers_ok, judged, lens_ok, setup_ok}
use Rattle.layout.specs.declared.Setup.{Setup}
use Rattle.lookup.proofs.Finding.{finds_at}
use Rattle.lookup.proofs.Judging.{judging_fine}
use Rattle.lookup.proofs.Packets.{packet_there}
use Rattle.lookup.specs.Calls.{if_held, if_named, judging, packet_in}
use Rattle.lookup.specs.Promise.{Finds, found_as, packet_start}
use Rattle.lookup.specs.declared.Span.{Span}
use Rattle.rules.specs.Papers.{Outcome, Paper, after, done, judged_by, no, refused, says}
use Rattle.rules.specs.Tests.{unless}
use Rattle.slots.proofs.Lists.{part_length}
use Rattle.slots.specs.Inside.{cell_of}
use Rattle.slots.specs.Pools.{Found, find, held, no_pool, no_slot, over, vacant}
use Rattle.slots.specs.View.{part, put, view}
use borrow.Author.Tests.{ne_eqb}
use lib.Dec.{eqb}
use lib.ListN.{drop, length, take}
use mathlib.Core.Bool.{Bool, false, true}
use mathlib.Core.List.{List, [], ◌++◌, ◌∷◌}
use mathlib.Core.Path.{◌∙◌, ◌≡◌, ap, refl, sym}
use native.Mathlib.Omega.{arith}

-- what `part` and what looking the packet up come to: the same refusal, or the packet b at its start
pub data Alike (su : Setup) (st : List ℕ) (a : ℕ) : Outcome (Unit {0}) → Outcome (List ℕ) → Type 0 where
  both_refuse : (p : Paper) → (p.number ≡ 0 → ⊥) → Alike su st a (refused p) (refused p)
  both_find : (n : ℕ) (b : List ℕ) → b ≡ part (packet_start su a) n st → length b ≡ n
      → Alike su st a (done (packet_start su a ∷ n ∷ []) tt) (done (n ∷ []) b)

done_both : (m n : ℕ) (b c : List ℕ) → done (m ∷ []) b ≡ done (n ∷ []) c → (m ≡ n) × (b ≡ c)
done_both m n b c e = (cc, cc)

module _ (su : Setup) (st le : List ℕ) (a : ℕ) where
  found : (s : Span) → Finds su st le a (Ok s) → (n : ℕ) (b : List ℕ) → packet_in (view su st le) a ≡ done (n ∷ []) b
      → (b ≡ part (packet_start su a) n st) × (length b ≡ n)
  unfolding found_as
  found s f n b e =
      let i = f.inside in
      let d = done_both s.len n (part s.from s.len st) b (f.same ∙ e) in
      let q : b ≡ part (packet_start su a) n st = sym d.1 ∙ ap (λ m. part m s.len st) i.0 ∙ ap (λ m. part (packet_start su a) m st) d.0 in
      (q, ap length (sym d.1) ∙ part_length s.from s.len st i.1 ∙ d.0)

  sound_alike : Sound su st le → Alike su st a (part_in a su (view su st le)) (packet_in (view su st le) a)
  unfolding part_in packet_in if_held if_named
  sound_alike s = go (find (view su st le) a) refl
    where
      go : (x : Found) → find (view su st le) a ≡ x
          → Alike su st a (if_held a x (λ n b. done (packet_start su a ∷ n ∷ []) tt)) (if_held a x (λ n b. done (n ∷ []) (take n b)))
      go no_pool e = both_refuse (no 16 (pool_of a ∷ [])) (λ z. omega arith)
      go no_slot e = both_refuse (no 17 (slot_of a ∷ [])) (λ z. omega arith)
      go vacant e = both_refuse (no 18 (address_of (pool_of a) (slot_of a) ∷ [])) (λ z. omega arith)
      go (held n b) e =
          let f =
          found _ (finds_at su st le a (cell_of su (pool_of a) (slot_of a)) (packet_there su st le s a n b e) _ refl) n (take n b) (rw e) in
          both_find n (take n b) f.0 f.1

  pub alike : Alike su st a (judging su st le (part_in a su)) (judging su st le (λ ps. packet_in ps a))
  unfolding judging judged judged_by unless
  alike = go (setup_ok su) refl (buffers_ok su (length st) (length le)) refl (lens_ok su le) refl
    where
      go : (x : Bool) → setup_ok su ≡ x → (y : Bool) → buffers_ok su (length st) (length le) ≡ y → (z : Bool) → lens_ok su le ≡ z
          → Alike su st a (judging su st le (part_in a su)) (judging su st le (λ ps. packet_in ps a))
      go false p y q z r = rw p (both_refuse (no 1 []) (λ e. omega arith))
      go true p false q z r = rw (p, q) (both_refuse (no 2 []) (λ e. omega arith))
      go true p true q false r = rw (p, q, r) (both_refuse (no 3 []) (λ e. omega arith))
      go true p true q true r =
          let s : Sound su st le = record { setup = p; buffers = q; lengths = r } in
          rw (judging_fine su st le (part_in a su) s, judging_fine su st le (λ ps. packet_in ps a) s) (sound_alike s)

unwritten : (b : Bool) (st wr : List ℕ) → b ≡ false → unless b st wr ≡ st
unfolding unless
unwritten b st wr e = rw e

-- a refusal: nothing is written
pub part_keeps : (x : FaceAnswer) (ys st : List ℕ) → (x.number ≡ 0 → ⊥) → caller_writes x ys st ≡ st
unfolding caller_writes
part_keeps x ys st h = unwritten (eqb x.number 0) st _ (ne_eqb x.number 0 h)

module _ (su : Setup) (st : List ℕ) (a : ℕ) (an : List ℕ) (x : FaceAnswer) (room : roomy an ≡ true) where
  -- the number is modify's, and the words are its values behind the offset
  pub part_tells : (o : Outcome (Unit {0})) (k : Outcome (List ℕ)) → Alike su st a o k → Answers o an x.number x.words
      → (x.number ≡ (says k).number)
      × (x.words
      ≡ padded (unless (eqb (says k).number 0) (says k).values (packet_start su a ∷ (says k).values)) ++ drop answer_words an)
  unfolding says unless
  part_tells o k (both_refuse p h) c = (c.number, words_are _ an _ _ room c ∙ rw (ne_eqb p.number 0 h))
  part_tells o k (both_find n b e l) c = (c.number, words_are _ an _ _ room c)

  same_put : (from n : ℕ) (ys b : List ℕ) → b ≡ part from n st → length b ≡ n
      → written_at from n ys st ≡ put from (length b) (over (take (length b) ys) b) st
  unfolding written_at
  same_put from n ys b e l = rw (l, e)

  -- what the caller writes is what is written through modify
  pub part_writes : (o : Outcome (Unit {0})) (k : Outcome (List ℕ)) → Alike su st a o k → Answers o an x.number x.words → (ys : List ℕ)
      → caller_writes x ys st ≡ after k st (λ b. put (packet_start su a) (length b) (over (take (length b) ys) b) st)
  unfolding caller_writes says unless after padded
  part_writes o k (both_refuse p h) c ys = part_keeps x ys st (λ e. h (sym c.number ∙ e))
  part_writes o k (both_find n b e l) c ys =
      rw (c.number, words_are _ an _ _ room c) (same_put (packet_start su a) n ys b e l)
