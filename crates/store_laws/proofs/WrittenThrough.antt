-- What a caller writes himself over a packet's bytes, through the part that `modify_part` lends or at the place that he was told, is a modify
-- with those bytes; and a modify with none is one that only answers.
use Prim.Native.Nat.{zero, suc, ℕ}
use Rattle.address.specs.Address.{pool_of, slot_of}
use Rattle.laid.proofs.Laid.{leaves_as, leaves_same, store_laid}
use Rattle.layout.specs.Judge.{Sound, buffers_ok, judged, lens_ok, setup_ok}
use Rattle.layout.specs.declared.Setup.{Setup}
use Rattle.lookup.specs.Calls.{if_held, if_named, judging, packet_in}
use Rattle.lookup.specs.Promise.{packet_start}
use Rattle.rules.specs.Papers.{Outcome, after, done, judged_by, refused, says}
use Rattle.rules.specs.Tests.{unless}
use Rattle.slots.specs.Pools.{Found, Pool, Slot, find, free, held, no_pool, no_slot, over, taken, vacant}
use Rattle.slots.specs.View.{put, store_with, view}
use Rattle.store.proofs.Modifying.{modify_at, modify_leaves, modify_refused}
use Rattle.store.proofs.Promises.{does_done, writes}
use Rattle.store.specs.Calls.{modify_in}
use Rattle.store.specs.Edits.{edit, edit_at, edit_slot, rewrite}
use Rattle.store.specs.Promise.{Writes}
use lib.ListN.{length, take}
use mathlib.Core.Bool.{Bool, false, true}
use mathlib.Core.List.{List, [], ◌∷◌}
use mathlib.Core.Path.{◌≡◌, ap, refl, subst, sym}

-- an edit that changes no slot changes nothing
slots_same : (f : Slot → Slot) → ((x : Slot) → f x ≡ x) → (xs : List Slot) (i : ℕ) → edit_slot f xs i ≡ xs
slots_same f h [] i = refl
slots_same f h (x ∷ xs) zero = ap (λ (y : Slot). y ∷ xs) (h x)
slots_same f h (x ∷ xs) (suc i) = ap (λ (ys : List Slot). x ∷ ys) (slots_same f h xs i)

edit_same : (f : Slot → Slot) → ((x : Slot) → f x ≡ x) → (ps : List Pool) (k i : ℕ) → edit_at f ps k i ≡ ps
unfolding edit_at
edit_same f h [] k i = refl
edit_same f h (p ∷ ps) zero i = ap (λ (xs : List Slot). record { size = p.size; slots = xs } ∷ ps) (slots_same f h p.slots i)
edit_same f h (p ∷ ps) (suc k) i = ap (λ (qs : List Pool). p ∷ qs) (edit_same f h ps k i)

nothing_over : (x : Slot) → rewrite [] x ≡ x
unfolding over
nothing_over (free b) = refl
nothing_over (taken zero b) = refl
nothing_over (taken (suc n) b) = refl

kept : {A : Type 0} (o : Outcome A) (st : List ℕ) → after o st (λ b. st) ≡ st
unfolding after
kept (refused p) st = refl
kept (done vs x) st = refl

module _ (su : Setup) (st le : List ℕ) where
  -- what holds of sound lists holds of all: where judging refuses, both calls do, and nothing is written
  if_judged : (call : List Pool → Outcome (List Pool)) (ask : List Pool → Outcome (List ℕ)) (f : List ℕ → List ℕ)
      → (Sound su st le → Writes su st le (judging su st le call) (says (ask (view su st le))) (after (ask (view su st le)) st f) le)
      → Writes su st le (judging su st le call) (says (judging su st le ask)) (after (judging su st le ask) st f) le
  unfolding judging judged judged_by unless says after
  if_judged call ask f h = go (setup_ok su) refl (buffers_ok su (length st) (length le)) refl (lens_ok su le) refl
    where
      go : (x : Bool) → setup_ok su ≡ x → (y : Bool) → buffers_ok su (length st) (length le) ≡ y → (z : Bool) → lens_ok su le ≡ z
          → Writes su st le (judging su st le call) (says (judging su st le ask)) (after (judging su st le ask) st f) le
      go false p y q z r = rw p (record { answer = refl; store = refl; lens = refl })
      go true p false q z r = rw (p, q) (record { answer = refl; store = refl; lens = refl })
      go true p true q false r = rw (p, q, r) (record { answer = refl; store = refl; lens = refl })
      go true p true q true r = rw (p, q, r) (rw (p, q, r) at (h (record { setup = p; buffers = q; lengths = r })))

  module _ (a : ℕ) where
    -- a packet that is found, by its bytes b: ys over them is what is left of the store
    pub written_store : (ys : List ℕ) → Sound su st le → (n : ℕ) (b : List ℕ) → packet_in (view su st le) a ≡ done (n ∷ []) b
        → put (packet_start su a) (length b) (over (take (length b) ys) b) st ≡ store_with su st (edit (rewrite ys) (view su st le) a)
    written_store ys s n b q = store_laid su st le _ _ le (modify_leaves su st le a ys s n b q)

    sound_written : (ys : List ℕ) → Sound su st le
        → Writes su st le (judging su st le (λ ps. modify_in ps a ys)) (says (packet_in (view su st le) a))
        (after (packet_in (view su st le) a) st (λ b. put (packet_start su a) (length b) (over (take (length b) ys) b) st)) le
    unfolding packet_in if_held if_named says after
    sound_written ys s = go (find (view su st le) a) refl
      where
        go : (x : Found) → find (view su st le) a ≡ x
            → Writes su st le (judging su st le (λ ps. modify_in ps a ys)) (says (packet_in (view su st le) a))
            (after (packet_in (view su st le) a) st (λ b. put (packet_start su a) (length b) (over (take (length b) ys) b) st)) le
        go no_pool e = rw e (writes su st le _ _ st le s (modify_refused su st le a ys _ (rw e)))
        go no_slot e = rw e (writes su st le _ _ st le s (modify_refused su st le a ys _ (rw e)))
        go vacant e = rw e (writes su st le _ _ st le s (modify_refused su st le a ys _ (rw e)))
        go (held n b) e = rw e (writes su st le _ _ _ le s (modify_at su st le a ys s n (take n b) (rw e)))

    -- any lists: the answer is the look's, and where it is no refusal ys goes over the packet's bytes
    pub written_through : (ys : List ℕ)
        → Writes su st le (judging su st le (λ ps. modify_in ps a ys)) (says (judging su st le (λ ps. packet_in ps a)))
        (after (judging su st le (λ ps. packet_in ps a)) st (λ b. put (packet_start su a) (length b) (over (take (length b) ys) b) st)) le
    written_through ys = if_judged _ _ _ (sound_written ys)

    sound_none : Sound su st le
        → Writes su st le (judging su st le (λ ps. modify_in ps a [])) (says (packet_in (view su st le) a)) st le
    unfolding packet_in modify_in if_held if_named says after
    sound_none s = go (find (view su st le) a) refl
      where
        same : edit (rewrite []) (view su st le) a ≡ view su st le
        same = edit_same (rewrite []) nothing_over (view su st le) (pool_of a) (slot_of a)

        go : (x : Found) → find (view su st le) a ≡ x
            → Writes su st le (judging su st le (λ ps. modify_in ps a [])) (says (packet_in (view su st le) a)) st le
        go no_pool e = rw e (writes su st le _ _ st le s (modify_refused su st le a [] _ (rw e)))
        go no_slot e = rw e (writes su st le _ _ st le s (modify_refused su st le a [] _ (rw e)))
        go vacant e = rw e (writes su st le _ _ st le s (modify_refused su st le a [] _ (rw e)))
        go (held n b) e =
            rw e
            (writes su st le _ _ st le s
            (does_done su st le st le (λ ps. modify_in ps a []) (n ∷ []) (edit (rewrite []) (view su st le) a) (rw e)
            (leaves_as su st le (view su st le) _ st le (sym same) (leaves_same su st le))))

    pub written_none : Writes su st le (judging su st le (λ ps. modify_in ps a [])) (says (judging su st le (λ ps. packet_in ps a))) st le
    written_none =
        subst
        (λ (x : List ℕ). Writes su st le (judging su st le (λ ps. modify_in ps a [])) (says (judging su st le (λ ps. packet_in ps a))) x le)
        (kept (judging su st le (λ ps. packet_in ps a)) st)
        (if_judged _ _ (λ b. st) (λ s. subst
        (λ (x : List ℕ). Writes su st le (judging su st le (λ ps. modify_in ps a [])) (says (packet_in (view su st le) a)) x le)
        (sym (kept (packet_in (view su st le) a) st)) (sound_none s)))
