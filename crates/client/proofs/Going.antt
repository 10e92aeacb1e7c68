-- The loop: what is left of the fold, over the store's promise.
use Rattle.std.specs.Prelude.{Result, is_ok}
use Rattle.slots.specs.declared.StoreRefusal.{StoreRefusal}
use Prim.Native.Nat.{◌+◌, ◌<◌, ◌≤◌, ℕ}
use mir.Val.{bool_byte}
use Rattle.client.specs.Sweep.{count_all, one, sweep_in, without_one, without_all}
use Rattle.rules.specs.Papers.{after, no, says}
use Rattle.laid.proofs.Laid.{leaves_as, leaves_now, leaves_same, leaves_then}
use Rattle.store.specs.Calls.{delete_in}
use Rattle.layout.specs.Judge.{Sound}
use Rattle.slots.specs.Pools.{Pool}
use Rattle.store.specs.Promise.{Does}
use Rattle.store.specs.Refusals.{done_paper}
use Rattle.slots.specs.View.{Leaves, view}
use Rattle.store_laws.proofs.StaysSound.{delete_stays}
use lib.ListN.{drop, drop_of_length-le, get_or, length}
use lib.Seq.{drop-cons}
use mathlib.Core.Bool.{Bool, false, true}
use mathlib.Core.List.{List, [], ◌∷◌}
use mathlib.Core.Path.{◌∙◌, ◌≡◌, ap, refl}
use native.Mathlib.Numerals.{add-one}
use native.Mathlib.Omega.{arith}
use Rattle.layout.specs.declared.Setup.{Setup}
use Rattle.store_laws.proofs.Numbers.{by_deleted}

pub record Going (su : Setup) (st₀ le₀ addrs st le : List ℕ) (gone i : ℕ) : Type 0 where
  pub at_most : i ≤ length addrs
  pub few : gone ≤ i
  pub sound : Sound su st le
  pub frame : Leaves su st₀ le₀ (view su st le) st le
  pub goes : without_all (drop i addrs) (view su st le) ≡ without_all addrs (view su st₀ le₀)
  pub counts : gone + count_all (drop i addrs) (view su st le) ≡ count_all addrs (view su st₀ le₀)

pub going_first : (su : Setup) (st le addrs : List ℕ) → Sound su st le → Going su st le addrs st le 0 0
going_first su st le addrs s =
    record
    { at_most = omega arith; few = omega arith; sound = s; frame = leaves_same su st le; goes = refl; counts = omega arith }

-- the answer tells whether the packet was there
count_is : (ps : List Pool) (a : ℕ) (r : Result (Unit {0}) StoreRefusal) → done_paper r ≡ says (delete_in ps a) → bool_byte (is_ok r) ≡ one ps a
unfolding one after
count_is ps a r q = by_deleted (λ o r. bool_byte (is_ok r) ≡ after o 0 (λ qs. 1)) ps a r q (λ e. refl) (λ vs qs. refl)

at_most_one : (b : Bool) → bool_byte b ≤ 1
at_most_one true = omega arith
at_most_one false = omega arith

pub going_next : (su : Setup) (st₀ le₀ addrs st le : List ℕ) (gone i : ℕ) → Going su st₀ le₀ addrs st le gone i → i < length addrs
    → (r : Result (Unit {0}) StoreRefusal) (o : ℕ) (st' le' : List ℕ)
    → Does su st le (λ ps. delete_in ps (get_or addrs i 0)) (done_paper r) st' le' → o ≡ bool_byte (is_ok r)
    → Going su st₀ le₀ addrs st' le' (gone + o) (i + 1)
unfolding without_all count_all
going_next su st₀ le₀ addrs st le gone i g l r o st' le' d e =
    let x : drop i addrs ≡ get_or addrs i 0 ∷ drop (i + 1) addrs = rw (add-one, drop-cons addrs i 0) in
    let n : o ≡ one (view su st le) (get_or addrs i 0) = e ∙ count_is (view su st le) (get_or addrs i 0) r d.answer in
    let c = rw x at g.counts in
    let v : view su st' le' ≡ without_one (view su st le) (get_or addrs i 0) = d.lists.seen in
    let w : count_all (drop (i + 1) addrs) (view su st' le') ≡ count_all (drop (i + 1) addrs)
    (without_one (view su st le) (get_or addrs i 0)) = ap (count_all (drop (i + 1) addrs)) v in
    record {
      at_most = omega arith;
      few = omega (arith, g.few, e, at_most_one (is_ok r));
      sound = delete_stays su st le g.sound (get_or addrs i 0) (done_paper r) st' le' d;
      frame = leaves_then su st₀ le₀ (view su st le) (view su st' le') st le st' le' g.frame (leaves_now su st le _ st' le' d.lists);
      goes = ap (without_all (drop (i + 1) addrs)) v ∙ rw x at g.goes;
      counts = omega arith;
    }

pub going_last : (su : Setup) (st₀ le₀ addrs st le : List ℕ) (gone i : ℕ) → Going su st₀ le₀ addrs st le gone i → length addrs ≤ i
    → Does su st₀ le₀ (sweep_in addrs) (no 0 (gone ∷ [])) st le
unfolding without_all count_all sweep_in says after
going_last su st₀ le₀ addrs st le gone i g l =
    let x : drop i addrs ≡ [] = drop_of_length-le addrs l in
    let c = rw x at g.counts in
    let n : gone ≡ count_all addrs (view su st₀ le₀) = omega arith in
    record {
      answer = ap (λ (m : ℕ). no 0 (m ∷ [])) n;
      lists = leaves_as su st₀ le₀ _ _ st le (rw x at g.goes) g.frame;
    }
