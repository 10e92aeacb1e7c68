-- A sound store stays sound under every call.
-- `read`, presence, length and a modify that is given no bytes are lent both lists for reading alone; what is written through the part
-- that `modify_part` lends is a modify with those bytes (WrittenThrough).
use Rattle.std.specs.Prelude.{Ok}
use Prim.Native.Nat.{ℕ}
use Rattle.rules.specs.Papers.{Paper}
use Rattle.store.specs.Calls.{add_in, delete_in, fresh_in, fresh_pools, modify_in}
use Rattle.lookup.specs.Calls.{judging}
use Rattle.layout.specs.Judge.{Sized, Sound}
use Rattle.store.specs.Promise.{Does, Writes}
use Rattle.store.specs.Refusals.{done_paper}
use Rattle.slots.specs.View.{Leaves, view}
use Rattle.store_laws.proofs.Fitting.{add_fits, delete_fits, fresh_fits, modify_fits, sound_of, view_fits}
use Rattle.store_laws.proofs.Reached.{add_done, delete_done, fresh_made, modify_done, sized_of}
use mathlib.Core.List.{List}
use Rattle.layout.specs.declared.Setup.{Setup}

module _ (su : Setup) (st le : List ℕ) (s : Sound su st le) where
  pub add_stays : (d : List ℕ) (p : Paper) (st' le' : List ℕ) → Does su st le (λ ps. add_in su.spill ps d) p st' le' → Sound su st' le'
  add_stays d p st' le' w = sound_of su st le _ st' le' (sized_of s) w.lists (add_fits su (view su st le) (view_fits su st le s) su.spill d)

  pub delete_stays : (a : ℕ) (p : Paper) (st' le' : List ℕ) → Does su st le (λ ps. delete_in ps a) p st' le' → Sound su st' le'
  delete_stays a p st' le' w = sound_of su st le _ st' le' (sized_of s) w.lists (delete_fits su (view su st le) (view_fits su st le s) a)

  pub modify_stays : (a : ℕ) (ys : List ℕ) (p : Paper) (st' le' : List ℕ) → Does su st le (λ ps. modify_in ps a ys) p st' le' → Sound su st' le'
  modify_stays a ys p st' le' w = sound_of su st le _ st' le' (sized_of s) w.lists (modify_fits su (view su st le) (view_fits su st le s) a ys)

  -- the same of the public calls
  pub public_add_stays : (d : List ℕ) (p : Paper) (st' le' : List ℕ)
      → Writes su st le (judging su st le (λ ps. add_in su.spill ps d)) p st' le' → Sound su st' le'
  public_add_stays d p st' le' w = add_stays d p st' le' (add_done su st le s d p st' le' w)

  pub public_delete_stays : (a : ℕ) (p : Paper) (st' le' : List ℕ)
      → Writes su st le (judging su st le (λ ps. delete_in ps a)) p st' le' → Sound su st' le'
  public_delete_stays a p st' le' w = delete_stays a p st' le' (delete_done su st le s a p st' le' w)

  pub public_modify_stays : (a : ℕ) (ys : List ℕ) (p : Paper) (st' le' : List ℕ)
      → Writes su st le (judging su st le (λ ps. modify_in ps a ys)) p st' le' → Sound su st' le'
  public_modify_stays a ys p st' le' w = modify_stays a ys p st' le' (modify_done su st le s a ys p st' le' w)

-- a fresh start that is not refused makes any two lists sound
pub judged_fresh_sound : (su : Setup) (st le st' le' : List ℕ) → Sized su st le → Leaves su st le (fresh_pools su) st' le' → Sound su st' le'
judged_fresh_sound su st le st' le' s l = sound_of su st le (fresh_pools su) st' le' s l (fresh_fits su)

pub fresh_sound : (su : Setup) (st le st' le' : List ℕ) → Writes su st le (fresh_in su st le) (done_paper (Ok tt)) st' le' → Sound su st' le'
fresh_sound su st le st' le' w = let f = fresh_made su st le st' le' w in judged_fresh_sound su st le st' le' f.0 f.1
