-- A turn's packet and what the turn leaves, by the store's promise on marked packets.
use Prim.Native.Nat.{ℕ}
use Rattle.lookup.specs.Calls.{if_held, if_named, packet_in}
use Rattle.marks.specs.Marks.{packet_at}
use Rattle.marks.specs.Promise.{Deletes}
use Rattle.measure.specs.Inside.{Left}
use Rattle.rules.specs.Papers.{after, done}
use Rattle.slots.specs.Pools.{Found, Pool, find, held, no_pool, no_slot, vacant}
use Rattle.turn.specs.Turns.{leave, packet_of}
use lib.ListN.{take}
use mathlib.Core.Bool.{Bool, false, true}
use mathlib.Core.List.{List, [], ◌∷◌}
use mathlib.Core.Path.{◌≡◌, refl}
use native.Mathlib.Omega.{arith}
use Rattle.layout.specs.declared.Setup.{Setup}

pub packet_of_lem : (ps : List Pool) (a : ℕ) → packet_at ps a ≡ packet_of (find ps a)
unfolding packet_at packet_in if_held if_named after
packet_of_lem ps a = go (find ps a)
  where
    go : (x : Found) → after (if_held a x (λ n b. done (n ∷ []) (take n b))) [] (λ b. b) ≡ packet_of x
    go no_pool = refl
    go no_slot = refl
    go vacant = refl
    go (held n b) = refl

module _ (su : Setup) (le : List ℕ) (place : ℕ) where
  pub left_kept : (del : Bool) → del ≡ false → Left del su le place le
  unfolding leave
  left_kept del e = rw e (record { marks = λ st le₀ ps a k q. k; kept = λ d. refl })

  pub left_deleted : (del : Bool) (le' : List ℕ) → del ≡ true → Deletes su le place le' → Left del su le place le'
  unfolding leave
  left_deleted del le' e d =
      rw e (record { marks = d.wiped; kept = λ f. let z : ◌≡◌ {A = ℕ} 0 1 = cc in absurd (omega arith) })
