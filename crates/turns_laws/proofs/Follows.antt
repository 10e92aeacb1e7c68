-- A store that finds the same, turn by turn, hands out the same.
use Prim.Native.Nat.{◌+◌, ◌-◌, ℕ}
use Rattle.rules.specs.Tests.{unless}
use Rattle.slots.specs.Pools.{Pool, find}
use Rattle.rows.specs.Entries.{Entry}
use Rattle.turn.specs.Turns.{Handout, goes_out, handed, handout, need, put, stop}
use Rattle.turns_laws.specs.Laws.{Addresses, SameButPools}
use mathlib.Core.Bool.{Bool, false, true}
use mathlib.Core.List.{List, [], ◌∷◌}
use mathlib.Core.Path.{◌≡◌, ap, refl}

-- The relation has both stores find the same at the addresses of P, and a turn there keeps it.
module _
    (R : List Pool → List Pool → Type 0)
    (P : ℕ → Type 0)
    (f g : List Pool → ℕ → List Pool)
    (finds : (ps qs : List Pool) (a : ℕ) → P a → R ps qs → find ps a ≡ find qs a)
    (keeps : (ps qs : List Pool) (a : ℕ) → P a → R ps qs → R (f ps a) (g qs a)) where
  pub follows : (on : Entry → Bool) (ck k used cap : ℕ) (es : List Entry) (ps qs : List Pool) → Addresses P es → R ps qs
      → SameButPools R (handout f on ck k used cap es ps) (handout g on ck k used cap es qs)
  unfolding handout unless
  follows on ck k used cap [] ps qs n r = record { records_same = refl; left_same = refl; pools_related = r }
  follows on ck k used cap (e ∷ es) ps qs n r =
      let d : find ps e.addr ≡ find qs e.addr = finds ps qs e.addr n.0 r in
      rw d
      (go (goes_out k ck used cap e (find qs e.addr))
      (follows on ck (k - 1) (used + need (find qs e.addr)) cap es (f ps e.addr) (g qs e.addr) n.1 (keeps ps qs e.addr n.0 r)))
    where
      here : Handout
      here = handout f on ck (k - 1) (used + need (find qs e.addr)) cap es (f ps e.addr)

      there : Handout
      there = handout g on ck (k - 1) (used + need (find qs e.addr)) cap es (g qs e.addr)

      go : (b : Bool) → SameButPools R here there
          → SameButPools R (unless b (stop (e ∷ es) ps) (put (handed (on e) e (find qs e.addr)) here))
          (unless b (stop (e ∷ es) qs) (put (handed (on e) e (find qs e.addr)) there))
      go true w =
          record {
            records_same = ap (handed (on e) e (find qs e.addr) ∷◌) w.records_same;
            left_same = w.left_same;
            pools_related = w.pools_related;
          }
      go false w = record { records_same = refl; left_same = refl; pools_related = r }
