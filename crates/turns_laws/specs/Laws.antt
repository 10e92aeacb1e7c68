-- What the laws of one tick say of its handout: it is that of the first m entries, and m is the largest number.
use Rattle.std.specs.Prelude.{◌<◌, ◌^◌, ◌≤◌, ℕ, drop, take, Bool, List, [], ◌∷◌, ◌≡◌}
use Rattle.handing.specs.Handing.{after_all, turns}
use Rattle.release_log.specs.Log.{total}
use Rattle.rows.specs.Entries.{Entry}
use Rattle.slots.specs.Pools.{Pool}
use Rattle.turn.specs.Turns.{Handout}
use Rattle.turns_laws.specs.Due.{due}

-- the handout h of entries es and store ps is that of the first m
pub record Splits (after : List Pool → ℕ → List Pool) (on : Entry → Bool) (es : List Entry) (ps : List Pool) (h : Handout) (m : ℕ) : Type 0 where
  pub records_are : h.records ≡ turns after on (take m es) ps
  pub left_is : h.left ≡ drop m es
  pub pools_are : h.pools ≡ after_all after (take m es) ps

-- the first m are due and allowed, and a log of their records fits; of no larger number is all of that so
pub record Largest (after : List Pool → ℕ → List Pool) (on : Entry → Bool) (ck limit cap : ℕ) (es : List Entry) (ps : List Pool) (m : ℕ)
    : Type 0 where
  pub allowed : m ≤ limit
  pub are_due : m ≤ due ck es
  pub fits : total (turns after on (take m es) ps) ≤ cap
  pub most : (k : ℕ) → k ≤ limit → k ≤ due ck es → total (turns after on (take k es) ps) ≤ cap → k ≤ m

-- request IDs and addresses are words, as every row's are by its type
abbrev pub WordsIn : List Entry → Type 0
WordsIn [] = Unit {0}
WordsIn (e ∷ es) = (e.id < 2 ^ 64) × (e.addr < 2 ^ 64) × WordsIn es

-- two handouts of the same records and entries, whose stores stand in a relation
pub record SameButPools (R : List Pool → List Pool → Type 0) (g h : Handout) : Type 0 where
  pub records_same : g.records ≡ h.records
  pub left_same : g.left ≡ h.left
  pub pools_related : R g.pools h.pools

-- P holds of each entry's address
abbrev pub Addresses : (ℕ → Type 0) → List Entry → Type 0
Addresses P [] = Unit {0}
Addresses P (e ∷ es) = P e.addr × Addresses P es
