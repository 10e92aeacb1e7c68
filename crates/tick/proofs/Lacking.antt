-- Refusal 20: by the log's length, by the first record, and by what the code finds of it.
use Rattle.std.specs.Prelude.{None, Option, Some}
use Prim.Native.Nat.{◌<◌, ◌≤◌, min, ℕ}
use borrow.Author.Tests.{le-leb, le-ltb, lt-leb, lt-ltb, ltb-false, ltb-true}
use lib.Dec.{ltb}
use lib.ListN.{length}
use mathlib.Core.Bool.{Bool, false, not, true}
use mathlib.Core.List.{List, [], ◌∷◌}
use mathlib.Core.Path.{◌∙◌, ◌≡◌, ap, refl, sym}
use native.Mathlib.Omega.{arith}
use Rattle.rules.specs.Papers.{Outcome, no, refused}
use Rattle.rules.specs.Tests.{all_of, unless}
use Rattle.schedule.specs.State.{State}
use Rattle.slots.specs.Pools.{Pool}
use Rattle.rows.specs.Entries.{Entry}
use Rattle.tick.specs.Inside.{lack}
use Rattle.tick.specs.Tick.{Logged, first_lacks, handed_out, tick_in, usable}
use Rattle.time.specs.Time.{instant}
use Rattle.turn.specs.Turns.{always, handout, leave}
use Rattle.turns.specs.Released.{first_total}
use Rattle.turns_laws.specs.Due.{due}

-- what `lacking` answers, by the tests that it made
module _ (n cap : ℕ) (es : List Entry) (ps : List Pool) where
  pub lack_none : n < 1 → None ≡ lack n cap es ps
  unfolding lack all_of unless
  lack_none h = rw (le-ltb 0 n (omega arith))

  pub lack_fits : (t : ℕ) → 1 ≤ n → t ≡ first_total es ps → t ≤ cap → None ≡ lack n cap es ps
  unfolding lack all_of unless
  lack_fits t h e l = rw (lt-ltb 0 n (omega arith), le-ltb cap (first_total es ps) (omega arith))

  pub lack_short : (t : ℕ) → 1 ≤ n → t ≡ first_total es ps → cap < t → Some t ≡ lack n cap es ps
  unfolding lack all_of unless
  lack_short t h e l = rw (lt-ltb 0 n (omega arith), lt-ltb cap (first_total es ps) (omega arith)) (ap (λ (k : ℕ). Some k) e)

-- it answered no log that is lacking
pub lack_else : (o l : Option ℕ) → o ≡ l → ((t : ℕ) → o ≡ Some t → ⊥) → None ≡ l
lack_else (Some t) l e f = absurd (f t refl)
lack_else None l e f = e

-- a limit of at least 1 and something due: of those allowed there is one
both : (d k : ℕ) (x : Bool) → all_of (ltb 0 k ∷ ltb 0 d ∷ x ∷ []) ≡ all_of (ltb 0 (min d k) ∷ x ∷ [])
unfolding all_of
both d k x = go (ltb 0 k) refl (ltb 0 d) refl
  where
    go : (a : Bool) → ltb 0 k ≡ a → (b : Bool) → ltb 0 d ≡ b → all_of (a ∷ b ∷ x ∷ []) ≡ all_of (ltb 0 (min d k) ∷ x ∷ [])
    go false p b q = rw (le-ltb 0 (min d k) (omega (arith, ltb-false 0 k p)))
    go true p false q = rw (le-ltb 0 (min d k) (omega (arith, ltb-false 0 d q)))
    go true p true q = rw (lt-ltb 0 (min d k) (omega (arith, ltb-true 0 k p, ltb-true 0 d q)))

module _ (limit : ℕ) (delete : Bool) (log : List ℕ) (s : State) where
  pub short_log : length log < 8 → tick_in limit delete log s ≡ refused (no 20 (8 ∷ []))
  unfolding tick_in unless
  short_log h = rw (lt-leb 8 (length log) h)

  abbrev out : Outcome Logged
  out = handed_out log s (handout (leave delete) (always s.enabled) (instant s.clock) limit 8 (usable log) s.entries s.pools)

  -- what the first due record lacks, as what the tick comes to
  by : Option ℕ → Outcome Logged
  by (Some t) = refused (no 20 (t ∷ []))
  by None = out

  abbrev lacking : Option ℕ
  lacking = lack (min (due (instant s.clock) s.entries) limit) (usable log) s.entries s.pools

  by_lack : 8 ≤ length log → tick_in limit delete log s ≡ by lacking
  unfolding tick_in first_lacks lack unless by
  by_lack h =
      rw (le-leb 8 (length log) h, both (due (instant s.clock) s.entries) limit (ltb (usable log) (first_total s.entries s.pools)))
      (go (all_of (ltb 0 (min (due (instant s.clock) s.entries) limit) ∷ ltb (usable log) (first_total s.entries s.pools) ∷ [])))
    where
      go : (b : Bool) → unless (not b) (refused (no 20 (first_total s.entries s.pools ∷ []))) out
          ≡ by (unless (not b) (Some (first_total s.entries s.pools)) None)
      go true = refl
      go false = refl

  pub lacks_first : (t : ℕ) → 8 ≤ length log → Some t ≡ lacking → tick_in limit delete log s ≡ refused (no 20 (t ∷ []))
  unfolding by
  lacks_first t h e = by_lack h ∙ ap by (sym e)

  pub hands_out : 8 ≤ length log → None ≡ lacking → tick_in limit delete log s ≡ out
  unfolding by
  hands_out h e = by_lack h ∙ ap by (sym e)
