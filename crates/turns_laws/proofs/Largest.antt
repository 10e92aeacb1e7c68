-- "The largest number m of due entries that the limit allows and the log holds."
use Prim.Native.Nat.{◌+◌, ◌≤◌, min, suc, zero, ℕ}
use Rattle.release_log.proofs.Sizes.{taken, total_parts}
use Rattle.release_log.specs.Log.{total}
use Rattle.measure.specs.Fitting.{fitting}
use Rattle.rules.specs.Tests.{unless}
use Rattle.slots.specs.Pools.{Pool, find}
use Rattle.table.proofs.Before.{below_le}
use Rattle.rows.specs.Entries.{Entry}
use Rattle.turn.specs.Turns.{handout, need}
use Rattle.turns_laws.proofs.Fitting.{fitting_holds, fitting_le}
use Rattle.turns_laws.proofs.Split.{at_most, many}
use Rattle.turns_laws.specs.Due.{due}
use Rattle.handing.specs.Handing.{turns}
use Rattle.turns_laws.specs.Laws.{Largest}
use borrow.Author.Tests.{le-leb}
use lib.ListN.{length, length-take, take}
use lib.Seq.{take-take}
use mathlib.Core.Bool.{Bool}
use mathlib.Core.List.{List, [], ◌∷◌}
use mathlib.Core.Path.{◌∙◌, ◌≡◌}
use native.Mathlib.Nat.{le_of_suc-le-suc, not-suc-le-zero}
use native.Mathlib.Omega.{arith}

-- a number whose log fits is at most the number that fits
fitting_most : (after : List Pool → ℕ → List Pool) (on : Entry → Bool) (used cap : ℕ) (es : List Entry) (ps : List Pool) (j : ℕ) → j ≤ length es
    → used + taken (turns after on (take j es) ps) ≤ cap → j ≤ fitting after used cap es ps
unfolding fitting turns taken unless
fitting_most after on used cap es ps zero h l = omega arith
fitting_most after on used cap [] ps (suc j) h l = absurd (not-suc-le-zero h)
fitting_most after on used cap (e ∷ es) ps (suc j) h l =
    let r = fitting_most after on (used + need (find ps e.addr)) cap es (after ps e.addr) j (le_of_suc-le-suc h) (omega arith) in
    rw (le-leb (used + need (find ps e.addr)) cap (omega arith)) (omega arith)

pub largest : (after : List Pool → ℕ → List Pool) (on : Entry → Bool) (ck limit cap : ℕ) (es : List Entry) (ps : List Pool) → 8 ≤ cap
    → Largest after on ck limit cap es ps (length (handout after on ck limit 8 cap es ps).records)
largest after on ck limit cap es ps h =
    let b = below_le (ck + 1) es in
    let a = at_most after on ck limit 8 cap es ps in
    let f = fitting_le after cap 8 (take n es) ps in
    record {
      allowed = a.0;
      are_due = a.1;
      fits = rw m (omega (arith, as_taken (fitting after 8 cap (take n es) ps) (omega (arith, long)), fitting_holds after cap on 8 (take n es) ps h));
      most = λ k p q l. rw m (fitting_most after on 8 cap (take n es) ps k (omega (arith, long)) (omega (arith, as_taken k (omega arith))));
    }
  where
    n : ℕ
    n = min limit (due ck es)

    m : length (handout after on ck limit 8 cap es ps).records ≡ fitting after 8 cap (take n es) ps
    m = many after on ck limit 8 cap es ps

    long : length (take n es) ≡ n
    long = length-take n es ∙ omega (arith, below_le (ck + 1) es)

    as_taken : (k : ℕ) → k ≤ n → total (turns after on (take k es) ps) ≡ 8 + taken (turns after on (take k (take n es)) ps)
    as_taken k l = total_parts (turns after on (take k es) ps) ∙ rw (take-take k n es l)
