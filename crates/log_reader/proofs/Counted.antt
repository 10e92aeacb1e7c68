-- What is known of a log that counts a record, and what is found there.
use Rattle.std.specs.Prelude.{Option, Some, None}
use Rattle.log_reader.specs.declared.Item.{Item}
use Prim.Native.Nat.{◌*◌, ◌+◌, ◌<◌, ◌≤◌, ℕ}
use Rattle.release_log.specs.Reading.{count_of, end_of, offset_of, record_in}
use Rattle.log_reader.specs.Finding.{between, counted, found_in}
use Rattle.words.specs.Words.{number}
use borrow.Author.Tests.{le-ltb, lt-ltb, ltb-false}
use lib.Dec.{ltb}
use lib.ListN.{get_or, length}
use mathlib.Core.Bool.{Bool, cond, false, true}
use mathlib.Core.List.{List}
use mathlib.Core.Path.{◌∙◌, ◌≡◌, ap₂, refl}
use native.Mathlib.Omega.{arith}

-- the count, and room for all offsets
pub record Counts (log : List ℕ) : Type 0 where
  pub same : counted log ≡ count_of log
  pub room : 8 + 4 * counted log ≤ length log

pub some_counted : (log : List ℕ) (i : ℕ) → i < counted log → Counts log
some_counted log i h = record { same = go.0; room = go.1 }
  where
    pick : (a b : Bool) (n len : ℕ) → ltb len (8 + 4 * n) ≡ b → i < cond a 0 (cond b 0 n)
        → (cond a 0 (cond b 0 n) ≡ n) × (8 + 4 * cond a 0 (cond b 0 n) ≤ len)
    pick true b n len e f = absurd (omega arith)
    pick false true n len e f = absurd (omega arith)
    pick false false n len e f = (refl, omega (arith, ltb-false len (8 + 4 * n) e))

    go : (counted log ≡ count_of log) × (8 + 4 * counted log ≤ length log)
    go = unfold counted in pick (ltb (length log) 8) _ (count_of log) (length log) refl (unfold counted in h)

-- a record that lies between its ends
pub lies : (log : List ℕ) (at end x y : ℕ) → end ≤ length log → at + 17 ≤ end → x ≡ number 8 (at + 1) log → y ≡ number 8 (at + 9) log
    → Some (record { flag = get_or log at 0; id = x; addr = y; from = at + 17; to = end }) ≡ between log at end
unfolding between record_in
lies log at end x y h k e f =
    simp (le-ltb _ _ h, le-ltb _ _ k)
    (ap₂ (λ (a b : ℕ). Some (record { flag = get_or log at 0; id = a; addr = b; from = at + 17; to = end })) e f)

-- record i, from its offset and its end
pub found : (log : List ℕ) (i at end : ℕ) (r : Option Item) → i < counted log → at ≡ offset_of log i → end ≡ end_of log i → r ≡ between log at end
    → r ≡ found_in log i
unfolding found_in
found log i at end r h e f g = simp (lt-ltb _ _ h) (g ∙ ap₂ (between log) e f)

pub not_found : (log : List ℕ) (i : ℕ) → counted log ≤ i → None ≡ found_in log i
unfolding found_in
not_found log i h = simp (le-ltb _ _ h)
