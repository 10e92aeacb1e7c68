-- Counting the records of a log one by one.
use Rattle.std.specs.Prelude.{Option}
use Rattle.log_reader.specs.declared.Item.{Item}
use Prim.Native.Nat.{◌+◌, ◌-◌, ◌<◌, ◌≤◌, suc, ℕ}
use Rattle.log_reader.specs.Finding.{counted, found_in}
use Rattle.shift_totals.specs.Tally.{tally_found, tally_from, tally_log}
use Rattle.shift_totals.specs.declared.Totals.{Totals}
use mathlib.Core.List.{List}
use mathlib.Core.Path.{◌∙◌, ◌≡◌, ap, refl}
use native.Mathlib.Omega.{arith}

pub tally_first : (log : List ℕ) (n : ℕ) (t : Totals) → tally_from log 0 (n - 0) t ≡ tally_from log 0 n t
tally_first log n t = ap (λ (k : ℕ). tally_from log 0 k t) (omega arith)

step : (log : List ℕ) (i m : ℕ) (t : Totals) → tally_from log (i + 1) m (tally_found (found_in log i) t) ≡ tally_from log i (suc m) t
step log i m t = unfold tally_from in refl

stop : (log : List ℕ) (i : ℕ) (t : Totals) → t ≡ tally_from log i 0 t
stop log i t = unfold tally_from in refl

pub tally_next : (log : List ℕ) (i n : ℕ) (t s w : Totals) (r : Option Item) → i < n → r ≡ found_in log i → s ≡ tally_found r t
    → tally_from log i (n - i) t ≡ w → tally_from log (i + 1) (n - (i + 1)) s ≡ w
tally_next log i n t s w r h g e f =
    let q : suc (n - (i + 1)) ≡ n - i = omega arith in
    ap (tally_from log (i + 1) (n - (i + 1))) (e ∙ ap (λ (x : Option Item). tally_found x t) g)
    ∙ step log i (n - (i + 1)) t ∙ ap (λ (k : ℕ). tally_from log i k t) q ∙ f

pub tally_last : (log : List ℕ) (i n : ℕ) (t start : Totals) → n ≤ i → n ≡ counted log → tally_from log i (n - i) t ≡ tally_from log 0 n start
    → t ≡ tally_log log start
unfolding tally_log
tally_last log i n t start h e f =
    let q : 0 ≡ n - i = omega arith in
    stop log i t ∙ ap (λ (k : ℕ). tally_from log i k t) q ∙ f ∙ ap (λ (k : ℕ). tally_from log 0 k start) e
