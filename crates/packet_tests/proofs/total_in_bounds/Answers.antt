-- `packet_tests::total_in_bounds` meets its contract.
use Prim.Native.Nat.{◌<◌, ◌≤◌, ℕ}
use Rattle.packet_tests.specs.Tests.{total_in_bounds, total_of}
use Rattle.rules.specs.Tests.{all_of}
use borrow.Author.Tests.{le-leb, lt-leb}
use lib.Dec.{leb}
use lib.ListN.{length}
use mathlib.Core.Bool.{and-true}
use mathlib.Core.List.{List}
use mathlib.Core.Path.{◌≡◌, sym}
use native.Mathlib.Omega.{arith}
use Rattle.packet_tests.proofs.total_in_bounds.Goals as goal

at_total : (s : List ℕ) (t : ℕ) → t ≡ total_of s → 13 ≤ total_of s → leb t (length s) ≡ total_in_bounds 2 s
unfolding total_in_bounds all_of
at_total s t e h = rw (e, le-leb _ _ h) (sym (and-true (leb (total_of s) (length s))))

pub returns-then-t-lt13 : goal.returns-then-t-lt13
unfolding total_in_bounds all_of
returns-then-t-lt13 c =
    let s = c.args.bytes.now in
    let h : total_of s < 13 = omega arith in
    simp (lt-leb _ _ h)

pub returns : goal.returns
returns c =
    let s = c.args.bytes.now in
    let h : 13 ≤ total_of s = omega arith in
    at_total s c.total-t.result c.total-t.ensures.0 h
