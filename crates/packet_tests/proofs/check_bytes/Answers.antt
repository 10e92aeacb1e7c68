-- `packet_tests::check_bytes` meets its contract: the total lies within the bytes, so the part before its last two is there.
use Prim.Native.Nat.{◌-◌, ◌≤◌, ℕ}
use Rattle.check_code.specs.CheckCode.{check_code}
use Rattle.packet_tests.proofs.Bounds.{total_fits}
use Rattle.packet_tests.specs.Tests.{check_bytes, total_of}
use Rattle.words.specs.Words.{number}
use lib.Dec.{eqb}
use lib.ListN.{length, take}
use lib.Seq.{length-take-le}
use mathlib.Core.List.{List}
use mathlib.Core.Path.{◌≡◌, sym}
use native.Mathlib.Omega.{arith}
use Rattle.packet_tests.proofs.check_bytes.Goals as goal

at_total : (s : List ℕ) (t r k : ℕ) → t ≡ total_of s → r ≡ number 2 (t - 2) s → k ≡ check_code (take (t - 2) s) → eqb r k ≡ check_bytes s
unfolding check_bytes
at_total s t r k e p q = rw (p, q, e)

pub slice_bounds-of-end : goal.slice_bounds-of-end
slice_bounds-of-end c =
    let fits : (13 ≤ c.total-end.result) × (c.total-end.result ≤ length c.args.bytes.now) = let h = total_fits 2 c.args.bytes.now c.requires.1 in
    let e = c.total-end.ensures.0 in
    (omega arith, omega arith) in
    let f = fits in
    sym (length-take-le (c.total-end.result - 2) c.args.bytes.now (omega arith))

pub read-requires : goal.read-requires
read-requires c =
    let fits : (13 ≤ c.total-end.result) × (c.total-end.result ≤ length c.args.bytes.now) = let h = total_fits 2 c.args.bytes.now c.requires.1 in
    let e = c.total-end.ensures.0 in
    (omega arith, omega arith) in
    let f = fits in (omega arith, omega arith)

pub returns : goal.returns
returns c =
    let s = c.args.bytes.now in
    at_total s c.total-end.result c.read.result c.of-code.result c.total-end.ensures.0 c.read.ensures.same c.of-code.ensures
