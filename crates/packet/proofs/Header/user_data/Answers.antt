-- `packet::Header::user_data` meets its contract: the bytes that the header was read from hold its total.
use Prim.Native.Nat.{◌≤◌}
use Rattle.packet.proofs.Readable.{data_is, packet_is}
use Rattle.packet_tests.proofs.Bounds.{total_fits}
use lib.ListN.{length}
use mathlib.Core.Path.{ap, refl}
use native.Mathlib.Omega.{arith}
use Rattle.packet.specs.declared.Header.{Header}
use Rattle.packet.proofs.Header.user_data.Goals as goal

pub overflow_sub-end : goal.overflow_sub-end
overflow_sub-end c =
    let fits : (13 ≤ c.args.self.total) × (c.args.self.total ≤ length c.args.bytes.now) = let p =
    packet_is 2 c.args.bytes.now c.args.self c.requires in
    let h = total_fits 2 c.args.bytes.now p.0.total in
    let e = ap (λ (x : Header). x.total) p.1 in
    (omega arith, omega arith) in
    let h = fits in omega arith

pub slice_bounds-result-count : goal.slice_bounds-result-count
slice_bounds-result-count c =
    let fits : (13 ≤ c.args.self.total) × (c.args.self.total ≤ length c.args.bytes.now) = let p =
    packet_is 2 c.args.bytes.now c.args.self c.requires in
    let h = total_fits 2 c.args.bytes.now p.0.total in
    let e = ap (λ (x : Header). x.total) p.1 in
    (omega arith, omega arith) in
    let h = fits in omega arith

pub slice_bounds-result-start : goal.slice_bounds-result-start
slice_bounds-result-start c =
    let fits : (13 ≤ c.args.self.total) × (c.args.self.total ≤ length c.args.bytes.now) = let p =
    packet_is 2 c.args.bytes.now c.args.self c.requires in
    let h = total_fits 2 c.args.bytes.now p.0.total in
    let e = ap (λ (x : Header). x.total) p.1 in
    (omega arith, omega arith) in
    let h = fits in omega arith

pub slice_bounds-result-end : goal.slice_bounds-result-end
slice_bounds-result-end c =
    let fits : (13 ≤ c.args.self.total) × (c.args.self.total ≤ length c.args.bytes.now) = let p =
    packet_is 2 c.args.bytes.now c.args.self c.requires in
    let h = total_fits 2 c.args.bytes.now p.0.total in
    let e = ap (λ (x : Header). x.total) p.1 in
    (omega arith, omega arith) in
    let h = fits in omega arith

pub returns : goal.returns
returns c =
    data_is 2 c.args.bytes.now c.args.self _ c.args.bytes.ref_ptr _ c.requires refl refl refl
