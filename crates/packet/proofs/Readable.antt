-- What a reading says of the bytes: a packet is readable exactly if all five tests pass, whatever their order.
use Rattle.std.specs.Prelude.{Result, Ok, Err}
use Prim.Native.Nat.{◌+◌, ◌-◌, ℕ}
use Rattle.packet.specs.Packet.{HandsBack, data_at, data_of, header_of, read_of}
use Rattle.packet_tests.specs.Tests.{check_bytes, data_from, header_bits, long_enough, shortest, total_in_bounds, version_nibble}
use Rattle.rules.proofs.Order.{passed}
use Rattle.rules.specs.Tests.{unless}
use lib.ListN.{drop, take}
use mathlib.Core.Bool.{true}
use mathlib.Core.List.{List, []}
use mathlib.Core.Path.{◌∙◌, ◌≡◌, ap, sym}
use native.Mathlib.Nat.{zero-add}
use native.Mathlib.Omega.{arith}
use Rattle.packet.specs.declared.Fault.{Fault}
use Rattle.packet.specs.declared.Header.{Header}

pub record Readable (w : ℕ) (s : List ℕ) : Type 0 where
  pub long : long_enough w s ≡ true
  pub total : total_in_bounds w s ≡ true
  pub bits : header_bits s ≡ true
  pub nibble : version_nibble s ≡ true
  pub check : check_bytes s ≡ true

pub readable_is : (w : ℕ) (s : List ℕ) → Readable w s → read_of w s ≡ Ok (header_of w s)
unfolding read_of unless
readable_is w s r = rw (r.long, r.total, r.bits, r.nibble, r.check)

no_packet : (f : Fault) (h : Header) → ◌≡◌ {A = Result Header Fault} (Err f) (Ok h) → ⊥
no_packet f h q = let z : ◌≡◌ {A = ℕ} 0 1 = cc in omega arith

pub packet_is : (w : ℕ) (s : List ℕ) (h : Header) → read_of w s ≡ Ok h → Readable w s × (h ≡ header_of w s)
unfolding read_of
packet_is w s h q =
    let a = passed _ _ _ _ (no_packet _ h) q in
    let b = passed _ _ _ _ (no_packet _ h) a.1 in
    let d = passed _ _ _ _ (no_packet _ h) b.1 in
    let e = passed _ _ _ _ (no_packet _ h) d.1 in
    let f = passed _ _ _ _ (no_packet _ h) e.1 in
    (record { long = a.0; total = b.0; bits = d.0; nibble = e.0; check = f.0 }, same f.1)
  where
    same : ◌≡◌ {A = Result Header Fault} (Ok (header_of w s)) (Ok h) → h ≡ header_of w s
    same p = cc

-- the user data, as the code cuts it out, and where there is none
pub data_is : (w : ℕ) (s : List ℕ) (h : Header) (part : List ℕ) (from place : ℕ × ℕ) → read_of w s ≡ Ok h
    → part ≡ take (h.total - 2 - data_from w) (drop (data_from w) s) → place.0 ≡ from.0 → place.1 ≡ data_from w + from.1
    → HandsBack w s from part place
unfolding data_of data_at
data_is w s h part from place q p b o =
    let e : h.total - 2 - data_from w ≡ h.total - shortest w = omega arith in
    record { bytes = rw q (p ∙ ap (λ (n : ℕ). take n (drop (data_from w) s)) e); block = b; offset = rw q o }

pub data_none : (w : ℕ) (s : List ℕ) (f : Fault) (from place : ℕ × ℕ) → read_of w s ≡ Err f → place.0 ≡ from.0
    → place.1 ≡ from.1 → HandsBack w s from [] place
unfolding data_of data_at
data_none w s f from place q b o = record { bytes = rw q; block = b; offset = rw q (o ∙ sym (zero-add from.1)) }
