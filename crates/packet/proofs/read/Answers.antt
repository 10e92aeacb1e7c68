-- `packet::read` meets its contract: each test that was passed is one more line of `read_of`.
use Rattle.std.specs.Prelude.{Ok}
use Rattle.packet.proofs.Readable.{readable_is}
use Rattle.packet.specs.Packet.{read_of}
use Rattle.packet_tests.specs.Tests.{check_bytes, header_bits, long_enough, total_in_bounds, version_nibble}
use Rattle.rules.proofs.Passing.{fails, passes}
use Rattle.rules.specs.Tests.{unless}
use borrow.Author.Tests.{le-leb, lt-leb}
use mathlib.Core.Bool.{true}
use mathlib.Core.Path.{◌∙◌, ◌≡◌, ap, sym}
use Rattle.packet.proofs.read.Goals as goal

pub returns-then-bytes-lt13 : goal.returns-then-bytes-lt13
unfolding read_of unless
returns-then-bytes-lt13 c = simp (lt-leb _ _ c.if-bytes-lt13.true)

pub returns-then-not-total_in_bounds : goal.returns-then-not-total_in_bounds
unfolding read_of unless
returns-then-not-total_in_bounds c =
    let long : long_enough 2 c.args.bytes.now ≡ true = le-leb _ _ c.if-bytes-lt13.false in
    simp (long, fails c.total_in_bounds.ensures c.if-not-total_in_bounds.true)

pub returns-then-not-header_bits : goal.returns-then-not-header_bits
unfolding read_of unless
returns-then-not-header_bits c =
    let long : long_enough 2 c.args.bytes.now ≡ true = le-leb _ _ c.if-bytes-lt13.false in
    let total : total_in_bounds 2 c.args.bytes.now ≡ true = passes c.total_in_bounds.ensures c.if-not-total_in_bounds.false in
    simp (long, total, fails c.header_bits.ensures c.if-not-header_bits.true)

pub returns-then-not-version_nibble : goal.returns-then-not-version_nibble
unfolding read_of unless
returns-then-not-version_nibble c =
    let long : long_enough 2 c.args.bytes.now ≡ true = le-leb _ _ c.if-bytes-lt13.false in
    let total : total_in_bounds 2 c.args.bytes.now ≡ true = passes c.total_in_bounds.ensures c.if-not-total_in_bounds.false in
    let bits : header_bits c.args.bytes.now ≡ true = passes c.header_bits.ensures c.if-not-header_bits.false in
    simp (long, total, bits, fails c.version_nibble.ensures c.if-not-version_nibble.true)

pub returns-then-not-check_bytes : goal.returns-then-not-check_bytes
unfolding read_of unless
returns-then-not-check_bytes c =
    let long : long_enough 2 c.args.bytes.now ≡ true = le-leb _ _ c.if-bytes-lt13.false in
    let total : total_in_bounds 2 c.args.bytes.now ≡ true = passes c.total_in_bounds.ensures c.if-not-total_in_bounds.false in
    let bits : header_bits c.args.bytes.now ≡ true = passes c.header_bits.ensures c.if-not-header_bits.false in
    let nibble : version_nibble c.args.bytes.now ≡ true = passes c.version_nibble.ensures c.if-not-version_nibble.false in
    simp (long, total, bits, nibble, fails c.check_bytes.ensures c.if-not-check_bytes.true)

pub returns : goal.returns
returns c =
    let long : long_enough 2 c.args.bytes.now ≡ true = le-leb _ _ c.if-bytes-lt13.false in
    let total : total_in_bounds 2 c.args.bytes.now ≡ true = passes c.total_in_bounds.ensures c.if-not-total_in_bounds.false in
    let bits : header_bits c.args.bytes.now ≡ true = passes c.header_bits.ensures c.if-not-header_bits.false in
    let nibble : version_nibble c.args.bytes.now ≡ true = passes c.version_nibble.ensures c.if-not-version_nibble.false in
    let check : check_bytes c.args.bytes.now ≡ true = passes c.check_bytes.ensures c.if-not-check_bytes.false in
    ap Ok c.header.ensures
    ∙ sym
    (readable_is 2 c.args.bytes.now
    (record { long = long; total = total; bits = bits; nibble = nibble; check = check }))
