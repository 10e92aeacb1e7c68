-- `layout::tests::pool_lens_ok` meets its contract.
use Rattle.std.proofs.Common.{rules, ◌≡◌, ◌+◌, ◌∙◌, ap, nat_le, arith}
use Rattle.std.proofs.iter.runs.Made.{chains}
use Rattle.layout.proofs.Lengths.{greatest, greatest_ok}
use Rattle.layout.proofs.tests.pool_lens_ok.Goals as goal

pub returns : goal.returns
returns c =
    let e : c.fold-greatest.result ≡ greatest c.args.lens.now = search (rules, chains) in
    ap (λ n. nat_le n (c.args.size + 1)) e ∙ greatest_ok _ c.requires c.args.lens.now (λ i. omega (arith, c.type_inv.lens i))
