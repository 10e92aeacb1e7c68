-- `client::sweep_judged` meets its contract.
use Rattle.client.proofs.Going.{Going}
use Rattle.client.proofs.sweep_judged.Given as goal

abbrev pub invariant-loop-addr : goal.invariant-loop-addr
invariant-loop-addr l = Going l.setup l.initial.bytes l.initial.lens l.addrs l.bytes l.lens l.gone l.addr-index
