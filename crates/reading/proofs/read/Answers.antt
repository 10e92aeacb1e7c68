-- `reading::read` meets its contract.
use Rattle.std.proofs.Common.{rules}
use Rattle.reading.proofs.Copied.{read_at, read_refused, read_small}
use Rattle.slots.proofs.Lists.{taken_out}
use Rattle.slots.specs.Pools.{over}
use mathlib.Core.List.{List}
use Prim.Native.Nat.{ℕ}
use mathlib.Core.Path.{◌∙◌, ap, refl}
use Rattle.reading.proofs.read.Goals as goal

pub returns-in_err-s : goal.returns-in_err-s
returns-in_err-s c = search (rules, read_refused _ _ _ _ c.args.buf.now _ c.in_err-s.ensures)

pub returns-then-found-n : goal.returns-then-found-n
returns-then-found-n c = read_small _ _ _ _ _ _ c.in_ok-s.ensures c.if-found-n.true

pub returns : goal.returns
returns c =
    read_at _ _ _ _ _ _ c.in_ok-s.ensures c.if-found-n.false _
    (c.copy_in.ensures ∙ ap (λ (l : List ℕ). over l c.args.buf.now) (taken_out _ _ _ _ refl))
