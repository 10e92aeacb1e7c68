-- `gate::gate` meets its contract.
use mathlib.Core.Bool.{false}
use mathlib.Core.Path.{◌≡◌, ◌∙◌, sym}
use native.Mathlib.Omega.{arith}
use Rattle.time.specs.Time.{in_time_margin}
use Rattle.gate.proofs.Gates.{full, late}
use Rattle.gate.proofs.gate.Goals as goal

pub returns-then-in_time_margin : goal.returns-then-in_time_margin
returns-then-in_time_margin c =
    let a = c.args in
    late a.setup a.rec a.release (sym c.in_time_margin.ensures ∙ c.if-in_time_margin.true)

pub returns-then-setup-rec : goal.returns-then-setup-rec
returns-then-setup-rec c =
    let not_late : in_time_margin c.args.rec.clock c.args.rec.margin c.args.release ≡ false = sym c.in_time_margin.ensures ∙
    c.if-in_time_margin.false in
    let a = c.args in
    full a.setup a.rec a.release not_late (omega (arith, c.if-setup-rec.true))
