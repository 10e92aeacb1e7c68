-- `utc::place` meets its contract: one year or month more.
use Rattle.std.proofs.Common.{arith}
use Rattle.utc.proofs.Steps.{turn}
use Rattle.utc.proofs.place.Goals as goal

pub loop-left-preserved : goal.loop-left-preserved
loop-left-preserved g c =
    let l = c.loop-left in
    let i = l.invariant in
    let d = c.requires.1.1.1.0 _ _ c.length-next.ensures in
    record {
      sum = turn g.days_of _ _ _ _ _ i.from i.sum d (omega arith);
      few = omega (arith, d, c.requires.1.1.1.1 l.at);
      from = omega arith;
    }
