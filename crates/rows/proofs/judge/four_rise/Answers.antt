-- `rows::judge::four_rise` meets its contract.
use Rattle.rules.proofs.All.{and_left, and_right}
use Rattle.rows.proofs.judge.four_rise.Goals as goal

pub returns : goal.returns
returns c = λ h.
    let abc = and_left _ c.rises-fourth.result h in
    let ab = and_left _ c.rises-third.result abc in
    record {
      first = c.rises-first.ensures (and_left _ c.rises-second.result ab);
      second = c.rises-second.ensures (and_right c.rises-first.result _ ab);
      third = c.rises-third.ensures (and_right _ c.rises-third.result abc);
      fourth = c.rises-fourth.ensures (and_right _ c.rises-fourth.result h);
    }
