-- `modifying::judged::modify_with` meets its contract.
use Rattle.std.proofs.Common.{rules}
use Rattle.modifying.proofs.Found.{with_at, with_refused}
use Rattle.slots.proofs.Lists.{put_back, written}
use mathlib.Core.Path.{◌∙◌}
use Rattle.modifying.proofs.judged.modify_with.Goals as goal

pub returns-in_err-s : goal.returns-in_err-s
returns-in_err-s c = search (rules, with_refused _ _ _ _ c.args.given.now _ c.in_err-s.ensures)

pub returns : goal.returns
returns c =
    let a = c.args in
    let s = c.in_ok-s.s in
    with_at _ _ _ _ a.given.now c.requires s c.in_ok-s.ensures _ _ c.min-k.ensures
    (put_back _ _ _ _ _ (c.copy_in.ensures ∙ written s.from s.len a.store.now _))
