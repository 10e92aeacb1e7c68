-- `selection::window::rows_in` meets its contract.
use Rattle.selection.proofs.WindowLaws.{retrieves_none, retrieves_some}
use Rattle.selection.proofs.window.rows_in.Goals as goal

pub returns-then-b-a : goal.returns-then-b-a
returns-then-b-a c =
    let a = c.args in
    retrieves_none a.count a.rows.now c.requires.sound.kept a.w _ _ c.start-a.ensures
    c.end-b.ensures c.if-b-a.true

pub returns : goal.returns
returns c =
    let a = c.args in
    retrieves_some a.count a.rows.now c.requires.sound.kept a.w _ _ c.start-a.ensures c.end-b.ensures c.if-b-a.false
