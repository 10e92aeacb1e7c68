-- `table::below_words` meets its contract.
use Rattle.rows.specs.Order.{ordered}
use Rattle.std.proofs.lemmas.Iterator.{YieldsList-from_slice}
use Rattle.std.proofs.lemmas.Iterator.Search.{position_from_yields_List}
use Rattle.table.proofs.Before.{found_below}
use Rattle.table.proofs.Reached.{reached}
use Rattle.table.proofs.below_words.Goals as goal
use borrow.Author.Rules.{rules}
use borrow.Author.Tests.{tests}
use mathlib.Core.Path.{◌∙◌, ap}

pub returns : goal.returns
returns c =
    let a = c.args in
    let t = c.table in
    let o = ap ordered t.ensures.entries ∙ c.requires.sound.kept in
    rw (c.unwrap_or.ensures, ← t.ensures.entries)
    (found_below a.secs a.nanos c.requires.nanos_le_giga t.result.now a.count _ o t.ensures.length
    (position_from_yields_List (reached a.secs a.nanos) _ _ _ c.position.ensures.ran (YieldsList-from_slice t.result.now (cc))
    (λ x b q k. search (rules, tests))))
