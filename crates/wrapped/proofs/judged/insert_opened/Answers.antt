-- `wrapped::judged::insert_opened` meets its contract.
use Prim.Native.Nat.{ℕ, ◌<◌, ◌≤◌}
use borrow.Author.Tests.{eqb-false, eqb-true}
use lib.ListN.{length}
use native.Mathlib.Omega.{arith}
use Rattle.rules.proofs.Passing.{fails, passes}
use mathlib.Core.List.{List}
use mathlib.Core.Path.{subst}
use Rattle.packet.specs.Packet.{user_data_of}
use Rattle.storing.specs.Answers.{inserted_paper}
use Rattle.wrapped.proofs.Wrapping.{no_data, some_data, wrong_service, wrong_subservice}
use Rattle.wrapped.proofs.judged.insert_opened.Goals as goal

pub returns-then-h-ne11 : goal.returns-then-h-ne11
unfolding inserted_paper
returns-then-h-ne11 c =
    let a = c.args in
    wrong_service a.setup a.rec.now a.store.now a.lens.now a.rows.now (user_data_of 2 a.outer.now) a.h c.if-h-ne11.true

pub returns-then-h-ne4 : goal.returns-then-h-ne4
unfolding inserted_paper
returns-then-h-ne4 c =
    let a = c.args in
    wrong_subservice a.setup a.rec.now a.store.now a.lens.now a.rows.now (user_data_of 2 a.outer.now) a.h
    c.if-h-ne11.false c.if-h-ne4.true

pub returns-then-is_empty : goal.returns-then-is_empty
unfolding inserted_paper
returns-then-is_empty c =
    let a = c.args in
    no_data a.setup a.rec.now a.store.now a.lens.now a.rows.now (user_data_of 2 a.outer.now) a.h c.if-h-ne11.false c.if-h-ne4.false
    (subst (λ (l : List ℕ). length l < 1) c.user_data-data.ensures.bytes
    (omega (arith, eqb-true _ _ (passes c.is_empty.ensures c.if-is_empty.true))))

pub returns : goal.returns
returns c =
    let a = c.args in
    some_data a.setup a.rec.now a.store.now a.lens.now a.rows.now (user_data_of 2 a.outer.now) a.h c.if-h-ne11.false c.if-h-ne4.false
    (subst (λ (l : List ℕ). 1 ≤ length l) c.user_data-data.ensures.bytes
    (omega (arith, eqb-false _ _ (fails c.is_empty.ensures c.if-is_empty.false)))) _ _ _ _ _
    (rw c.user_data-data.ensures.bytes at c.insert_stamped.ensures)
