-- `schedule::judge` meets its contract: each test that was passed is one more line of `judging`.
use lib.ListN.{length}
use mathlib.Core.Bool.{true}
use mathlib.Core.Path.{◌≡◌}
use Rattle.rules.proofs.Passing.{fails, passes}
use Rattle.schedule.specs.Judge.{buffers_ok, setup_ok}
use Rattle.schedule.proofs.Facts.{long_enough}
use Rattle.schedule.proofs.Judging.{all_fine, damaged, no_buffers, no_setup}
use Rattle.schedule.proofs.judge.Goals as goal

pub returns-then-not-setup_ok : goal.returns-then-not-setup_ok
returns-then-not-setup_ok c =
    let a = c.args in
    no_setup a.setup a.rec a.store.now a.lens.now a.rows.now (fails c.setup_ok.ensures c.if-not-setup_ok.true)

pub returns-then-not-buffers_ok : goal.returns-then-not-buffers_ok
returns-then-not-buffers_ok c =
    let setup_fine : setup_ok c.args.setup ≡ true = passes c.setup_ok.ensures c.if-not-setup_ok.false in
    let a = c.args in
    no_buffers a.setup a.rec a.store.now a.lens.now a.rows.now setup_fine
    (fails c.buffers_ok.ensures c.if-not-buffers_ok.true)

pub state_ok-requires : goal.state_ok-requires
state_ok-requires c =
    let setup_fine : setup_ok c.args.setup ≡ true = passes c.setup_ok.ensures c.if-not-setup_ok.false in
    let buffers_fine : buffers_ok c.args.setup (length c.args.store.now) (length c.args.lens.now) (length c.args.rows.now) ≡ true =
    passes c.buffers_ok.ensures c.if-not-buffers_ok.false in
    long_enough _ _ _ _ setup_fine buffers_fine

pub returns-then-not-state_ok : goal.returns-then-not-state_ok
returns-then-not-state_ok c =
    let setup_fine : setup_ok c.args.setup ≡ true = passes c.setup_ok.ensures c.if-not-setup_ok.false in
    let buffers_fine : buffers_ok c.args.setup (length c.args.store.now) (length c.args.lens.now) (length c.args.rows.now) ≡ true =
    passes c.buffers_ok.ensures c.if-not-buffers_ok.false in
    let a = c.args in
    damaged a.setup a.rec a.store.now a.lens.now a.rows.now setup_fine buffers_fine
    (fails c.state_ok.ensures c.if-not-state_ok.true)

pub returns : goal.returns
returns c =
    let setup_fine : setup_ok c.args.setup ≡ true = passes c.setup_ok.ensures c.if-not-setup_ok.false in
    let buffers_fine : buffers_ok c.args.setup (length c.args.store.now) (length c.args.lens.now) (length c.args.rows.now) ≡ true =
    passes c.buffers_ok.ensures c.if-not-buffers_ok.false in
    let a = c.args in
    all_fine a.setup a.rec a.store.now a.lens.now a.rows.now setup_fine buffers_fine
    (passes c.state_ok.ensures c.if-not-state_ok.false)
