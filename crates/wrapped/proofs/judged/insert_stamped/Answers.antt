-- `wrapped::judged::insert_stamped` meets its contract: a stamp that was read lies within the bytes, and its time is in range.
use Prim.Native.Nat.{◌-◌, ◌≤◌, ℕ}
use lib.ListN.{drop, length, length-drop, take}
use lib.Seq.{take_all}
use mathlib.Core.List.{List}
use mathlib.Core.Path.{◌≡◌, sym}
use native.Mathlib.Omega.{arith}
use Rattle.stamp.proofs.Fits.{stamp_fits}
use Rattle.storing.specs.Answers.{inserted_paper}
use Rattle.wrapped.proofs.Wrapping.{stamp_at, stamp_refused}
use Rattle.wrapped.proofs.judged.insert_stamped.Goals as goal

-- all of what is behind the stamp
rest : (n : ℕ) (d : List ℕ) → take (length d - n) (drop n d) ≡ drop n d
rest n d = take_all (length d - n) (drop n d) (omega (arith, length-drop n d))

pub slice_bounds-insert_tc-count : goal.slice_bounds-insert_tc-count
slice_bounds-insert_tc-count c =
    let fits = stamp_fits c.args.«data».now _ (sym c.in-Some.ensures.same) in
    omega (arith, fits)

pub slice_bounds-insert_tc-start : goal.slice_bounds-insert_tc-start
slice_bounds-insert_tc-start c =
    let fits = stamp_fits c.args.«data».now _ (sym c.in-Some.ensures.same) in
    omega (arith, fits)

pub returns-in_default : goal.returns-in_default
unfolding inserted_paper
returns-in_default c =
    let a = c.args in
    stamp_refused a.setup a.rec.now a.store.now a.lens.now a.rows.now a.«data».now (sym c.in_default.ensures.same)

pub returns : goal.returns
returns c =
    let a = c.args in
    stamp_at a.setup a.rec.now a.store.now a.lens.now a.rows.now a.«data».now _
    (sym c.in-Some.ensures.same) _ _ _ _ _
    (rw (rest c.in-Some.stamp.len a.«data».now) at c.insert_tc.ensures)
