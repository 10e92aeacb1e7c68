-- `windows::moments` meets its contract.
use Rattle.windows.proofs.Openings.{both_judged, from_judged, to_judged}
use Rattle.windows.specs.Windowing.{window_of}
use Rattle.windows.proofs.moments.Goals as goal

pub to_moment-requires : goal.to_moment-requires
to_moment-requires c = (both_judged _ _ _ c.in-FromTo.is c.requires).0

pub to_moment-requires-in-FromTo : goal.to_moment-requires-in-FromTo
to_moment-requires-in-FromTo c = (both_judged _ _ _ c.in-FromTo.is c.requires).1

pub to_moment-requires-in-From : goal.to_moment-requires-in-From
to_moment-requires-in-From c = from_judged _ _ c.in-From.is c.requires

pub to_moment-requires-in-To : goal.to_moment-requires-in-To
to_moment-requires-in-To c = to_judged _ _ c.in-To.is c.requires

pub returns-in-All : goal.returns-in-All
unfolding window_of
returns-in-All c = (rw c.in-All.is, tt)

pub returns-in-FromTo : goal.returns-in-FromTo
unfolding window_of
returns-in-FromTo c =
    let i = both_judged _ _ _ c.in-FromTo.is c.requires in
    let p = c.to_moment.ensures in
    let q = c.to_moment-in-FromTo.ensures in
    (rw (c.in-FromTo.is, p, q), (rw p (record { nanos = i.0.nanos }), rw q (record { nanos = i.1.nanos })))

pub returns-in-From : goal.returns-in-From
unfolding window_of
returns-in-From c =
    let i = from_judged _ _ c.in-From.is c.requires in
    let p = c.to_moment-in-From.ensures in
    (rw (c.in-From.is, p), rw p (record { nanos = i.nanos }))

pub returns-in-To : goal.returns-in-To
unfolding window_of
returns-in-To c =
    let i = to_judged _ _ c.in-To.is c.requires in
    let p = c.to_moment-in-To.ensures in
    (rw (c.in-To.is, p), rw p (record { nanos = i.nanos }))
