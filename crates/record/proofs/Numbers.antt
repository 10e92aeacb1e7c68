-- No refusal of the schedule has the number 0, which is an answer's.
use lib.Dec.{eqb}
use borrow.Author.Tests.{eqb-false}
use mathlib.Core.Bool.{false}
use mathlib.Core.Path.{◌≡◌, refl}
use Rattle.lookup.proofs.Numbers.{numbered as store_numbered}
use Rattle.record.specs.Refusals.{paper}
use Rattle.record.specs.declared.ScheduleRefusal.{ScheduleRefusal}
use Rattle.record.specs.declared.ScheduleRefusal.TheVariants.{BadTime, BadTimestamp, LogTooSmall, NestedScheduledTc, ReleaseTimeInTimeMargin, ReversedWindow, ScheduleFull, Store, TcDataEmpty, TcUnreadable, WrongService, WrongSubservice}

pub numbered : (e : ScheduleRefusal) → eqb (paper e).number 0 ≡ false
unfolding paper
numbered (Store e) = store_numbered e
numbered BadTime = refl
numbered (WrongService n) = refl
numbered (WrongSubservice n) = refl
numbered TcDataEmpty = refl
numbered BadTimestamp = refl
numbered TcUnreadable = refl
numbered NestedScheduledTc = refl
numbered (ReleaseTimeInTimeMargin c m r) = refl
numbered ScheduleFull = refl
numbered ReversedWindow = refl
numbered (LogTooSmall t) = refl

pub has_number : (e : ScheduleRefusal) → (paper e).number ≡ 0 → ⊥
has_number e q = eqb-false (paper e).number 0 (numbered e) q
