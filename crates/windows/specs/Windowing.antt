-- Windows of time given as arguments: 4, 15, and retrieval. An end that a window has not is not looked at.
use Rattle.std.specs.Prelude.{leb, length, Bool, ◌&&◌, true, [], ◌∷◌}
use Rattle.rules.specs.Papers.{Outcome, done, no, refused}
use Rattle.rules.specs.Tests.{unless}
use Rattle.selection.specs.Windows.{first_row, in_window}
use Rattle.selection.specs.declared.MomentWindow.{MomentWindow}
use Rattle.selection.specs.declared.MomentWindow.TheVariants as T
use Rattle.time.specs.Time.{in_range, instant, moment_of}
use Rattle.schedule.specs.State.{State}
use Rattle.windows.specs.declared.TimeWindow.{TimeWindow}
use Rattle.windows.specs.declared.TimeWindow.TheVariants.{All, From, FromTo, To}

-- 4: each end that it has is in range
unfoldable pub ends_in_range : TimeWindow → Bool
ends_in_range All = true
ends_in_range (FromTo f t) = in_range f && in_range t
ends_in_range (From f) = in_range f
ends_in_range (To t) = in_range t

-- 15: start after end
unfoldable pub forward : TimeWindow → Bool
forward All = true
forward (FromTo f t) = leb (instant f) (instant t)
forward (From f) = true
forward (To t) = true

-- the window in moments
unfoldable pub window_of : TimeWindow → MomentWindow
window_of All = T.All
window_of (FromTo f t) = T.FromTo (moment_of f) (moment_of t)
window_of (From f) = T.From (moment_of f)
window_of (To t) = T.To (moment_of t)

-- 4, then 15, then what the call comes to with the window in moments
unfoldable pub windowed : {A : Type 0} → TimeWindow → (MomentWindow → Outcome A) → Outcome A
windowed w call = unless (ends_in_range w) (refused (no 4 [])) (unless (forward w) (refused (no 15 [])) (call (window_of w)))

-- retrieval: first row and number of rows; row 0 where there are none
unfoldable pub retrieve_in : TimeWindow → State → Outcome (Unit {0})
retrieve_in w s = windowed w (λ tw. done (first_row tw s.entries ∷ length (in_window tw s.entries) ∷ []) tt)
