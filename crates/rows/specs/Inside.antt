-- What the code's judging of rows goes by: the rows judged so far, and four rows at once.
-- A reader need not believe this file: contracts below the public calls cite it, no public call's promise does.
use Rattle.std.specs.Prelude.{◌*◌, ◌+◌, ◌<◌, ◌≤◌, ℕ, drop, false, List, ◌≡◌}
use Rattle.rows.specs.Entries.{Entry, nth}
use Rattle.rows.specs.Order.{ordered, ordered_from}
use Rattle.time.specs.Time.{far, giga}

-- i of the entries were judged, the last of them s seconds and v nanoseconds; no seconds before were more
pub record Passed (es : List Entry) (i s v : ℕ) : Type 0 where
  pub range : v < giga
  pub fine : s ≤ far + far → ordered es ≡ ordered_from (s * giga + v) (drop i es)
  pub bad : far + far < s → ordered es ≡ false

-- s seconds are before these, and the nanoseconds are in range
pub record Rises (s secs nanos : ℕ) : Type 0 where
  pub up : s < secs
  pub range : nanos < giga

-- four rows do, one after the other
pub record FourRise (t : List (List ℕ)) (s : ℕ) : Type 0 where
  pub first : Rises s (nth t 0).secs (nth t 0).nanos
  pub second : Rises (nth t 0).secs (nth t 1).secs (nth t 1).nanos
  pub third : Rises (nth t 1).secs (nth t 2).secs (nth t 2).nanos
  pub fourth : Rises (nth t 2).secs (nth t 3).secs (nth t 3).nanos
