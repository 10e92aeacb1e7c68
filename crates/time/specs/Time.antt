-- Times and margins: their ranges (document 01, "Sizes"), and each as one number of nanoseconds, by which all comparing is done.
use Rattle.std.specs.Prelude.{◌%◌, ◌*◌, ◌+◌, ◌-◌, ◌/◌, ◌<◌, ◌≤◌, ℕ, T, leb, ltb, ◌-ℤ◌, negsuc, pos, ℤ, Bool, ◌&&◌}
use Rattle.time.specs.declared.UnixTime.{UnixTime}
use Rattle.time.specs.declared.Margin.{Margin}
use Rattle.time.specs.declared.Moment.{Moment}

-- 2^42 seconds, some 139,000 years, and a second's nanoseconds
abbrev pub far : ℕ
far = 4398046511104

abbrev pub giga : ℕ
giga = 1000000000

-- seconds between -2^42 and 2^42, both allowed (negsuc n is -(n + 1))
abbrev pub secs_in_range : ℤ → Bool
secs_in_range (pos n) = leb n far
secs_in_range (negsuc n) = ltb n far

abbrev pub in_range : UnixTime → Bool
in_range t = secs_in_range t.secs && ltb t.nanos giga

-- margin seconds from 0 to 2^31
abbrev pub margin_in_range : Margin → Bool
margin_in_range m = leb m.secs 2147483648 && ltb m.nanos giga

-- seconds counted from -2^42
abbrev pub biased : ℤ → ℕ
biased (pos n) = n + far
biased (negsuc n) = far - 1 - n

-- a time as one number: nanoseconds from -2^42 seconds on
abbrev pub instant : UnixTime → ℕ
instant t = biased t.secs * giga + t.nanos

abbrev pub span : Margin → ℕ
span m = m.secs * giga + m.nanos

-- clock + margin
abbrev pub earliest : UnixTime → Margin → ℕ
earliest clock margin = instant clock + span margin

-- refusal 13, ReleaseTimeInTimeMargin: release < clock + margin
abbrev pub in_time_margin : UnixTime → Margin → UnixTime → Bool
in_time_margin clock margin release = ltb (instant release) (earliest clock margin)

-- a moment as one number, and the moment of a number
abbrev pub instant_of : Moment → ℕ
instant_of m = m.secs * giga + m.nanos

abbrev pub moment_at : ℕ → Moment
moment_at n = record { secs = n / giga; nanos = n % giga }

-- the moment of a time, and the time of a moment
abbrev pub moment_of : UnixTime → Moment
moment_of t = record { secs = biased t.secs; nanos = t.nanos }

abbrev pub time_of : Moment → UnixTime
time_of m = record { secs = pos m.secs -ℤ pos far; nanos = m.nanos }

-- the tests as facts: what a caller that has judged hands on
pub record InRange (t : UnixTime) : Type 0 where
  pub secs : T (secs_in_range t.secs)
  pub nanos : t.nanos < giga

pub record MarginInRange (m : Margin) : Type 0 where
  pub secs : m.secs ≤ 2147483648
  pub nanos : m.nanos < giga

-- a moment may lie past every time, once a margin was added: only its nanoseconds are bounded
pub record MomentInRange (m : Moment) : Type 0 where
  pub nanos : m.nanos < giga
