-- A time or margin that was judged in range, as facts.
use Rattle.rules.proofs.All.{and_left, and_right}
use Rattle.time.specs.Time.{InRange, MarginInRange, giga, in_range, margin_in_range, secs_in_range}
use borrow.Author.Tests.{leb-true, ltb-true}
use lib.Dec.{T, leb, ltb}
use mathlib.Core.Bool.{true}
use mathlib.Core.Path.{◌≡◌, subst, sym}
use Rattle.time.specs.declared.Margin.{Margin}
use Rattle.time.specs.declared.UnixTime.{UnixTime}

pub time_judged : (t : UnixTime) → in_range t ≡ true → InRange t
time_judged t e =
    record {
      secs = subst T (sym (and_left (secs_in_range t.secs) (ltb t.nanos giga) e)) tt;
      nanos = ltb-true t.nanos giga (and_right (secs_in_range t.secs) (ltb t.nanos giga) e);
    }

pub margin_judged : (m : Margin) → margin_in_range m ≡ true → MarginInRange m
margin_judged m e =
    record {
      secs = leb-true m.secs 2147483648 (and_left (leb m.secs 2147483648) (ltb m.nanos giga) e);
      nanos = ltb-true m.nanos giga (and_right (leb m.secs 2147483648) (ltb m.nanos giga) e);
    }
