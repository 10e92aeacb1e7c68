-- An answer, and what is lent, are told by their parts.
use Rattle.demands.specs.Calling.{Lent}
use Rattle.scheduler.specs.Laws.{Same}
use Rattle.scheduler.specs.Steps.{Answer}
use mathlib.Core.Path.{◌≡◌}

pub same_answer : (x y : Answer) → x.paper ≡ y.paper → x.buffer ≡ y.buffer → x ≡ y
same_answer x y e f = λ i. record { paper = e i; buffer = f i }

pub same_lent : (t u : Lent) → Same t.rec u.rec t.store u.store t.lens u.lens t.rows u.rows → u ≡ t
same_lent t u s = λ i. record { rec = s.record_is i; store = s.store_is i; lens = s.lens_is i; rows = s.rows_is i }
