-- A call on judged lists comes to what it makes of what they stand for.
use Prim.Native.Nat.{ℕ}
use Rattle.layout.specs.Judge.{Sound, judged}
use Rattle.lookup.specs.Calls.{judging}
use Rattle.rules.specs.Papers.{Outcome, judged_by}
use Rattle.rules.specs.Tests.{unless}
use Rattle.slots.specs.Pools.{Pool}
use Rattle.slots.specs.View.{view}
use mathlib.Core.List.{List}
use mathlib.Core.Path.{◌≡◌}
use Rattle.layout.specs.declared.Setup.{Setup}

pub judging_fine : {A : Type 0} (su : Setup) (st le : List ℕ) (call : List Pool → Outcome A) → Sound su st le
    → judging su st le call ≡ call (view su st le)
unfolding judged judged_by judging unless
judging_fine su st le call s = rw (s.setup, s.buffers, s.lengths)
