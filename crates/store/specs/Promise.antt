-- What the calls that change the store promise: public calls by equations for the lent lists, judged calls by what the lists stand for.
use Rattle.std.specs.Prelude.{ℕ, List, ◌≡◌}
use Rattle.rules.specs.Papers.{Outcome, Paper, after, says}
use Rattle.slots.specs.Pools.{Pool}
use Rattle.slots.specs.View.{Leaves, lens_with, store_with, view}
use Rattle.layout.specs.declared.Setup.{Setup}

-- What a public call that writes promises: its answer, and both lists by an equation over those it was given.
pub record Writes (su : Setup) (st le : List ℕ) (o : Outcome (List Pool)) (p : Paper) (st' le' : List ℕ) : Type 0 where
  pub answer : p ≡ says o
  pub store : st' ≡ after o st (store_with su st)
  pub lens : le' ≡ after o le (lens_with su le)

-- What a judged call that writes promises its caller, who has judged: the same outcome, and what the lists stand for.
pub record Does (su : Setup) (st le : List ℕ) (call : List Pool → Outcome (List Pool)) (p : Paper) (st' le' : List ℕ) : Type 0 where
  pub answer : p ≡ says (call (view su st le))
  pub lists : Leaves su st le (after (call (view su st le)) (view su st le) (λ ps. ps)) st' le'
