-- Faults that judging counts.
-- A reader need not believe this file: contracts below the public calls cite it, no public call's promise does.
use Rattle.std.specs.Prelude.{◌<◌, ◌≤◌, ℕ, ◌≡◌}

-- 1 where something is wrong, and 0 where it is right: what counting faults adds up
pub record OneIfWrong (right wrong : Type 0) (r : ℕ) : Type 0 where
  pub one : r ≤ 1
  pub none : r ≡ 0 → right
  pub some : 0 < r → wrong
