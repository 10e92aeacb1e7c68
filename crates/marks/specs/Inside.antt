-- One length without its mark.
-- A reader need not believe this file: private functions cite it, no promise does.
use Rattle.std.specs.Prelude.{◌-◌, ℕ, leb, ltb, [], ◌∷◌}
use Rattle.layout.specs.Limits.{store_free}
use Rattle.marks.specs.Marks.{added}
use Rattle.rules.specs.Tests.{all_of, unless}

-- a length without its mark
unfoldable pub bare : ℕ → ℕ
bare w = unless (all_of (leb added w ∷ ltb w store_free ∷ [])) w (w - added)
