-- A call answers a test, and `if !answer { return .. }` follows: what the test then comes to.
use borrow.Author.Tests.{not-false, not-true}
use mathlib.Core.Bool.{Bool, false, not, true}
use mathlib.Core.Path.{◌∙◌, ◌≡◌, sym}

-- the code went on
pub passed : {b t : Bool} → b ≡ t → not b ≡ false → t ≡ true
passed {b} e went_on = sym e ∙ not-false b went_on

-- the code left
pub failed : {b t : Bool} → b ≡ t → not b ≡ true → t ≡ false
failed {b} e left = sym e ∙ not-true b left

-- the same, as a step of the code says it: the answer is true where the code went on
pub passes : {b t : Bool} → b ≡ t → b ≡ true → t ≡ true
passes e went_on = sym e ∙ went_on

-- and false where the code left
pub fails : {b t : Bool} → b ≡ t → b ≡ false → t ≡ false
fails e left = sym e ∙ left
