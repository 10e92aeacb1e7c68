-- What is lent to the C face, and what it answers, by their parts.
use Rattle.std.specs.Prelude.{ℕ, List}
use Rattle.face_demands.specs.FaceCalling.{FaceAnswer, FaceLent}

abbrev pub lending : List ℕ → List ℕ → List ℕ → List ℕ → FaceLent
lending ws st le ro = record { rec = ws; store = st; lens = le; rows = ro }

abbrev pub told : ℕ → List ℕ → List ℕ → FaceAnswer
told n an b = record { number = n; words = an; buffer = b }
