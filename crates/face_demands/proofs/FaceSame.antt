-- An answer of the C face, and what is lent to it, are told by their parts.
use Rattle.face_demands.specs.FaceCalling.{FaceAnswer, FaceLent}
use mathlib.Core.Path.{◌≡◌}

pub same_answer : (x y : FaceAnswer) → (x.number ≡ y.number) × (x.words ≡ y.words) → x.buffer ≡ y.buffer → x ≡ y
same_answer x y e f = λ i. record { number = e.0 i; words = e.1 i; buffer = f i }

pub same_lent : (t u : FaceLent) → (u.rec ≡ t.rec) → (u.store ≡ t.store) → (u.lens ≡ t.lens) → (u.rows ≡ t.rows) → u ≡ t
same_lent t u a b c d = λ i. record { rec = a i; store = b i; lens = c i; rows = d i }
