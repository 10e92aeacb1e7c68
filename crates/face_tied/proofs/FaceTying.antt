-- The promise of `part` alone, whose caller writes no bytes: the store is as it was. And the promises of calls that are given signed seconds,
-- which a function holds as bits and hands on as what the machine reads back.
use Prim.Native.Nat.{suc, zero, ℕ}
use Rattle.face.specs.Face.{Answers}
use Rattle.face_demands.specs.FaceCalling.{FaceAnswer, FaceCall, FaceLent, FaceParts, FacePromised, caller_writes, written_at}
use Rattle.rules.specs.Papers.{Outcome}
use Rattle.rules.specs.Tests.{unless}
use Rattle.slots.specs.Pools.{over}
use Rattle.slots.specs.View.{part, put}
use lib.Dec.{eqb}
use lib.IntN.{ℤ}
use lib.ListN.{drop, take, take-append-drop}
use mathlib.Core.Bool.{Bool, false, true}
use mathlib.Core.List.{List, []}
use mathlib.Core.Path.{◌≡◌, ap, refl, subst, sym}
use mir.Facts.{to_z-of_z}
use mir.Syntax.{w64}
use mir.Val.{SFits, of_z, to_z}

nothing_over : (n : ℕ) (b : List ℕ) → over (take n []) b ≡ b
unfolding over
nothing_over zero b = refl
nothing_over (suc n) b = refl

nothing_at : (from n : ℕ) (st : List ℕ) → written_at from n [] st ≡ st
unfolding written_at put part
nothing_at from n st =
    rw (nothing_over n (take n (drop from st)), take-append-drop n (drop from st), take-append-drop from st)

nothing_by : (b : Bool) (st wr : List ℕ) → wr ≡ st → unless b st wr ≡ st
unfolding unless
nothing_by true st wr e = e
nothing_by false st wr e = refl

nothing_written : (x : FaceAnswer) (st : List ℕ) → caller_writes x [] st ≡ st
unfolding caller_writes
nothing_written x st = nothing_by (eqb x.number 0) st _ (nothing_at _ _ st)

pub parted : (sw an : List ℕ) (t : FaceLent) (x : FaceAnswer) (o : Outcome (Unit {0})) → Answers o an x.number x.words → x.buffer ≡ []
    → FaceParts sw an t x t o []
parted sw an t x o a b =
    record {
      answer = a;
      lent = ap (λ (st : List ℕ). record { rec = t.rec; store = st; lens = t.lens; rows = t.rows }) (sym (nothing_written x t.store));
      buffer = b;
    }

-- a call that is given the seconds that were read back is the call that is given s
module _ (sw an : List ℕ) (t : FaceLent) (x : FaceAnswer) (u : FaceLent) where
  pub again : (c : ℤ → FaceCall) (s : ℤ) → SFits w64 s → FacePromised sw an (c (to_z w64 (of_z w64 s))) t x u → FacePromised sw an (c s) t x u
  again c s f p = subst (λ (y : ℤ). FacePromised sw an (c y) t x u) (to_z-of_z f) p

  pub again_both : (c : ℤ → ℤ → FaceCall) (s r : ℤ) → SFits w64 s → SFits w64 r
      → FacePromised sw an (c (to_z w64 (of_z w64 s)) (to_z w64 (of_z w64 r))) t x u → FacePromised sw an (c s r) t x u
  again_both c s r f g p = again (λ y. c s y) r g (again (λ y. c y (to_z w64 (of_z w64 r))) s f p)
