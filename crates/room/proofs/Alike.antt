-- What a call comes to on the smaller, and on the larger: the same but for the room, unless the smaller refused it for want of room.
use Rattle.rules.proofs.Cases.{clash}
use Prim.Native.Nat.{ℕ}
use Rattle.room.specs.Room.{struck}
use Rattle.rules.specs.Papers.{Outcome, Paper, done, through, no, refused, says}
use Rattle.rules.specs.Tests.{unless}
use mathlib.Core.Bool.{Bool, false, true}
use mathlib.Core.List.{List}
use mathlib.Core.Path.{◌≡◌, refl}

-- what is left is as it must be, where the call answered
abbrev pub Left : {A : Type 0} → (List ℕ → A → Type 0) → Outcome A → Type 0
Left ok (refused p) = Unit {0}
Left ok (done vs x) = ok vs x

-- `larger` makes the larger's of what the smaller leaves
pub record Alike {A : Type 0} (larger : A → A) (ok : List ℕ → A → Type 0) (o o' : Outcome A) : Type 0 where
  pub same : struck (says o) ≡ false → o' ≡ through larger o
  pub left : Left ok o

-- an answer is not struck
pub answer_stays : (vs : List ℕ) → struck (no 0 vs) ≡ false
unfolding struck
answer_stays vs = refl

module _ {A : Type 0} (larger : A → A) (ok : List ℕ → A → Type 0) where
  pub refuses : (p : Paper) → Alike larger ok (refused p) (refused p)
  unfolding through
  refuses p = record { same = λ h. refl; left = tt }

  pub strikes : (p : Paper) (o' : Outcome A) → struck p ≡ true → Alike larger ok (refused p) o'
  unfolding says
  strikes p o' e = record { same = λ h. clash (struck p) e h; left = tt }

  pub answers : (vs : List ℕ) (x : A) → ok vs x → Alike larger ok (done vs x) (done vs (larger x))
  unfolding through
  answers vs x k = record { same = λ h. refl; left = k }

  pub by_test : (b : Bool) (o o' p p' : Outcome A) → Alike larger ok o o' → Alike larger ok p p' → Alike larger ok (unless b o p) (unless b o' p')
  unfolding unless
  by_test true o o' p p' g h = h
  by_test false o o' p p' g h = g

  -- a refusal for want of room, which the larger has where the smaller has it
  pub by_room : (b b' : Bool) (r : Paper) (p p' : Outcome A) → (b ≡ true → b' ≡ true) → struck r ≡ true → Alike larger ok p p'
      → Alike larger ok (unless b (refused r) p) (unless b' (refused r) p')
  unfolding unless
  by_room true b' r p p' f e h = rw (f refl) h
  by_room false b' r p p' f e h = strikes r _ e

  -- what the larger comes to, where the smaller answers
  pub answered_too : (vs : List ℕ) (x : A) (o' : Outcome A) → Alike larger ok (done vs x) o' → o' ≡ done vs (larger x)
  unfolding through says
  answered_too vs x o' a = a.same (answer_stays vs)

  pub refused_too : (p : Paper) (o' : Outcome A) → Alike larger ok (refused p) o' → struck p ≡ false → o' ≡ refused p
  unfolding through says
  refused_too p o' a h = a.same h
