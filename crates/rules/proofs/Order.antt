-- An order of refusals, read back: what came of a column of `unless` says which tests passed.
use Prim.Native.Nat.{ℕ}
use Rattle.rules.specs.Papers.{Outcome, Paper, after, done, through, judged_by, no, refused, says}
use Rattle.rules.specs.Tests.{unless}
use mathlib.Core.Bool.{Bool, false, true}
use mathlib.Core.List.{[]}
use mathlib.Core.Path.{◌≡◌, ap, refl, sym}
use native.Mathlib.Omega.{arith}

-- where the outcome is not the refusal, the test passed
pub passed : {A : Type 0} (b : Bool) (bad x y : A) → (bad ≡ y → ⊥) → unless b bad x ≡ y → (b ≡ true) × (x ≡ y)
unfolding unless
passed true bad x y h q = (refl, q)
passed false bad x y h q = absurd (h q)

-- a number above 0 is a refusal, and what was there stays
pub refusal_keeps : {A B : Type 0} (o : Outcome A) (b : B) (f : A → B) → ((says o).number ≡ 0 → ⊥) → after o b f ≡ b
unfolding says after
refusal_keeps (refused p) b f n = refl
refusal_keeps (done vs x) b f n = absurd (n refl)

-- a judgement that gives no refusal passed every test; and one that gives a refusal gives it to every call
pub all_passed : (a b d : Bool) → no 0 [] ≡ says (judged_by {A = Unit {0}} a b d (done [] tt)) → (a ≡ true) × (b ≡ true) × (d ≡ true)
unfolding judged_by unless says
all_passed true true true q = (refl, refl, refl)
all_passed false b d q = let z : ◌≡◌ {A = ℕ} 0 1 = ap (λ (p : Paper). p.number) q in absurd (omega arith)
all_passed true false d q = let z : ◌≡◌ {A = ℕ} 0 2 = ap (λ (p : Paper). p.number) q in absurd (omega arith)
all_passed true true false q = let z : ◌≡◌ {A = ℕ} 0 3 = ap (λ (p : Paper). p.number) q in absurd (omega arith)

pub one_failed : {A : Type 0} (a b d : Bool) (o : Outcome A) (p : Paper) → (p.number ≡ 0 → ⊥)
    → p ≡ says (judged_by {A = Unit {0}} a b d (done [] tt)) → judged_by a b d o ≡ refused p
unfolding judged_by unless says
one_failed true true true o p n q = absurd (n (ap (λ (x : Paper). x.number) q))
one_failed false b d o p n q = ap refused (sym q)
one_failed true false d o p n q = ap refused (sym q)
one_failed true true false o p n q = ap refused (sym q)

-- an outcome with what is left put through a function: it says the same, and leaves what the function makes of it
pub through_says : {A B : Type 0} (f : A → B) (o : Outcome A) → says (through f o) ≡ says o
unfolding through says
through_says f (refused p) = refl
through_says f (done vs x) = refl

pub through_after : {A B : Type 0} (f : A → B) (o : Outcome A) (b : B) → after (through f o) b (λ t. t) ≡ after o b f
unfolding through after
through_after f (refused p) b = refl
through_after f (done vs x) b = refl
