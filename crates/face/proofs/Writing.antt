-- What is written of the record's words where the number is 0 is what the call leaves of them.
use Prim.Native.Nat.{suc, ℕ}
use Rattle.rules.specs.Papers.{Outcome, Paper, after, done, no, refused, says}
use Rattle.rules.specs.Tests.{unless}
use Rattle.face_words.proofs.Written.{unwritten, written}
use Rattle.face_words.specs.Inside.{words_of, written_if}
use Rattle.face_words.specs.declared.Words.{Words}
use mathlib.Core.Bool.{Bool, false, true}
use mathlib.Core.List.{List, []}
use mathlib.Core.Path.{◌∙◌, ◌≡◌, ap, refl, sym}
use native.Mathlib.Omega.{arith}

-- a refusal's number is above 0, and P holds of what is left
unfoldable pub Ends : {A : Type 0} → (A → Type 0) → Outcome A → Type 0
Ends P (refused p) = p.number ≡ 0 → ⊥
Ends P (done vs x) = P x

pub ends_done : {A : Type 0} (P : A → Type 0) (vs : List ℕ) (x : A) → P x → Ends P (done vs x)
unfolding Ends
ends_done P vs x h = h

pub ends_unless : {A : Type 0} (P : A → Type 0) (b : Bool) (n : ℕ) (o : Outcome A) → Ends P o → Ends P (unless b (refused (no (suc n) [])) o)
unfolding Ends unless
ends_unless P true n o h = h
ends_unless P false n o h = λ e. omega arith

module _ {A : Type 0} (P : A → Type 0) (new old : Outcome A → List ℕ) (ws : List ℕ) (f : A → List ℕ)
    (leaves : (vs : List ℕ) (x : A) → P x → new (done vs x) ≡ f x) (keeps : (p : Paper) → old (refused p) ≡ ws) where
  by_outcome : (o : Outcome A) → Ends P o → written_if (says o).number (new o) (old o) ≡ after o ws f
  unfolding Ends says after
  by_outcome (refused p) h = sym (unwritten p.number (new (refused p)) (old (refused p)) h) ∙ keeps p
  by_outcome (done vs x) h = sym (written 0 (new (done vs x)) (new (done vs x)) (old (done vs x)) refl refl) ∙ leaves vs x h

  pub written_after : (o : Outcome A) (p : Paper) (w : Words) (ws' : List ℕ) → Ends P o → p ≡ says o → w ≡ words_of p
      → ws' ≡ written_if w.number (new o) (old o) → ws' ≡ after o ws f
  written_after o p w ws' h q e k =
      k ∙ ap (λ n. written_if n (new o) (old o)) (ap (λ (x : Words). x.number) e ∙ ap (λ (x : Paper). x.number) q) ∙ by_outcome o h
