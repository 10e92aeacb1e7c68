-- Refusal 13, and an answer that carries another, from the words that they hold.
use Rattle.std.specs.Prelude.{Option, Some, None}
use Prim.Native.Nat.{ℕ}
use Rattle.sweep.specs.Answers.{last_paper}
use Rattle.face_words.specs.Inside.{words_of}
use Rattle.face_words.specs.Padding.{padded}
use Rattle.rules.specs.Papers.{Paper, no}
use Rattle.schedule_answers.specs.Inside.{carrying}
use mathlib.Core.List.{List, [], ◌∷◌}
use mathlib.Core.Path.{◌∙◌, ◌≡◌, ap, refl}
use Rattle.lookup.specs.Refusals.{paper as store_paper}
use Rattle.slots.specs.declared.StoreIdError.TheVariants.{InvalidPacketIdx, InvalidSubpool}
use Rattle.slots.specs.declared.StoreRefusal.{StoreRefusal}
use Rattle.slots.specs.declared.StoreRefusal.TheVariants.{BadBuffers, BadSetup, BufferTooSmall, DataDoesNotExist, DataTooLarge, InvalidStoreId, StateDamaged, StoreFull}
use Rattle.face_words.specs.declared.Words.{Words}

-- refusal 13's six values
pub six_is : {a b d e f g a' b' d' e' f' g' : ℕ} → a ≡ a' → b ≡ b' → d ≡ d' → e ≡ e' → f ≡ f' → g ≡ g'
    → record { number = 13; values = a ∷ b ∷ d ∷ e ∷ f ∷ g ∷ 0 ∷ 0 ∷ [] } ≡ words_of (no 13 (a' ∷ b' ∷ d' ∷ e' ∷ f' ∷ g' ∷ []))
unfolding padded
six_is p q r s t u = cc

-- an answer that carries a paper of two values at most behind two words
abbrev pub Few : List ℕ → Type 0
Few [] = Unit {0}
Few (a ∷ []) = Unit {0}
Few (a ∷ b ∷ vs) = vs ≡ []

carry_few : (a b n : ℕ) (vs : List ℕ) → Few vs → carrying a b (words_of (no n vs)) ≡ words_of (no 0 (a ∷ b ∷ n ∷ vs))
unfolding padded
carry_few a b n [] f = refl
carry_few a b n (x ∷ []) f = refl
carry_few a b n (x ∷ y ∷ vs) f = rw f

pub carry_is : {a b a' b' : ℕ} {w v : Words} (p : Paper) → w ≡ carrying a b v → v ≡ words_of p → a ≡ a' → b ≡ b' → Few p.values
    → w ≡ words_of (no 0 (a' ∷ b' ∷ p.number ∷ p.values))
carry_is {a} {b} {a'} {b'} {w} {v} p e q r s f =
    e ∙ ap (λ (x : Words). carrying a b x) q ∙ carry_few a b p.number p.values f
    ∙ ap (λ (x : ℕ). words_of (no 0 (x ∷ b ∷ p.number ∷ p.values))) r ∙ ap (λ (x : ℕ). words_of (no 0 (a' ∷ x ∷ p.number ∷ p.values))) s

pub store_few : (e : StoreRefusal) → Few (store_paper e).values
unfolding store_paper
store_few BadSetup = tt
store_few BadBuffers = tt
store_few StateDamaged = tt
store_few (DataTooLarge n) = tt
store_few (StoreFull k) = tt
store_few (InvalidStoreId (InvalidSubpool k)) = tt
store_few (InvalidStoreId (InvalidPacketIdx i)) = tt
store_few (DataDoesNotExist a) = tt
store_few (BufferTooSmall f x) = refl

pub last_few : (l : Option StoreRefusal) → Few (last_paper l).values
unfolding last_paper
last_few None = tt
last_few (Some e) = store_few e
