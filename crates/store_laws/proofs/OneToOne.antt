-- `paper` is one-to-one: number and values tell every refusal, and every answer of a call, apart.
use Rattle.std.specs.Prelude.{Result, Ok, Err, Bool, ℕ}
use Rattle.rules.proofs.Back.{answer_of}
use Rattle.rules.specs.Papers.{Paper}
use Rattle.store.specs.Refusals.{added_paper, done_paper}
use Rattle.lookup.specs.Refusals.{length_paper, paper, presence_paper}
use Rattle.lookup.proofs.Numbers.{numbered}
use Rattle.store_laws.proofs.Back.{back, there_and_back}
use lib.Dec.{eqb}
use lib.ListN.{get_or}
use mathlib.Core.Bool.{false, true}
use mathlib.Core.List.{List}
use mathlib.Core.Path.{◌≡◌, refl}
use mathlib.Mathlib.Logic.Function.Defs.{LeftInverse-Injective}
use Rattle.slots.specs.declared.StoreRefusal.{StoreRefusal}

pub one_refusal : (e d : StoreRefusal) → paper e ≡ paper d → e ≡ d
one_refusal = LeftInverse-Injective back paper there_and_back

-- an answer whose value is found again from its paper
one_by : {A : Type 0} (p : Result A StoreRefusal → Paper) (value : List ℕ → A)
    → ((x : A) → answer_of back (λ vs. Ok (value vs)) Err (p (Ok x)) ≡ Ok x) → ((e : StoreRefusal) → p (Err e) ≡ paper e)
    → (r s : Result A StoreRefusal) → p r ≡ p s → r ≡ s
unfolding answer_of
one_by {A = A} p value good bad = LeftInverse-Injective (answer_of back (λ vs. Ok (value vs)) Err) p again
  where
    again : (r : Result A StoreRefusal) → answer_of back (λ vs. Ok (value vs)) Err (p r) ≡ r
    again (Ok x) = good x
    again (Err e) = rw (bad e, numbered e, there_and_back e)

-- a deletion, judging and a fresh start
pub one_done : (r s : Result (Unit {0}) StoreRefusal) → done_paper r ≡ done_paper s → r ≡ s
unfolding answer_of done_paper
one_done = one_by done_paper (λ vs. tt) (λ x. refl) (λ e. refl)

pub one_added : (r s : Result ℕ StoreRefusal) → added_paper r ≡ added_paper s → r ≡ s
unfolding answer_of added_paper
one_added = one_by added_paper (λ vs. get_or vs 0 0) (λ a. refl) (λ e. refl)

pub one_length : (r s : Result ℕ StoreRefusal) → length_paper r ≡ length_paper s → r ≡ s
unfolding answer_of length_paper
one_length = one_by length_paper (λ vs. get_or vs 0 0) (λ n. refl) (λ e. refl)

pub one_presence : (r s : Result Bool StoreRefusal) → presence_paper r ≡ presence_paper s → r ≡ s
unfolding answer_of presence_paper
one_presence = one_by presence_paper (λ vs. eqb (get_or vs 0 0) 1) bit_back (λ e. refl)
  where
    bit_back : (b : Bool) → answer_of back (λ vs. Ok (eqb (get_or vs 0 0) 1)) Err (presence_paper (Ok b)) ≡ Ok b
    bit_back true = refl
    bit_back false = refl
