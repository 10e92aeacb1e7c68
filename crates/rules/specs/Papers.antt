-- What a call comes to, in document 01's numbers: its table "Refusal numbers", and 0 for an answer that is no refusal.
use Rattle.std.specs.Prelude.{ℕ, Bool, List, []}
use Rattle.rules.specs.Tests.{unless}

-- a number of the table, and the values that it carries
pub record Paper : Type 0 where
  pub number : ℕ
  pub values : List ℕ

abbrev pub no : ℕ → List ℕ → Paper
no n vs = record { number = n; values = vs }

-- a refusal, which changes nothing; or an answer's values, and what is left
pub data Outcome (A : Type 0) : Type 0 where
  refused : Paper → Outcome A
  done : List ℕ → A → Outcome A

unfoldable pub says : {A : Type 0} → Outcome A → Paper
says (refused p) = p
says (done vs x) = no 0 vs

-- what was there, where the call refused; and else what it leaves
unfoldable pub after : {A B : Type 0} → Outcome A → B → (A → B) → B
after (refused p) b f = b
after (done vs x) b f = f x

-- what is left, put through a function
unfoldable pub through : {A B : Type 0} → (A → B) → Outcome A → Outcome B
through f (refused p) = refused p
through f (done vs x) = done vs (f x)

-- "Order: 1, 2, 3": by the tests of setup, buffers and state; and else what the call comes to
unfoldable pub judged_by : {A : Type 0} → Bool → Bool → Bool → Outcome A → Outcome A
judged_by setup buffers state o =
    unless setup (refused (no 1 [])) (unless buffers (refused (no 2 [])) (unless state (refused (no 3 [])) o))
