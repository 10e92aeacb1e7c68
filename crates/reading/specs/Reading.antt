-- What handing a packet's bytes out comes to, copied to a buffer or lent, in document 01's numbers and by the store's rules.
use Rattle.std.specs.Prelude.{◌+◌, ◌≤◌, ℕ, leb, length, take, List, [], ◌∷◌, ◌≡◌}
use Rattle.lookup.specs.Calls.{if_held, judging, packet_in}
use Rattle.lookup.specs.Promise.{packet_start}
use Rattle.rules.specs.Papers.{Outcome, after, done, no, refused}
use Rattle.rules.specs.Tests.{unless}
use Rattle.slots.specs.Pools.{Pool, find, over}
use Rattle.slots.specs.View.{part}
use Rattle.layout.specs.declared.Setup.{Setup}
use Rattle.lookup.specs.declared.Span.{Span}

-- read: 19 where the buffer is below the length; else the packet goes to its front
unfoldable pub read_in : List Pool → ℕ → List ℕ → Outcome (List ℕ)
read_in ps a buf =
    if_held a (find ps a)
    (λ n b. unless (leb n (length buf)) (refused (no 19 (length buf ∷ n ∷ []))) (done (n ∷ []) (over (take n b) buf)))

-- What `modify_part` lends: the packet's bytes, and where they start; nothing, at the store's start, where `modify` refuses.
abbrev pub lent_bytes : Setup → List ℕ → List ℕ → ℕ → List ℕ
lent_bytes su st le a = after (judging su st le (λ ps. packet_in ps a)) [] (λ b. b)

abbrev pub lent_from : Setup → List ℕ → List ℕ → ℕ → ℕ
lent_from su st le a = after (judging su st le (λ ps. packet_in ps a)) 0 (λ b. packet_start su a)

-- What is promised of the place before it is lent.
pub record Lends (su : Setup) (st le : List ℕ) (a : ℕ) (s : Span) : Type 0 where
  pub bytes : part s.from s.len st ≡ lent_bytes su st le a
  pub start : s.from ≡ lent_from su st le a
  pub inside : s.from + s.len ≤ length st
