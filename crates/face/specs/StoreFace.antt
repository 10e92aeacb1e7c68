-- The store's calls over words: what each comes to, and what it promises.
use Rattle.std.specs.Prelude.{ℕ, List, [], ◌∷◌, ◌≡◌}
use Rattle.rules.specs.Papers.{Outcome, after, done, no, refused}
use Rattle.rules.specs.Tests.{unless}
use Rattle.lookup.specs.Calls.{if_held, judging}
use Rattle.slots.specs.Pools.{Pool, find}
use Rattle.lookup.specs.Promise.{packet_start}
use Rattle.slots.specs.View.{lens_with, store_with}
use Rattle.layout.specs.declared.Setup.{Setup}
use Rattle.face.specs.Face.{Answers, answering}
use Rattle.face_reading.specs.Reading.{store_setup, well_counted}

-- the answer's room; 1 for the number of setup words; and then the store's own judging, 1, 2, 3, and the call
unfoldable pub store_call : {A : Type 0} → List ℕ → List ℕ → List ℕ → List ℕ → (Setup → List Pool → Outcome A) → Outcome A
store_call an sw st le call =
    answering an (unless (well_counted sw) (refused (no 1 [])) (judging (store_setup sw) st le (call (store_setup sw))))

-- part: where the packet's bytes start in the lent store, and their length; its refusals are modify's
unfoldable pub part_in : ℕ → Setup → List Pool → Outcome (Unit {0})
part_in a su ps = if_held a (find ps a) (λ n b. done (packet_start su a ∷ n ∷ []) tt)

-- a call that writes the store
pub record StoreFaces (sw : List ℕ) (o : Outcome (List Pool)) (st le an : List ℕ) (n : ℕ) (st' le' an' : List ℕ) : Type 0 where
  pub answer : Answers o an n an'
  pub store : st' ≡ after o st (store_with (store_setup sw) st)
  pub lens : le' ≡ after o le (lens_with (store_setup sw) le)

-- a call that writes a buffer
pub record BufferFaces (o : Outcome (List ℕ)) (buf an : List ℕ) (n : ℕ) (buf' an' : List ℕ) : Type 0 where
  pub answer : Answers o an n an'
  pub buffer : buf' ≡ after o buf (λ b. b)
