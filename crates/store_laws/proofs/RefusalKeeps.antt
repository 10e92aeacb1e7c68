-- A refusal, an answer whose number is above 0, changes no lent byte.
use Prim.Native.Nat.{ℕ}
use Rattle.rules.proofs.Order.{refusal_keeps}
use Rattle.rules.specs.Papers.{Outcome, Paper, says}
use Rattle.store.proofs.Promises.{writes}
use Rattle.lookup.specs.Calls.{judging, packet_in}
use Rattle.layout.specs.Judge.{Sound}
use Rattle.slots.specs.Pools.{Pool}
use Rattle.store.specs.Promise.{Does, Writes}
use Rattle.lookup.specs.Promise.{Reads, packet_start}
use Rattle.slots.specs.View.{lens_with, store_with}
use mathlib.Core.List.{List, []}
use mathlib.Core.Path.{◌∙◌, ◌≡◌, ap}
use Rattle.layout.specs.declared.Setup.{Setup}
use Rattle.reading.specs.Reading.{lent_bytes, lent_from}

-- `add`, `delete`, `fresh`
pub call_keeps : (su : Setup) (st le : List ℕ) (o : Outcome (List Pool)) (p : Paper) (st' le' : List ℕ) → Writes su st le o p st' le'
    → (p.number ≡ 0 → ⊥) → (st' ≡ st) × (le' ≡ le)
call_keeps su st le o p st' le' w n =
    let m : (says o).number ≡ 0 → ⊥ = λ e. n (ap (λ (x : Paper). x.number) w.answer ∙ e) in
    (w.store ∙ refusal_keeps o st (store_with su st) m, w.lens ∙ refusal_keeps o le (lens_with su le) m)

-- `read`
pub read_keeps : (o : Outcome (List ℕ)) (buf : List ℕ) (p : Paper) (buf' : List ℕ) → Reads o buf p buf' → (p.number ≡ 0 → ⊥) → buf' ≡ buf
read_keeps o buf p buf' w n = w.buffer ∙ refusal_keeps o buf (λ b. b) (λ e. n (ap (λ (x : Paper). x.number) w.answer ∙ e))

-- `modify_part` lends nothing where `modify` refuses, and that at the store's start
pub part_empty : (su : Setup) (st le : List ℕ) (a : ℕ) → ((says (judging su st le (λ ps. packet_in ps a))).number ≡ 0 → ⊥)
    → (lent_bytes su st le a ≡ []) × (lent_from su st le a ≡ 0)
part_empty su st le a n = (
  refusal_keeps (judging su st le (λ ps. packet_in ps a)) [] (λ b. b) n,
  refusal_keeps (judging su st le (λ ps. packet_in ps a)) 0 (λ b. packet_start su a) n,
)

-- judged calls
pub judged_keeps : (su : Setup) (st le : List ℕ) (call : List Pool → Outcome (List Pool)) → Sound su st le → (p : Paper) (st' le' : List ℕ)
    → Does su st le call p st' le' → (p.number ≡ 0 → ⊥) → (st' ≡ st) × (le' ≡ le)
judged_keeps su st le call s p st' le' w n = call_keeps su st le (judging su st le call) p st' le' (writes su st le call p st' le' s w) n
