-- A promise allows one outcome only: one answer, and one content of every lent list.
use Rattle.std.specs.Prelude.{Result, Bool}
use Rattle.slots.specs.declared.StoreRefusal.{StoreRefusal}
use Prim.Native.Nat.{ℕ}
use Rattle.rules.specs.Papers.{Outcome, Paper, says}
use Rattle.layout.proofs.Bounds.{sized_fits}
use Rattle.laid.proofs.Laid.{lens_laid, store_laid}
use Rattle.slots.proofs.Lists.{part_length}
use Rattle.store.proofs.Promises.{writes}
use Rattle.store.specs.Calls.{fresh_pools}
use Rattle.lookup.specs.Calls.{judging}
use Rattle.layout.specs.Judge.{Sized, Sound}
use Rattle.slots.specs.Pools.{Pool}
use Rattle.store.specs.Promise.{Does, Writes}
use Rattle.lookup.specs.Promise.{Reads}
use Rattle.store.specs.Refusals.{added_paper, done_paper}
use Rattle.lookup.specs.Refusals.{length_paper, presence_paper}
use Rattle.reading.specs.Reading.{Lends}
use Rattle.slots.specs.View.{Leaves}
use Rattle.store_laws.proofs.OneToOne.{one_added, one_done, one_length, one_presence}
use lib.ListN.{length}
use mathlib.Core.List.{List}
use mathlib.Core.Path.{◌∙◌, ◌≡◌, ap, sym}
use Rattle.layout.specs.declared.Setup.{Setup}
use Rattle.lookup.specs.declared.Span.{Span}

-- by numbers and values: calls that write both lists, and `read`, which writes its buffer
module _ (su : Setup) (st le : List ℕ) (o : Outcome (List Pool)) (p q : Paper) (st₁ le₁ st₂ le₂ : List ℕ) where
  pub one_outcome : Writes su st le o p st₁ le₁ → Writes su st le o q st₂ le₂ → (p ≡ q) × (st₁ ≡ st₂) × (le₁ ≡ le₂)
  one_outcome w v = (w.answer ∙ sym v.answer, w.store ∙ sym v.store, w.lens ∙ sym v.lens)

pub one_reading : (o : Outcome (List ℕ)) (buf : List ℕ) (p q : Paper) (buf₁ buf₂ : List ℕ) → Reads o buf p buf₁ → Reads o buf q buf₂
    → (p ≡ q) × (buf₁ ≡ buf₂)
one_reading o buf p q buf₁ buf₂ w v = (w.answer ∙ sym v.answer, w.buffer ∙ sym v.buffer)

-- and by the answers themselves: `add`, `delete`, a modify that is given its bytes, `fresh`
module _ (su : Setup) (st le : List ℕ) (o : Outcome (List Pool)) (st₁ le₁ st₂ le₂ : List ℕ) where
  pub one_add : (r s : Result ℕ StoreRefusal) → Writes su st le o (added_paper r) st₁ le₁ → Writes su st le o (added_paper s) st₂ le₂
      → (r ≡ s) × (st₁ ≡ st₂) × (le₁ ≡ le₂)
  one_add r s w v = let e = one_outcome su st le o _ _ st₁ le₁ st₂ le₂ w v in (one_added r s e.0, e.1, e.2)

  pub one_delete : (r s : Result (Unit {0}) StoreRefusal) → Writes su st le o (done_paper r) st₁ le₁ → Writes su st le o (done_paper s) st₂ le₂
      → (r ≡ s) × (st₁ ≡ st₂) × (le₁ ≡ le₂)
  one_delete r s w v = let e = one_outcome su st le o _ _ st₁ le₁ st₂ le₂ w v in (one_done r s e.0, e.1, e.2)

  pub one_modify_with : (r s : Result ℕ StoreRefusal) → Writes su st le o (length_paper r) st₁ le₁ → Writes su st le o (length_paper s) st₂ le₂
      → (r ≡ s) × (st₁ ≡ st₂) × (le₁ ≡ le₂)
  one_modify_with r s w v = let e = one_outcome su st le o _ _ st₁ le₁ st₂ le₂ w v in (one_length r s e.0, e.1, e.2)

  pub one_fresh : (r s : Result (Unit {0}) StoreRefusal) → Writes su st le o (done_paper r) st₁ le₁ → Writes su st le o (done_paper s) st₂ le₂
      → (r ≡ s) × (st₁ ≡ st₂) × (le₁ ≡ le₂)
  one_fresh r s w v = let e = one_outcome su st le o _ _ st₁ le₁ st₂ le₂ w v in (one_done r s e.0, e.1, e.2)

-- `read`
pub one_read : (o : Outcome (List ℕ)) (buf : List ℕ) (r s : Result ℕ StoreRefusal) (buf₁ buf₂ : List ℕ) → Reads o buf (length_paper r) buf₁
    → Reads o buf (length_paper s) buf₂ → (r ≡ s) × (buf₁ ≡ buf₂)
one_read o buf r s buf₁ buf₂ w v = let e = one_reading o buf _ _ buf₁ buf₂ w v in (one_length r s e.0, e.1)

-- `modify`, `len_of_data`, `has_element_at`, `judge`
module _ {A : Type 0} (o : Outcome A) where
  pub one_modify_or_len : (r s : Result ℕ StoreRefusal) → length_paper r ≡ says o → length_paper s ≡ says o → r ≡ s
  one_modify_or_len r s w v = one_length r s (w ∙ sym v)

  pub one_has : (r s : Result Bool StoreRefusal) → presence_paper r ≡ says o → presence_paper s ≡ says o → r ≡ s
  one_has r s w v = one_presence r s (w ∙ sym v)

  pub one_judge : (r s : Result (Unit {0}) StoreRefusal) → done_paper r ≡ says o → done_paper s ≡ says o → r ≡ s
  one_judge r s w v = one_done r s (w ∙ sym v)

-- the part that `modify_part` lends: its start and its length
pub one_part : (su : Setup) (st le : List ℕ) (a : ℕ) (s t : Span) → Lends su st le a s → Lends su st le a t → (s.from ≡ t.from) × (s.len ≡ t.len)
one_part su st le a s t l m = (
  l.start ∙ sym m.start,
  sym (part_length s.from s.len st l.inside) ∙ ap length (l.bytes ∙ sym m.bytes) ∙ part_length t.from t.len st m.inside,
)

-- judged calls, by what the lists stand for
pub one_judged : (su : Setup) (st le : List ℕ) (call : List Pool → Outcome (List Pool)) → Sound su st le → (p q : Paper) (st₁ le₁ st₂ le₂ : List ℕ)
    → Does su st le call p st₁ le₁ → Does su st le call q st₂ le₂ → (p ≡ q) × (st₁ ≡ st₂) × (le₁ ≡ le₂)
one_judged su st le call s p q st₁ le₁ st₂ le₂ w v =
    one_outcome su st le (judging su st le call) p q st₁ le₁ st₂ le₂ (writes su st le call p st₁ le₁ s w) (writes su st le call q st₂ le₂ s v)

pub one_judged_fresh : (su : Setup) (st le st₁ le₁ st₂ le₂ : List ℕ) → Sized su st le → Leaves su st le (fresh_pools su) st₁ le₁
    → Leaves su st le (fresh_pools su) st₂ le₂ → (st₁ ≡ st₂) × (le₁ ≡ le₂)
one_judged_fresh su st le st₁ le₁ st₂ le₂ s l m =
    let f = sized_fits s in (
      store_laid su st le _ st₁ le₁ l ∙ sym (store_laid su st le _ st₂ le₂ m),
      lens_laid su st le _ st₁ le₁ l f.2 ∙ sym (lens_laid su st le _ st₂ le₂ m f.2),
    )
