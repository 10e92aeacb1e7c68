-- `store_public::modify_part` meets its contract.
use Prim.Native.Nat.{◌+◌, ℕ}
use Rattle.slots.proofs.Lists.{taken_out}
use mathlib.Core.Path.{◌∙◌, ap, refl}
use Rattle.store_public.proofs.modify_part.Goals as goal

pub returns : goal.returns
returns c = (
  taken_out _ _ _ _ refl ∙ c.lent-s.ensures.bytes,
  refl,
  ap (λ (n : ℕ). n + c.args.store.ref_ptr.1)
      c.lent-s.ensures.start,
)
