-- `store_public::lent` meets its contract.
use Rattle.store_public.proofs.Calls.{lends_judge}
use Rattle.store_public.proofs.Judging.{sound_unless}
use Rattle.store_public.proofs.lent.Goals as goal

pub lent-requires : goal.lent-requires
lent-requires c = sound_unless _ _ _ _ c.judge.ensures (cc)

pub returns-then-is_err : goal.returns-then-is_err
returns-then-is_err c = lends_judge _ c.args.store.now _ _ _ c.judge.ensures (cc)
