-- `storing::refuse_unstored` meets its contract.
use Rattle.std.proofs.Common.{rules}
use Rattle.storing.proofs.Adding.{answers_own, answers_store}
use Rattle.storing.proofs.refuse_unstored.Goals as goal

pub returns-in_err-would_add : goal.returns-in_err-would_add
returns-in_err-would_add c = (
  search (rules, answers_store _ _ _ c.args.own _ c.in_err-would_add.ensures),
  search rules,
  search rules,
)

pub returns : goal.returns
returns c = (
  answers_own _ _ _ c.args.own _ c.in_ok-would_add.ensures,
  search rules,
  search rules,
)
