-- `deletions_public::retrieve_by_time_filter` meets its contract.
use mathlib.Core.Path.{◌∙◌, ap, refl, sym}
use Rattle.std.proofs.lemmas.Result.{err_from_is_err_and}
use Rattle.rules.specs.Papers.{says}
use Rattle.windows.specs.Answers.{retrieved_paper}
use Rattle.schedule.specs.State.{state_of}
use Rattle.schedule.proofs.Facts.{facts, table_sound}
use Rattle.schedule.proofs.Judging.{judging_refused, sound_by}
use Rattle.schedule.proofs.Promises.{judging_fine}
use Rattle.deletions_public.proofs.retrieve_by_time_filter.Goals as goal

pub retrieve_by_time_filter-requires : goal.retrieve_by_time_filter-requires
retrieve_by_time_filter-requires c = table_sound (facts (sound_by _ _ _ _ _ c.in_ok-judge.ensures))

pub returns-in_err-judge : goal.returns-in_err-judge
unfolding retrieved_paper says
returns-in_err-judge c =
    let p = err_from_is_err_and c.from_residual.result c.from_residual.ensures.1 in
    rw (p.1, p.2) (ap says (sym (judging_refused _ _ _ _ _ _ _ c.in_err-judge.ensures)))

pub returns : goal.returns
unfolding state_of
returns c =
    let a = c.args in
    let s = sound_by _ _ _ _ _ c.in_ok-judge.ensures in
    c.retrieve_by_time_filter.ensures (state_of a.setup a.rec a.store.now a.lens.now a.rows.now) refl
    ∙ ap says (sym (judging_fine _ _ _ _ _ _ s))
