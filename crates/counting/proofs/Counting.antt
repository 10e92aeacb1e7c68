-- What a count answers, where none of 1 to 3 is given.
use Rattle.std.specs.Prelude.{Err, Ok}
use Rattle.record.specs.declared.ScheduleRefusal.{ScheduleRefusal}
use Rattle.schedule.specs.Judge.{Judges, Sound, judging}
use Rattle.schedule.proofs.Judging.{judging_refused}
use Prim.Native.Nat.{ℕ}
use mathlib.Core.List.{List, [], ◌∷◌}
use mathlib.Core.Path.{◌≡◌, ap, refl, sym}
use Rattle.record.specs.declared.Record.{Record}
use Rattle.rules.specs.Papers.{no, says}
use Rattle.rows.proofs.Rows.{length_unpack}
use Rattle.counting.specs.Answers.{counted_paper}
use Rattle.schedule.specs.State.{state_of}
use Rattle.counting.specs.Counting.{count_in}
use Rattle.schedule.specs.declared.Setup.{Setup}
use Rattle.schedule.proofs.Promises.{judging_fine}

pub counts : (su : Setup) (r : Record) (st le ro : List ℕ) → Sound su r st le ro
    → counted_paper (Ok r.count) ≡ says (judging su r st le ro count_in)
unfolding counted_paper says count_in state_of
counts su r st le ro s =
    rw (judging_fine su r st le ro count_in s) (ap (λ (n : ℕ). no 0 (n ∷ [])) (sym (length_unpack r.count ro)))

pub count_refused : (su : Setup) (r : Record) (st le ro : List ℕ) (e : ScheduleRefusal) → Judges su r st le ro (Err e)
    → counted_paper (Err e) ≡ says (judging su r st le ro count_in)
unfolding counted_paper says
count_refused su r st le ro e j = ap says (sym (judging_refused su r st le ro count_in e j))
