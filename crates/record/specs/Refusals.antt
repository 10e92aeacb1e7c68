-- Document 01's number and values for each refusal of the schedule: the store's are inside.
use Rattle.std.specs.Prelude.{Result, Ok, Err, ℕ, ◌-◌, ℤ, negsuc, pos, List, [], ◌∷◌}
use Rattle.rules.specs.Papers.{Paper, no}
use Rattle.lookup.specs.Refusals.{paper as store_paper}
use Rattle.time.specs.declared.Margin.{Margin}
use Rattle.time.specs.declared.UnixTime.{UnixTime}
use Rattle.record.specs.declared.ScheduleRefusal.{ScheduleRefusal}
use Rattle.record.specs.declared.ScheduleRefusal.TheVariants.{BadTime, BadTimestamp, LogTooSmall, NestedScheduledTc, ReleaseTimeInTimeMargin, ReversedWindow, ScheduleFull, Store, TcDataEmpty, TcUnreadable, WrongService, WrongSubservice}

-- values are 64-bit words; a signed second is its two's complement
abbrev pub word_of : ℤ → ℕ
word_of (pos n) = n
word_of (negsuc n) = 18446744073709551615 - n

abbrev pub time_words : UnixTime → List ℕ → List ℕ
time_words t vs = word_of t.secs ∷ t.nanos ∷ vs

abbrev pub margin_words : Margin → List ℕ → List ℕ
margin_words m vs = m.secs ∷ m.nanos ∷ vs

unfoldable pub paper : ScheduleRefusal → Paper
paper (Store e) = store_paper e
paper BadTime = no 4 []
paper (WrongService n) = no 5 (n ∷ [])
paper (WrongSubservice n) = no 6 (n ∷ [])
paper TcDataEmpty = no 7 []
paper BadTimestamp = no 8 []
paper TcUnreadable = no 9 []
paper NestedScheduledTc = no 10 []
paper (ReleaseTimeInTimeMargin clock margin release) = no 13 (time_words clock (margin_words margin (time_words release [])))
paper ScheduleFull = no 14 []
paper ReversedWindow = no 15 []
paper (LogTooSmall t) = no 20 (t ∷ [])

unfoldable pub done_paper : Result (Unit {0}) ScheduleRefusal → Paper
done_paper (Ok _) = no 0 []
done_paper (Err e) = paper e
