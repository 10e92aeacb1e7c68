-- What the types of the code say of the numbers in a refusal: the seconds that 13 carries are signed words.
use Rattle.record.specs.declared.ScheduleRefusal.TheVariants.{ReleaseTimeInTimeMargin}
use Rattle.record.specs.declared.ScheduleRefusal.{ScheduleRefusal}
use Rattle.time.specs.declared.Margin.{Margin}
use Rattle.time.specs.declared.UnixTime.{UnixTime}
use Rattle.std.specs.Prelude.{◌≡◌}
use Rattle.std.specs.Int.{w64}
use Rattle.std.proofs.Common.{SFits}

-- the seconds are those of 64-bit words, as every `i64` is
abbrev pub Words : ScheduleRefusal → Type 0
Words e =
    (clock : UnixTime) (margin : Margin) (release : UnixTime) → e ≡ ReleaseTimeInTimeMargin clock margin release
    → SFits w64 clock.secs × SFits w64 release.secs

-- the same of the refusal inside an answer, where the answer is one
abbrev pub CarriesWords : {A : Type 0} → (ScheduleRefusal → A) → A → Type 0
CarriesWords refusal a = (e : ScheduleRefusal) → a ≡ refusal e → Words e
