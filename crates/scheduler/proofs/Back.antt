-- Each refusal of the schedule, and each answer of its calls, found again from its number and values.
use Rattle.std.specs.Prelude.{Result, Ok, Err, Option, Some, None}
use Rattle.rows.specs.declared.TcInfo.{TcInfo}
use Rattle.selection.specs.declared.Part.{Part}
use Rattle.tick.specs.declared.Handed.{Handed}
use Rattle.rules.proofs.Back.{answer_of}
use Prim.Native.Nat.{ℕ}
use Rattle.deletions.specs.Answers.{cleared_paper}
use Rattle.sweep.specs.Answers.{last_paper}
use Rattle.by_id.specs.Answers.{freed_paper, taken_paper}
use Rattle.tick.specs.Promise.{tick_paper}
use Rattle.windows.specs.Answers.{retrieved_paper}
use Rattle.sweep.specs.declared.Tally.{Tally}
use Rattle.storing.specs.Answers.{inserted_paper}
use Rattle.record.proofs.Numbers.{numbered}
use Rattle.record.specs.Refusals.{done_paper, paper, word_of}
use Rattle.record.specs.declared.ScheduleRefusal.TheVariants.{BadTime, BadTimestamp, LogTooSmall, NestedScheduledTc, ReleaseTimeInTimeMargin, ReversedWindow, ScheduleFull, Store, TcDataEmpty, TcUnreadable, WrongService, WrongSubservice}
use Rattle.record.specs.declared.ScheduleRefusal.{ScheduleRefusal}
use Rattle.rules.specs.Papers.{Paper, no}
use Rattle.counting.specs.Answers.{counted_paper}
use Rattle.scheduler.specs.Words.{CarriesWords, Words}
use Rattle.lookup.proofs.Numbers.{numbered as store_numbered}
use Rattle.lookup.specs.Refusals.{paper as store_paper}
use Rattle.slots.specs.declared.StoreIdError.TheVariants.{InvalidPacketIdx, InvalidSubpool}
use Rattle.slots.specs.declared.StoreRefusal.TheVariants.{BadBuffers, BadSetup, BufferTooSmall, DataDoesNotExist, DataTooLarge, InvalidStoreId, StateDamaged, StoreFull}
use Rattle.slots.specs.declared.StoreRefusal.{StoreRefusal}
use Rattle.store_laws.proofs.Back.{back as store_back, there_and_back as store_there_and_back}
use Rattle.time.specs.declared.Margin.{Margin}
use Rattle.time.specs.declared.UnixTime.{UnixTime}
use lib.Dec.{eqb}
use lib.IntN.{negsuc, pos, ℤ}
use lib.ListN.{drop, get_or}
use mathlib.Core.Bool.{cond}
use mathlib.Core.List.{List}
use mathlib.Core.Path.{◌∙◌, ◌≡◌, ap, refl}
use mir.Facts.{to_z-of_z}
use mir.Syntax.{w64}
use mir.Val.{SFits, of_z, to_z}
use native.Mathlib.Omega.{arith}

-- a signed second, from its two's complement
word_is : (z : ℤ) → word_of z ≡ of_z w64 z
word_is (pos n) = refl
word_is (negsuc n) = omega arith

word_back : (z : ℤ) → SFits w64 z → to_z w64 (word_of z) ≡ z
word_back z f = ap (to_z w64) (word_is z) ∙ to_z-of_z f

time_back : ℕ → ℕ → UnixTime
time_back s n = record { secs = to_z w64 s; nanos = n }

margin_back : ℕ → ℕ → Margin
margin_back s n = record { secs = s; nanos = n }

-- the refusal of a number and values; all other numbers are the store's
refusal_of : ℕ → List ℕ → ScheduleRefusal
refusal_of n vs =
    cond (eqb n 4) BadTime
    (cond (eqb n 5) (WrongService (get_or vs 0 0))
    (cond (eqb n 6) (WrongSubservice (get_or vs 0 0))
    (cond (eqb n 7) TcDataEmpty
    (cond (eqb n 8) BadTimestamp
    (cond (eqb n 9) TcUnreadable
    (cond (eqb n 10) NestedScheduledTc
    (cond (eqb n 13)
    (ReleaseTimeInTimeMargin (time_back (get_or vs 0 0) (get_or vs 1 0)) (margin_back (get_or vs 2 0) (get_or vs 3 0))
    (time_back (get_or vs 4 0) (get_or vs 5 0)))
    (cond (eqb n 14) ScheduleFull
    (cond (eqb n 15) ReversedWindow
    (cond (eqb n 20) (LogTooSmall (get_or vs 0 0)) (Store (store_back (no n vs)))))))))))))

pub back : Paper → ScheduleRefusal
back p = refusal_of p.number p.values

-- the store's refusals have none of the schedule's numbers
store_of : (e : StoreRefusal) → refusal_of (store_paper e).number (store_paper e).values ≡ Store (store_back (store_paper e))
unfolding refusal_of store_paper
store_of BadSetup = refl
store_of BadBuffers = refl
store_of StateDamaged = refl
store_of (DataTooLarge n) = refl
store_of (StoreFull k) = refl
store_of (InvalidStoreId (InvalidSubpool k)) = refl
store_of (InvalidStoreId (InvalidPacketIdx k)) = refl
store_of (DataDoesNotExist a) = refl
store_of (BufferTooSmall f n) = refl

times_back : (c r : UnixTime) (m : Margin) → SFits w64 c.secs → SFits w64 r.secs
    → ReleaseTimeInTimeMargin (time_back (word_of c.secs) c.nanos) (margin_back m.secs m.nanos) (time_back (word_of r.secs) r.nanos)
    ≡ ReleaseTimeInTimeMargin c m r
unfolding time_back margin_back
times_back c r m f g = rw (word_back c.secs f, word_back r.secs g)

pub there_and_back : (e : ScheduleRefusal) → Words e → back (paper e) ≡ e
unfolding back paper refusal_of
there_and_back (Store e) w = store_of e ∙ ap Store (store_there_and_back e)
there_and_back BadTime w = refl
there_and_back (WrongService n) w = refl
there_and_back (WrongSubservice n) w = refl
there_and_back TcDataEmpty w = refl
there_and_back BadTimestamp w = refl
there_and_back TcUnreadable w = refl
there_and_back NestedScheduledTc w = refl
there_and_back (ReleaseTimeInTimeMargin c m r) w = let f = w c m r refl in times_back c r m f.0 f.1
there_and_back ScheduleFull w = refl
there_and_back ReversedWindow w = refl
there_and_back (LogTooSmall t) w = refl

-- ---- the answers of each call

refusal_back : {A : Type 0} (answer : List ℕ → A) (refusal : ScheduleRefusal → A) (e : ScheduleRefusal) → Words e
    → answer_of back answer refusal (paper e) ≡ refusal e
unfolding answer_of
refusal_back answer refusal e w = rw (numbered e, there_and_back e w)

pub done_of : List ℕ → Result (Unit {0}) ScheduleRefusal
done_of vs = (Ok tt)

pub done_back : (a : Result (Unit {0}) ScheduleRefusal) → CarriesWords Err a → answer_of back done_of Err (done_paper a) ≡ a
unfolding answer_of done_of done_paper
done_back (Ok _) w = refl
done_back (Err e) w = refusal_back done_of Err e (w e refl)

pub counted_of : List ℕ → Result ℕ ScheduleRefusal
counted_of vs = Ok (get_or vs 0 0)

pub counted_back : (a : Result ℕ ScheduleRefusal) → CarriesWords Err a → answer_of back counted_of Err (counted_paper a) ≡ a
unfolding answer_of counted_of counted_paper
counted_back (Ok n) w = refl
counted_back (Err e) w = refusal_back counted_of Err e (w e refl)

pub retrieved_of : List ℕ → Result Part ScheduleRefusal
retrieved_of vs = Ok (record { first = get_or vs 0 0; number = get_or vs 1 0 })

pub retrieved_back : (a : Result Part ScheduleRefusal) → CarriesWords Err a → answer_of back retrieved_of Err (retrieved_paper a) ≡ a
unfolding answer_of retrieved_of retrieved_paper
retrieved_back (Ok x) w = refl
retrieved_back (Err e) w = refusal_back retrieved_of Err e (w e refl)

pub inserted_of : List ℕ → Result TcInfo ScheduleRefusal
inserted_of vs = Ok (record { addr = get_or vs 0 0; request_id = get_or vs 1 0 })

pub inserted_back : (a : Result TcInfo ScheduleRefusal) → CarriesWords Err a → answer_of back inserted_of Err (inserted_paper a) ≡ a
unfolding answer_of inserted_of inserted_paper
inserted_back (Ok x) w = refl
inserted_back (Err e) w = refusal_back inserted_of Err e (w e refl)

last_of : Paper → Option StoreRefusal
last_of p = cond (eqb p.number 0) None (Some (store_back p))

last_back : (a : Option StoreRefusal) → last_of (last_paper a) ≡ a
unfolding last_of last_paper
last_back None = refl
last_back (Some e) = rw (store_numbered e, store_there_and_back e)

tally_of : List ℕ → Tally
tally_of vs = record { deleted = get_or vs 0 0; missing = get_or vs 1 0; last = last_of (no (get_or vs 2 0) (drop 3 vs)) }

pub cleared_of : List ℕ → Result Tally ScheduleRefusal
cleared_of vs = Ok (tally_of vs)

pub cleared_back : (a : Result Tally ScheduleRefusal) → CarriesWords Err a → answer_of back cleared_of Err (cleared_paper a) ≡ a
unfolding answer_of cleared_of cleared_paper tally_of
cleared_back (Ok t) w = ap (λ (l : Option StoreRefusal). Ok (record { deleted = t.deleted; missing = t.missing; last = l })) (last_back t.last)
cleared_back (Err e) w = refusal_back cleared_of Err e (w e refl)

-- by request ID: the first value says whether there was a match
pub taken_of : List ℕ → Result (Option ℕ) ScheduleRefusal
taken_of vs = cond (eqb (get_or vs 0 0) 0) (Ok None) (Ok (Some (get_or vs 1 0)))

pub taken_back : (a : Result (Option ℕ) ScheduleRefusal) → CarriesWords Err a → answer_of back taken_of Err (taken_paper a) ≡ a
unfolding answer_of taken_of taken_paper
taken_back (Ok None) w = refl
taken_back (Ok (Some a)) w = refl
taken_back (Err e) w = refusal_back taken_of Err e (w e refl)

-- and the second whether the packet was there
match_of : List ℕ → Result (Option (Result (Unit {0}) StoreRefusal)) ScheduleRefusal
match_of vs = cond (eqb (get_or vs 1 0) 1) (Ok (Some (Ok tt))) (Ok (Some (Err (store_back (no (get_or vs 2 0) (drop 3 vs))))))

pub freed_of : List ℕ → Result (Option (Result (Unit {0}) StoreRefusal)) ScheduleRefusal
freed_of vs = cond (eqb (get_or vs 0 0) 0) (Ok None) (match_of vs)

pub freed_back : (a : Result (Option (Result (Unit {0}) StoreRefusal)) ScheduleRefusal) → CarriesWords Err a →
    answer_of back freed_of Err (freed_paper a) ≡ a
unfolding answer_of freed_of freed_paper match_of
freed_back (Ok None) w = refl
freed_back (Ok (Some (Ok _))) w = refl
freed_back (Ok (Some (Err e))) w = ap (λ (x : StoreRefusal). Ok (Some (Err x))) (store_there_and_back e)
freed_back (Err e) w = refusal_back freed_of Err e (w e refl)

pub ticked_of : List ℕ → Result Handed ScheduleRefusal
ticked_of vs = Ok (record { m = get_or vs 0 0; remain = get_or vs 1 0 })

pub ticked_back : (a : Result Handed ScheduleRefusal) → CarriesWords Err a → answer_of back ticked_of Err (tick_paper a) ≡ a
unfolding answer_of ticked_of tick_paper
ticked_back (Ok h) w = refl
ticked_back (Err e) w = refusal_back ticked_of Err e (w e refl)
