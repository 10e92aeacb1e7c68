-- A window that is given: its ends judged, and what opening it says of every call with it.
use Rattle.std.specs.Prelude.{Result, Ok, Err}
use Prim.Native.Nat.{ℕ, ◌<◌, ◌≤◌}
use borrow.Author.Tests.{le-leb, le-ltb, lt-leb, lt-ltb}
use lib.Dec.{leb, ltb}
use mathlib.Core.Bool.{Bool, false, not, true}
use mathlib.Core.List.{[]}
use mathlib.Core.Logic.{⊎_elim}
use mathlib.Core.Path.{◌≡◌, ◌∙◌, ap, refl, sym}
use Rattle.record.specs.Refusals.{paper}
use Rattle.record.specs.declared.ScheduleRefusal.{ScheduleRefusal}
use Rattle.record.specs.declared.ScheduleRefusal.TheVariants.{BadTime, ReversedWindow}
use Rattle.rules.proofs.All.{and_left, and_right}
use Rattle.rules.proofs.Cases.{le_or_lt}
use Rattle.rules.specs.Papers.{Outcome, done, no, refused}
use Rattle.rules.specs.Tests.{unless}
use Rattle.selection.specs.Inside.{EndsInRange}
use Rattle.selection.specs.declared.MomentWindow.{MomentWindow}
use Rattle.time.proofs.Judged.{time_judged}
use Rattle.time.specs.Time.{InRange, in_range}
use Rattle.time.specs.declared.UnixTime.{UnixTime}
use Rattle.windows.specs.Inside.{Opens, opened_as}
use Rattle.windows.specs.Windowing.{ends_in_range, forward, window_of, windowed}
use Rattle.windows.specs.declared.TimeWindow.{TimeWindow}
use Rattle.windows.specs.declared.TimeWindow.TheVariants.{From, FromTo, To}

module _ (w : TimeWindow) where
  -- an end that is in range, by the window's case
  pub both_judged : (f t : UnixTime) → w ≡ FromTo f t → ends_in_range w ≡ true → InRange f × InRange t
  unfolding ends_in_range
  both_judged f t e h =
      let g = rw e at h in
      (time_judged f (and_left (in_range f) (in_range t) g), time_judged t (and_right (in_range f) (in_range t) g))

  pub from_judged : (f : UnixTime) → w ≡ From f → ends_in_range w ≡ true → InRange f
  unfolding ends_in_range
  from_judged f e h = time_judged f (rw e at h)

  pub to_judged : (t : UnixTime) → w ≡ To t → ends_in_range w ≡ true → InRange t
  unfolding ends_in_range
  to_judged t e h = time_judged t (rw e at h)

  -- opening
  pub open_bad : ends_in_range w ≡ false → Opens w (Err BadTime)
  unfolding opened_as windowed unless paper
  open_bad e = record { same = rw e; ends = tt }

  pub open_reversed : ends_in_range w ≡ true → forward w ≡ false → Opens w (Err ReversedWindow)
  unfolding opened_as windowed unless paper
  open_reversed e f = record { same = rw (e, f); ends = tt }

  pub open_at : (x : MomentWindow) → ends_in_range w ≡ true → forward w ≡ true → x ≡ window_of w → EndsInRange x → Opens w (Ok x)
  unfolding opened_as windowed unless
  open_at x e f q i = record { same = rw (e, f, q); ends = i }

-- two tests that are each other's opposite
pub not_ltb : (a b : ℕ) → not (ltb b a) ≡ leb a b
not_ltb a b =
    ⊎_elim (λ (h : a ≤ b). rw (le-leb a b h, le-ltb b a h)) (λ (h : b < a). rw (lt-leb a b h, lt-ltb b a h)) (le_or_lt a b)

-- what opening says of every call
then : {A : Type 0} → Outcome MomentWindow → (MomentWindow → Outcome A) → Outcome A
then (refused p) call = refused p
then (done vs x) call = call x

windowed_then : {A : Type 0} (w : TimeWindow) (call : MomentWindow → Outcome A) → windowed w call ≡ then (windowed w (λ x. done [] x)) call
unfolding windowed then unless
windowed_then w call = go (ends_in_range w) (forward w)
  where
    go : (a b : Bool) → unless a (refused (no 4 [])) (unless b (refused (no 15 [])) (call (window_of w)))
        ≡ then (unless a (refused (no 4 [])) (unless b (refused (no 15 [])) (done [] (window_of w)))) call
    go false b = refl
    go true false = refl
    go true true = refl

module _ {A : Type 0} (w : TimeWindow) (call : MomentWindow → Outcome A) (r : Result MomentWindow ScheduleRefusal) (h : Opens w r) where
  pub opened_at : (x : MomentWindow) → r ≡ Ok x → (windowed w call ≡ call x) × EndsInRange x
  unfolding opened_as then
  opened_at x q =
      let g = rw q at h in
      (windowed_then w call ∙ ap (λ (o : Outcome MomentWindow). then o call) (sym g.same), g.ends)

  pub opened_refused : (e : ScheduleRefusal) → r ≡ Err e → windowed w call ≡ refused (paper e)
  unfolding opened_as then
  opened_refused e q =
      let g = rw q at h in
      windowed_then w call ∙ ap (λ (o : Outcome MomentWindow). then o call) (sym g.same)
