-- In an ordered schedule the due entries are the first ones, and the entries behind them are those that are not due.
use Prim.Native.Nat.{◌+◌, ◌<◌, ◌≤◌, ℕ}
use Rattle.handing.specs.Handing.{after_all}
use Rattle.rows.proofs.Order.{ordered_cons}
use Rattle.rows.specs.Entries.{Entry, time}
use Rattle.rows.specs.Order.{ordered, ordered_from}
use Rattle.rules.proofs.Cases.{le_or_lt}
use Rattle.schedule.specs.State.{State, with_entries, with_pools}
use Rattle.scheduler.specs.Laws.{after_due, after_first, due_ones, is_due, not_due}
use Rattle.selection.proofs.Spans.{filter_all, filter_in, filter_none, filter_out}
use Rattle.selection.specs.Windows.{filter}
use Rattle.slots.specs.Pools.{Pool}
use Rattle.table.proofs.Before.{below_head, below_not}
use Rattle.table.specs.Before.{below}
use Rattle.time.specs.Time.{instant}
use Rattle.turn.specs.Turns.{leave}
use Rattle.turns_laws.specs.Due.{due}
use borrow.Author.Tests.{le-leb, lt-leb}
use lib.ListN.{drop, take}
use mathlib.Core.Bool.{Bool, false, not, true}
use mathlib.Core.List.{List, [], ◌∷◌}
use mathlib.Core.Logic.{⊎_elim}
use mathlib.Core.Path.{◌≡◌, ap, ap₂, refl}
use native.Mathlib.Omega.{arith}

is_due_lem : (ck : ℕ) (e : Entry) → time e ≤ ck → is_due ck e ≡ true
is_due_lem ck e h = le-leb (time e) ck h

is_later : (ck : ℕ) (e : Entry) → ck < time e → is_due ck e ≡ false
is_later ck e h = lt-leb (time e) ck h

due_are : (ck u : ℕ) (es : List Entry) → ordered_from u es ≡ true → take (due ck es) es ≡ due_ones ck es
due_are ck u [] o = unfold filter below in refl
due_are ck u (e ∷ es) o =
    let a = ordered_cons u e es o in
    ⊎_elim
    (λ (h : time e ≤ ck).
    rw (below_head (ck + 1) e es (omega arith), filter_in (is_due ck) e es (is_due_lem ck e h))
    (ap (λ (r : List Entry). e ∷ r) (due_are ck (time e) es a.rest)))
    (λ (h : ck < time e).
    rw (
      below_not (ck + 1) e es (omega arith),
      filter_out (is_due ck) e es (is_later ck e h),
      filter_none (is_due ck) (time e) es a.rest (λ x l. is_later ck x (omega arith)),
    ))
    (le_or_lt (time e) ck)

rest_are : (ck u : ℕ) (es : List Entry) → ordered_from u es ≡ true → drop (due ck es) es ≡ not_due ck es
rest_are ck u [] o = unfold filter below in refl
rest_are ck u (e ∷ es) o =
    let a = ordered_cons u e es o in
    ⊎_elim
    (λ (h : time e ≤ ck).
    rw (below_head (ck + 1) e es (omega arith), filter_out (λ x. not (is_due ck x)) e es (ap not (is_due_lem ck e h)))
    (rest_are ck (time e) es a.rest))
    (λ (h : ck < time e).
    rw (
      below_not (ck + 1) e es (omega arith),
      filter_in (λ x. not (is_due ck x)) e es (ap not (is_later ck e h)),
      filter_all (λ x. not (is_due ck x)) (time e) es a.rest (λ x l. ap not (is_later ck x (omega arith))),
    ))
    (le_or_lt (time e) ck)

-- the turns of the first, as many as are due, are those of the due entries
pub first_due : (del : Bool) (s : State) → ordered s.entries ≡ true
    → after_first (due (instant s.clock) s.entries) del s ≡ after_due del s
first_due del s o =
    ap₂ (λ (es : List Entry) (ps : List Pool). with_entries es (with_pools ps s)) (rest_are (instant s.clock) 0 s.entries o)
    (ap (λ (es : List Entry). after_all (leave del) es s.pools) (due_are (instant s.clock) 0 s.entries o))
