-- What a tick comes to, by the parts that the code took one after the other.
use Rattle.std.specs.Prelude.{Err, None, Ok, Option, Some}
use Prim.Native.Nat.{◌+◌, ◌-◌, ◌<◌, ◌≤◌, min, ℕ}
use lib.ListN.{length, length-drop}
use mathlib.Core.Bool.{Bool}
use mathlib.Core.List.{List, [], ◌∷◌}
use mathlib.Core.Path.{◌≡◌, ◌∙◌, ap, ap₂, sym}
use native.Mathlib.Omega.{arith}
use Rattle.record.specs.Refusals.{paper}
use Rattle.record.specs.declared.Record.{Record}
use Rattle.record.specs.declared.ScheduleRefusal.TheVariants.{LogTooSmall}
use Rattle.rules.specs.Papers.{Paper, after, done, through, no, refused}
use Rattle.schedule.proofs.Facts.{facts, table_sound}
use Rattle.schedule.proofs.Promises.{does_done, does_refused}
use Rattle.schedule.specs.Judge.{Sound}
use Rattle.schedule.specs.State.{State, record_of, state_of, with_count, with_entries, with_pools}
use Rattle.schedule.specs.declared.Setup.{Setup}
use Rattle.layout.specs.Judge.{Sound as StoreSound}
use Rattle.slots.specs.Pools.{Pool}
use Rattle.slots.specs.View.{view}
use Rattle.rows.proofs.Rows.{length_unpack}
use Rattle.rows.specs.Entries.{Entry, unpack}
use Rattle.rows.specs.Order.{Held, Sound as TableSound}
use Rattle.table.specs.Before.{below}
use Rattle.tick.proofs.Lacking.{hands_out, lacks_first, short_log}
use Rattle.tick.specs.Inside.{lack}
use Rattle.tick.specs.Promise.{TickDoes, left, tick_paper}
use Rattle.tick.specs.Tick.{handed_out, tick_in, usable}
use Rattle.time.specs.Time.{InRange, MomentInRange, instant, instant_of, moment_of}
use Rattle.time.specs.declared.Moment.{Moment}
use Rattle.time.specs.declared.UnixTime.{UnixTime}
use Rattle.turn.specs.Turns.{Handout, always, handout, leave}
use Rattle.turns.specs.Released.{CarriedOut, Released}
use Rattle.turns_laws.proofs.Split.{left_due, splits}
use Rattle.turns_laws.specs.Due.{due}

module _ (su : Setup) (r : Record) (st le ro log : List ℕ) (limit : ℕ) (delete : Bool) where
  abbrev s : State
  s = state_of su r st le ro

  abbrev es : List Entry
  es = unpack r.count ro

  abbrev ps : List Pool
  ps = view su.store st le

  refused_by : (p : Paper) → tick_in limit delete log s ≡ refused p
      → TickDoes su r st le ro log (tick_in limit delete log) p r st le ro log
  unfolding after through
  refused_by p q = record { tables = does_refused su r st le ro (λ x. left (tick_in limit delete log x)) p (rw q); log = rw q }

  -- refusal 20
  short_by : (t : ℕ) → tick_in limit delete log s ≡ refused (no 20 (t ∷ []))
      → TickDoes su r st le ro log (tick_in limit delete log) (tick_paper (Err (LogTooSmall t))) r st le ro log
  unfolding tick_paper paper
  short_by t q = refused_by (no 20 (t ∷ [])) q

  pub tick_short : length log < 8 → TickDoes su r st le ro log (tick_in limit delete log) (tick_paper (Err (LogTooSmall 8))) r st le ro log
  tick_short h = short_by 8 (short_log limit delete log s h)

  module _ (cap d n : ℕ) (long : 8 ≤ length log) (ec : cap ≡ usable log) (ed : d ≡ due (instant r.clock) es) (en : n ≡ min d limit) where
    lack_is : (o : Option ℕ) → o ≡ lack n cap es ps → o ≡ lack (min (due (instant r.clock) es) limit) (usable log) es ps
    lack_is o e = e ∙ rw (en, ec, ed)

    pub tick_lacks : (t : ℕ) → Some t ≡ lack n cap es ps
        → TickDoes su r st le ro log (tick_in limit delete log) (tick_paper (Err (LogTooSmall t))) r st le ro log
    unfolding state_of
    tick_lacks t e = short_by t (lacks_first limit delete log s t long (lack_is (Some t) e))

    module _ (m : ℕ) (st' le' ro' log' : List ℕ) (none : None ≡ lack n cap es ps) (some : d ≤ r.count)
        (w : Released su.store delete r.enabled n cap r.count st le ro log m st' le' ro' log') where
      h : Handout
      h = handout (leave delete) (always r.enabled) (instant r.clock) limit 8 (usable log) es ps

      nn : n ≡ min limit (due (instant r.clock) es)
      nn = omega (arith, en, ed)

      out : CarriedOut su.store r.count st le ro log h m st' le' ro' log'
      unfolding h
      out = rw ec at (w.out (instant r.clock) limit nn)

      length_left : length h.left ≡ r.count - m
      unfolding h
      length_left =
          ap length (splits (leave delete) (always r.enabled) (instant r.clock) limit 8 (usable log) es ps).left_is
          ∙ length-drop (length h.records) es
          ∙ ap₂ ◌-◌ (length_unpack r.count ro) (sym out.many)

      remain_is : due (instant r.clock) h.left ≡ d - m
      unfolding h
      remain_is =
          left_due (leave delete) (always r.enabled) (instant r.clock) limit 8 (usable log) es ps ∙ ap₂ ◌-◌ (sym ed) (sym out.many)

      next : State
      next = with_entries h.left (with_pools h.pools s)

      hands : tick_in limit delete log s ≡ handed_out log s h
      unfolding h state_of
      hands = hands_out limit delete log s long (lack_is None none)

      whole : left (tick_in limit delete log s) ≡ done (m ∷ (d - m) ∷ []) next
      unfolding handed_out through next state_of
      whole = rw (hands, ← out.many, remain_is)

      record_is : record_of next ≡ with_count (r.count - m) r
      unfolding next state_of
      record_is = rw length_left

      pub tick_hands : TickDoes su r st le ro log (tick_in limit delete log) (tick_paper (Ok (record { m = m; remain = d - m })))
          (with_count (r.count - m) r) st' le' ro' log'
      unfolding tick_paper after handed_out next
      tick_hands =
          rw (← record_is)
          (record {
            tables =
                does_done su r st le ro (λ x. left (tick_in limit delete log x)) (m ∷ (d - m) ∷ []) next st' le' ro' whole out.lists
                out.moved;
            log = rw hands out.wrote;
          })

-- what the parts ask, of a scheduler that was judged
module _ {su : Setup} {r : Record} {st le ro : List ℕ} (s : Sound su r st le ro) where
  pub clock_ok : InRange r.clock
  clock_ok = (facts s).clock

  pub rows_ok : TableSound ro r.count
  rows_ok = table_sound (facts s)

  pub rows_held : Held ro r.count
  rows_held = record { room = rows_ok.room }

  pub store_ok : StoreSound su.store st le
  store_ok = (facts s).store

  pub moment_ok : (m : Moment) → m ≡ moment_of r.clock → MomentInRange m
  moment_ok m e = rw e (record { nanos = clock_ok.nanos })

pub due_by : (clock : UnixTime) (m : Moment) (es : List Entry) (d : ℕ) → m ≡ moment_of clock → d ≡ below (instant_of m + 1) es
    → d ≡ due (instant clock) es
due_by clock m es d e q = q ∙ rw e
