-- Repeated ticks as requests: with limit k at least 1, nothing between them and room for k records of the largest slot size, no tick is
-- refused, and within d / k of them, rounded up, all d due entries are handed out.
-- Whatever their number, the entries handed out are the first due ones, in schedule order, and no other.
use Rattle.std.specs.Prelude.{None}
use Prim.Native.Nat.{◌*◌, ◌+◌, ◌-◌, ◌≤◌, min, suc, zero, ℕ}
use Rattle.handing.specs.Handing.{after_all}
use Rattle.record.specs.declared.Record.{Record}
use Rattle.rules.specs.Papers.{after, says}
use Rattle.schedule.proofs.Facts.{facts}
use Rattle.schedule.specs.Judge.{Sound}
use Rattle.schedule.specs.State.{State, state_of, with_entries, with_pools}
use Rattle.schedule.specs.declared.Setup.{Setup}
use Rattle.scheduler.proofs.DueFirst.{first_due}
use Rattle.scheduler.specs.Laws.{AllAmple, AllDone, after_due, after_first, ticks}
use Rattle.scheduler.specs.Steps.{run, step, tick, ticked}
use Rattle.slots.specs.Pools.{Pool}
use Rattle.rows.specs.Entries.{Entry}
use Rattle.tick.proofs.Lacking.{hands_out, lack_fits, lack_none}
use Rattle.tick.specs.Inside.{lack}
use Rattle.tick.specs.Tick.{handed_out, tick_in, usable}
use Rattle.time.specs.Time.{instant}
use Rattle.turns.specs.Released.{first_total}
use Rattle.turn.specs.Turns.{Handout, always, handout, leave}
use Rattle.turns_laws.proofs.Drains.{after_append, one_hands, rounded_up_lem, short_handout}
use Rattle.turns_laws.proofs.Due.{below_drop}
use Rattle.turns_laws.proofs.Packets.{short_need, sound_short}
use Rattle.turns_laws.proofs.Split.{splits}
use Rattle.turns_laws.specs.Draining.{Short, largest_slot, room_for, rounded_up}
use Rattle.turns_laws.specs.Due.{due}
use Rattle.turns_laws.specs.Laws.{Splits}
use lib.ListN.{drop, length, take}
use lib.Seq.{drop-drop, take-add}
use mathlib.Core.Bool.{Bool}
use mathlib.Core.List.{List, [], ◌∷◌}
use mathlib.Core.Path.{◌∙◌, ◌≡◌, ap, ap₂, refl, subst, sym}
use native.Mathlib.Nat.{mul-le-mul_right}
use native.Mathlib.Omega.{arith}

module _ (su : Setup) (big k : ℕ) (del : Bool) (some : 1 ≤ k) where
  first_small : (es : List Entry) (ps : List Pool) → Short big ps → first_total es ps ≤ 29 + big
  first_small [] ps h = omega arith
  first_small (e ∷ es) ps h = omega (arith, short_need big ps e.addr h)

  -- as many of the due entries as the limit allows
  abbrev going : State → ℕ
  going s = min k (due (instant s.clock) s.entries)

  module _ (log : List ℕ) (s : State) (ample : room_for k big ≤ usable log) (short : Short big s.pools) where
    out : Handout
    out = handout (leave del) (always s.enabled) (instant s.clock) k 8 (usable log) s.entries s.pools

    room : 29 + big ≤ usable log
    room = let m : 1 * (21 + big) ≤ k * (21 + big) = mul-le-mul_right {m = 1} {n = k} (21 + big) some in omega (arith, ample)

    none_lacks : (n : ℕ) → None ≡ lack n (usable log) s.entries s.pools
    none_lacks zero = lack_none 0 (usable log) s.entries s.pools (omega arith)
    none_lacks (suc n) =
        lack_fits (suc n) (usable log) s.entries s.pools (first_total s.entries s.pools) (omega arith) refl
        (omega (arith, room, first_small s.entries s.pools short))

    goes : tick_in k del log s ≡ handed_out log s out
    unfolding out
    goes = hands_out k del log s (omega (arith, room)) (none_lacks (min (due (instant s.clock) s.entries) k))

    all_go : Splits (leave del) (always s.enabled) s.entries s.pools out (going s)
    unfolding out
    all_go =
        subst (Splits (leave del) (always s.enabled) s.entries s.pools out)
        (one_hands big del (always s.enabled) (instant s.clock) k (usable log) ample s.entries s.pools short)
        (splits (leave del) (always s.enabled) (instant s.clock) k 8 (usable log) s.entries s.pools)

    after_tick : (step su (tick k del log) s).state ≡ after_first (going s) del s
    unfolding step ticked after handed_out
    after_tick =
        rw goes (ap₂ (λ (es : List Entry) (ps : List Pool). with_entries es (with_pools ps s)) all_go.left_is all_go.pools_are)

    is_done : (step su (tick k del log) s).answer.paper.number ≡ 0
    unfolding step ticked says handed_out
    is_done = rw goes

    short_after : Short big (after_first (going s) del s).pools
    unfolding out
    short_after =
        subst (Short big) all_go.pools_are
        (short_handout big del (always s.enabled) (instant s.clock) k 8 (usable log) s.entries s.pools short)

  -- the first m have had their turns, and then n of those that were left
  then_more : (m n : ℕ) (s : State) → after_first n del (after_first m del s) ≡ after_first (m + n) del s
  then_more m n s =
      ap₂ (λ (es : List Entry) (ps : List Pool). with_entries es (with_pools ps s)) (drop-drop n m s.entries)
      (sym (after_append (leave del) (take m s.entries) (take n (drop m s.entries)) s.pools)
      ∙ ap (λ (es : List Entry). after_all (leave del) es s.pools) (sym (take-add m n s.entries)))

  record Drained (s : State) (logs : List (List ℕ)) : Type 0 where
    which : (run su (ticks k del logs) s).state ≡ after_first (min (length logs * k) (due (instant s.clock) s.entries)) del s
    done : AllDone (run su (ticks k del logs) s).answers

  drain : (logs : List (List ℕ)) (s : State) → AllAmple k big logs → Short big s.pools → Drained s logs
  unfolding run after_all
  drain [] s a h =
      let z : 0 ≡ min (0 * k) (due (instant s.clock) s.entries) = omega arith in
      record { which = ap (λ (m : ℕ). after_first m del s) z; done = tt }
  drain (log ∷ logs) s a h =
      let ck : ℕ = instant s.clock in
      let e = after_tick log s a.0 h in
      let d = drain logs (after_first (going s) del s) a.1 (short_after log s a.0 h) in
      let l : due ck (drop (going s) s.entries) ≡ due ck s.entries - going s = below_drop (ck + 1) (going s) s.entries (omega arith) in
      let n : going s + min (length logs * k) (due ck (drop (going s) s.entries)) ≡ min (suc (length logs) * k) (due ck s.entries)
      = omega (arith, l) in
      record {
        which = rw e (d.which ∙ then_more (going s) _ s ∙ ap (λ (m : ℕ). after_first m del s) n);
        done = (is_done log s a.0 h, rw e d.done);
      }

-- of a judged scheduler
module _ (su : Setup) (r : Record) (st le ro : List ℕ) (s : Sound su r st le ro) (k : ℕ) (del : Bool) (some : 1 ≤ k) (logs : List (List ℕ))
    (ample : AllAmple k (largest_slot su.store) logs) where
  whole : Drained su (largest_slot su.store) k del some (state_of su r st le ro) logs
  unfolding state_of
  whole = drain su (largest_slot su.store) k del some logs (state_of su r st le ro) ample (sound_short su.store st le (facts s).store)

  pub none_refused : AllDone (run su (ticks k del logs) (state_of su r st le ro)).answers
  none_refused = whole.done

  -- the first due entries have had their turns, k for each tick or all of them, and no other entry
  pub first_go : (run su (ticks k del logs) (state_of su r st le ro)).state
      ≡ after_first (min (length logs * k) (due (instant r.clock) (state_of su r st le ro).entries)) del (state_of su r st le ro)
  unfolding state_of
  first_go = whole.which

  -- with enough ticks, all of them: those that are not due are left
  pub drained_are : rounded_up (due (instant r.clock) (state_of su r st le ro).entries) k ≤ length logs
      → (run su (ticks k del logs) (state_of su r st le ro)).state ≡ after_due del (state_of su r st le ro)
  unfolding state_of
  drained_are l =
      let d : ℕ = due (instant r.clock) (state_of su r st le ro).entries in
      let n : min (length logs * k) d ≡ d = omega (arith, rounded_up_lem d k (length logs) some l) in
      whole.which ∙ ap (λ (m : ℕ). after_first m del (state_of su r st le ro)) n ∙ first_due del (state_of su r st le ro) (facts s).kept

  pub all_handed_out : rounded_up (due (instant r.clock) (state_of su r st le ro).entries) k ≤ length logs
      → due (instant r.clock) (run su (ticks k del logs) (state_of su r st le ro)).state.entries ≡ 0
  unfolding state_of
  all_handed_out l =
      let d : ℕ = due (instant r.clock) (state_of su r st le ro).entries in
      ap (λ (t : State). due (instant r.clock) t.entries) whole.which
      ∙ below_drop (instant r.clock + 1) (min (length logs * k) d) (state_of su r st le ro).entries (omega arith)
      ∙ omega (arith, rounded_up_lem d k (length logs) some l)
