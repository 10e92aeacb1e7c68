-- Demand 1 over steps; and that a request to a state whose clock and margin are in range is answered none of 1 to 3.
use Rattle.record.specs.Record.{times_in_range}
use Rattle.rules.proofs.Order.{refusal_keeps}
use Rattle.rules.specs.Papers.{Outcome, says}
use Rattle.schedule.specs.State.{State, record_of}
use Rattle.schedule.specs.declared.Setup.{Setup}
use Rattle.scheduler.proofs.Numbers.{Numbered, clock_numbered, through_numbered, mark_numbered, own_add, own_by_id, own_count, own_delete, own_has, own_keeping, own_len, own_modify, own_numbered, own_read, own_reset, own_retrieve, own_stored, own_tick, own_unwrapped, own_window, own_wrapped}
use Rattle.scheduler.specs.Laws.{EveryStepAnswers, Told}
use Rattle.scheduler.specs.Steps.{Request, add, buffer_of, carried, count, delete, delete_by_id, delete_keeping, delete_window, disable, enable, has_element_at, insert_stored, insert_unwrapped, insert_wrapped, len_of_data, looked, modify, read, reset, retrieve, set_clock, step, tick, ticked}
use Rattle.tick.specs.Tick.{Logged}
use mathlib.Core.Bool.{Bool, true}
use mathlib.Core.List.{[]}
use mathlib.Core.Path.{refl}

module _ (fine : Bool) (s : State) where
  carries : (o : Outcome State) → Numbered fine (says o) → Told fine [] s (carried s o)
  unfolding carried
  carries o h =
      record {
        demand = record { in_table = h.most; kept = λ above. (refusal_keeps o s (λ t. t) above, refl) };
        undamaged = h.undamaged;
      }

  looks : {A : Type 0} (o : Outcome A) → Numbered fine (says o) → Told fine [] s (looked s o [])
  unfolding looked
  looks o h = record { demand = record { in_table = h.most; kept = λ above. (refl, refl) }; undamaged = h.undamaged }

module _ (su : Setup) (s : State) where
  abbrev fine : Bool
  fine = times_in_range (record_of s)

  pub told : (q : Request) → Told (times_in_range (record_of s)) (buffer_of q) s (step su q s)
  unfolding step buffer_of looked ticked
  told (add d) = carries fine s _ (through_numbered fine _ _ (own_numbered fine _ (own_add su.store.spill s.pools d)))
  told (read a buf) =
      let h = own_numbered fine _ (own_read s.pools a buf) in
      record {
        demand = record { in_table = h.most; kept = λ above. (refl, refusal_keeps _ buf (λ b. b) above) };
        undamaged = h.undamaged;
      }
  told (modify a d) = carries fine s _ (through_numbered fine _ _ (own_numbered fine _ (own_modify s.pools a d)))
  told (delete a) = carries fine s _ (through_numbered fine _ _ (own_numbered fine _ (own_delete s.pools a)))
  told (has_element_at a) = looks fine s _ (own_numbered fine _ (own_has s.pools a))
  told (len_of_data a) = looks fine s _ (own_numbered fine _ (own_len s.pools a))
  told (set_clock t) = carries fine s _ (through_numbered fine _ _ (clock_numbered t (record_of s)))
  told enable = carries fine s _ (through_numbered fine _ _ (mark_numbered true (record_of s)))
  told disable = carries fine s _ (through_numbered fine _ _ (mark_numbered _ (record_of s)))
  told count = looks fine s _ (own_numbered fine _ (own_count s))
  told (insert_wrapped p) = carries fine s _ (own_numbered fine _ (own_wrapped su p s))
  told (insert_unwrapped t p) = carries fine s _ (own_numbered fine _ (own_unwrapped su t p s))
  told (insert_stored t id a) = carries fine s _ (own_numbered fine _ (own_stored su t id a s))
  told (retrieve w) = looks fine s _ (own_numbered fine _ (own_retrieve w s))
  told (delete_window w) = carries fine s _ (own_numbered fine _ (own_window w s))
  told reset = carries fine s _ (own_numbered fine _ (own_reset s))
  told (delete_keeping id) = carries fine s _ (own_numbered fine _ (own_keeping id s))
  told (delete_by_id id) = carries fine s _ (own_numbered fine _ (own_by_id id s))
  told (tick limit del log) =
      let h = own_numbered fine _ (own_tick limit del log s) in
      record {
        demand =
            record {
              in_table = h.most;
              kept = λ above. (refusal_keeps _ s (λ (x : Logged). x.state) above, refusal_keeps _ log (λ (x : Logged). x.log) above);
            };
        undamaged = h.undamaged;
      }

pub every_step_answers : EveryStepAnswers
unfolding EveryStepAnswers
every_step_answers su q s = (told su s q).demand
