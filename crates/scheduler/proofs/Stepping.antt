-- A public call on a sound scheduler does what the step of its request says, and leaves the scheduler sound.
use Prim.Native.Nat.{ℕ}
use Rattle.record.specs.Record.{clock_in, mark_in}
use Rattle.record.specs.declared.Record.{Record}
use Rattle.rules.proofs.Order.{through_says}
use Rattle.rules.specs.Papers.{Outcome, Paper, after, done, through, refused, says}
use Rattle.schedule.proofs.Facts.{facts}
use Rattle.schedule.proofs.Promises.{judging_fine, record_same}
use Rattle.schedule.specs.Judge.{Sound, judging}
use Rattle.schedule.specs.Promise.{Writes}
use Rattle.schedule.specs.State.{State, record_of, state_of, with_pools}
use Rattle.schedule.specs.declared.Setup.{Setup}
use Rattle.scheduler.proofs.Calls.{StaysTimed, after_gives, clock_timed, mark_timed}
use Rattle.scheduler.proofs.Standing.{outcome_state, sound_fits}
use Rattle.scheduler.proofs.StaysSound.{call_stays, record_stays, step_stays, store_stays}
use Rattle.scheduler.specs.Fits.{Fits, Gives, OfBytes}
use Rattle.scheduler.specs.Laws.{StepsAs}
use Rattle.scheduler.specs.Steps.{Request, add, carried, delete, disable, enable, modify, of_pools, of_record, set_clock, step, with_record}
use Rattle.store.specs.Calls.{add_in, delete_in, modify_in}
use Rattle.lookup.specs.Calls.{judging as store_judging}
use Rattle.layout.specs.Judge.{Sound as StoreSound}
use Rattle.slots.specs.Pools.{Pool}
use Rattle.store.specs.Promise.{Writes as StoreWrites}
use Rattle.slots.specs.View.{Leaves, view}
use Rattle.store_laws.proofs.Reached.{add_done, delete_done, modify_done}
use Rattle.store_laws.proofs.StaysSound.{public_add_stays, public_delete_stays, public_modify_stays}
use Rattle.rows.specs.Entries.{unpack}
use Rattle.time.specs.declared.UnixTime.{UnixTime}
use mathlib.Core.Bool.{false, true}
use mathlib.Core.List.{List}
use mathlib.Core.Path.{◌∙◌, ◌≡◌, ap, refl, sym}

-- ---- insertions and deletions

-- any call that changes the state as the step of its request does
pub call_steps : (su : Setup) (r : Record) (st le ro : List ℕ) → Sound su r st le ro → (p : Paper) (r' : Record) (st' le' ro' : List ℕ)
    → (q : Request) → OfBytes q → (call : State → Outcome State) → ((x : State) → step su q x ≡ carried x (call x))
    → Writes su r st le ro (judging su r st le ro call) p r' st' le' ro' → StepsAs su r st le ro q p r' st' le' ro'
unfolding carried
call_steps su r st le ro s p r' st' le' ro' q o call e w =
    let v = rw (judging_fine su r st le ro call s) at w in
    record {
      sound = call_stays su r st le ro s p r' st' le' ro' call gives w;
      answer = rw e v.answer;
      state = rw e (outcome_state su r st le ro s p r' st' le' ro' (call (state_of su r st le ro)) (gives _ (sound_fits su r st le ro s)) v);
    }
  where
    gives : (x : State) → Fits su x → Gives su (call x)
    gives x f = after_gives su x (call x) (rw e at (step_stays su q x o f))

-- ---- the record's own calls, in place or by value

module _ (su : Setup) (r : Record) (st le ro : List ℕ) (s : Sound su r st le ro) (p : Paper) (r' : Record) where
  record_after : (o : Outcome Record) → after (of_record (state_of su r st le ro) o) (state_of su r st le ro) (λ t. t)
      ≡ with_record (state_of su r st le ro) (after o r (λ x. x))
  unfolding through after state_of
  record_after (refused q) = refl
  record_after (done vs x) = refl

  record_state : (x : Record) → x.count ≡ r.count → state_of su x st le ro ≡ with_record (state_of su r st le ro) x
  unfolding state_of
  record_state x e =
      λ i. record { pools = view su.store st le; entries = unpack (e i) ro; clock = x.clock; margin = x.margin; enabled = x.enabled }

  as_record : (f : Record → Outcome Record)
      → carried (state_of su r st le ro) (of_record (state_of su r st le ro) (f (record_of (state_of su r st le ro))))
      ≡ carried (state_of su r st le ro) (of_record (state_of su r st le ro) (f r))
  as_record f = ap (λ (x : Record). carried (state_of su r st le ro) (of_record (state_of su r st le ro) (f x))) (record_same su r st le ro)

  record_step : (q : Request) (o : Outcome Record)
      → step su q (state_of su r st le ro) ≡ carried (state_of su r st le ro) (of_record (state_of su r st le ro) o)
      → StaysTimed r (after o r (λ x. x)) → p ≡ says o → r' ≡ after o r (λ x. x) → StepsAs su r st le ro q p r' st le ro
  unfolding carried
  record_step q o e k a b =
      record {
        sound = rw b (record_stays su r _ st le ro s k);
        answer = rw e (a ∙ sym (through_says (with_record (state_of su r st le ro)) o));
        state = rw (e, b) (record_state (after o r (λ x. x)) k.same_count ∙ sym (record_after o));
      }

  pub clock_steps : (t : UnixTime) → p ≡ says (clock_in t r) → r' ≡ after (clock_in t r) r (λ x. x)
      → StepsAs su r st le ro (set_clock t) p r' st le ro
  unfolding step
  clock_steps t a b = record_step (set_clock t) (clock_in t r) (as_record (clock_in t)) (clock_timed t r) a b

  pub enable_steps : p ≡ says (mark_in true r) → r' ≡ after (mark_in true r) r (λ x. x) → StepsAs su r st le ro enable p r' st le ro
  unfolding step
  enable_steps a b = record_step enable (mark_in true r) (as_record (mark_in true)) (mark_timed true r) a b

  pub disable_steps : p ≡ says (mark_in false r) → r' ≡ after (mark_in false r) r (λ x. x) → StepsAs su r st le ro disable p r' st le ro
  unfolding step
  disable_steps a b = record_step disable (mark_in false r) (as_record (mark_in false)) (mark_timed false r) a b

-- ---- the store's own calls, on the scheduler's store

pools_after : (s : State) (o : Outcome (List Pool)) → after (of_pools s o) s (λ t. t) ≡ with_pools (after o s.pools (λ ps. ps)) s
unfolding through after
pools_after s (refused q) = refl
pools_after s (done vs ps) = refl

module _ (su : Setup) (r : Record) (st le ro : List ℕ) (s : Sound su r st le ro) (p : Paper) (st' le' : List ℕ) where
  pools_state : (ps : List Pool) → Leaves su.store st le ps st' le' → state_of su r st' le' ro ≡ with_pools ps (state_of su r st le ro)
  unfolding state_of
  pools_state ps l =
      let e = l.seen in
      λ i. record { pools = e i; entries = unpack r.count ro; clock = r.clock; margin = r.margin; enabled = r.enabled }

  store_step : (q : Request) (o : Outcome (List Pool))
      → step su q (state_of su r st le ro) ≡ carried (state_of su r st le ro) (of_pools (state_of su r st le ro) o)
      → StoreSound su.store st' le' → p ≡ says o → Leaves su.store st le (after o (state_of su r st le ro).pools (λ ps. ps)) st' le'
      → StepsAs su r st le ro q p r st' le' ro
  unfolding carried
  store_step q o e k a l =
      record {
        sound = store_stays su r st le ro st' le' s k;
        answer = rw e (a ∙ sym (through_says (λ ps. with_pools ps (state_of su r st le ro)) o));
        state = rw e (pools_state _ l ∙ sym (pools_after (state_of su r st le ro) o));
      }

  pub add_steps : (d : List ℕ)
      → StoreWrites su.store st le (store_judging su.store st le (λ ps. add_in su.store.spill ps d)) p st' le'
      → StepsAs su r st le ro (add d) p r st' le' ro
  unfolding step state_of
  add_steps d w =
      let k = (facts s).store in
      let g = add_done su.store st le k d p st' le' w in
      store_step (add d) (add_in su.store.spill (view su.store st le) d) refl (public_add_stays su.store st le k d p st' le' w)
      g.answer g.lists

  pub delete_steps : (a : ℕ) → StoreWrites su.store st le (store_judging su.store st le (λ ps. delete_in ps a)) p st' le'
      → StepsAs su r st le ro (delete a) p r st' le' ro
  unfolding step state_of
  delete_steps a w =
      let k = (facts s).store in
      let g = delete_done su.store st le k a p st' le' w in
      store_step (delete a) (delete_in (view su.store st le) a) refl (public_delete_stays su.store st le k a p st' le' w)
      g.answer g.lists

  pub modify_steps : (a : ℕ) (ys : List ℕ) → StoreWrites su.store st le (store_judging su.store st le (λ ps. modify_in ps a ys)) p st' le'
      → StepsAs su r st le ro (modify a ys) p r st' le' ro
  unfolding step state_of
  modify_steps a ys w =
      let k = (facts s).store in
      let g = modify_done su.store st le k a ys p st' le' w in
      store_step (modify a ys) (modify_in (view su.store st le) a ys) refl (public_modify_stays su.store st le k a ys p st' le' w)
      g.answer g.lists
