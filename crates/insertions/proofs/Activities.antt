-- What inserting one readable command comes to, in the form of the promise.
use Rattle.std.specs.Prelude.{Result, Ok, Err}
use Prim.Native.Nat.{ℕ}
use mathlib.Core.Bool.{false, true}
use mathlib.Core.List.{List, []}
use mathlib.Core.Path.{◌≡◌, ◌∙◌, ap, sym}
use Rattle.packet.specs.Packet.{id_of, id_word, read_of}
use Rattle.packet.specs.declared.Fault.{Fault}
use Rattle.packet.specs.declared.Header.{Header}
use Rattle.record.specs.Refusals.{paper}
use Rattle.record.specs.declared.Record.{Record}
use Rattle.record.specs.declared.ScheduleRefusal.{ScheduleRefusal}
use Rattle.record.specs.declared.ScheduleRefusal.TheVariants.{BadTime, NestedScheduledTc, TcUnreadable}
use Rattle.rules.specs.Papers.{Paper, no, refused}
use Rattle.rules.specs.Tests.{unless}
use Rattle.store.specs.Calls.{add_in}
use Rattle.time.specs.Time.{in_range}
use Rattle.slots.specs.View.{view}
use Rattle.time.specs.declared.UnixTime.{UnixTime}
use Rattle.gate.specs.Entering.{timed}
use Rattle.insertions.specs.Inserting.{activity, insert_tc, insert_unwrapped_in, nested}
use Rattle.storing.specs.Entered.{entered}
use Rattle.gate.specs.Inside.{Gate}
use Rattle.storing.specs.Inside.{first_paper}
use Rattle.schedule.specs.Promise.{Does}
use Rattle.schedule.specs.State.{State, state_of, with_pools}
use Rattle.schedule.specs.declared.Setup.{Setup}
use Rattle.storing.proofs.Adding.{blocked}
use Rattle.gate.proofs.Gates.{gate_refused}
use Rattle.schedule.proofs.Promises.{does_as, does_refused, record_same}

-- a readable command, by whether it is itself an insertion
module _ (su : Setup) (t : UnixTime) (tc : List ℕ) (s : State) (h : Header) where
  nested_refused : nested h ≡ true → activity su t tc s (Ok h) ≡ refused (no 10 [])
  unfolding activity unless
  nested_refused e = rw e

  plain_enters : nested h ≡ false
      → activity su t tc s (Ok h) ≡ entered su t (id_word (id_of h)) s (add_in su.store.spill s.pools tc)
  unfolding activity unless
  plain_enters e = rw e

module _ (su : Setup) (r : Record) (st le ro : List ℕ) (t : UnixTime) (tc : List ℕ) where
  pub does_unreadable : (f : Fault) → read_of 2 tc ≡ Err f → Does su r st le ro (insert_tc su t tc) (paper TcUnreadable) r st le ro
  unfolding activity paper
  does_unreadable f q = does_refused su r st le ro (insert_tc su t tc) (no 9 []) (rw q)

  pub does_readable : (h : Header) (p : Paper) (r' : Record) (st' le' ro' : List ℕ) → read_of 2 tc ≡ Ok h
      → Does su r st le ro (λ s. activity su t tc s (Ok h)) p r' st' le' ro' → Does su r st le ro (insert_tc su t tc) p r' st' le' ro'
  does_readable h p r' st' le' ro' q d =
      does_as su r st le ro (λ s. activity su t tc s (Ok h)) (insert_tc su t tc) p r' st' le' ro'
      (ap (activity su t tc (state_of su r st le ro)) (sym q)) d

  -- the time is judged first
  pub unwrapped_bad : in_range t ≡ false → Does su r st le ro (insert_unwrapped_in su t tc) (paper BadTime) r st le ro
  unfolding insert_unwrapped_in timed unless paper
  unwrapped_bad e = does_refused su r st le ro (insert_unwrapped_in su t tc) (no 4 []) (rw e)

  pub unwrapped_timed : (p : Paper) (r' : Record) (st' le' ro' : List ℕ) → in_range t ≡ true
      → Does su r st le ro (insert_tc su t tc) p r' st' le' ro' → Does su r st le ro (insert_unwrapped_in su t tc) p r' st' le' ro'
  unfolding insert_unwrapped_in timed unless
  unwrapped_timed p r' st' le' ro' e d =
      does_as su r st le ro (insert_tc su t tc) (insert_unwrapped_in su t tc) p r' st' le' ro' (rw e) d

  module _ (h : Header) where
    pub does_nested : nested h ≡ true → Does su r st le ro (λ s. activity su t tc s (Ok h)) (paper NestedScheduledTc) r st le ro
    unfolding paper
    does_nested e = does_refused su r st le ro _ (no 10 []) (nested_refused su t tc (state_of su r st le ro) h e)

    module _ (e : nested h ≡ false) where
      pub does_blocked : (v : Result (Unit {0}) ScheduleRefusal) (own : ScheduleRefusal) (p : Paper) → Gate su r t v → v ≡ Err own
          → p ≡ first_paper (add_in su.store.spill (view su.store st le) tc) own
          → Does su r st le ro (λ s. activity su t tc s (Ok h)) p r st le ro
      unfolding state_of
      does_blocked v own p g q f =
          rw f
          (does_refused su r st le ro _ (first_paper (add_in su.store.spill (view su.store st le) tc) own)
          (plain_enters su t tc (state_of su r st le ro) h e
          ∙ blocked su t (id_word (id_of h)) (state_of su r st le ro) _ own
          (λ a vs ps. gate_refused su r t v own g q (id_word (id_of h)) a vs (with_pools ps (state_of su r st le ro)) (record_same su r st le ro))))

      pub does_plain : (id : ℕ) (p : Paper) (r' : Record) (st' le' ro' : List ℕ) → id ≡ id_word (id_of h)
          → Does su r st le ro (λ s. entered su t id s (add_in su.store.spill s.pools tc)) p r' st' le' ro'
          → Does su r st le ro (λ s. activity su t tc s (Ok h)) p r' st' le' ro'
      does_plain id p r' st' le' ro' q d =
          does_as su r st le ro _ (λ s. activity su t tc s (Ok h)) p r' st' le' ro'
          (ap (λ (k : ℕ). entered su t k (state_of su r st le ro) (add_in su.store.spill (state_of su r st le ro).pools tc)) q
          ∙ sym (plain_enters su t tc (state_of su r st le ro) h e))
          d
