-- What a wrapped insertion comes to, by what opening the outer packet and its stamp said.
use Rattle.std.specs.Prelude.{Some, None, Ok, Err}
use Rattle.stamp.specs.declared.Stamp.{Stamp}
use Prim.Native.Nat.{ℕ, ◌<◌, ◌≤◌}
use borrow.Author.Tests.{eq-eqb, le-leb, lt-leb, ne_eqb}
use lib.ListN.{drop, length}
use mathlib.Core.List.{List, [], ◌∷◌}
use mathlib.Core.Path.{◌≡◌, ap, sym}
use Rattle.packet.specs.Packet.{read_of, user_data_of}
use Rattle.packet.specs.declared.Fault.{Fault}
use Rattle.packet.specs.declared.Header.{Header}
use Rattle.record.specs.Refusals.{paper}
use Rattle.record.specs.declared.Record.{Record}
use Rattle.record.specs.declared.ScheduleRefusal.TheVariants.{BadTimestamp, TcDataEmpty, TcUnreadable, WrongService, WrongSubservice}
use Rattle.rules.specs.Papers.{Paper, no}
use Rattle.rules.specs.Tests.{unless}
use Rattle.stamp.specs.Stamp.{stamp_of}
use Rattle.time.specs.declared.UnixTime.{UnixTime}
use Rattle.insertions.specs.Inserting.{insert_tc}
use Rattle.wrapped.specs.Wrapped.{insert_wrapped_in, opened, stamped}
use Rattle.schedule.specs.Promise.{Does}
use Rattle.schedule.specs.State.{state_of}
use Rattle.schedule.specs.declared.Setup.{Setup}
use Rattle.schedule.proofs.Promises.{does_as, does_refused}

module _ (su : Setup) (r : Record) (st le ro : List ℕ) where
  -- the outer packet
  pub wrapped_unreadable : (outer : List ℕ) (f : Fault) → read_of 2 outer ≡ Err f
      → Does su r st le ro (insert_wrapped_in su outer) (paper TcUnreadable) r st le ro
  unfolding insert_wrapped_in opened paper
  wrapped_unreadable outer f q = does_refused su r st le ro (insert_wrapped_in su outer) (no 9 []) (rw q)

  pub wrapped_opened : (outer : List ℕ) (h : Header) (p : Paper) (r' : Record) (st' le' ro' : List ℕ) → read_of 2 outer ≡ Ok h
      → Does su r st le ro (λ s. opened su (user_data_of 2 outer) s (Ok h)) p r' st' le' ro'
      → Does su r st le ro (insert_wrapped_in su outer) p r' st' le' ro'
  unfolding insert_wrapped_in
  wrapped_opened outer h p r' st' le' ro' q d =
      does_as su r st le ro (λ s. opened su (user_data_of 2 outer) s (Ok h)) (insert_wrapped_in su outer) p r' st' le' ro'
      (ap (opened su (user_data_of 2 outer) (state_of su r st le ro)) (sym q)) d

  -- its service, subservice and user data
  module _ (d : List ℕ) (h : Header) where
    pub wrong_service : (h.service ≡ 11 → ⊥) → Does su r st le ro (λ s. opened su d s (Ok h)) (paper (WrongService h.service)) r st le ro
    unfolding opened unless paper
    wrong_service e = does_refused su r st le ro _ (no 5 (h.service ∷ [])) (rw (ne_eqb _ _ e))

    pub wrong_subservice : h.service ≡ 11 → (h.subservice ≡ 4 → ⊥)
        → Does su r st le ro (λ s. opened su d s (Ok h)) (paper (WrongSubservice h.subservice)) r st le ro
    unfolding opened unless paper
    wrong_subservice e f = does_refused su r st le ro _ (no 6 (h.subservice ∷ [])) (rw (eq-eqb _ _ e, ne_eqb _ _ f))

    pub no_data : h.service ≡ 11 → h.subservice ≡ 4 → length d < 1
        → Does su r st le ro (λ s. opened su d s (Ok h)) (paper TcDataEmpty) r st le ro
    unfolding opened unless paper
    no_data e f l = does_refused su r st le ro _ (no 7 []) (rw (eq-eqb _ _ e, eq-eqb _ _ f, lt-leb _ _ l))

    pub some_data : h.service ≡ 11 → h.subservice ≡ 4 → 1 ≤ length d → (p : Paper) (r' : Record) (st' le' ro' : List ℕ)
        → Does su r st le ro (λ s. stamped su d s (stamp_of d)) p r' st' le' ro' → Does su r st le ro (λ s. opened su d s (Ok h)) p r' st' le' ro'
    unfolding opened unless
    some_data e f l p r' st' le' ro' x =
        does_as su r st le ro (λ s. stamped su d s (stamp_of d)) (λ s. opened su d s (Ok h)) p r' st' le' ro'
        (rw (eq-eqb _ _ e, eq-eqb _ _ f, le-leb _ _ l)) x

  -- the stamp
  module _ (d : List ℕ) where
    pub stamp_refused : stamp_of d ≡ None → Does su r st le ro (λ s. stamped su d s (stamp_of d)) (paper BadTimestamp) r st le ro
    unfolding stamped paper
    stamp_refused q = does_refused su r st le ro _ (no 8 []) (rw q)

    pub stamp_at : (x : Stamp) → stamp_of d ≡ Some x → (p : Paper) (r' : Record) (st' le' ro' : List ℕ)
        → Does su r st le ro (insert_tc su x.time (drop x.len d)) p r' st' le' ro' →
        Does su r st le ro (λ s. stamped su d s (stamp_of d)) p r' st' le' ro'
    unfolding stamped
    stamp_at x q p r' st' le' ro' d' =
        does_as su r st le ro (insert_tc su x.time (drop x.len d)) (λ s. stamped su d s (stamp_of d)) p r' st' le' ro' (rw q) d'
