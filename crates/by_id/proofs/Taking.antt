-- What the deletions by request ID come to, by the row that was found.
use Rattle.std.specs.Prelude.{Result, Ok, Err, Some}
use Rattle.slots.specs.declared.StoreRefusal.{StoreRefusal}
use Prim.Native.Nat.{◌*◌, ◌-◌, ◌<◌, ◌≤◌, ℕ}
use borrow.Author.Tests.{le-ltb, lt-ltb}
use lib.ListN.{get_or, length}
use mathlib.Core.List.{List, [], ◌∷◌}
use mathlib.Core.Path.{◌≡◌, ◌∙◌, ap, refl, subst, sym}
use native.Mathlib.Omega.{arith}
use Rattle.record.specs.declared.Record.{Record}
use Rattle.rules.specs.Papers.{Outcome, after, done, no, says}
use Rattle.rules.specs.Tests.{unless}
use Rattle.laid.proofs.Laid.{leaves_same}
use Rattle.store.specs.Calls.{delete_in}
use Rattle.store.specs.Refusals.{done_paper}
use Rattle.slots.specs.View.{Leaves, view}
use Rattle.store_laws.proofs.Numbers.{by_deleted}
use Rattle.rows.proofs.Rows.{get_d_unpack, length_unpack, relaid_same}
use Rattle.table_edit.proofs.Stays.{remove_number}
use Rattle.table_edit.specs.Edits.{after_remove, without}
use Rattle.rows.specs.Entries.{Entry, row, unpack, width}
use Rattle.selection.specs.Match.{none, victim}
use Rattle.by_id.specs.Answers.{freed_paper}
use Rattle.by_id.specs.ById.{delete_by_id_in, delete_keeping_in, freed, take_in}
use Rattle.schedule.specs.State.{State, record_of, state_of, with_count, with_entries, with_pools}
use Rattle.schedule.specs.Promise.{Does}
use Rattle.schedule.specs.declared.Setup.{Setup}
use Rattle.schedule.proofs.Promises.{does_done, record_same}
use Rattle.schedule.proofs.Facts.{Facts}

-- what the store's answer makes of the call's
freed_by : (t : State) (a : ℕ) (d : Result (Unit {0}) StoreRefusal) → done_paper d ≡ says (delete_in t.pools a)
    → freed t (delete_in t.pools a)
    ≡ done (freed_paper (Ok (Some d))).values (with_pools (after (delete_in t.pools a) t.pools (λ ps. ps)) t)
unfolding freed freed_paper after
freed_by t a d q =
    by_deleted (λ o d. freed t o ≡ done (freed_paper (Ok (Some d))).values (with_pools (after o t.pools (λ ps. ps)) t)) t.pools a d q
    (λ e. refl) (λ vs ps. refl)

freed_number : (d : Result (Unit {0}) StoreRefusal) → no 0 (freed_paper (Ok (Some d))).values ≡ freed_paper (Ok (Some d))
unfolding freed_paper
freed_number (Ok _) = refl
freed_number (Err e) = refl

module _ (id : ℕ) (found : ℕ → State → Outcome State) (s : State) where
  no_match : length s.entries ≤ victim id s.entries → take_in id found s ≡ done (0 ∷ []) s
  unfolding take_in unless
  no_match l = rw (le-ltb _ _ l)

  a_match : victim id s.entries < length s.entries
      → take_in id found s
      ≡ found (get_or s.entries (victim id s.entries) none).addr (with_entries (without (victim id s.entries) 1 s.entries) s)
  unfolding take_in unless
  a_match l = rw (lt-ltb _ _ l)

module _ (su : Setup) (r : Record) (st le ro : List ℕ) (f : Facts su r st le ro) (id : ℕ) where
  -- no entry has the ID
  none_done : (found : ℕ → State → Outcome State) → victim id (unpack r.count ro) ≡ r.count
      → Does su r st le ro (take_in id found) (no 0 (0 ∷ [])) r st le ro
  unfolding state_of
  none_done found l =
      let h : length (unpack r.count ro) ≤ victim id (unpack r.count ro) = omega (arith, l, length_unpack r.count ro) in
      let g : r.count * width ≤ length ro = omega (arith, f.count, f.room) in
      subst (λ (x : Record). Does su r st le ro (take_in id found) (no 0 (0 ∷ [])) x st le ro) (record_same su r st le ro)
      (does_done su r st le ro (take_in id found) (0 ∷ []) (state_of su r st le ro) st le ro (no_match id found (state_of su r st le ro) h)
      (leaves_same su.store st le) (sym (relaid_same ro r.count g)))

  pub keep_none : victim id (unpack r.count ro) ≡ r.count → Does su r st le ro (delete_keeping_in id) (no 0 (0 ∷ [])) r st le ro
  unfolding delete_keeping_in
  keep_none l = none_done _ l

  pub free_none : victim id (unpack r.count ro) ≡ r.count → Does su r st le ro (delete_by_id_in id) (no 0 (0 ∷ [])) r st le ro
  unfolding delete_by_id_in
  free_none l = none_done _ l

  -- one has
  module _ (k : ℕ) (l : k < r.count) (q : k ≡ victim id (unpack r.count ro)) where
    fewer : State
    fewer = with_entries (without k 1 (unpack r.count ro)) (state_of su r st le ro)

    fewer_record : record_of fewer ≡ with_count (r.count - 1) r
    unfolding fewer state_of
    fewer_record = ap (λ (n : ℕ). with_count n r) (remove_number ro r.count k 1 (omega arith))

    match_is : (found : ℕ → State → Outcome State) → take_in id found (state_of su r st le ro) ≡ found (row ro k).addr fewer
    unfolding fewer state_of
    match_is found =
        let h : victim id (unpack r.count ro) < length (unpack r.count ro) = omega (arith, q, length_unpack r.count ro) in
        a_match id found (state_of su r st le ro) h
        ∙ rw (← q)
        (ap (λ (e : Entry). found e.addr (with_entries (without k 1 (unpack r.count ro)) (state_of su r st le ro)))
        (get_d_unpack r.count ro k none l))

    pub keep_done : (a : ℕ) (n : Record) (ro' : List ℕ) → a ≡ (row ro k).addr → n ≡ with_count (r.count - 1) r → ro' ≡ after_remove ro r.count k 1
        → Does su r st le ro (delete_keeping_in id) (no 0 (1 ∷ a ∷ [])) n st le ro'
    unfolding delete_keeping_in fewer state_of
    keep_done a n ro' e p g =
        rw (p ∙ sym fewer_record, e)
        (does_done su r st le ro (delete_keeping_in id) (1 ∷ (row ro k).addr ∷ []) fewer st le ro' (match_is _) (leaves_same su.store st le) g)

    pub free_done : (d : Result (Unit {0}) StoreRefusal) (a : ℕ) (n : Record) (st' le' ro' : List ℕ) → a ≡ (row ro k).addr
        → done_paper d ≡ says (delete_in (view su.store st le) a)
        → Leaves su.store st le (after (delete_in (view su.store st le) a) (view su.store st le) (λ ps. ps)) st' le'
        → n ≡ with_count (r.count - 1) r → ro' ≡ after_remove ro r.count k 1
        → Does su r st le ro (delete_by_id_in id) (freed_paper (Ok (Some d))) n st' le' ro'
    unfolding delete_by_id_in fewer state_of
    free_done d a n st' le' ro' e w v p g =
        let o = delete_in (view su.store st le) a in
        rw (p ∙ sym fewer_record, ← (freed_number d))
        (does_done su r st le ro (delete_by_id_in id) _ (with_pools (after o (view su.store st le) (λ ps. ps)) fewer) st' le' ro'
        (match_is _ ∙ rw (← e) (freed_by fewer a d w)) v g)
