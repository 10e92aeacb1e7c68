-- The tick on the smaller scheduler and on the larger.
use Prim.Native.Nat.{ℕ}
use Rattle.room.proofs.Alike.{Alike, answers, by_test, refuses}
use Rattle.room.proofs.Entries.{drop_slots}
use Rattle.room.proofs.Grow.{edit_grow, shape_edit}
use Rattle.room.proofs.StoreCalls.{found, here}
use Rattle.room.specs.Grown.{Fit, Slots, Slotted, grow, grown, shape}
use Rattle.schedule.specs.State.{State}
use Rattle.slots.specs.Pools.{Pool, find}
use Rattle.store.specs.Edits.{edit, wipe}
use Rattle.rows.specs.Entries.{Entry}
use Rattle.tick.specs.Tick.{Logged, first_lacks, handed_out, tick_in, usable}
use Rattle.time.specs.Time.{instant}
use Rattle.turns.specs.Released.{first_total}
use Rattle.turn.specs.Turns.{Handout, always, handout, leave}
use Rattle.turns_laws.proofs.Follows.{follows}
use Rattle.turns_laws.proofs.Split.{splits}
use Rattle.turns_laws.specs.Laws.{SameButPools}
use lib.ListN.{length}
use mathlib.Core.Bool.{Bool, false, true}
use mathlib.Core.List.{List, [], ◌∷◌}
use mathlib.Core.Path.{◌∙◌, ◌≡◌, ap, refl, sym}

-- what the larger has in place of what a tick leaves: the log is the same
abbrev pub grown_log : List ℕ → Logged → Logged
grown_log ks x = record { state = grown ks x.state; log = x.log }

abbrev grown_handout : List ℕ → Handout → Handout
grown_handout ks h = record { records = h.records; left = h.left; pools = grow ks h.pools }

module _ (ns ks : List ℕ) where
  abbrev Related : List Pool → List Pool → Type 0
  Related ps qs = (qs ≡ grow ks ps) × (shape ps ≡ ns)

  finds : (ps qs : List Pool) (a : ℕ) → Slotted ns a → Related ps qs → find ps a ≡ find qs a
  finds ps qs a n r = rw r.0 (sym (found ns ks ps r.1 a n))

  keeps : (del : Bool) (ps qs : List Pool) (a : ℕ) → Slotted ns a → Related ps qs → Related (leave del ps a) (leave del qs a)
  unfolding leave
  keeps true ps qs a n r =
      (ap (λ (x : List Pool). edit wipe x a) r.0 ∙ edit_grow wipe ks ps a (here ns ks ps r.1 a n), shape_edit wipe ps a ∙ r.1)
  keeps false ps qs a n r = r

  module _ (del : Bool) (on : Entry → Bool) (ck k used cap : ℕ) (es : List Entry) (ps : List Pool) (shaped : shape ps ≡ ns)
      (named : Slots ns es) where
    related : SameButPools Related (handout (leave del) on ck k used cap es ps) (handout (leave del) on ck k used cap es (grow ks ps))
    related =
        follows Related (Slotted ns) (leave del) (leave del) finds (keeps del) on ck k used cap es ps (grow ks ps)
        named (refl, shaped)

    hands : handout (leave del) on ck k used cap es (grow ks ps) ≡ grown_handout ks (handout (leave del) on ck k used cap es ps)
    hands = λ i. record { records = sym related.records_same i; left = sym related.left_same i; pools = related.pools_related.0 i }

    hands_shape : shape (handout (leave del) on ck k used cap es ps).pools ≡ ns
    hands_shape = related.pools_related.1

    hands_named : Slots ns (handout (leave del) on ck k used cap es ps).left
    hands_named =
        let m = length (handout (leave del) on ck k used cap es ps).records in
        rw (splits (leave del) on ck k used cap es ps).left_is (drop_slots ns m es named)

  first_grow : (es : List Entry) (ps : List Pool) → shape ps ≡ ns → Slots ns es → first_total es (grow ks ps) ≡ first_total es ps
  first_grow [] ps h n = refl
  first_grow (e ∷ es) ps h n = rw (found ns ks ps h e.addr n.0)

  pub ticks : (limit : ℕ) (del : Bool) (log : List ℕ) (s : State) → Fit ns s
      → Alike (grown_log ks) (λ vs x. Fit ns x.state) (tick_in limit del log s) (tick_in limit del log (grown ks s))
  unfolding tick_in first_lacks handed_out
  ticks limit del log s f =
      let on = always s.enabled in
      let ck = instant s.clock in
      rw (
        first_grow s.entries s.pools f.shaped f.named,
        hands del on ck limit 8 (usable log) s.entries s.pools f.shaped f.named,
      )
      (by_test _ _ _ _ _ _ _ (refuses _ _ _)
      (by_test _ _ _ _ _ _ _ (refuses _ _ _)
      (answers _ _ _ _
      (record {
        shaped = hands_shape del on ck limit 8 (usable log) s.entries s.pools f.shaped f.named;
        named = hands_named del on ck limit 8 (usable log) s.entries s.pools f.shaped f.named;
      }))))
