-- The first m rows handed out are document 01's handout, where m of the first n fit and the clock and the limit allow n.
use Prim.Native.Nat.{◌≤◌, min, ℕ}
use Rattle.handing.specs.Handing.{HandsOut, after_all, turns}
use Rattle.release_log.specs.Log.{LogRecord, log_bytes}
use Rattle.measure.specs.Fitting.{fitting}
use Rattle.laid.proofs.Laid.{leaves_as}
use Rattle.slots.specs.Pools.{Pool}
use Rattle.slots.specs.View.{view}
use Rattle.layout.specs.declared.Setup.{Setup}
use Rattle.rows.proofs.Rows.{take_unpack}
use Rattle.table_edit.proofs.Stays.{without_first}
use Rattle.table_edit.specs.Edits.{without}
use Rattle.rows.specs.Entries.{Entry, relaid, unpack}
use Rattle.turn.specs.Turns.{Handout, always, handout, leave}
use Rattle.turns.proofs.Room.{few}
use Rattle.turns.specs.Released.{CarriedOut, Released}
use Rattle.turns_laws.proofs.Split.{many, splits}
use Rattle.turns_laws.specs.Due.{due}
use lib.ListN.{drop, length, take}
use lib.Seq.{sets}
use mathlib.Core.Bool.{Bool}
use mathlib.Core.List.{List}
use mathlib.Core.Path.{◌∙◌, ◌≡◌, ap, sym}
use native.Mathlib.Omega.{arith}

module _ (su : Setup) (st le w log : List ℕ) (del on : Bool) (n cap m : ℕ) (q : m ≡ fitting (leave del) 8 cap (unpack n w) (view su st le))
    (count : ℕ) (within : n ≤ count) where
  abbrev es : List Entry
  es = unpack count w

  abbrev ps : List Pool
  ps = view su st le

  module _ (ck limit : ℕ) (nn : n ≡ min limit (due ck es)) where
    h : Handout
    h = handout (leave del) (always on) ck limit 8 cap es ps

    count_is : length h.records ≡ m
    unfolding h
    count_is =
        let tk : take (min limit (due ck es)) es ≡ unpack n w = rw (← nn) (take_unpack count w n within) in
        many (leave del) (always on) ck limit 8 cap es ps ∙ rw tk (sym q)

    first_m : take (length h.records) es ≡ unpack m w
    first_m = rw count_is (take_unpack count w m (omega (arith, few su st le w del n cap m q)))

    records_are : h.records ≡ turns (leave del) (always on) (unpack m w) ps
    unfolding h
    records_are =
        (splits (leave del) (always on) ck limit 8 cap es ps).records_are
        ∙ ap (λ (x : List Entry). turns (leave del) (always on) x ps) first_m

    pools_are : h.pools ≡ after_all (leave del) (unpack m w) ps
    unfolding h
    pools_are = (splits (leave del) (always on) ck limit 8 cap es ps).pools_are ∙ ap (λ (x : List Entry). after_all (leave del) x ps) first_m

    left_is : h.left ≡ drop m es
    unfolding h
    left_is = (splits (leave del) (always on) ck limit 8 cap es ps).left_is ∙ ap (λ (x : ℕ). drop x es) count_is

    carried_out : (st' le' w' log' : List ℕ) → HandsOut su del on (unpack m w) st le log st' le' log' → w' ≡ relaid w count (without 0 m es)
        → CarriedOut su count st le w log h m st' le' w' log'
    carried_out st' le' w' log' t x =
        record {
          many = sym count_is;
          wrote = t.wrote ∙ ap (λ (rs : List LogRecord). sets log 0 (log_bytes rs)) (sym records_are);
          lists = leaves_as su st le _ _ st' le' (sym pools_are) t.lists;
          moved = x ∙ ap (relaid w count) (without_first m es ∙ sym left_is);
        }

  pub released : (le₁ st' le' w' log' : List ℕ) → le₁ ≡ le → HandsOut su del on (unpack m w) st le₁ log st' le' log'
      → w' ≡ relaid w count (without 0 m es) → Released su del on n cap count st le w log m st' le' w' log'
  unfolding h
  released le₁ st' le' w' log' e t x =
      record {
        some = few su st le w del n cap m q;
        out = λ ck limit nn. carried_out ck limit nn st' le' w' log' (rw e at t) x;
      }
