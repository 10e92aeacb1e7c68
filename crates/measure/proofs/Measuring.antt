-- Counting the records that fit: what is left to count, over the subpools that the table with its marks stands for.
use Prim.Native.Nat.{◌+◌, ◌<◌, ◌≤◌, suc, ℕ}
use Rattle.layout.specs.Judge.{Sound}
use Rattle.marks.proofs.Marking.{marking, marks_first}
use Rattle.marks.specs.Promise.{Marking, Place, Tells}
use Rattle.measure.proofs.Leaving.{packet_of_lem}
use Rattle.measure.specs.Fitting.{fitting}
use Rattle.measure.specs.Inside.{Counted, Left}
use Rattle.rows.proofs.Rows.{drop_row, length_unpack}
use Rattle.rows.specs.Entries.{Entry, row, unpack}
use Rattle.rules.specs.Tests.{unless}
use Rattle.slots.specs.Pools.{Pool, find}
use Rattle.slots.specs.View.{view}
use Rattle.turn.specs.Turns.{leave, need}
use borrow.Author.Tests.{le-leb, lt-leb}
use lib.ListN.{drop, drop_of_length-le, length}
use mathlib.Core.Bool.{Bool}
use mathlib.Core.List.{List, [], ◌∷◌}
use mathlib.Core.Path.{◌∙◌, ◌≡◌, ap, refl}
use native.Mathlib.Omega.{arith}
use Rattle.layout.specs.declared.Setup.{Setup}

module _ (after : List Pool → ℕ → List Pool) (used cap : ℕ) where
  fit_end : (ps : List Pool) → fitting after used cap [] ps ≡ 0
  unfolding fitting
  fit_end ps = refl

  fit_stop : (e : Entry) (es : List Entry) (ps : List Pool) → cap < used + need (find ps e.addr) → fitting after used cap (e ∷ es) ps ≡ 0
  unfolding fitting unless
  fit_stop e es ps h = rw (lt-leb (used + need (find ps e.addr)) cap h)

  fit_go : (next : ℕ) (e : Entry) (es : List Entry) (ps : List Pool) → used + need (find ps e.addr) ≡ next → next ≤ cap
      → fitting after used cap (e ∷ es) ps ≡ suc (fitting after next cap es (after ps e.addr))
  unfolding fitting unless
  fit_go next e es ps q h = rw (q, le-leb next cap h)

module _ (su : Setup) (st le₀ w : List ℕ) (n cap : ℕ) (del : Bool) where
  -- i entries are counted, used bytes are spent, and the marks in le say what is left of the store
  pub record Measuring (used i : ℕ) (le : List ℕ) : Type 0 where
    pub within : i ≤ n
    pub fits : used ≤ cap
    pub counted : Counted del su st le₀ le
    pub goes : i + fitting (leave del) used cap (drop i (unpack n w)) counted.pools ≡ fitting (leave del) 8 cap (unpack n w) (view su st le₀)

  pub measuring_first : Sound su st le₀ → 8 ≤ cap → Measuring 8 0 le₀
  measuring_first ok h =
      record {
        within = omega arith;
        fits = h;
        counted = record { pools = view su st le₀; marks = marks_first su st le₀ ok; kept = λ d. refl };
        goes = omega arith;
      }

  module _ (used i : ℕ) (le : List ℕ) (k : Measuring used i le) where
    pub measuring_marks : Marking su le
    measuring_marks = marking k.counted.marks

    -- a is the address of entry i, r its place, and len the bytes of the packet that it still names
    module _ (a r len : ℕ) (named : a ≡ (row w i).addr) (there : Place su a r) (told : Tells su le r len) where
      place : Place su (row w i).addr r
      place = rw named at there

      spent : used + need (find k.counted.pools (row w i).addr) ≡ used + 21 + len
      spent =
          let b = told.bytes st le₀ k.counted.pools (row w i).addr k.counted.marks place in
          let p = ap length (packet_of_lem k.counted.pools (row w i).addr) in
          omega arith

      pub measuring_stop : i < n → cap < used + 21 + len → i ≡ fitting (leave del) 8 cap (unpack n w) (view su st le₀)
      measuring_stop h l =
          let s = spent in
          let z = fit_stop (leave del) used cap (row w i) (drop (i + 1) (unpack n w)) k.counted.pools (omega arith) in
          let g = rw (drop_row n w i h) at k.goes in
          omega arith

      pub measuring_next : i < n → used + 21 + len ≤ cap → (le' : List ℕ) → Left del su le r le' → Measuring (used + 21 + len) (i + 1) le'
      measuring_next h l le' f =
          let z = fit_go (leave del) used cap (used + 21 + len) (row w i) (drop (i + 1) (unpack n w)) k.counted.pools spent l in
          let g = rw (drop_row n w i h) at k.goes in
          record {
            within = omega arith;
            fits = l;
            counted =
                record {
                  pools = leave del k.counted.pools (row w i).addr;
                  marks = f.marks st le₀ k.counted.pools (row w i).addr k.counted.marks place;
                  kept = λ d. f.kept d ∙ k.counted.kept d;
                };
            goes = omega arith;
          }

    pub measuring_last : n ≤ i → i ≡ fitting (leave del) 8 cap (unpack n w) (view su st le₀)
    measuring_last h =
        let d : drop i (unpack n w) ≡ [] = drop_of_length-le (unpack n w) {i = i} (rw length_unpack h) in
        let z = fit_end (leave del) used cap k.counted.pools in
        let g = rw d at k.goes in
        omega arith
