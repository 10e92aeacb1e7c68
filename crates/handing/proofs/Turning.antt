-- The turns one after the other: what holds whenever the loop's test is reached.
use Prim.Native.Nat.{◌*◌, ◌+◌, ◌-◌, ◌<◌, ◌≤◌, suc, ℕ}
use Rattle.release_log.proofs.Sizes.{size_records}
use Rattle.release_log.proofs.Whole.{ended, left, turn}
use Rattle.release_log.specs.Log.{LogRecord, max_log_bytes, offsets, records, total}
use Rattle.laid.proofs.Laid.{leaves_as, leaves_now, leaves_same, leaves_then}
use Rattle.slots.specs.Pools.{Pool, find}
use Rattle.slots.specs.View.{Leaves, view}
use Rattle.rows.proofs.Rows.{drop_row, length_unpack}
use Rattle.rows.specs.Entries.{Entry, row, unpack}
use Rattle.turn.proofs.OneTurn.{leave_sound}
use Rattle.turn.specs.Turned.{Turned}
use Rattle.turn.specs.Turns.{always, handed, leave, packet_of}
use Rattle.handing.specs.Handing.{Roomy, HandsOut, after_all, turns}
use Rattle.words.specs.Words.{bytes_of}
use lib.ListN.{drop, drop_of_length-le, length, length-drop}
use lib.Seq.{sets}
use mathlib.Core.Bool.{Bool}
use mathlib.Core.List.{List, [], ◌∷◌}
use mathlib.Core.Path.{◌∙◌, ◌≡◌, ap, refl, sym}
use native.Mathlib.Omega.{arith}
use Rattle.layout.specs.Judge.{Sound as StoreSound}
use Rattle.layout.specs.declared.Setup.{Setup}

module _ (after : List Pool → ℕ → List Pool) (on : Entry → Bool) where
  turns_more : (e : Entry) (es : List Entry) (ps : List Pool)
      → turns after on (e ∷ es) ps ≡ handed (on e) e (find ps e.addr) ∷ turns after on es (after ps e.addr)
  unfolding turns
  turns_more e es ps = refl

  turns_none : (ps : List Pool) → turns after on [] ps ≡ []
  unfolding turns
  turns_none ps = refl

  pub length_turns : (es : List Entry) (ps : List Pool) → length (turns after on es ps) ≡ length es
  unfolding turns
  length_turns [] ps = refl
  length_turns (e ∷ es) ps = ap suc (length_turns es (after ps e.addr))

all_more : (after : List Pool → ℕ → List Pool) (e : Entry) (es : List Entry) (ps : List Pool)
    → after_all after (e ∷ es) ps ≡ after_all after es (after ps e.addr)
unfolding after_all
all_more after e es ps = refl

all_none : (after : List Pool → ℕ → List Pool) (ps : List Pool) → after_all after [] ps ≡ ps
unfolding after_all
all_none after ps = refl

no_records : length (records []) ≡ 0
unfolding records
no_records = refl

left_none : (l : List ℕ) (o at : ℕ) → left l o at [] ≡ l
unfolding offsets records
left_none l o at = refl

module _ (su : Setup) (st₀ le₀ log₀ w : List ℕ) (m : ℕ) (del on : Bool) where
  -- the records of the rows from i on, with the store as it is
  abbrev rest : List ℕ → List ℕ → ℕ → List LogRecord
  rest st le i = turns (leave del) (always on) (drop i (unpack m w)) (view su st le)

  abbrev all : List LogRecord
  all = turns (leave del) (always on) (unpack m w) (view su st₀ le₀)

  -- i turns are done, and the next record goes to `at`
  pub record Turning (st le log : List ℕ) (at i : ℕ) : Type 0 where
    pub within : i ≤ m
    pub long : length log ≡ length log₀
    pub above : 8 + 4 * m ≤ at
    pub sound : StoreSound su st le
    pub frame : Leaves su st₀ le₀ (view su st le) st le
    pub sum : at + length (records (rest st le i)) ≡ total all
    pub writes : left log (8 + 4 * i) at (rest st le i) ≡ left log₀ 8 (8 + 4 * m) all
    pub pools : after_all (leave del) (drop i (unpack m w)) (view su st le) ≡ after_all (leave del) (unpack m w) (view su st₀ le₀)

  length_all : length all ≡ m
  length_all = length_turns (leave del) (always on) (unpack m w) (view su st₀ le₀) ∙ length_unpack m w

  total_all : total all ≡ 8 + 4 * m + length (records all)
  unfolding total
  total_all = omega (arith, length_all)

  pub turning_start : Roomy del on (unpack m w) (view su st₀ le₀) log₀ → 8 + 4 * m ≤ max_log_bytes
  turning_start r = omega (arith, r.small, total_all)

  pub turning_first : StoreSound su st₀ le₀ → Turning st₀ le₀ log₀ (8 + 4 * m) 0
  turning_first s =
      record {
        within = omega arith;
        long = refl;
        above = omega arith;
        sound = s;
        frame = leaves_same su st₀ le₀;
        sum = sym total_all;
        writes = refl;
        pools = refl;
      }

  module _ (st le log : List ℕ) (at i : ℕ) (k : Turning st le log at i) where
    pub turning_end : Roomy del on (unpack m w) (view su st₀ le₀) log₀ → (at ≤ length log) × (at ≤ max_log_bytes)
    turning_end r = (omega (arith, k.sum, r.holds, k.long), omega (arith, k.sum, r.small))

    module _ (h : i < m) where
      abbrev e : Entry
      e = row w i

      abbrev es : List Entry
      es = drop (i + 1) (unpack m w)

      abbrev r : LogRecord
      r = handed on e (find (view su st le) e.addr)

      abbrev rs : List LogRecord
      rs = turns (leave del) (always on) es (leave del (view su st le) e.addr)

      rest_is : rest st le i ≡ r ∷ rs
      rest_is = rw (drop_row m w i h) (turns_more (leave del) (always on) e es (view su st le))

      sum_more : at + 17 + length r.packet + length (records rs) ≡ total all
      sum_more = omega (arith, ap (λ (x : List LogRecord). length (records x)) rest_is, size_records r rs, k.sum)

      pub turning_room : (a : ℕ) → a ≡ (row w i).addr → Roomy del on (unpack m w) (view su st₀ le₀) log₀
          → (at + 17 + length (packet_of (find (view su st le) a)) ≤ length log)
          × (at + 17 + length (packet_of (find (view su st le) a)) ≤ max_log_bytes)
      turning_room a q y = rw q (omega (arith, sum_more, y.holds, k.long), omega (arith, sum_more, y.small))

      pub turning_next : (id a n : ℕ) (l₁ st' le' l₂ : List ℕ) → id ≡ (row w i).id → a ≡ (row w i).addr
          → l₁ ≡ sets log (8 + 4 * i) (bytes_of 4 at) → length l₂ ≡ length log
          → Turned su del on id a st le l₁ at n st' le' l₂ → Turning st' le' l₂ (at + n) (i + 1)
      turning_next id a n l₁ st' le' l₂ p q u len t₀ =
          let t : Turned su del on e.id e.addr st le l₁ at n st' le' l₂ = rw (p, q) at t₀ in
          let v : view su st' le' ≡ leave del (view su st le) e.addr = t.lists.seen in
          let o : 8 + 4 * (i + 1) ≡ 8 + 4 * i + 4 = omega arith in
          let b : at + n ≡ at + 17 + length r.packet = omega (arith, t.size) in
          let lr : length rs ≡ m - (i + 1)
          = length_turns (leave del) (always on) es (leave del (view su st le) e.addr) ∙ length-drop (i + 1) (unpack m w)
          ∙ ap (λ (x : ℕ). x - (i + 1)) (length_unpack m w) in
          let goes : left log (8 + 4 * i) at (r ∷ rs) ≡ left log₀ 8 (8 + 4 * m) all
          = ap (left log (8 + 4 * i) at) (sym rest_is) ∙ k.writes in
          let pool = rw (drop_row m w i h, all_more (leave del) e es (view su st le)) at k.pools in
          record {
            within = omega arith;
            long = len ∙ k.long;
            above = omega (arith, k.above);
            sound = leave_sound su st le e.addr del st' le' k.sound t.lists;
            frame = leaves_then su st₀ le₀ (view su st le) (view su st' le') st le st' le' k.frame (leaves_now su st le _ st' le' t.lists);
            sum = rw v (omega (arith, sum_more, b));
            writes = rw (v, o, b) (turn log (8 + 4 * i) at r rs u t.wrote (omega (arith, lr, k.above)) ∙ goes);
            pools = rw v pool;
          }

    pub turning_last : (l₁ l₂ : List ℕ) → m ≤ i → l₁ ≡ sets log 0 (bytes_of 4 m) → l₂ ≡ sets l₁ 4 (bytes_of 4 at)
        → HandsOut su del on (unpack m w) st₀ le₀ log₀ st le l₂
    turning_last l₁ l₂ h w₁ w₂ =
        let d : drop i (unpack m w) ≡ [] = drop_of_length-le (unpack m w) {i = i} (rw length_unpack h) in
        let none : rest st le i ≡ [] = rw d (turns_none (leave del) (always on) (view su st le)) in
        let tot : at ≡ total all = omega (arith, k.sum, ap (λ (x : List LogRecord). length (records x)) none, no_records) in
        let now : log ≡ left log₀ 8 (8 + 4 * m) all = sym (left_none log (8 + 4 * i) at) ∙ sym (ap (left log (8 + 4 * i) at) none) ∙ k.writes in
        record {
          wrote =
              ended log₀ all m at (sym length_all) tot (now ∙ ap (λ (x : ℕ). left log₀ 8 (8 + 4 * x) all) (sym length_all)) w₁ w₂;
          lists =
              leaves_as su st₀ le₀ _ _ st le (sym (all_none (leave del) (view su st le)) ∙ rw d at k.pools) k.frame;
        }
