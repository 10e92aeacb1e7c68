-- Repeated ticks with limit k at least 1, nothing between them and room for k records of the largest packet hand out d due entries
-- within d / k ticks, rounded up.
use Prim.Native.Nat.{◌*◌, ◌+◌, ◌-◌, ◌/◌, ◌≤◌, min, suc, zero, ℕ}
use Rattle.measure.specs.Fitting.{fitting}
use Rattle.rules.specs.Tests.{unless}
use Rattle.layout.specs.Judge.{Sound}
use Rattle.slots.specs.Pools.{Pool, find}
use Rattle.slots.specs.View.{view}
use Rattle.rows.proofs.Order.{drop_ordered}
use Rattle.table.proofs.Before.{below_le}
use Rattle.rows.specs.Entries.{Entry}
use Rattle.rows.specs.Order.{ordered}
use Rattle.turn.specs.Turns.{Handout, handed, handout, leave, need}
use Rattle.turns_laws.proofs.Due.{below_drop, due_is}
use Rattle.turns_laws.proofs.Packets.{short_leave, short_need, sound_short}
use Rattle.rules.proofs.Cases.{either}
use Rattle.turns_laws.proofs.Split.{left_due, many, splits}
use Rattle.turns_laws.specs.Draining.{Short, drained, followed_by, largest_slot, room_for, rounded_up}
use Rattle.turns_laws.specs.Due.{due, due_count}
use Rattle.handing.specs.Handing.{after_all, turns}
use Rattle.turns_laws.specs.Laws.{Splits}
use borrow.Author.Tests.{le-leb}
use lib.ListN.{drop, length, length-take, take}
use lib.Seq.{drop-drop, take-add}
use mathlib.Core.Bool.{Bool, true}
use mathlib.Core.List.{List, [], ◌++◌, ◌∷◌}
use mathlib.Core.Path.{◌∙◌, ◌≡◌, ap, ap₂, refl, subst, sym}
use native.Mathlib.Nat.{div-add-mod', mod-lt, mul-le-mul_right}
use native.Mathlib.Omega.{arith}
use Rattle.layout.specs.declared.Setup.{Setup}

turns_append : (after : List Pool → ℕ → List Pool) (on : Entry → Bool) (xs ys : List Entry) (ps : List Pool)
    → turns after on (xs ++ ys) ps ≡ turns after on xs ps ++ turns after on ys (after_all after xs ps)
unfolding turns after_all
turns_append after on [] ys ps = refl
turns_append after on (e ∷ xs) ys ps = ap (handed (on e) e (find ps e.addr) ∷◌) (turns_append after on xs ys (after ps e.addr))

pub after_append : (after : List Pool → ℕ → List Pool) (xs ys : List Entry) (ps : List Pool)
    → after_all after (xs ++ ys) ps ≡ after_all after ys (after_all after xs ps)
unfolding after_all
after_append after [] ys ps = refl
after_append after (e ∷ xs) ys ps = after_append after xs ys (after ps e.addr)

-- the first m, and then n of those that they left
then_more : (after : List Pool → ℕ → List Pool) (on : Entry → Bool) (es : List Entry) (ps : List Pool) (g h : Handout) (m n : ℕ)
    → Splits after on es ps g m → Splits after on g.left g.pools h n → Splits after on es ps (followed_by g h) (m + n)
then_more after on es ps g h m n a b =
    record {
      records_are =
          ap₂ ◌++◌ a.records_are (b.records_are ∙ rw (a.left_is, a.pools_are))
          ∙ sym (turns_append after on (take m es) (take n (drop m es)) ps)
          ∙ ap (λ (xs : List Entry). turns after on xs ps) (sym (take-add m n es));
      left_is = b.left_is ∙ ap (drop n) a.left_is ∙ drop-drop n m es;
      pools_are =
          b.pools_are ∙ rw (a.left_is, a.pools_are) (sym (after_append after (take m es) (take n (drop m es)) ps))
          ∙ ap (λ (xs : List Entry). after_all after xs ps) (sym (take-add m n es));
    }

-- with room for all of them, all fit
fitting_ample : (big : ℕ) (del : Bool) (used cap : ℕ) (es : List Entry) (ps : List Pool) → Short big ps
    → used + length es * (21 + big) ≤ cap → fitting (leave del) used cap es ps ≡ length es
unfolding fitting unless
fitting_ample big del used cap [] ps s h = refl
fitting_ample big del used cap (e ∷ es) ps s h =
    let n = short_need big ps e.addr s in
    rw (le-leb (used + need (find ps e.addr)) cap (omega arith))
    (ap suc
    (fitting_ample big del (used + need (find ps e.addr)) cap es (leave del ps e.addr) (short_leave big del ps e.addr s) (omega arith)))

pub short_handout : (big : ℕ) (del : Bool) (on : Entry → Bool) (ck k used cap : ℕ) (es : List Entry) (ps : List Pool) → Short big ps
    → Short big (handout (leave del) on ck k used cap es ps).pools
unfolding handout
short_handout big del on ck k used cap [] ps s = s
short_handout big del on ck k used cap (e ∷ es) ps s =
    either (λ (w : Handout). Short big w.pools) _ _ _
    (λ q. short_handout big del on ck (k - 1) (used + need (find ps e.addr)) cap es (leave del ps e.addr) (short_leave big del ps e.addr s))
    (λ q. s)

-- a quotient times its divisor is less than the divisor short of what was divided
nearly : (x k : ℕ) → 1 ≤ k → x ≤ x / k * k + (k - 1)
nearly x k h = let e = div-add-mod' x k in let r = mod-lt x {m = k} h in omega arith

pub rounded_up_lem : (d k n : ℕ) → 1 ≤ k → rounded_up d k ≤ n → d ≤ n * k
rounded_up_lem d k n h l =
    let e = nearly (d + (k - 1)) k h in
    let m = mul-le-mul_right {m = rounded_up d k} {n = n} k l in
    omega arith

module _ (big : ℕ) (del : Bool) (on : Entry → Bool) (ck k cap : ℕ) (room : room_for k big ≤ cap) where
  -- one tick hands out as many due entries as the limit allows
  pub one_hands : (es : List Entry) (ps : List Pool) → Short big ps
      → length (handout (leave del) on ck k 8 cap es ps).records ≡ min k (due ck es)
  one_hands es ps s =
      let n : ℕ = min k (due ck es) in
      let w : n * (21 + big) ≤ k * (21 + big) = mul-le-mul_right {m = n} {n = k} (21 + big) (omega arith) in
      let l : length (take n es) ≡ n = length-take n es ∙ omega (arith, below_le (ck + 1) es) in
      many (leave del) on ck k 8 cap es ps ∙ fitting_ample big del 8 cap (take n es) ps s (rw l (omega arith)) ∙ l

  -- n ticks hand out n * k of them, or all, in order
  pub drain_splits : (n : ℕ) (es : List Entry) (ps : List Pool) → Short big ps
      → Splits (leave del) on es ps (drained (leave del) on ck k cap n es ps) (min (n * k) (due ck es))
  unfolding drained turns after_all
  drain_splits zero es ps s =
      let z : min (0 * k) (due ck es) ≡ 0 = omega arith in
      rw z (record { records_are = refl; left_is = refl; pools_are = refl })
  drain_splits (suc n) es ps s =
      let h : Handout = handout (leave del) on ck k 8 cap es ps in
      let a = splits (leave del) on ck k 8 cap es ps in
      let o = one_hands es ps s in
      let l : due ck h.left ≡ due ck es - length h.records = left_due (leave del) on ck k 8 cap es ps in
      let t : length h.records + min (n * k) (due ck h.left) ≡ min (suc n * k) (due ck es) = omega arith in
      subst (Splits (leave del) on es ps (drained (leave del) on ck k cap (suc n) es ps)) t
      (then_more (leave del) on es ps h _ _ _ a (drain_splits n h.left h.pools (short_handout big del on ck k 8 cap es ps s)))

  -- no packet grows
  pub drain_short : (n : ℕ) (es : List Entry) (ps : List Pool) → Short big ps → Short big (drained (leave del) on ck k cap n es ps).pools
  unfolding drained
  drain_short zero es ps s = s
  drain_short (suc n) es ps s = drain_short n _ _ (short_handout big del on ck k 8 cap es ps s)

  module _ (n : ℕ) (es : List Entry) (ps : List Pool) (s : Short big ps) where
    abbrev after_n : Handout
    after_n = drained (leave del) on ck k cap n es ps

    pub drain_due : due ck after_n.left ≡ due ck es - n * k
    drain_due = rw (drain_splits n es ps s).left_is (below_drop (ck + 1) (min (n * k) (due ck es)) es (omega arith) ∙ omega arith)

    -- the tick after n ticks hands out as many of what is left as the limit allows
    pub each_hands : let h : Handout = drained (leave del) on ck k cap n es ps in
        length (handout (leave del) on ck k 8 cap h.left h.pools).records ≡ min k (due ck h.left)
    each_hands = one_hands after_n.left after_n.pools (drain_short n es ps s)

    -- d due entries are handed out within d / k ticks, rounded up
    pub all_drain : 1 ≤ k → rounded_up (due ck es) k ≤ n → Splits (leave del) on es ps after_n (due ck es)
    all_drain h l =
        let t : min (n * k) (due ck es) ≡ due ck es = omega (arith, rounded_up_lem (due ck es) k n h l) in
        subst (Splits (leave del) on es ps after_n) t (drain_splits n es ps s)

    -- and then no entry is due, wherever it stands
    pub none_due : ordered es ≡ true → 1 ≤ k → rounded_up (due_count ck es) k ≤ n → due_count ck after_n.left ≡ 0
    none_due o h l =
        let e : due ck es ≡ due_count ck es = due_is ck 0 es o in
        let q : ordered after_n.left ≡ true = rw (drain_splits n es ps s).left_is (drop_ordered 0 (min (n * k) (due ck es)) es o) in
        sym (due_is ck 0 after_n.left q) ∙ drain_due ∙ omega (arith, rounded_up_lem (due_count ck es) k n h l)

-- the same of a judged store, with room for k records of its largest slot size
module _
    (su : Setup)
    (st le : List ℕ)
    (ok : Sound su st le)
    (del : Bool)
    (on : Entry → Bool)
    (ck k cap : ℕ)
    (some : 1 ≤ k)
    (room : room_for k (largest_slot su) ≤ cap) where
  pub ticks_drain : (n : ℕ) (es : List Entry) → rounded_up (due ck es) k ≤ n
      → Splits (leave del) on es (view su st le) (drained (leave del) on ck k cap n es (view su st le)) (due ck es)
  ticks_drain n es l = all_drain (largest_slot su) del on ck k cap room n es (view su st le) (sound_short su st le ok) some l

  pub ticks_empty : (n : ℕ) (es : List Entry) → ordered es ≡ true → rounded_up (due_count ck es) k ≤ n
      → due_count ck (drained (leave del) on ck k cap n es (view su st le)).left ≡ 0
  ticks_empty n es o l = none_due (largest_slot su) del on ck k cap room n es (view su st le) (sound_short su st le ok) o some l
