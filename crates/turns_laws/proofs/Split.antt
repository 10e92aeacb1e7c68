-- The schedule splits by position: its first m entries are handed out, in order, and leave; the others stay.
use Prim.Native.Nat.{◌+◌, ◌-◌, ◌≤◌, min, suc, ℕ}
use Rattle.measure.specs.Fitting.{fitting}
use Rattle.rules.specs.Tests.{all_of, unless}
use Rattle.slots.specs.Pools.{Pool, find}
use Rattle.table.proofs.Before.{below_head, below_not}
use Rattle.rows.specs.Entries.{Entry, time}
use Rattle.turn.specs.Turns.{Handout, handed, handout, need, put, stop}
use Rattle.turns_laws.proofs.Fitting.{fitting_le}
use Rattle.rules.proofs.Cases.{either}
use Rattle.turns_laws.proofs.Due.{below_drop}
use Rattle.turns_laws.specs.Due.{due}
use Rattle.handing.specs.Handing.{after_all, turns}
use Rattle.turns_laws.specs.Laws.{Splits}
use borrow.Author.Tests.{leb-false, leb-true, ltb-false, ltb-true}
use lib.Dec.{leb, ltb}
use lib.ListN.{drop, length, length-take, take}
use lib.Seq.{drop-length, take-nil}
use mathlib.Core.Bool.{Bool, false, true}
use mathlib.Core.List.{List, [], ◌∷◌}
use mathlib.Core.Path.{◌∙◌, ◌≡◌, ap, refl}
use native.Mathlib.Omega.{arith}

pub splits : (after : List Pool → ℕ → List Pool) (on : Entry → Bool) (ck k used cap : ℕ) (es : List Entry) (ps : List Pool)
    → Splits after on es ps (handout after on ck k used cap es ps) (length (handout after on ck k used cap es ps).records)
unfolding handout turns after_all
splits after on ck k used cap [] ps = record { records_are = refl; left_is = refl; pools_are = refl }
splits after on ck k used cap (e ∷ es) ps =
    let s = splits after on ck (k - 1) (used + need (find ps e.addr)) cap es (after ps e.addr) in
    either (λ (h : Handout). Splits after on (e ∷ es) ps h (length h.records)) _ _ _
    (λ q. record {
      records_are = ap (handed (on e) e (find ps e.addr) ∷◌) s.records_are;
      left_is = s.left_is;
      pools_are = s.pools_are;
    })
    (λ q. record { records_are = refl; left_is = refl; pools_are = refl })

-- how many: as many of those that the limit allows and that are due as fit, one after the other
pub many : (after : List Pool → ℕ → List Pool) (on : Entry → Bool) (ck k used cap : ℕ) (es : List Entry) (ps : List Pool)
    → length (handout after on ck k used cap es ps).records ≡ fitting after used cap (take (min k (due ck es)) es) ps
unfolding handout fitting unless all_of
many after on ck k used cap [] ps = rw (take-nil (min k (due ck [])))
many after on ck k used cap (e ∷ es) ps =
    go (ltb 0 k) refl (leb (time e) ck) refl (leb (used + need (find ps e.addr)) cap) refl
    (many after on ck (k - 1) (used + need (find ps e.addr)) cap es (after ps e.addr))
  where
    h : Handout
    h = handout after on ck (k - 1) (used + need (find ps e.addr)) cap es (after ps e.addr)

    go : (x : Bool) → ltb 0 k ≡ x → (y : Bool) → leb (time e) ck ≡ y → (z : Bool) → leb (used + need (find ps e.addr)) cap ≡ z
        → length h.records ≡ fitting after (used + need (find ps e.addr)) cap (take (min (k - 1) (due ck es)) es) (after ps e.addr)
        → length (unless (all_of (x ∷ y ∷ z ∷ [])) (stop (e ∷ es) ps) (put (handed (on e) e (find ps e.addr)) h)).records
        ≡ fitting after used cap (take (min k (due ck (e ∷ es))) (e ∷ es)) ps
    go false p y q z s ih =
        let n : min k (due ck (e ∷ es)) ≡ 0 = omega (arith, ltb-false 0 k p) in
        rw n
    go true p false q z s ih =
        let n : min k (due ck (e ∷ es)) ≡ 0 = omega (arith, below_not (ck + 1) e es (omega (arith, leb-false (time e) ck q))) in
        rw n
    go true p true q z s ih =
        let n : min k (due ck (e ∷ es)) ≡ suc (min (k - 1) (due ck es)) =
        omega (arith, ltb-true 0 k p, below_head (ck + 1) e es (omega (arith, leb-true (time e) ck q))) in
        rw (n, s) (last z)
      where
        last : (z : Bool) → length (unless (all_of (z ∷ [])) (stop (e ∷ es) ps) (put (handed (on e) e (find ps e.addr)) h)).records
            ≡ unless z 0 (suc (fitting after (used + need (find ps e.addr)) cap (take (min (k - 1) (due ck es)) es) (after ps e.addr)))
        last true = ap suc ih
        last false = refl

-- at most the limit, and at most the due entries
pub at_most : (after : List Pool → ℕ → List Pool) (on : Entry → Bool) (ck k used cap : ℕ) (es : List Entry) (ps : List Pool)
    → (length (handout after on ck k used cap es ps).records ≤ k) × (length (handout after on ck k used cap es ps).records ≤ due ck es)
at_most after on ck k used cap es ps =
    let m = many after on ck k used cap es ps in
    let f = fitting_le after cap used (take (min k (due ck es)) es) ps in
    let l = length-take (min k (due ck es)) es in
    (omega arith, omega arith)

-- as many fewer are due as were handed out
pub left_due : (after : List Pool → ℕ → List Pool) (on : Entry → Bool) (ck k used cap : ℕ) (es : List Entry) (ps : List Pool)
    → due ck (handout after on ck k used cap es ps).left ≡ due ck es - length (handout after on ck k used cap es ps).records
left_due after on ck k used cap es ps =
    ap (due ck) (splits after on ck k used cap es ps).left_is
    ∙ below_drop (ck + 1) (length (handout after on ck k used cap es ps).records) es (at_most after on ck k used cap es ps).1

-- a handout of all entries leaves none
pub empties : (after : List Pool → ℕ → List Pool) (on : Entry → Bool) (ck k used cap : ℕ) (es : List Entry) (ps : List Pool)
    → length (handout after on ck k used cap es ps).records ≡ length es → (handout after on ck k used cap es ps).left ≡ []
empties after on ck k used cap es ps e =
    (splits after on ck k used cap es ps).left_is ∙ ap (λ (n : ℕ). drop n es) e ∙ drop-length es
