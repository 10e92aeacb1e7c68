-- Eight bytes, as the number that they are, taken from the front of a list and fed to the code.
use Rattle.std.proofs.Common.{◌≡◌, ◌∙◌, ℕ, ◌+◌, ◌<◌, ◌≤◌, List, length, get_or, get_or-drop, get_or-take, take, drop, ap, ap₂, sym, arith, ⊎_elim}
use Rattle.std.proofs.lemmas.Bool.{cases_lt}
use Rattle.std.proofs.lemmas.List.{get_or_past, length-take-le, take-append-drop}
use Rattle.std.proofs.lemmas.List.Sums.{fold-append}
use Rattle.std.proofs.lemmas.Nat.{be_bytes_8}
use Rattle.std.specs.Int.{from_be_bytes, to_be_bytes, w64}
use Rattle.check_code.specs.CheckCode.{feed, feed_all}
use Rattle.check_code.specs.Inside.{feed8}

small : (n : ℕ) (bs : List ℕ) → ((i : ℕ) → get_or bs i 0 < 256) → n ≤ length bs → (i : ℕ) → get_or (take n bs) i 0 < 256
small n bs s l i =
    ⊎_elim (λ (h : i < n). rw get_or-take (s i))
    (λ (h : n ≤ i). let e : get_or (take n bs) i 0 ≡ 0 = get_or_past (take n bs) i 0 (omega (arith, length-take-le n bs l)) in omega arith)
    (cases_lt i n)

-- c is the code k after the word v, which the first eight bytes are; what is behind them is left
pub record Taken (k c : ℕ) (bs behind : List ℕ) : Type 0 where
  pub same : feed_all c behind ≡ feed_all k bs
  pub bytes : (i : ℕ) → get_or behind i 0 < 256

pub taken : (k c v : ℕ) (bs first behind : List ℕ) → (first ≡ take 8 bs) × (behind ≡ drop 8 bs) × (length behind + 8 ≡ length bs)
    → ((i : ℕ) → get_or bs i 0 < 256) → v ≡ from_be_bytes w64 first → c ≡ feed8 k v → Taken k c bs behind
unfolding feed8
taken k c v bs first behind e s ev ec = record { same = same; bytes = λ i. rw (e.1, get_or-drop) (s (8 + i)) }
  where
    long : 8 ≤ length bs
    long = omega (arith, e.2)

    word : to_be_bytes w64 v ≡ take 8 bs
    word = be_bytes_8 (take 8 bs) v (length-take-le 8 bs long) (small 8 bs s long) (rw e.0 at ev)

    same : feed_all c behind ≡ feed_all k bs
    same =
        ap₂ feed_all (ec ∙ ap (feed_all k) word) e.1 ∙ sym (fold-append feed k (take 8 bs) (drop 8 bs))
        ∙ ap (feed_all k) (take-append-drop 8 bs)
