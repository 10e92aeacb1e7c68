-- The 8 words of an answer: values that were padded, and the loop that copies them.
use Prim.Native.Nat.{◌+◌, ◌<◌, ◌≤◌, ℕ}
use Rattle.rules.proofs.Each.{each_at}
use Rattle.face_reading.specs.Reading.{word}
use Rattle.face_words.specs.Inside.{eight}
use Rattle.face_words.specs.Padding.{padded}
use Rattle.slots.proofs.Lists.{front_more}
use Rattle.rules.specs.Lists.{each}
use lib.ListN.{drop, get_or, length, length-append, length-replicate, length-take, replicate, set, take}
use lib.Seq.{ext_get_or, get_or-take, length-take-le, take-take}
use mathlib.Core.List.{List, ◌++◌}
use mathlib.Core.Path.{◌∙◌, ◌≡◌, ap, refl, sym}
use native.Mathlib.Omega.{arith}

eight_at : (ws : List ℕ) (i : ℕ) → i < 8 → get_or (eight ws) i 0 ≡ word ws i
unfolding eight
eight_at ws i l = each_at (word ws) 0 8 0 i l ∙ ap (word ws) (omega arith)

eight_long : (ws : List ℕ) → length (eight ws) ≡ 8
unfolding eight each
eight_long ws = refl

-- those of a list that has them
eight_take : (ws : List ℕ) → 8 ≤ length ws → eight ws ≡ take 8 ws
eight_take ws l =
    ext_get_or 0 (eight ws) (take 8 ws) (eight_long ws ∙ sym (length-take-le 8 ws l))
    (λ i h. let k : i < 8 = rw (eight_long ws) at h in eight_at ws i k ∙ sym (get_or-take 8 ws i 0 k))

pub padded_again : (vs : List ℕ) → eight (padded vs) ≡ padded vs
unfolding padded
padded_again vs =
    let l : 8 ≤ length (take 8 (vs ++ replicate 8 0)) = simp (length-take, length-append, length-replicate) (omega arith) in
    eight_take (take 8 (vs ++ replicate 8 0)) l ∙ take-take 8 8 (vs ++ replicate 8 0) (omega arith)

-- the loop that copies them
pub eight_more : (ws d : List ℕ) (i : ℕ) → i < 8 → i < length d
    → set (take i (eight ws) ++ drop i d) i (word ws i) ≡ take (i + 1) (eight ws) ++ drop (i + 1) d
eight_more ws d i l m = rw (← eight_at ws i l) (front_more i (eight ws) d (rw (eight_long ws) l) m)

pub eight_end : (ws d : List ℕ) (i : ℕ) → i ≡ 8 → take i (eight ws) ++ drop i d ≡ eight ws ++ drop 8 d
unfolding eight each
eight_end ws d i e = rw e
