-- Rows copied and written within the words, as entries.
use Prim.Native.Nat.{◌*◌, ◌+◌, ◌-◌, ◌≤◌, max, ℕ}
use Rattle.rows.proofs.Rows.{length_unpack, pack_append, pack_drop, pack_take, relaid_at}
use Rattle.rows.specs.Entries.{Entry, pack, relaid, unpack, width, words}
use Rattle.table_edit.specs.Edits.{after_remove, insert_at, without}
use Rattle.std.specs.List.{copy_within}
use borrow.Rule.Slice.PartMut.{put_mid}
use lib.ListN.{drop, length, length-append, length-drop, length-take, replicate, set, take}
use lib.Seq.{drop_at, drop-drop, drop-paste, length-take-le, paste, sets-eq, take-append-le, take-paste, take-take}
use mathlib.Core.List.{List, [], ◌++◌, ◌∷◌, append_assoc, append-nil}
use mathlib.Core.Path.{◌∙◌, ◌≡◌, ap, sym}
use native.Mathlib.Numerals.{add-one, add-three, add-two}
use native.Mathlib.Omega.{arith}

-- an entry's words stored one by one
abbrev stores : List ℕ → ℕ → Entry → List ℕ
stores w b e = set (set (set (set w b e.secs) (b + 1) e.nanos) (b + 2) e.id) (b + 3) e.addr

stored : (w : List ℕ) (b : ℕ) (e : Entry) → b + width ≤ length w → stores w b e ≡ take b w ++ words e ++ drop (b + width) w
stored w b e h = simp (add-one, add-two, add-three) (sets-eq (words e) w b h)

-- the rows from `at` on copied one row up, and an entry stored in row `at`
pub inserted : (w : List ℕ) (n at : ℕ) (e : Entry) → at ≤ n → (n + 1) * width ≤ length w
    → stores (copy_within w (at * width) (n * width) (at * width + width)) (at * width) e ≡ relaid w n (insert_at at e (unpack n w))
unfolding pack insert_at
inserted w n at e h l =
    let b : ℕ = at * width in
    let m : ℕ = n * width - b in
    let es : List Entry = unpack n w in
    let M : List ℕ = take m (drop b w) in
    let R : List ℕ = drop (b + width + m) w in
    let X : List ℕ = take (b + width) w ++ M ++ R in
    let asc : X ≡ take (b + width) w ++ (M ++ R) = append_assoc (take (b + width) w) M R in
    let l_t : length (take (b + width) w) ≡ b + width = length-take-le (b + width) w (omega arith) in
    let l_x : b + width ≤ length X = rw asc (simp length-append (omega arith)) in
    let e1 : take b X ≡ take b w
    = ap (λ (x : List ℕ). take b x) asc ∙ take-append-le b (take (b + width) w) (M ++ R) (omega arith) ∙ take-take b (b + width) w (omega arith) in
    let e2 : drop (b + width) X ≡ M ++ R = ap (λ (x : List ℕ). drop (b + width) x) asc ∙ drop_at (take (b + width) w) (M ++ R) (b + width) l_t in
    let le : length (take at es ++ e ∷ drop at es) ≡ n + 1 = simp (length-append, length-take, length-drop, length_unpack) (omega arith) in
    let r : b + width + m ≡ max n (length (take at es ++ e ∷ drop at es)) * width = omega arith in
    let z : (n - length (take at es ++ e ∷ drop at es)) * width ≡ 0 = omega arith in
    let k : (n - at) * width ≡ m = omega arith in
    let p : pack (take at es ++ e ∷ drop at es) ≡ take b w ++ (words e ++ M)
    = pack_append (take at es) (e ∷ drop at es)
    ∙ ap (λ (x : List ℕ). x ++ (words e ++ pack (drop at es))) (pack_take n w at h (omega arith))
    ∙ ap (λ (x : List ℕ). take b w ++ (words e ++ x)) (pack_drop n w at h (omega arith) ∙ ap (λ (x : ℕ). take x (drop b w)) k) in
    let reg : take b w ++ words e ++ (M ++ R) ≡ take b w ++ (words e ++ M) ++ [] ++ R = simp (append_assoc, append-nil) in
    stored X b e l_x
    ∙ ap (λ (x : List ℕ). x ++ words e ++ drop (b + width) X) e1
    ∙ ap (λ (x : List ℕ). take b w ++ words e ++ x) e2
    ∙ reg
    ∙ sym (relaid_at w n 0 (b + width + m) _ z (sym r) ∙ ap (λ (x : List ℕ). x ++ [] ++ R) p)

-- the rows behind m of them copied down, and those vacated filled with zeros
pub removed : (w : List ℕ) (n f m : ℕ) → f + m ≤ n → n * width ≤ length w
    → put_mid ((n - m) * width) (n * width - (n - m) * width) (copy_within w ((f + m) * width) (n * width) (f * width)) (replicate (m * width) 0)
    ≡ after_remove w n f m
unfolding without
removed w n f m h l =
    let es : List Entry = unpack n w in
    let k : ℕ = n * width - (f + m) * width in
    let s : List ℕ = drop ((f + m) * width) w in
    let X : List ℕ = paste w (f * width) s k in
    let a : ℕ = (n - m) * width in
    let ls : k ≤ length s = simp length-drop (omega arith) in
    let aa : a ≡ f * width + k = omega arith in
    let e1 : take a X ≡ take (f * width) w ++ take k s = rw aa (take-paste w (f * width) s k (omega arith) ls) in
    let nn : f * width + k + (n * width - a) ≡ n * width = omega arith in
    let e2 : drop (n * width - a) (drop a X) ≡ drop (n * width) w
    = ap (λ (j : ℕ). drop (n * width - a) (drop j X)) aa
    ∙ ap (λ (x : List ℕ). drop (n * width - a) x) (drop-paste w (f * width) s k (omega arith) ls)
    ∙ drop-drop (n * width - a) (f * width + k) w ∙ ap (λ (x : ℕ). drop x w) nn in
    let le : length (take f es ++ drop (f + m) es) ≡ n - m = simp (length-append, length-take, length-drop, length_unpack) (omega arith) in
    let kk : (n - (f + m)) * width ≡ k = omega arith in
    let p : pack (take f es ++ drop (f + m) es) ≡ take (f * width) w ++ take k s
    = pack_append (take f es) (drop (f + m) es)
    ∙ ap (λ (x : List ℕ). x ++ pack (drop (f + m) es)) (pack_take n w f (omega arith) l)
    ∙ ap (λ (x : List ℕ). take (f * width) w ++ x) (pack_drop n w (f + m) h l ∙ ap (λ (x : ℕ). take x s) kk) in
    let Z : List ℕ = replicate (m * width) 0 in
    ap (λ (x : List ℕ). x ++ (Z ++ drop (n * width - a) (drop a X))) (e1 ∙ sym p)
    ∙ ap (λ (x : List ℕ). pack (take f es ++ drop (f + m) es) ++ (Z ++ x)) e2
    ∙ sym (append_assoc (pack (take f es ++ drop (f + m) es)) Z (drop (n * width) w))
    ∙ sym (relaid_at w n (m * width) (n * width) _ (omega arith) (omega arith))
