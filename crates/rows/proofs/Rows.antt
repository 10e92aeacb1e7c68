-- Entries and the words that they are kept in: rows read, and entries packed.
use Prim.Native.Nat.{◌*◌, ◌+◌, ◌-◌, ◌/◌, ◌<◌, ◌≤◌, max, suc, zero, ℕ}
use Rattle.rows.specs.Entries.{Entry, entries, entry, nth, pack, relaid, row, unpack, width, words}
use Rattle.std.proofs.lemmas.List.{drop_more, get_or-map, get_or-take, take_rest}
use Rattle.std.specs.Simd.{first_chunks}
use lib.ListN.{drop, drop_of_length-le, get_or, length, length-append, length-drop, length-map, length-replicate, replicate, take, take-append-drop}
use lib.Seq.{drop-cons, drop-drop, get_or-drop, take-add}
use mathlib.Core.List.{List, [], ◌++◌, ◌∷◌, append_assoc, append-nil}
use mathlib.Core.Path.{◌∙◌, ◌≡◌, ap, refl, sym}
use native.Mathlib.Nat.{le_of_suc-le-suc, not-suc-le-zero, sub-zero, suc-mul, zero-mul}
use native.Mathlib.Numerals.{add-one}
use native.Mathlib.Omega.{arith}

pub entry≡ : {a b : Entry} → a.secs ≡ b.secs → a.nanos ≡ b.nanos → a.id ≡ b.id → a.addr ≡ b.addr → a ≡ b
entry≡ p q r s = λ i. record { secs = p i; nanos = q i; id = r i; addr = s i }

-- ---- rows read

pub length_unpack : (n : ℕ) (w : List ℕ) → length (unpack n w) ≡ n
unfolding unpack
length_unpack zero w = refl
length_unpack (suc n) w = ap suc (length_unpack n (drop width w))

skip : (w : List ℕ) (i k j : ℕ) → width + (i * width + k) ≡ j → get_or (drop width w) (i * width + k) 0 ≡ get_or w j 0
skip w i k j e = get_or-drop width w (i * width + k) 0 ∙ ap (λ (x : ℕ). get_or w x 0) e

skip₀ : (w : List ℕ) (i j : ℕ) → width + i * width ≡ j → get_or (drop width w) (i * width) 0 ≡ get_or w j 0
skip₀ w i j e = get_or-drop width w (i * width) 0 ∙ ap (λ (x : ℕ). get_or w x 0) e

row_drop : (w : List ℕ) (i : ℕ) → row (drop width w) i ≡ row w (suc i)
row_drop w i =
    entry≡ (skip₀ w i (suc i * width) (omega arith)) (skip w i 1 (suc i * width + 1) (omega arith))
    (skip w i 2 (suc i * width + 2) (omega arith)) (skip w i 3 (suc i * width + 3) (omega arith))

pub get_d_unpack : (n : ℕ) (w : List ℕ) (i : ℕ) (d : Entry) → i < n → get_or (unpack n w) i d ≡ row w i
unfolding unpack
get_d_unpack zero w i d h = absurd (not-suc-le-zero h)
get_d_unpack (suc n) w zero d h = refl
get_d_unpack (suc n) w (suc i) d h = get_d_unpack n (drop width w) i d (le_of_suc-le-suc h) ∙ row_drop w i

-- the rows from i on are row i and those after it
pub drop_row : (n : ℕ) (w : List ℕ) (i : ℕ) → i < n → drop i (unpack n w) ≡ row w i ∷ drop (i + 1) (unpack n w)
drop_row n w i h =
    let d : Entry = row w i in
    drop-cons (unpack n w) i d (rw length_unpack h)
    ∙ ap (λ (e : Entry). e ∷ drop (suc i) (unpack n w)) (get_d_unpack n w i d h)
    ∙ ap (λ (j : ℕ). row w i ∷ drop j (unpack n w)) (sym (add-one i))

pub past_end : (n : ℕ) (w : List ℕ) (i : ℕ) → n ≤ i → drop i (unpack n w) ≡ []
past_end n w i h = drop_of_length-le (unpack n w) {i = i} (rw length_unpack h)

pub take_unpack : (n : ℕ) (w : List ℕ) (i : ℕ) → i ≤ n → take i (unpack n w) ≡ unpack i w
unfolding unpack
take_unpack n w zero h = refl
take_unpack zero w (suc i) h = absurd (not-suc-le-zero h)
take_unpack (suc n) w (suc i) h = ap (λ (r : List Entry). row w 0 ∷ r) (take_unpack n (drop width w) i (le_of_suc-le-suc h))

pub drop_unpack : (n : ℕ) (w : List ℕ) (i : ℕ) → i ≤ n → drop i (unpack n w) ≡ unpack (n - i) (drop (i * width) w)
unfolding unpack
drop_unpack n w zero h = ap (λ (k : ℕ). unpack k w) (sym (native.Mathlib.Nat.sub-zero n))
drop_unpack zero w (suc i) h = absurd (not-suc-le-zero h)
drop_unpack (suc n) w (suc i) h =
    let e : n - i ≡ suc n - suc i = omega arith in
    let f : width + i * width ≡ suc i * width = omega arith in
    drop_unpack n (drop width w) i (le_of_suc-le-suc h)
    ∙ ap (λ (k : ℕ). unpack k (drop (i * width) (drop width w))) e
    ∙ ap (λ (r : List ℕ). unpack (suc n - suc i) r) (drop-drop (i * width) width w ∙ ap (λ (k : ℕ). drop k w) f)

-- ---- rows by themselves

row_is : (w : List ℕ) → entry (take width w) ≡ row w 0
row_is w =
    let at = λ (i : ℕ) (l : i < width). get_or-take width w i 0 l in
    entry≡ (at 0 (omega arith)) (at 1 (omega arith)) (at 2 (omega arith)) (at 3 (omega arith))

pub table_is : (n k : ℕ) (w : List ℕ) → n ≤ k → entries (take n (first_chunks width k w)) ≡ unpack n w
unfolding unpack
table_is zero k w h = refl
table_is (suc n) zero w h = absurd (not-suc-le-zero h)
table_is (suc n) (suc k) w h =
    ap (λ (e : Entry). e ∷ entries (take n (first_chunks width k (drop width w)))) (row_is w)
    ∙ ap (λ (r : List Entry). row w 0 ∷ r) (table_is n k (drop width w) (le_of_suc-le-suc h))

pub nth_split : (t : List (List ℕ)) (i : ℕ) → i < length t → drop i (entries t) ≡ nth t i ∷ drop (i + 1) (entries t)
nth_split t i h =
    drop_more (entries t) i (entry []) (simp length-map h)
    ∙ ap (λ (e : Entry). e ∷ drop (i + 1) (entries t)) (get_or-map entry t i [] (entry []) h)

-- row j of a part of the rows, from row i on
pub nth_later : (t : List (List ℕ)) (i j : ℕ) → nth (take (length t - i) (drop i t)) j ≡ nth t (i + j)
nth_later t i j = ap (λ (u : List (List ℕ)). nth u j) (take_rest t i) ∙ ap entry (get_or-drop i t j [])

-- chunk k, of n at a time
chunk_at : {X : Type 0} → (n m k : ℕ) (xs : List X) (d : List X) → k < m → get_or (first_chunks n m xs) k d ≡ take n (drop (k * n) xs)
chunk_at n zero k xs d h = absurd (not-suc-le-zero h)
chunk_at n (suc m) zero xs d h = simp zero-mul refl
chunk_at n (suc m) (suc k) xs d h =
    let e : n + k * n ≡ suc k * n = simp suc-mul (omega arith) in
    chunk_at n m k (drop n xs) d (le_of_suc-le-suc h)
    ∙ ap (take n) (drop-drop (k * n) n xs ∙ ap (λ (j : ℕ). drop j xs) e)

-- the rows, four at a time
module _ (t : List (List ℕ)) (k : ℕ) (h : k < length t / 4) (f : List (List ℕ)) (q : f ≡ get_or (first_chunks 4 (length t / 4) t) k []) where
  of_four : (j i i' : ℕ) → j < 4 → i ≡ k * 4 + j → i' ≡ i + 1 → drop i (entries t) ≡ nth f j ∷ drop i' (entries t)
  of_four j i i' l e e' =
      let a : get_or f j [] ≡ get_or t i []
      = ap (λ (u : List (List ℕ)). get_or u j []) (q ∙ chunk_at 4 (length t / 4) k t [] h)
      ∙ get_or-take 4 (drop (k * 4) t) j [] l
      ∙ get_or-drop (k * 4) t j [] ∙ ap (λ (x : ℕ). get_or t x []) (sym e) in
      rw (a, e') (nth_split t i (omega arith))

  pub four_split : drop (k * 4) (entries t) ≡ nth f 0 ∷ nth f 1 ∷ nth f 2 ∷ nth f 3 ∷ drop (k * 4 + 4) (entries t)
  four_split =
      of_four 0 (k * 4) (k * 4 + 1) (omega arith) (omega arith) (omega arith)
      ∙ ap (λ (r : List Entry). nth f 0 ∷ r) (of_four 1 (k * 4 + 1) (k * 4 + 2) (omega arith) (omega arith) (omega arith))
      ∙ ap (λ (r : List Entry). nth f 0 ∷ nth f 1 ∷ r) (of_four 2 (k * 4 + 2) (k * 4 + 3) (omega arith) (omega arith) (omega arith))
      ∙ ap (λ (r : List Entry). nth f 0 ∷ nth f 1 ∷ nth f 2 ∷ r) (of_four 3 (k * 4 + 3) (k * 4 + 4) (omega arith) (omega arith) (omega arith))

-- ---- entries packed

front : (w : List ℕ) → width ≤ length w → take width w ≡ words (row w 0)
front [] h = absurd (omega arith)
front (a ∷ []) h = absurd (omega arith)
front (a ∷ b ∷ []) h = absurd (omega arith)
front (a ∷ b ∷ x ∷ []) h = absurd (omega arith)
front (a ∷ b ∷ x ∷ y ∷ r) h = refl

pub pack_unpack : (n : ℕ) (w : List ℕ) → n * width ≤ length w → pack (unpack n w) ≡ take (n * width) w
unfolding unpack pack
pack_unpack zero w h = refl
pack_unpack (suc n) w h =
    let f : width + n * width ≡ suc n * width = omega arith in
    ap (λ (r : List ℕ). words (row w 0) ++ r) (pack_unpack n (drop width w) (simp length-drop (omega arith)))
    ∙ ap (λ (r : List ℕ). r ++ take (n * width) (drop width w)) (sym (front w (omega arith)))
    ∙ sym (take-add width (n * width) w)
    ∙ ap (λ (k : ℕ). take k w) f

pub pack_append : (a b : List Entry) → pack (a ++ b) ≡ pack a ++ pack b
unfolding pack
pack_append [] b = refl
pack_append (e ∷ a) b = ap (λ (r : List ℕ). words e ++ r) (pack_append a b)

pub length_pack : (es : List Entry) → length (pack es) ≡ length es * width
unfolding pack
length_pack [] = refl
length_pack (e ∷ es) = let h = length_pack es in omega arith

pub unpack_pack : (es : List Entry) (r : List ℕ) → unpack (length es) (pack es ++ r) ≡ es
unfolding pack unpack
unpack_pack [] r = refl
unpack_pack (e ∷ es) r = ap (λ (t : List Entry). e ∷ t) (unpack_pack es r)

pub pack_take : (n : ℕ) (w : List ℕ) (i : ℕ) → i ≤ n → n * width ≤ length w → pack (take i (unpack n w)) ≡ take (i * width) w
pack_take n w i h l = ap pack (take_unpack n w i h) ∙ pack_unpack i w (omega arith)

pub pack_drop : (n : ℕ) (w : List ℕ) (i : ℕ) → i ≤ n → n * width ≤ length w
    → pack (drop i (unpack n w)) ≡ take ((n - i) * width) (drop (i * width) w)
pack_drop n w i h l = ap pack (drop_unpack n w i h) ∙ pack_unpack (n - i) (drop (i * width) w) (simp length-drop (omega arith))

-- the table that a change leaves holds the entries that it should
pub unpack_relaid : (old : List ℕ) (n : ℕ) (es : List Entry) → unpack (length es) (relaid old n es) ≡ es
unfolding relaid
unpack_relaid old n es = rw append_assoc (unpack_pack es _)

pub length_relaid : (old : List ℕ) (n : ℕ) (es : List Entry) → max n (length es) * width ≤ length old
    → length (relaid old n es) ≡ length old
unfolding relaid
length_relaid old n es h = simp (length-append, length_pack, length-replicate, length-drop) (omega arith)

pub relaid_at : (old : List ℕ) (n z k : ℕ) (es : List Entry) → (n - length es) * width ≡ z → max n (length es) * width ≡ k
    → relaid old n es ≡ pack es ++ replicate z 0 ++ drop k old
unfolding relaid
relaid_at old n z k es p q =
    ap (λ (x : ℕ). pack es ++ replicate x 0 ++ drop (max n (length es) * width) old) p
    ∙ ap (λ (x : ℕ). pack es ++ replicate z 0 ++ drop x old) q

-- no change
pub relaid_same : (old : List ℕ) (n : ℕ) → n * width ≤ length old → relaid old n (unpack n old) ≡ old
relaid_same old n h =
    let l = length_unpack n old in
    relaid_at old n 0 (n * width) (unpack n old) (omega arith) (omega arith)
    ∙ ap (λ (x : List ℕ). x ++ [] ++ drop (n * width) old) (pack_unpack n old h)
    ∙ rw append-nil (take-append-drop (n * width) old)
