-- The lengths of a part of the table: all pass where the greatest of one more than each, in 16 bits, is at most one more than the slot size.
use Rattle.std.proofs.Common.{◌≡◌, ℕ, zero, suc, ◌+◌, ◌%◌, ◌<◌, ◌≤◌, Bool, ◌&&◌, List, [], ◌∷◌, length, get_or, take, drop, max, nat_le, arith, add-one, refl, sym, length-drop, le-leb, ◌∙◌}
use Rattle.std.proofs.Math.Bool.{and_assoc}
use Rattle.std.proofs.Math.Nat.{add-sub_cancel_left}
use Rattle.std.proofs.lemmas.Bool.Decides.{nat_tests}
use Rattle.std.proofs.lemmas.List.{get_or-drop}
use Rattle.std.proofs.lemmas.List.Folds.{list_all_more}
use Rattle.std.specs.List.{between, fold, list_all}
use Rattle.layout.specs.Judge.{len_ok, pool_lens_ok}
use Rattle.layout.specs.Layout.{rows_before, size_at, slots_at}
use Rattle.layout.specs.Limits.{store_free}
use Rattle.rules.specs.Tests.{all_below}
use Rattle.layout.specs.declared.Setup.{Setup}

abbrev greatest_from : ℕ → List ℕ → ℕ
greatest_from a xs = fold (λ m w. max m ((w + 1) % 65536)) a xs

abbrev pub greatest : List ℕ → ℕ
greatest xs = greatest_from 0 xs

both : (a b c : ℕ) → nat_le (max a b) c ≡ (nat_le a c && nat_le b c)
both a b c = grind (arith, nat_tests)

module _ (size : ℕ) (s : size < store_free) where
  -- one more than the mark of a free slot is 0
  one_more : (w : ℕ) → w < 65536 → nat_le ((w + 1) % 65536) (size + 1) ≡ len_ok size w
  one_more w l = grind (arith, nat_tests)

  from : (a : ℕ) (xs : List ℕ) → ((i : ℕ) → get_or xs i 0 < 65536)
      → nat_le (greatest_from a xs) (size + 1) ≡ (nat_le a (size + 1) && list_all (len_ok size) xs)
  from a [] l = grind (arith, nat_tests)
  from a (x ∷ xs) l =
      from (max a ((x + 1) % 65536)) xs (λ i. l (suc i))
      ∙ rw (both a ((x + 1) % 65536) (size + 1), one_more x (l 0)) (and_assoc (nat_le a (size + 1)) (len_ok size x) (list_all (len_ok size) xs))

  pub greatest_ok : (xs : List ℕ) → ((i : ℕ) → get_or xs i 0 < 65536) → nat_le (greatest xs) (size + 1) ≡ list_all (len_ok size) xs
  greatest_ok xs l = from 0 xs l ∙ rw (le-leb 0 (size + 1) (omega arith))

-- a part of a list, by its places there
part_all : (p : ℕ → Bool) (xs : List ℕ) (base n : ℕ) → base + n ≤ length xs
    → list_all p (take n (drop base xs)) ≡ all_below (λ s. p (get_or xs (base + s) 0)) n
unfolding all_below
part_all p xs base zero l = refl
part_all p xs base (suc n) l =
    let h : n < length (drop base xs) = omega (arith, length-drop base xs) in
    rw (← add-one n, list_all_more p (drop base xs) n 0 h, get_or-drop base xs n 0, part_all p xs base n (omega arith)) refl

-- what the test of a subpool's part of the table comes to, by copies of the subpool's numbers
pub pool_part : (su : Setup) (lens : List ℕ) (k base count size : ℕ) (b : Bool) → base ≡ rows_before su k → count ≡ slots_at su k →
    size ≡ size_at su k
    → base + count ≤ length lens → b ≡ list_all (len_ok size) (between base (base + count) lens) → pool_lens_ok su lens k ≡ b
pool_part su lens k base count size b p q s l e =
    rw (e, q, s, p) (rw (add-sub_cancel_left (rows_before su k) (slots_at su k))
    (sym (part_all (len_ok (size_at su k)) lens (rows_before su k) (slots_at su k) (omega arith))))
