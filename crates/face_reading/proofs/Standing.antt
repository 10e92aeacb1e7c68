-- The record that was read stands for what the words say.
use Prim.Native.Nat.{◌<◌, ◌≤◌, ℕ}
use Rattle.face_reading.specs.Inside.{Stands, clipped}
use Rattle.face_reading.specs.Reading.{record_from, signed, switched, word}
use Rattle.record.specs.Record.{times_in_range}
use Rattle.std.specs.Prelude.{Err, Ok, Result}
use Rattle.std.specs.Result.{OkIff, result_unwrap_or}
use Rattle.rules.proofs.All.{and_left, and_right}
use Rattle.time.specs.Time.{giga, secs_in_range}
use borrow.Author.Tests.{le-ltb, lt-ltb, ltb-false, ltb-true}
use lib.Dec.{leb, ltb}
use lib.IntN.{ℤ}
use mathlib.Core.Bool.{Bool, ◌&&◌, cond, false, true}
use mathlib.Core.List.{List}
use mathlib.Core.Path.{◌∙◌, ◌≡◌, ap, refl, sym}
use native.Mathlib.Omega.{arith}
use Rattle.record.specs.declared.Record.{Record}

-- nanoseconds in range are not clipped, and clipped ones are in range where the others are
clip_same : (w : ℕ) → ltb w giga ≡ true → clipped w ≡ w
unfolding clipped
clip_same w e = let l : w < 4294967296 = omega (arith, ltb-true w giga e) in simp (lt-ltb w 4294967296 l)

-- a word that is no u32 leaves the most that is one
pub clip_is : {E : Type 0} (r : Result ℕ E) (w : ℕ) → OkIff r (w < 4294967296) w → result_unwrap_or r 4294967295 ≡ clipped w
unfolding clipped
clip_is (Ok x) w f = rw (lt-ltb w 4294967296 f.0) f.1
clip_is (Err e) w f = rw (le-ltb w 4294967296 (omega (arith, f))) refl

clip_test : (w : ℕ) → ltb (clipped w) giga ≡ ltb w giga
unfolding clipped
clip_test w = go (ltb w 4294967296) refl
  where
    go : (b : Bool) → ltb w 4294967296 ≡ b → ltb (cond b w 4294967295) giga ≡ ltb w giga
    go true e = refl
    go false e = let l : giga ≤ w = omega (arith, ltb-false w 4294967296 e) in simp (le-ltb w giga l)

abbrev pub of : ℕ → ℤ → ℕ → ℕ → ℕ → Bool → Record
of n s a m b on = record { count = n; clock = record { secs = s; nanos = a }; margin = record { secs = m; nanos = b }; enabled = on }

module _ (n : ℕ) (s : ℤ) (a m b : ℕ) (on : Bool) where
  clip_times : times_in_range (of n s (clipped a) m (clipped b) on) ≡ times_in_range (of n s a m b on)
  clip_times = simp (clip_test)

  pub stands : Stands (of n s a m b on) (of n s (clipped a) m (clipped b) on)
  stands =
      record {
        count = refl;
        same = λ e.
            let p = and_right (secs_in_range s) (ltb a giga) (and_left (secs_in_range s && ltb a giga) (leb m 2147483648 && ltb b giga) e) in
            let q = and_right (leb m 2147483648) (ltb b giga) (and_right (secs_in_range s && ltb a giga) (leb m 2147483648 && ltb b giga) e) in
            rw (clip_same a p, clip_same b q);
        damaged = λ e. rw clip_times e;
      }

pub stands_words : (ws : List ℕ) (n : ℕ) (s : ℤ) (a m b : ℕ) (on : Bool) → n ≡ word ws 0 → s ≡ signed (word ws 1) → a ≡ clipped (word ws 2)
    → m ≡ word ws 3 → b ≡ clipped (word ws 4) → on ≡ switched (word ws 5) → Stands (record_from ws) (of n s a m b on)
unfolding record_from
stands_words ws n s a m b on p q r t u v =
    rw (p, q, r, t, u, v) (stands (word ws 0) (signed (word ws 1)) (word ws 2) (word ws 3) (word ws 4) (switched (word ws 5)))

-- what comes to the same of every record whose clock or margin is out of range comes to the same of one that stands for another
pub stands_same : {B : Type 0} (f : Record → B) (b : B) (x r : Record) → Stands x r → ((y : Record) → times_in_range y ≡ false → f y ≡ b) → f r ≡ f x
stands_same f b x r s h = go (times_in_range x) refl
  where
    go : (t : Bool) → times_in_range x ≡ t → f r ≡ f x
    go true e = ap f (s.same e)
    go false e = h r (s.damaged e) ∙ sym (h x e)
