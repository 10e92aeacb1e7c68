-- A reader finds each record where its offset says: what was written into a log is read back from it.
use Prim.Native.Nat.{◌*◌, ◌+◌, ◌-◌, ◌<◌, ◌^◌, ◌≤◌, suc, ℕ}
use Rattle.release_log.proofs.Sizes.{size_offsets, size_record, size_records, total_more, written}
use Rattle.release_log.specs.Log.{LogRecord, log_bytes, offsets, record_bytes, records, records_at, total}
use Rattle.release_log.specs.Reading.{count_of, end_of, offset_of, read_from, read_log, record_in, total_of}
use Rattle.words.proofs.RoundTrip.{number_at}
use Rattle.words.proofs.Sets.{length_bytes}
use Rattle.words.specs.Words.{bytes_of, number}
use borrow.Author.Tests.{le-ltb, lt-ltb}
use lib.ListN.{drop, get_or, length, length-append, take}
use lib.Seq.{drop_at, get_or_at, sets, take_at}
use mathlib.Core.Bool.{Bool, cond}
use mathlib.Core.List.{List, [], ◌++◌, ◌∷◌, append_assoc}
use mathlib.Core.Path.{◌∙◌, ◌≡◌, ap, ap₂, refl, sym}
use native.Mathlib.Nat.{zero-add}
use native.Mathlib.Omega.{arith}

-- the numbers of a record fit into their eight bytes
pub record PlainOne (r : LogRecord) : Type 0 where
  pub id_fits : r.id < 2 ^ 64
  pub addr_fits : r.addr < 2 ^ 64

abbrev pub Plain : List LogRecord → Type 0
Plain [] = Unit {0}
Plain (r ∷ rs) = PlainOne r × Plain rs

-- the parts of a record's bytes among others, grouped around each in turn
module _ (p q a b d : List ℕ) (x : ℕ) where
  around_first : p ++ (x ∷ ((a ++ (b ++ d)) ++ q)) ≡ (p ++ (x ∷ [])) ++ (a ++ ((b ++ d) ++ q))
  around_first = simp append_assoc

  around_second : p ++ (x ∷ ((a ++ (b ++ d)) ++ q)) ≡ ((p ++ (x ∷ [])) ++ a) ++ (b ++ (d ++ q))
  around_second = simp append_assoc

  around_last : p ++ (x ∷ ((a ++ (b ++ d)) ++ q)) ≡ (((p ++ (x ∷ [])) ++ a) ++ b) ++ (d ++ q)
  around_last = simp append_assoc

-- a record, read from where its bytes stand up to its end
record_at : (p q : List ℕ) (r : LogRecord) (at end : ℕ) → length p ≡ at → end ≡ at + 17 + length r.packet → PlainOne r
    → record_in (p ++ (record_bytes r ++ q)) at end ≡ r
unfolding record_in record_bytes
record_at p q r at end e f b =
    λ i. record { flag = flag_is i; id = id_is i; addr = addr_is i; packet = packet_is i }
  where
    whole : List ℕ
    whole = p ++ (r.flag ∷ ((bytes_of 8 r.id ++ (bytes_of 8 r.addr ++ r.packet)) ++ q))

    one : List ℕ
    one = p ++ (r.flag ∷ [])

    two : List ℕ
    two = one ++ bytes_of 8 r.id

    three : List ℕ
    three = two ++ bytes_of 8 r.addr

    long_one : length one ≡ at + 1
    long_one = length-append p (r.flag ∷ []) ∙ ap (λ (n : ℕ). n + 1) e

    long_two : length two ≡ at + 9
    long_two = omega (arith, length-append one (bytes_of 8 r.id), length_bytes 8 r.id, long_one)

    long_three : length three ≡ at + 17
    long_three = omega (arith, length-append two (bytes_of 8 r.addr), length_bytes 8 r.addr, long_two)

    flag_is : get_or whole at 0 ≡ r.flag
    flag_is = get_or_at p r.flag _ 0 at e

    id_is : number 8 (at + 1) whole ≡ r.id
    id_is =
        ap (number 8 (at + 1)) (around_first p q (bytes_of 8 r.id) (bytes_of 8 r.addr) r.packet r.flag)
        ∙ number_at one ((bytes_of 8 r.addr ++ r.packet) ++ q) (at + 1) 8 r.id long_one b.id_fits

    addr_is : number 8 (at + 9) whole ≡ r.addr
    addr_is =
        ap (number 8 (at + 9)) (around_second p q (bytes_of 8 r.id) (bytes_of 8 r.addr) r.packet r.flag)
        ∙ number_at two (r.packet ++ q) (at + 9) 8 r.addr long_two b.addr_fits

    packet_is : take (end - (at + 17)) (drop (at + 17) whole) ≡ r.packet
    packet_is =
        ap (λ (l : List ℕ). take (end - (at + 17)) (drop (at + 17) l))
        (around_last p q (bytes_of 8 r.id) (bytes_of 8 r.addr) r.packet r.flag)
        ∙ ap (take (end - (at + 17))) (drop_at three (r.packet ++ q) (at + 17) long_three)
        ∙ take_at r.packet q (end - (at + 17)) (omega arith)

-- Where the offsets and the records of rs stand in a log, record i first, at `at`
pub record Stands (log : List ℕ) (i at : ℕ) (rs : List LogRecord) : Type 0 where
  pub p : List ℕ
  pub q : List ℕ
  pub s : List ℕ
  pub t : List ℕ
  pub offsets_there : log ≡ p ++ (offsets at rs ++ q)
  pub offsets_at : length p ≡ 8 + 4 * i
  pub records_there : log ≡ s ++ (records rs ++ t)
  pub records_at_lem : length s ≡ at
  pub count : count_of log ≡ i + length rs
  pub all : total_of log ≡ at + length (records rs)
  pub small : at + length (records rs) < 2 ^ 32

-- the next records, one further
pub further : (log : List ℕ) (i at : ℕ) (r : LogRecord) (rs : List LogRecord) → Stands log i at (r ∷ rs)
    → Stands log (suc i) (at + 17 + length r.packet) rs
unfolding offsets records
further log i at r rs w =
    record {
      p = w.p ++ bytes_of 4 at;
      q = w.q;
      s = w.s ++ record_bytes r;
      t = w.t;
      offsets_there = w.offsets_there ∙ simp append_assoc;
      offsets_at = omega (arith, length-append w.p (bytes_of 4 at), length_bytes 4 at, w.offsets_at);
      records_there = w.records_there ∙ simp append_assoc;
      records_at_lem = omega (arith, length-append w.s (record_bytes r), size_record r, w.records_at_lem);
      count = w.count ∙ omega arith;
      all = w.all ∙ omega (arith, size_records r rs);
      small = omega (arith, size_records r rs, w.small);
    }

pub first_offset : (log : List ℕ) (i at : ℕ) (r : LogRecord) (rs : List LogRecord) → Stands log i at (r ∷ rs) → offset_of log i ≡ at
unfolding offsets
first_offset log i at r rs w =
    ap (number 4 (8 + 4 * i)) (w.offsets_there ∙ ap (w.p ++◌) (append_assoc (bytes_of 4 at) _ w.q))
    ∙ number_at w.p _ (8 + 4 * i) 4 at w.offsets_at (omega (arith, w.small))

-- a record ends where the next begins, or at the total
pub first_end : (log : List ℕ) (i at : ℕ) (r : LogRecord) (rs : List LogRecord) → Stands log i at (r ∷ rs)
    → end_of log i ≡ at + 17 + length r.packet
first_end log i at r [] w =
    ap (λ (b : Bool). cond b (offset_of log (i + 1)) (total_of log)) (le-ltb (i + 1) (count_of log) (omega (arith, w.count)))
    ∙ (further log i at r [] w).all ∙ unfold records in omega arith
first_end log i at r (x ∷ rs) w =
    ap (λ (b : Bool). cond b (offset_of log (i + 1)) (total_of log)) (lt-ltb (i + 1) (count_of log) (omega (arith, w.count)))
    ∙ ap (offset_of log) (omega arith) ∙ first_offset log (suc i) (at + 17 + length r.packet) x rs (further log i at r (x ∷ rs) w)

pub first_record : (log : List ℕ) (i at : ℕ) (r : LogRecord) (rs : List LogRecord) → PlainOne r → Stands log i at (r ∷ rs)
    → record_in log (offset_of log i) (end_of log i) ≡ r
unfolding records
first_record log i at r rs b w =
    ap₂ (record_in log) (first_offset log i at r rs w) (first_end log i at r rs w)
    ∙ ap (λ (l : List ℕ). record_in l at (at + 17 + length r.packet)) (w.records_there ∙ simp append_assoc)
    ∙ record_at w.s (records rs ++ w.t) r at (at + 17 + length r.packet) w.records_at_lem refl b

read_on : (log : List ℕ) (i at : ℕ) (rs : List LogRecord) → Plain rs → Stands log i at rs → read_from log i (length rs) ≡ rs
unfolding read_from
read_on log i at [] b w = refl
read_on log i at (r ∷ rs) b w =
    ap₂ ◌∷◌ (first_record log i at r rs b.0 w)
    (read_on log (suc i) (at + 17 + length r.packet) rs b.1 (further log i at r rs w))

few : (rs : List LogRecord) → length rs ≤ total rs
few [] = omega arith
few (r ∷ rs) = omega (arith, total_more r rs, few rs)

numbers_first : (a b d e : List ℕ) → ((a ++ b) ++ d) ++ e ≡ a ++ (b ++ (d ++ e))
numbers_first a b d e = simp append_assoc

pub stands : (log : List ℕ) (rs : List LogRecord) → total rs < 2 ^ 32 → Stands (log_bytes rs ++ log) 0 (records_at rs) rs
stands log rs h =
    record {
      p = n ++ m;
      q = records rs ++ log;
      s = (n ++ m) ++ os;
      t = log;
      offsets_there = unfold log_bytes in simp append_assoc;
      offsets_at = head;
      records_there = unfold log_bytes in simp append_assoc;
      records_at_lem = omega (arith, length-append (n ++ m) os, size_offsets (records_at rs) rs, head);
      count =
          ap (number 4 0) there ∙ number_at [] (m ++ ((os ++ records rs) ++ log)) 0 4 (length rs) refl (omega (arith, few rs))
          ∙ sym (zero-add (length rs));
      all =
          ap (number 4 4) there ∙ number_at n ((os ++ records rs) ++ log) 4 4 (total rs) (length_bytes 4 (length rs)) h
          ∙ unfold total in refl;
      small = unfold total in h;
    }
  where
    n : List ℕ
    n = bytes_of 4 (length rs)

    m : List ℕ
    m = bytes_of 4 (total rs)

    os : List ℕ
    os = offsets (records_at rs) rs

    there : log_bytes rs ++ log ≡ n ++ (m ++ ((os ++ records rs) ++ log))
    there = unfold log_bytes in numbers_first n m (os ++ records rs) log

    head : length (n ++ m) ≡ 8
    head = omega (arith, length-append n m, length_bytes 4 (length rs), length_bytes 4 (total rs))

-- the count and the total say how many records there are, and how many bytes
pub count_back : (log : List ℕ) (rs : List LogRecord) → total rs ≤ length log → total rs < 2 ^ 32
    → count_of (sets log 0 (log_bytes rs)) ≡ length rs
count_back log rs h f = ap count_of (written log rs h) ∙ (stands (drop (total rs) log) rs f).count ∙ zero-add (length rs)

pub total_back : (log : List ℕ) (rs : List LogRecord) → total rs ≤ length log → total rs < 2 ^ 32
    → total_of (sets log 0 (log_bytes rs)) ≡ total rs
unfolding total
total_back log rs h f = ap total_of (written log rs h) ∙ (stands (drop (total rs) log) rs f).all

-- each record is found where its offset says
pub read_back : (log : List ℕ) (rs : List LogRecord) → Plain rs → total rs ≤ length log → total rs < 2 ^ 32
    → read_log (sets log 0 (log_bytes rs)) ≡ rs
unfolding read_log
read_back log rs b h f =
    let w = stands (drop (total rs) log) rs f in
    ap read_log (written log rs h) ∙ ap (read_from (log_bytes rs ++ drop (total rs) log) 0) (w.count ∙ zero-add (length rs))
    ∙ read_on (log_bytes rs ++ drop (total rs) log) 0 (records_at rs) rs b w
