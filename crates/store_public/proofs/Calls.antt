-- The calls: what each comes to where `judge` is fine, and where it refuses.
use Rattle.std.specs.Prelude.{Result, Ok, Err, is_err}
use Prim.Native.Nat.{ℕ}
use Rattle.layout.specs.Judge.{Sound, buffers_ok, setup_ok, sized}
use Rattle.lookup.proofs.Judging.{judging_fine}
use Rattle.lookup.specs.Calls.{judging, packet_in}
use Rattle.lookup.specs.Promise.{Reads}
use Rattle.lookup.specs.Refusals.{paper}
use Rattle.reading.proofs.Lending.{lends_none}
use Rattle.reading.specs.Reading.{Lends}
use Rattle.std.proofs.lemmas.Bool.{false≢true}
use Rattle.rules.specs.Papers.{Outcome, Paper, after, says}
use Rattle.rules.specs.Tests.{unless}
use Rattle.slots.specs.Pools.{Pool}
use Rattle.slots.specs.View.{view}
use Rattle.store.specs.Calls.{fresh_in}
use Rattle.store.specs.Promise.{Writes}
use Rattle.store.specs.Refusals.{done_paper}
use Rattle.store_public.proofs.Judging.{Judges, judging_refused}
use lib.ListN.{length}
use mathlib.Core.Bool.{false, true}
use mathlib.Core.List.{List}
use mathlib.Core.Path.{◌≡◌, refl}
use Rattle.layout.specs.declared.Setup.{Setup}
use Rattle.slots.specs.declared.StoreRefusal.{StoreRefusal}
use Rattle.slots.specs.declared.StoreRefusal.TheVariants.{BadSetup, BadBuffers}

-- a call that answers alone
module _ {A : Type 0} (su : Setup) (st le : List ℕ) (call : List Pool → Outcome A) where
  pub asks_fine : (p : Paper) → Sound su st le → p ≡ says (call (view su st le)) → p ≡ says (judging su st le call)
  asks_fine p s q = rw (judging_fine su st le call s) q

  pub asks_refused : (e : StoreRefusal) → Judges su (length st) le (Err e) → paper e ≡ says (judging su st le call)
  unfolding says
  asks_refused e j = rw (judging_refused su st le call e j)

pub reads_fine : (su : Setup) (st le : List ℕ) (call : List Pool → Outcome (List ℕ)) (buf : List ℕ) (p : Paper) (buf' : List ℕ) → Sound su st le
    → Reads (call (view su st le)) buf p buf' → Reads (judging su st le call) buf p buf'
reads_fine su st le call buf p buf' s r = rw (judging_fine su st le call s) r

pub reads_refused : (su : Setup) (st le : List ℕ) (call : List Pool → Outcome (List ℕ)) (buf : List ℕ) (e : StoreRefusal)
    → Judges su (length st) le (Err e) → Reads (judging su st le call) buf (paper e) buf
unfolding says after
reads_refused su st le call buf e j = rw (judging_refused su st le call e j) (record { answer = refl; buffer = refl })

-- a call that writes
module _ (su : Setup) (st le : List ℕ) (call : List Pool → Outcome (List Pool)) where
  pub writes_refused : (e : StoreRefusal) → Judges su (length st) le (Err e)
      → Writes su st le (judging su st le call) (paper e) st le
  unfolding says after
  writes_refused e j = rw (judging_refused su st le call e j) (record { answer = refl; store = refl; lens = refl })

-- the part that is lent
module _ (su : Setup) (st le : List ℕ) (a : ℕ) where
  pub lends_judge : (v : Result (Unit {0}) StoreRefusal) → Judges su (length st) le v → is_err v ≡ true
      → Lends su st le a (record { from = 0; len = 0 })
  lends_judge (Err e) j q = lends_none su st le a (paper e) (judging_refused su st le (λ ps. packet_in ps a) e j)
  lends_judge (Ok u) j q = absurd (false≢true q)

-- a fresh start
module _ (su : Setup) (st le : List ℕ) where
  pub fresh_setup : setup_ok su ≡ false → Writes su st le (fresh_in su st le) (done_paper (Err BadSetup)) st le
  unfolding fresh_in sized unless says after done_paper paper
  fresh_setup q = rw q (record { answer = refl; store = refl; lens = refl })

  pub fresh_buffers : setup_ok su ≡ true → buffers_ok su (length st) (length le) ≡ false
      → Writes su st le (fresh_in su st le) (done_paper (Err BadBuffers)) st le
  unfolding fresh_in sized unless says after done_paper paper
  fresh_buffers q r = rw (q, r) (record { answer = refl; store = refl; lens = refl })
