-- What `judge` promises, and what it says of a call.
use Rattle.std.specs.Prelude.{Result, Ok, Err, is_err}
use Rattle.std.proofs.lemmas.Bool.{false≢true}
use Prim.Native.Nat.{ℕ}
use Rattle.layout.specs.Judge.{Sound, buffers_ok, judged, lens_ok, setup_ok}
use Rattle.lookup.proofs.Numbers.{has_number}
use Rattle.lookup.specs.Calls.{judging}
use Rattle.lookup.specs.Refusals.{paper}
use Rattle.rules.proofs.Order.{all_passed, one_failed}
use Rattle.rules.specs.Papers.{Outcome, done, judged_by, refused, says}
use Rattle.rules.specs.Tests.{unless}
use Rattle.slots.specs.Pools.{Pool}
use Rattle.slots.specs.View.{view}
use Rattle.store.specs.Refusals.{done_paper}
use lib.ListN.{length}
use mathlib.Core.Bool.{false, true}
use mathlib.Core.List.{List, []}
use mathlib.Core.Path.{◌≡◌, sym}
use Rattle.layout.specs.declared.Setup.{Setup}
use Rattle.slots.specs.declared.StoreRefusal.{StoreRefusal}
use Rattle.slots.specs.declared.StoreRefusal.TheVariants.{BadSetup, BadBuffers, StateDamaged}

-- what `judge` promises of its verdict
abbrev pub Judges : Setup → ℕ → List ℕ → Result (Unit {0}) StoreRefusal → Type 0
Judges su room lens v = done_paper v ≡ says (judged {A = Unit {0}} su room lens (done [] tt))

-- what `judge` answers, by the tests that it made
module _ (su : Setup) (room : ℕ) (lens : List ℕ) where
  pub no_setup : setup_ok su ≡ false → Judges su room lens (Err BadSetup)
  unfolding done_paper paper judged judged_by unless says
  no_setup p = rw p

  pub no_buffers : setup_ok su ≡ true → buffers_ok su room (length lens) ≡ false → Judges su room lens (Err BadBuffers)
  unfolding done_paper paper judged judged_by unless says
  no_buffers p q = rw (p, q)

  pub damaged : setup_ok su ≡ true → buffers_ok su room (length lens) ≡ true → lens_ok su lens ≡ false → Judges su room lens (Err StateDamaged)
  unfolding done_paper paper judged judged_by unless says
  damaged p q r = rw (p, q, r)

  pub all_fine : setup_ok su ≡ true → buffers_ok su room (length lens) ≡ true → lens_ok su lens ≡ true → Judges su room lens (Ok tt)
  unfolding done_paper judged judged_by unless says
  all_fine p q r = rw (p, q, r)

-- fine: what a judged call asks
pub sound_by : (su : Setup) (st le : List ℕ) → Judges su (length st) le (Ok tt) → Sound su st le
unfolding judged done_paper
sound_by su st le j =
    let h = all_passed (setup_ok su) (buffers_ok su (length st) (length le)) (lens_ok su le) j in
    record { setup = h.0; buffers = h.1; lengths = h.2 }

pub sound_unless : (su : Setup) (st le : List ℕ) (v : Result (Unit {0}) StoreRefusal) → Judges su (length st) le v → is_err v ≡ false → Sound su st le
sound_unless su st le (Ok _) j q = sound_by su st le j
sound_unless su st le (Err e) j q = absurd (false≢true (sym q))

-- refused: what the whole call comes to
pub judging_refused : {A : Type 0} (su : Setup) (st le : List ℕ) (call : List Pool → Outcome A) (e : StoreRefusal)
    → Judges su (length st) le (Err e) → judging su st le call ≡ refused (paper e)
unfolding judged judging done_paper
judging_refused su st le call e j =
    one_failed (setup_ok su) (buffers_ok su (length st) (length le)) (lens_ok su le) (call (view su st le)) (paper e) (has_number e) j
