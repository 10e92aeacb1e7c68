-- A packet lent: what `modify` answers, and the place that is lent, from where the packet was found.
use Rattle.std.specs.Prelude.{Result, Ok, Err}
use Rattle.std.specs.Result.{result_unwrap_or}
use Prim.Native.Nat.{ℕ}
use Rattle.layout.specs.Judge.{Sound}
use Rattle.lookup.proofs.Judging.{judging_fine}
use Rattle.lookup.specs.Calls.{judging, packet_in}
use Rattle.lookup.specs.Promise.{Finds, found_as}
use Rattle.lookup.specs.Refusals.{length_paper, paper}
use Rattle.reading.specs.Reading.{Lends}
use Rattle.rules.specs.Papers.{Paper, after, refused, says}
use Rattle.slots.specs.View.{part, view}
use mathlib.Core.List.{List}
use mathlib.Core.Path.{◌∙◌, ◌≡◌, sym}
use native.Mathlib.Omega.{arith}
use Rattle.layout.specs.declared.Setup.{Setup}
use Rattle.lookup.specs.declared.Span.{Span}
use Rattle.slots.specs.declared.StoreRefusal.{StoreRefusal}

module _ (su : Setup) (st le : List ℕ) (a : ℕ) where
  -- modify
  pub modify_refused : (e : StoreRefusal) → Finds su st le a (Err e) → length_paper (Err e) ≡ says (packet_in (view su st le) a)
  unfolding found_as length_paper says
  modify_refused e f = rw (← f.same)

  pub modify_at : (s : Span) → Finds su st le a (Ok s) → length_paper (Ok s.len) ≡ says (packet_in (view su st le) a)
  unfolding found_as length_paper says
  modify_at s f = rw (← f.same)

  -- the part that is lent
  pub lends_none : (p : Paper) → judging su st le (λ ps. packet_in ps a) ≡ refused p → Lends su st le a (record { from = 0; len = 0 })
  unfolding after part
  lends_none p q = record { bytes = rw q; start = rw q; inside = omega arith }

  pub lends : Sound su st le → (r : Result Span StoreRefusal) → Finds su st le a r
      → Lends su st le a (result_unwrap_or r (record { from = 0; len = 0 }))
  unfolding found_as after
  lends d (Err e) f = lends_none (paper e) (judging_fine su st le (λ ps. packet_in ps a) d ∙ sym f.same)
  lends d (Ok s) f =
      let o = judging_fine su st le (λ ps. packet_in ps a) d ∙ sym f.same in
      record { bytes = rw o; start = rw o f.inside.0; inside = f.inside.1 }
