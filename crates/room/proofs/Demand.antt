-- Demand 3, over any list of requests.
use Prim.Native.Nat.{◌≤◌, ℕ}
use Rattle.room.proofs.Fresh.{few_pools, few_slots, fresh_grow, fresh_shape, more_of, slots_of, slotted_by}
use Rattle.room.proofs.Steps.{steps}
use Rattle.room.specs.Grown.{Fit, Good, Narrow, Slotted, grown}
use Rattle.room.specs.Room.{EveryNamed, Named, RoomNeverChangesAnAnswer, answers_of, strike, struck}
use Rattle.starting.specs.Starting.{fresh_state}
use Rattle.schedule.specs.State.{State, with_pools}
use Rattle.schedule.specs.declared.Setup.{Setup}
use Rattle.scheduler.specs.Steps.{Answer, Request, Stepped, run, step}
use Rattle.slots.specs.Pools.{Pool}
use lib.ListN.{length}
use mathlib.Core.Bool.{Bool, cond, false, true}
use mathlib.Core.List.{List, [], ◌∷◌}
use mathlib.Core.Path.{◌≡◌, ap, refl, subst, sym}
use native.Mathlib.Omega.{arith}

module _ (su lu : Setup) (more : su.entries ≤ lu.entries) (off : su.store.spill ≡ false) (ns ks : List ℕ)
    (narrow : Narrow ns) (few : length ns ≤ 256) (named : (a : ℕ) → Named su a → Slotted ns a) where
  -- one request: x is what the smaller made of it
  turn : (s : State) (q : Request) (x : Stepped) → Good ns ks s x (step lu q (grown ks s)) → (rest : List Request) (given : List Answer)
      → (run lu rest (grown ks x.state)).answers ≡ given → (b : Bool) → struck x.answer.paper ≡ b
      → (run lu (cond b rest (q ∷ rest)) (grown ks s)).answers ≡ cond b given (x.answer ∷ given)
  unfolding run
  turn s q x g rest given ih true e = rw (g.still e) at ih
  turn s q x g rest given ih false e = rw (g.alike e) (ap (x.answer ∷◌) ih)

  runs : (qs : List Request) (s : State) → Fit ns s → EveryNamed su qs
      → (run lu (strike (run su qs s).answers qs) (grown ks s)).answers ≡ strike (run su qs s).answers (run su qs s).answers
  unfolding run strike
  runs [] s f n = refl
  runs (q ∷ qs) s f n =
      let g : Good ns ks s (step su q s) (step lu q (grown ks s)) = steps ns ks s f su lu more off narrow few named q n.0 in
      turn s q (step su q s) g _ _ (runs qs (step su q s).state g.fit n.1) _ refl

-- whether the larger spills or not: no request that it would let spill is left, since the smaller refused it as StoreFull
pub room_never_changes_an_answer : (larger : Bool) → RoomNeverChangesAnAnswer false larger
unfolding RoomNeverChangesAnAnswer
room_never_changes_an_answer larger su lu clock margin qs ok r off named =
    let given = answers_of su clock margin qs in
    subst (λ (ps : List Pool). (run lu (strike given qs) (with_pools ps (fresh_state su clock margin))).answers ≡ strike given given)
    (sym (fresh_grow su lu r))
    (runs su lu (omega (arith, r.more_entries)) off.first (slots_of su) (more_of su lu) (few_slots su ok) (few_pools su ok) (slotted_by su) qs
    (fresh_state su clock margin) (record { shaped = fresh_shape su; named = tt }) named)
