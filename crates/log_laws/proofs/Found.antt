-- The reader of the log that a tick leaves finds every record that the tick handed out, and no more.
use Prim.Native.Nat.{◌+◌, ◌≤◌, suc, zero, ℕ}
use Rattle.release_log.specs.Log.{LogRecord}
use Rattle.log_laws.specs.Laws.{TickIsFound, Words, out_of}
use Rattle.log_reader.proofs.Finds.{finds_all}
use Rattle.log_reader.specs.Laws.{FindsAll}
use Rattle.rows.specs.Entries.{unpack}
use Rattle.rules.proofs.Cases.{either}
use Rattle.rules.proofs.Order.{through_says}
use Rattle.rules.specs.Papers.{Outcome, Paper, after, judged_by, no, refused, says}
use Rattle.rules.specs.Tests.{unless}
use Rattle.schedule.specs.Judge.{judging}
use Rattle.schedule.specs.State.{State, state_of}
use Rattle.tick.specs.Tick.{Logged, handed_out, tick_in, usable}
use Rattle.time.specs.Time.{instant}
use Rattle.turn.specs.Turns.{Handout, always, handout, leave}
use Rattle.turns_laws.proofs.FromLog.{log_holds}
use Rattle.turns_laws.specs.Laws.{WordsIn}
use borrow.Author.Tests.{leb-true}
use lib.ListN.{drop, length}
use lib.Seq.{get_or-drop}
use mathlib.Core.Bool.{Bool, true}
use mathlib.Core.List.{List, []}
use mathlib.Core.Path.{◌∙◌, ◌≡◌, ap, sym}
use native.Mathlib.Omega.{arith}

-- request IDs and addresses of entries are words where the rows' words are
words_in : (n : ℕ) (ro : List ℕ) → Words ro → WordsIn (unpack n ro)
unfolding unpack
words_in zero ro w = tt
words_in (suc n) ro w = (w 2, w 3, words_in n (drop 4 ro) (λ i. rw (get_or-drop 4 ro i 0) (w (4 + i))))

-- of an outcome that is no refusal, the log that it leaves is read as rs
module _ (log : List ℕ) (rs : List LogRecord) where
  abbrev ReadAs : Outcome Logged → Type 0
  ReadAs o = (says o).number ≡ 0 → FindsAll (after o log (λ x. x.log)) rs

  refusal_is_none : (n : ℕ) (vs : List ℕ) → ReadAs (refused (no (suc n) vs))
  unfolding says
  refusal_is_none n vs z = absurd (omega arith)

  behind : (b : Bool) (n : ℕ) (vs : List ℕ) (o : Outcome Logged) → (b ≡ true → ReadAs o) → ReadAs (unless b (refused (no (suc n) vs)) o)
  behind b n vs o f = either ReadAs b o (refused (no (suc n) vs)) f (λ e. refusal_is_none n vs)

  judged : (a b d : Bool) (o : Outcome Logged) → ReadAs o → ReadAs (judged_by a b d o)
  unfolding judged_by
  judged a b d o f = behind a 0 [] _ (λ x. behind b 1 [] _ (λ y. behind d 2 [] o (λ z. f)))

module _ (limit : ℕ) (del : Bool) (log : List ℕ) (s : State) (w : WordsIn s.entries) where
  out : Handout
  out = handout (leave del) (always s.enabled) (instant s.clock) limit 8 (usable log) s.entries s.pools

  written : 8 ≤ length log → FindsAll (after (handed_out log s out) log (λ x. x.log)) out.records
  unfolding handed_out after out
  written n =
      let r = log_holds (leave del) (always s.enabled) (instant s.clock) limit (usable log) s.entries s.pools (omega arith) w in
      let f = r.1 in
      finds_all log _ r.0 (omega arith) (omega arith)

  in_state : ReadAs log (out_of limit del log s) (tick_in limit del log s)
  unfolding tick_in out
  in_state =
      behind log _ _ 19 _ _ (λ a. behind log _ _ 19 _ _ (λ b z. written (leb-true 8 (length log) a)))

pub tick_is_found : TickIsFound
unfolding TickIsFound judging
tick_is_found su r st le ro lo limit del p r' st' le' ro' lo' w t z =
    let s : State = state_of su r st le ro in
    let o : Outcome Logged = judging su r st le ro (tick_in limit del lo) in
    let e : (says o).number ≡ 0 = ap (λ (x : Paper). x.number) (sym (t.tables.answer ∙ through_says (λ (x : Logged). x.state) o)) ∙ z in
    let i : WordsIn s.entries = unfold state_of in words_in r.count ro w in
    rw t.log (judged lo (out_of limit del lo s) _ _ _ _ (in_state limit del lo s i) e)
