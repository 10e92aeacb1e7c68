-- What a retrieval answers, by the opened window.
use Rattle.std.specs.Prelude.{Result, Ok, Err}
use Prim.Native.Nat.{ℕ}
use lib.ListN.{length}
use mathlib.Core.List.{List, [], ◌∷◌}
use mathlib.Core.Path.{◌≡◌, ◌∙◌, ap, ap₂, sym}
use Rattle.record.specs.declared.ScheduleRefusal.{ScheduleRefusal}
use Rattle.rules.specs.Papers.{no, says}
use Rattle.rows.specs.Entries.{Entry}
use Rattle.selection.specs.Windows.{first_row, in_window}
use Rattle.selection.specs.declared.Part.{Part}
use Rattle.selection.specs.declared.MomentWindow.{MomentWindow}
use Rattle.windows.specs.Answers.{retrieved_paper}
use Rattle.windows.specs.Inside.{Opens}
use Rattle.schedule.specs.State.{State}
use Rattle.windows.specs.Windowing.{retrieve_in}
use Rattle.windows.specs.declared.TimeWindow.{TimeWindow}
use Rattle.windows.proofs.Openings.{opened_at, opened_refused}

module _ (w : TimeWindow) (r : Result MomentWindow ScheduleRefusal) (h : Opens w r) (es : List Entry) (s : State) (q : s.entries ≡ es) where
  pub retrieve_refused : (e : ScheduleRefusal) → r ≡ Err e → retrieved_paper (Err e) ≡ says (retrieve_in w s)
  unfolding retrieved_paper retrieve_in says
  retrieve_refused e p = ap says (sym (opened_refused w _ r h e p))

  pub retrieve_at : (x : MomentWindow) (p : Part) → r ≡ Ok x → p.first ≡ first_row x es → p.number ≡ length (in_window x es)
      → retrieved_paper (Ok p) ≡ says (retrieve_in w s)
  unfolding retrieved_paper retrieve_in says
  retrieve_at x p e a b =
      ap₂ (λ (m n : ℕ). no 0 (m ∷ n ∷ [])) (a ∙ ap (first_row x) (sym q)) (b ∙ ap (λ (l : List Entry). length (in_window x l)) (sym q))
      ∙ ap says (sym (opened_at w _ r h x e).0)
