-- `face_reading::column` meets its contract.
use Rattle.face_reading.proofs.Narrow.{column_of, narrow_from}
use native.Mathlib.Omega.{arith}
use Rattle.face_reading.proofs.column.Goals as goal

pub narrow_word-requires : goal.narrow_word-requires
narrow_word-requires c = narrow_from _ c.requires.words_value _ (omega arith) (omega arith)

pub narrow_word-requires-2 : goal.narrow_word-requires-2
narrow_word-requires-2 c = narrow_from _ c.requires.words_value _ (omega arith) (omega arith)

pub narrow_word-requires-3 : goal.narrow_word-requires-3
narrow_word-requires-3 c = narrow_from _ c.requires.words_value _ (omega arith) (omega arith)

pub narrow_word-requires-4 : goal.narrow_word-requires-4
narrow_word-requires-4 c = narrow_from _ c.requires.words_value _ (omega arith) (omega arith)

pub narrow_word-requires-5 : goal.narrow_word-requires-5
narrow_word-requires-5 c = narrow_from _ c.requires.words_value _ (omega arith) (omega arith)

pub narrow_word-requires-6 : goal.narrow_word-requires-6
narrow_word-requires-6 c = narrow_from _ c.requires.words_value _ (omega arith) (omega arith)

pub narrow_word-requires-7 : goal.narrow_word-requires-7
narrow_word-requires-7 c = narrow_from _ c.requires.words_value _ (omega arith) (omega arith)

pub narrow_word-requires-8 : goal.narrow_word-requires-8
narrow_word-requires-8 c = narrow_from _ c.requires.words_value _ (omega arith) (omega arith)

pub returns : goal.returns
returns c =
    column_of _ _ _ _ _ _ _ _ _ _ c.narrow_word.ensures
    c.narrow_word-2.ensures
    c.narrow_word-3.ensures
    c.narrow_word-4.ensures
    c.narrow_word-5.ensures
    c.narrow_word-6.ensures
    c.narrow_word-7.ensures
    c.narrow_word-8.ensures
