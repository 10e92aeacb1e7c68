-- `words::write` meets its contract. The loop's invariant: what is left to write makes of the bytes now what the whole makes of those at entry.
use Rattle.std.proofs.Common.{◌≡◌}
use Rattle.std.proofs.lemmas.List.Edits.{sets}
use Rattle.words.specs.Words.{bytes_of}
use Rattle.words.proofs.write.Given as goal

abbrev pub invariant-loop-k : goal.invariant-loop-k
invariant-loop-k l = sets l.dst l.at (bytes_of l.k l.x) ≡ sets l.initial.dst l.at (bytes_of l.width l.v)
