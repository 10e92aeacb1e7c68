-- The names of document 01's table ("Refusal numbers"), in its order; in front of them that of number 0, which no refusal has.
use Rattle.std.specs.Prelude.{ℕ, List, [], ◌∷◌, codes, slice_index_or}

unfoldable pub names : List (List ℕ)
names =
    codes "-" ∷ codes "BadSetup" ∷ codes "BadBuffers" ∷ codes "StateDamaged" ∷ codes "BadTime" ∷ codes "WrongService" ∷ codes "WrongSubservice" ∷
    codes "TcDataEmpty" ∷ codes "BadTimestamp" ∷ codes "TcUnreadable" ∷ codes "NestedScheduledTc" ∷ codes "DataTooLarge" ∷ codes "StoreFull" ∷
    codes "ReleaseTimeInTimeMargin" ∷ codes "ScheduleFull" ∷ codes "ReversedWindow" ∷ codes "InvalidSubpool" ∷ codes "InvalidPacketIdx" ∷
    codes "DataDoesNotExist" ∷ codes "BufferTooSmall" ∷ codes "LogTooSmall" ∷ []

-- by its number; nothing where no refusal has it
abbrev pub name_of : ℕ → List ℕ
name_of n = slice_index_or names n []
