-- The schedule as a list of entries, and the rows of words that it is kept in (document 01, module 5 and "Sizes").
use Rattle.std.specs.Prelude.{◌*◌, ◌+◌, ◌-◌, max, suc, zero, ℕ, drop, get_or, length, map, replicate, List, [], ◌++◌, ◌∷◌}
use Rattle.time.specs.Time.{instant_of}
use Rattle.time.specs.declared.Moment.{Moment}

-- the words of a row
abbrev pub width : ℕ
width = 4

-- a row's words: seconds counted from -2^42, nanoseconds, request ID, address in the store
pub record Entry : Type 0 where
  pub secs : ℕ
  pub nanos : ℕ
  pub id : ℕ
  pub addr : ℕ

abbrev pub entry_of : Moment → ℕ → ℕ → Entry
entry_of m i a = record { secs = m.secs; nanos = m.nanos; id = i; addr = a }

-- its release time, as one number of nanoseconds from -2^42 seconds on
abbrev pub time : Entry → ℕ
time e = instant_of (record { secs = e.secs; nanos = e.nanos })

-- the entry at row i of the words w
abbrev pub row : List ℕ → ℕ → Entry
row w i =
    record {
      secs = get_or w (i * width) 0;
      nanos = get_or w (i * width + 1) 0;
      id = get_or w (i * width + 2) 0;
      addr = get_or w (i * width + 3) 0;
    }

-- a row that stands by itself, and rows that do
abbrev pub entry : List ℕ → Entry
entry r = record { secs = get_or r 0 0; nanos = get_or r 1 0; id = get_or r 2 0; addr = get_or r 3 0 }

abbrev pub entries : List (List ℕ) → List Entry
entries t = map entry t

abbrev pub nth : List (List ℕ) → ℕ → Entry
nth t i = entry (get_or t i [])

-- the first n rows
unfoldable pub unpack : ℕ → List ℕ → List Entry
unpack zero w = []
unpack (suc n) w = row w 0 ∷ unpack n (drop width w)

-- an entry's words, in a row's order
abbrev pub words : Entry → List ℕ
words e = e.secs ∷ e.nanos ∷ e.id ∷ e.addr ∷ []

-- the rows of entries, one behind the other
unfoldable pub pack : List Entry → List ℕ
pack [] = []
pack (e ∷ es) = words e ++ pack es

-- the words after a change: the entries' rows, zeros in those of the n rows before that are vacated, and the rest as it was
unfoldable pub relaid : List ℕ → ℕ → List Entry → List ℕ
relaid old n es = pack es ++ replicate ((n - length es) * width) 0 ++ drop (max n (length es) * width) old
