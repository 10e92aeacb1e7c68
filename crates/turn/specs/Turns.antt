-- The turns of a tick: what each due entry hands out, and what is left (document 01, "The release tick and its log").
use Rattle.std.specs.Prelude.{◌+◌, ◌-◌, ℕ, leb, ltb, length, take, Bool, false, true, List, [], ◌∷◌}
use Rattle.release_log.specs.Log.{LogRecord}
use Rattle.rules.specs.Tests.{all_of, unless}
use Rattle.slots.specs.Pools.{Found, Pool, find, held, no_pool, no_slot, vacant}
use Rattle.store.specs.Edits.{edit, wipe}
use Rattle.rows.specs.Entries.{Entry, time}

-- flag 1: released; 0: due while disabled; 2: the address check fails at its turn, enabled or not
abbrev pub flag_of : Bool → ℕ
flag_of true = 1
flag_of false = 0

abbrev pub flag_for : Bool → Found → ℕ
flag_for on no_pool = 2
flag_for on no_slot = 2
flag_for on vacant = 2
flag_for on (held n b) = flag_of on

-- the packet's bytes; none where the address check fails
abbrev pub packet_of : Found → List ℕ
packet_of no_pool = []
packet_of no_slot = []
packet_of vacant = []
packet_of (held n b) = take n b

-- the record of an entry, by what its address finds at its turn
abbrev pub handed : Bool → Entry → Found → LogRecord
handed on e f = record { flag = flag_for on f; id = e.id; addr = e.addr; packet = packet_of f }

-- what a record takes of the log: offset (4), flag (1), request ID (8), address (8), packet bytes
abbrev pub need : Found → ℕ
need f = 21 + length (packet_of f)

-- "In delete mode each packet handed out is deleted at its turn"
unfoldable pub leave : Bool → List Pool → ℕ → List Pool
leave true ps a = edit wipe ps a
leave false ps a = ps

-- what is handed out, the entries that stay, and the store afterwards
pub record Handout : Type 0 where
  pub records : List LogRecord
  pub left : List Entry
  pub pools : List Pool

abbrev pub put : LogRecord → Handout → Handout
put r h = record { records = r ∷ h.records; left = h.left; pools = h.pools }

abbrev pub stop : List Entry → List Pool → Handout
stop es ps = record { records = []; left = es; pools = ps }

-- the limit allows one more, the entry is due, and the log holds its record
abbrev pub goes_out : ℕ → ℕ → ℕ → ℕ → Entry → Found → Bool
goes_out k ck used cap e f = all_of (ltb 0 k ∷ leb (time e) ck ∷ leb (used + need f) cap ∷ [])

-- In schedule order, until one does not go out. By: what a turn does to the store, and whether an entry's packet is released; the
-- clock; how many more the limit allows; the log's bytes used and usable
unfoldable pub handout : (List Pool → ℕ → List Pool) → (Entry → Bool) → ℕ → ℕ → ℕ → ℕ → List Entry → List Pool → Handout
handout after on ck k used cap [] ps = stop [] ps
handout after on ck k used cap (e ∷ es) ps =
    unless (goes_out k ck used cap e (find ps e.addr)) (stop (e ∷ es) ps)
    (put (handed (on e) e (find ps e.addr))
    (handout after on ck (k - 1) (used + need (find ps e.addr)) cap es (after ps e.addr)))

-- one mark for all entries
abbrev pub always : Bool → Entry → Bool
always b e = b
