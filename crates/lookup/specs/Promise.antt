-- What the calls that look a packet up promise.
use Rattle.std.specs.Prelude.{Result, Ok, Err, ◌*◌, ◌+◌, ◌≤◌, ℕ, length, List, [], ◌∷◌, ◌≡◌}
use Rattle.slots.specs.declared.StoreRefusal.{StoreRefusal}
use Rattle.lookup.specs.declared.Span.{Span}
use Rattle.address.specs.Address.{pool_of, slot_of}
use Rattle.layout.specs.Layout.{bytes_before, size_at}
use Rattle.layout.specs.Limits.{max_slot_size}
use Rattle.lookup.specs.Calls.{packet_in}
use Rattle.lookup.specs.Refusals.{paper}
use Rattle.rules.specs.Papers.{Outcome, Paper, after, done, refused, says}
use Rattle.slots.specs.View.{part, view}
use Rattle.layout.specs.declared.Setup.{Setup}

-- What a call that writes a buffer alone promises. The outcome is a public call's, judged, or a judged call's.
pub record Reads (o : Outcome (List ℕ)) (buf : List ℕ) (p : Paper) (buf' : List ℕ) : Type 0 where
  pub answer : p ≡ says o
  pub buffer : buf' ≡ after o buf (λ b. b)

-- where the packet of an address starts in the store
abbrev pub packet_start : Setup → ℕ → ℕ
packet_start su a = bytes_before su (pool_of a) + slot_of a * size_at su (pool_of a)

-- What a search promises a caller who has judged: the packet lies there, or why there is none.
unfoldable pub found_as : List ℕ → Result Span StoreRefusal → Outcome (List ℕ)
found_as st (Ok s) = done (s.len ∷ []) (part s.from s.len st)
found_as st (Err e) = refused (paper e)

abbrev pub SpanIn : Setup → List ℕ → ℕ → Result Span StoreRefusal → Type 0
SpanIn su st a (Ok s) = (s.from ≡ packet_start su a) × (s.from + s.len ≤ length st) × (s.len ≤ max_slot_size)
SpanIn su st a (Err e) = Unit {0}

pub record Finds (su : Setup) (st le : List ℕ) (a : ℕ) (r : Result Span StoreRefusal) : Type 0 where
  pub same : found_as st r ≡ packet_in (view su st le) a
  pub inside : SpanIn su st a r
