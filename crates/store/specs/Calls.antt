-- What the calls that change the store come to, in document 01's numbers and by the store's rules.
use Rattle.std.specs.Prelude.{ℕ, length, replicate, Bool, List, [], ◌∷◌}
use Rattle.address.specs.Address.{address_of}
use Rattle.layout.specs.Judge.{sized}
use Rattle.layout.specs.Layout.{size_at, slots_at}
use Rattle.lookup.specs.Calls.{if_held}
use Rattle.rules.specs.Papers.{Outcome, done, no, refused}
use Rattle.slots.specs.Pools.{Choice, Pool, all_taken, choose, find, free, into, too_large}
use Rattle.rules.specs.Lists.{each}
use Rattle.store.specs.Edits.{edit, edit_at, fill, rewrite, wipe}
use Rattle.layout.specs.declared.Setup.{Setup}

-- delete: the slot is wiped
unfoldable pub delete_in : List Pool → ℕ → Outcome (List Pool)
delete_in ps a = if_held a (find ps a) (λ n b. done [] (edit wipe ps a))

-- modify: what is written through it, ys, is part of the request. It answers the packet's length, and ys goes over the packet's bytes
unfoldable pub modify_in : List Pool → ℕ → List ℕ → Outcome (List Pool)
modify_in ps a ys = if_held a (find ps a) (λ n b. done (n ∷ []) (edit (rewrite ys) ps a))

-- add: 11, 12, and else the packet goes to the chosen slot, whose address is answered
unfoldable pub place : List Pool → List ℕ → Choice → Outcome (List Pool)
place ps d too_large = refused (no 11 (length d ∷ []))
place ps d (all_taken k) = refused (no 12 (k ∷ []))
place ps d (into k i) = done (address_of k i ∷ []) (edit_at (fill d) ps k i)

unfoldable pub add_in : Bool → List Pool → List ℕ → Outcome (List Pool)
add_in spill ps d = place ps d (choose spill ps (length d))

-- a fresh start: it zeroes the store and marks every slot free. It knows 1 and 2 alone
abbrev pub fresh_pool : Setup → ℕ → Pool
fresh_pool su k = record { size = size_at su k; slots = replicate (slots_at su k) (free (replicate (size_at su k) 0)) }

unfoldable pub fresh_pools : Setup → List Pool
fresh_pools su = each (fresh_pool su) 0 su.pools

unfoldable pub fresh_in : Setup → List ℕ → List ℕ → Outcome (List Pool)
fresh_in su st le = sized su (length st) (length le) (done [] (fresh_pools su))
