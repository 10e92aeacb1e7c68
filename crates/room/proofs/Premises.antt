-- The premises of demand 3 are met by all that their words allow.
use Rattle.address.specs.Address.{address_of, pool_of, slot_of}
use Rattle.layout.proofs.Bounds.{setup_pool}
use Rattle.layout.proofs.Layouts.{setup_few}
use Rattle.room.specs.Premises.{MoreIsRoomier, NamesItsOwn, OwnNamed, SlotsAreNamed, SpillAsTheyDo}
use Rattle.room.specs.Room.{AllNamed, addresses}
use Rattle.schedule.proofs.Facts.{setup_facts}
use Rattle.schedule.specs.declared.Setup.{Setup}
use Rattle.scheduler.specs.Steps.{Request, add, count, delete, delete_by_id, delete_keeping, delete_window, disable, enable, has_element_at, insert_stored, insert_unwrapped, insert_wrapped, len_of_data, modify, read, reset, retrieve, set_clock, tick}
use mathlib.Core.Path.{◌≡◌, refl}
use native.Mathlib.Omega.{arith}

own : (su : Setup) (q : Request) → OwnNamed su q → AllNamed su (addresses q)
unfolding addresses
own su (add d) o = tt
own su (read a buf) o = (o.read_from a buf refl, tt)
own su (modify a d) o = (o.modified a d refl, tt)
own su (delete a) o = (o.deleted a refl, tt)
own su (has_element_at a) o = (o.looked_for a refl, tt)
own su (len_of_data a) o = (o.measured a refl, tt)
own su (set_clock t) o = tt
own su enable o = tt
own su disable o = tt
own su count o = tt
own su (insert_wrapped p) o = tt
own su (insert_unwrapped t p) o = tt
own su (insert_stored t id a) o = (o.inserted t id a refl, tt)
own su (retrieve w) o = tt
own su (delete_window w) o = tt
own su reset o = tt
own su (delete_keeping id) o = tt
own su (delete_by_id id) o = tt
own su (tick limit del log) o = tt

pub names_its_own : (su : Setup) → NamesItsOwn su
names_its_own su = record { one = own su; none = tt; more = λ q qs o os. (own su q o, os) }

pub slots_are_named : SlotsAreNamed
unfolding SlotsAreNamed
slots_are_named su k i ok l h =
    let e = (setup_facts su ok).0 in
    let p = setup_few su.store e in
    let s = (setup_pool su.store e k l).3 in
    let at : pool_of (address_of k i) ≡ k = omega arith in
    let in_it : slot_of (address_of k i) ≡ i = omega arith in
    (omega arith, rw (at, in_it) h)

pub more_is_roomier : (su : Setup) → MoreIsRoomier su
more_is_roomier su =
    record {
      itself = record { same_pools = refl; same_sizes = λ k l. refl; more_slots = λ k l. omega arith; more_entries = omega arith };
      more = λ slots entries spill h g. record { same_pools = refl; same_sizes = λ k l. refl; more_slots = λ k l. h k; more_entries = g };
    }

pub spill_as_they_do : SpillAsTheyDo
unfolding SpillAsTheyDo
spill_as_they_do su lu = record { first = refl; second = refl }
