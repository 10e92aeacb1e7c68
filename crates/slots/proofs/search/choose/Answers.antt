-- `slots::search::choose` meets its contract.
use Rattle.std.proofs.Common.{◌≡◌, ◌∙◌, length, arith, rules}
use Rattle.slots.proofs.Choosing.{chosen_large, chosen_room}
use Rattle.slots.proofs.Firsts.{subpool_found, subpool_none}
use Rattle.slots.proofs.Place.{last_bounds}
use Rattle.slots.proofs.search.choose.Goals as goal

pub returns-in_default : goal.returns-in_default
returns-in_default c =
    let h : length c.args.setup.sizes ≡ 8 = search rules in
    let n = subpool_none c.args.setup c.args.len (omega arith) c.in_default.ensures in
    λ st. chosen_large _ st _ _ _ n (omega arith)

pub last_tried-requires : goal.last_tried-requires
last_tried-requires c =
    let h : length c.args.setup.sizes ≡ 8 = search rules in
    (subpool_found c.args.setup c.args.len (omega arith) c.in-Some.k c.in-Some.ensures).0

pub find_room-requires : goal.find_room-requires
find_room-requires c =
    let h : length c.args.setup.sizes ≡ 8 = search rules in
    let f = subpool_found c.args.setup c.args.len (omega arith) c.in-Some.k c.in-Some.ensures in
    let b = last_bounds c.args.setup c.in-Some.k f.0 in
    (omega (arith, c.last_tried.ensures, b.0), omega (arith, c.last_tried.ensures, b.1), c.requires.1, c.requires.2)

pub returns : goal.returns
returns c =
    let h : length c.args.setup.sizes ≡ 8 = search rules in
    let f = subpool_found c.args.setup c.args.len (omega arith) c.in-Some.k c.in-Some.ensures in
    λ st. c.find_room.ensures ∙ chosen_room _ c.requires.0 st _ _ _ f.1 f.0 _ c.last_tried.ensures
