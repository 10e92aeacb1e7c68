-- What words stand for: the request of document 01 that a call makes, what is lent to it, and the number, words and buffer that tell an answer.
use Rattle.std.specs.Prelude.{ℕ, eqb, drop, List, [], ◌++◌, ◌∷◌}
use Rattle.demands.specs.Calling.{Call, Lent, fresh_start}
use Rattle.demands.specs.Calling as D
use Rattle.face_demands.specs.FaceCalling.{Asked, FaceAnswer, FaceCall, FaceLent, FaceRequest, fresh, request, store_add, store_delete, store_has, store_len, store_modify, store_part, store_read}
use Rattle.face_demands.specs.FaceCalling as F
use Rattle.face_laws.specs.Standing.{standing}
use Rattle.face_reading.specs.Reading.{store_setup, window_from}
use Rattle.face_words.specs.Padding.{answer_words, padded}
use Rattle.layout.specs.declared.Setup.{Setup as StoreSetup}
use Rattle.lookup.specs.Promise.{packet_start}
use Rattle.rules.specs.Papers.{Paper}
use Rattle.rules.specs.Tests.{unless}
use Rattle.scheduler.specs.Steps.{Answer, Request, add, count, delete, delete_by_id, delete_keeping, delete_window, disable, enable, has_element_at, insert_stored, insert_unwrapped, insert_wrapped, len_of_data, modify, read, reset, retrieve, set_clock, tick}
use Rattle.std.proofs.Math.Option.{Option, none, some}

-- `modify` alone writes nothing; `part` is modify too, with what the caller writes
unfoldable pub request_of : FaceRequest → Request
request_of (store_add d) = add d
request_of (store_read a buf) = read a buf
request_of (store_modify a) = modify a []
request_of (store_part a ys) = modify a ys
request_of (store_delete a) = delete a
request_of (store_has a) = has_element_at a
request_of (store_len a) = len_of_data a
request_of (F.set_clock c) = set_clock c
request_of F.enable = enable
request_of F.disable = disable
request_of F.count = count
request_of (F.insert_wrapped p) = insert_wrapped p
request_of (F.insert_unwrapped c p) = insert_unwrapped c p
request_of (F.insert_stored c id a) = insert_stored c id a
request_of (F.window f from g to) = retrieve (window_from f from g to)
request_of (F.delete_window f from g to) = delete_window (window_from f from g to)
request_of F.reset = reset
request_of (F.delete_by_id_keep id) = delete_keeping id
request_of (F.delete_by_id id) = delete_by_id id
request_of (F.tick log limit del) = tick limit del log

unfoldable pub call_of : FaceCall → Call
call_of (fresh clock margin) = fresh_start clock margin
call_of (request q) = D.request (request_of q)

-- what is asked by calls, whatever answers are lent with them; and the requests that are made so
abbrev pub asks : List Asked → List FaceRequest
asks [] = []
asks (q ∷ qs) = q.request ∷ asks qs

abbrev pub made : List FaceRequest → List Request
made [] = []
made (q ∷ qs) = request_of q ∷ made qs

abbrev pub requests_of : List Asked → List Request
requests_of qs = made (asks qs)

abbrev pub stands_for : FaceLent → Lent
stands_for t = standing t.rec t.store t.lens t.rows

-- the address that `part` is given
unfoldable pub part_at : FaceRequest → Option ℕ
part_at (store_add d) = none
part_at (store_read a buf) = none
part_at (store_modify a) = none
part_at (store_part a ys) = some a
part_at (store_delete a) = none
part_at (store_has a) = none
part_at (store_len a) = none
part_at (F.set_clock c) = none
part_at F.enable = none
part_at F.disable = none
part_at F.count = none
part_at (F.insert_wrapped p) = none
part_at (F.insert_unwrapped c p) = none
part_at (F.insert_stored c id a) = none
part_at (F.window f from g to) = none
part_at (F.delete_window f from g to) = none
part_at F.reset = none
part_at (F.delete_by_id_keep id) = none
part_at (F.delete_by_id id) = none
part_at (F.tick log limit del) = none

-- an answer's values as they are told: `part` tells before them where the packet's bytes start in the caller's store
unfoldable pub ahead : StoreSetup → Option ℕ → List ℕ → List ℕ
ahead su none vs = vs
ahead su (some a) vs = packet_start su a ∷ vs

abbrev pub values_of : StoreSetup → FaceRequest → Paper → List ℕ
values_of su q p = unless (eqb p.number 0) p.values (ahead su (part_at q) p.values)

-- the number, the words and the buffer that tell an answer; words behind the first 8 are those that were lent
abbrev pub told_of : List ℕ → Asked → Answer → FaceAnswer
told_of sw q a =
    record {
      number = a.paper.number;
      words = padded (values_of (store_setup sw) q.request a.paper) ++ drop answer_words q.answer;
      buffer = a.buffer;
    }

abbrev pub all_told : List ℕ → List Asked → List Answer → List FaceAnswer
all_told sw [] as' = []
all_told sw (q ∷ qs) [] = []
all_told sw (q ∷ qs) (a ∷ as') = told_of sw q a ∷ all_told sw qs as'
