-- What was read between two moments of a device, seen at another moment.
use Rattle.std.proofs.Common.{◌≡◌, ◌/◌, List, [], ◌∷◌, ◌++◌, length, sym, ◌∙◌, ap, subst, arith}
use Rattle.std.specs.List.{AllByRecursion}
use Rattle.device_log.specs.Calls.{Call, Read}
use Rattle.device_log.proofs.Spans.{span_same}
use Rattle.logged_disk.specs.Device.{DeviceState as Device, seen as content_of}
use Rattle.piece_answers.specs.Covers.{AllReadIsSeen, ReadIsSeen}
use Rattle.held_pieces.specs.Still.{IsStill}
use Rattle.piece_answers.proofs.Covering.{made_is}

-- where no call was made
pub seen_none : (old new : Device) → new.past ≡ old.past → AllReadIsSeen old new
seen_none old new same = λ made is trusted. subst (AllByRecursion (ReadIsSeen new)) (sym (made_is old.past new.past made [] same is)) tt

-- from an earlier moment on, where no call was made before
pub seen_before : (old older new : Device) → older.past ≡ old.past → AllReadIsSeen older new → AllReadIsSeen old new
seen_before old older new same h = λ made is trusted. h made (is ∙ ap (λ calls. made ++ calls) (sym same)) trusted

still_call : (new newer : Device) → IsStill new newer → (call : Call) → ReadIsSeen new call → ReadIsSeen newer call
still_call new newer still (Read at bytes) h = h ∙ span_same (content_of new) (content_of newer) at (length bytes / 512) (λ j low high. sym (still.seen j))
still_call new newer still _ h = tt

still_calls : (new newer : Device) → IsStill new newer → (made : List Call) → AllByRecursion (ReadIsSeen new) made → AllByRecursion (ReadIsSeen newer) made
still_calls new newer still [] h = tt
still_calls new newer still (call ∷ made) h = (still_call new newer still call h.0, still_calls new newer still made h.1)

-- at a later moment, where no call was made since
pub still_seen : (old new newer : Device) → AllReadIsSeen old new → IsStill new newer → AllReadIsSeen old newer
still_seen old new newer h still = λ made is trusted. still_calls new newer still made (h made (sym still.past ∙ is) (omega (arith, trusted, still.goes.trust)))
