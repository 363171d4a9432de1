-- Flushes that were worked by hand, computed by the definitions.
use Rattle.std.specs.Prelude.{ℕ, ◌≡◌, refl, Bool, true, false, List, [], ◌∷◌, map, None}
use Rattle.std.proofs.Common.{inl, inr}
use Rattle.std.proofs.Math.Dec.{lit≤, lit<}
use Rattle.device_log.specs.Calls.{RefusedCall, ToRead}
use Rattle.tape_base.specs.declared.keys.Key.{Key}
use Rattle.tape_base.specs.declared.digests.Digest.{Digest}
use Rattle.tape_base.specs.declared.geometries.Geometry.{Geometry}
use Rattle.doc_header.specs.Reading.{document_digest}
use Rattle.doc_header.specs.Moving.{moved_to}
use Rattle.evacuator.specs.Choice.{kept_within}
use Rattle.tape_base.specs.Place.{block_of}
use Rattle.cache_model.specs.declared.record.Rec.{Rec}
use Rattle.cache_model.specs.declared.record.Rec.TheVariants as rec
use Rattle.cache_model.specs.State.{State, Row, ReaderRow, cursor_next, floor_next, floor_now, formatted}
use Rattle.cache_model.specs.Due.{due_pieces, is_due, is_due_to}
use Rattle.cache_model.specs.Permit.{Permit}
use Rattle.cache_model.specs.Outcomes.{AreOutcomes, Copied, NoRoom, Outcome, ReadRefused, Spoiled, flush_records, stopped_front_of}
use Rattle.model_laws.specs.FlushLaws.{is_kept}

-- 64 blocks, buffers of 8, so that a flush copies 4 blocks at most
abbrev small : Geometry
small = record {
  segments = 1;
  buckets = 1;
  content = 64;
  agg = 8;
  reach = 16;
  fragment = 4;
  generation = 7;
  alternates = 5;
  accepted = record {
    segments_fit = (lit≤ tt, lit≤ tt);
    buckets_fit = (lit≤ tt, lit≤ tt);
    agg_fits = (lit≤ tt, lit≤ tt, refl);
    content_fits = (lit≤ tt, lit< tt);
    reach_fits = (lit≤ tt, lit< tt);
    fragment_fits = (lit≤ tt, lit≤ tt);
  };
  keeps = record { some = lit≤ tt; few = lit≤ tt };
}

abbrev key_of : ℕ → Key
key_of n = record { number = n }

abbrev digest : Digest
digest = record { 0 = [] }

abbrev row_at : (put index place blocks pin : ℕ) → Row
row_at put index place blocks pin =
    record { id = record { first = key_of put; put = put; index = index }; place = place; blocks = blocks; digest = digest; payload = None; pin = pin; alternates = None }

abbrev reader_of : (put next : ℕ) → ReaderRow
reader_of put next = record { actor = 1; reader = 1; key = key_of put; put = put; table = None; next = next }

-- ---- what is due

-- a buffer of 8 blocks that begins at 120: the next one begins at the end of the lap
abbrev at_120 : List Row → List ReaderRow → State
at_120 rows readers = record (formatted small) { cursor = 120; filled = 8; rows = rows; readers = readers }

pub the_next_floor_is_72 : floor_now (at_120 [] []) ∷ cursor_next (at_120 [] []) ∷ floor_next (at_120 [] []) ∷ [] ≡ 64 ∷ 128 ∷ 72 ∷ []
the_next_floor_is_72 = refl

pub a_pin_holds_past_the_moment : map (λ pin. is_due (at_120 [] []) 5 (row_at 1 1 64 1 pin)) (0 ∷ 5 ∷ 6 ∷ []) ≡ false ∷ false ∷ true ∷ []
a_pin_holds_past_the_moment = refl

pub a_reader_has_still_to_take_its_next : map (λ index. is_due_to (record { first = key_of 1; put = 1; index = index }) (reader_of 1 3)) (0 ∷ 2 ∷ 3 ∷ 4 ∷ []) ≡ false ∷ false ∷ true ∷ true ∷ []
a_reader_has_still_to_take_its_next = refl

pub no_reader_is_due_another_put : is_due_to (record { first = key_of 1; put = 1; index = 3 }) (reader_of 2 3) ≡ false
no_reader_is_due_another_put = refl

-- three fragments and their vector, and another put's; the reader has taken the first fragment
abbrev lap_of_two : List Row
lap_of_two = row_at 1 1 64 1 0 ∷ row_at 1 2 65 1 0 ∷ row_at 1 3 66 1 0 ∷ row_at 1 0 67 1 0 ∷ row_at 2 1 68 1 0 ∷ row_at 2 0 71 1 0 ∷ row_at 3 1 72 8 9 ∷ []

pub what_a_reader_has_to_take_is_due : due_pieces (at_120 lap_of_two (reader_of 1 2 ∷ [])) 5 ≡ row_at 1 2 65 1 0 ∷ row_at 1 3 66 1 0 ∷ []
what_a_reader_has_to_take_is_due = refl

-- ---- what is kept of it

-- three pieces of 3, 2 and 1 blocks, pinned past the moment
abbrev pinned : List Row
pinned = row_at 1 0 64 3 9 ∷ row_at 2 0 67 2 9 ∷ row_at 3 0 69 1 9 ∷ []

pub one_that_does_not_fit_leaves_the_budget : kept_within 4 (map (λ (row : Row). row.blocks) pinned) ≡ map is_kept (Copied [] ∷ NoRoom ∷ Copied [] ∷ [])
one_that_does_not_fit_leaves_the_budget = refl

abbrev none_read : Permit
none_read = record { packed = false; syncs = false; now = 0; past = []; events = RefusedCall (ToRead (block_of small 69) 1) 2 ∷ RefusedCall (ToRead (block_of small 64) 3) 1 ∷ [] }

-- a read that is refused uses the budget too
pub two_are_refused : AreOutcomes none_read (at_120 pinned []) 4 pinned (ReadRefused 1 ∷ NoRoom ∷ ReadRefused 2 ∷ [])
two_are_refused = (
  (lit≤ tt, lit< tt, record { rose = lit≤ tt; refused = inr (inl refl) }),
  (lit< tt, ((lit≤ tt, lit< tt, record { rose = lit≤ tt; refused = inl refl }), tt)),
)

-- ---- the records

abbrev copied_to : ℕ → List ℕ → Digest
copied_to place bytes = document_digest (moved_to place bytes)

abbrev unsaved : Row → Bool → Rec
unsaved row fault = rec.Unsaved row.id row.place fault

pub copies_stand_first_in_the_next_buffer : (one two : List ℕ) → flush_records (at_120 pinned []) (due_pieces (at_120 pinned []) 5) (Copied one ∷ NoRoom ∷ Copied two ∷ [])
    ≡ unsaved (row_at 2 0 67 2 9) false ∷ rec.Began 128 72
    ∷ rec.Moved (record { first = key_of 1; put = 1; index = 0 }) 64 128 (copied_to 128 one)
    ∷ rec.Moved (record { first = key_of 3; put = 3; index = 0 }) 69 131 (copied_to 131 two) ∷ []
copies_stand_first_in_the_next_buffer one two = refl

abbrev other_digest : Digest
other_digest = record { 0 = 1 ∷ [] }

abbrev troubled : List Outcome
troubled = ReadRefused 1 ∷ Spoiled other_digest ∷ NoRoom ∷ []

abbrev three : List Row
three = row_at 1 0 64 2 9 ∷ row_at 2 0 66 2 9 ∷ row_at 3 0 68 1 9 ∷ []

pub a_fault_stands_before_what_it_left : flush_records (at_120 three []) three troubled
    ≡ rec.Fault 1 ∷ unsaved (row_at 1 0 64 2 9) true ∷ rec.Damaged (record { first = key_of 2; put = 2; index = 0 }) 66 digest other_digest
    ∷ unsaved (row_at 3 0 68 1 9) false ∷ rec.Began 128 72 ∷ []
a_fault_stands_before_what_it_left = refl

pub a_flush_that_stops_tells_of_nothing_unsaved : stopped_front_of three troubled ≡ rec.Fault 1 ∷ rec.Damaged (record { first = key_of 2; put = 2; index = 0 }) 66 digest other_digest ∷ []
a_flush_that_stops_tells_of_nothing_unsaved = refl
