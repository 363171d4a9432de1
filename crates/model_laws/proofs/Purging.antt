-- Where one step displaces nothing, neither does another for what is asked, of a device that refuses nothing and gives what was kept.
use Rattle.std.proofs.Common.{◌≡◌, ℕ, ◌+◌, ◌-◌, ◌*◌, ◌<◌, ◌≤◌, List, [], ◌∷◌, ◌++◌, refl, sym, ◌∙◌, ap, subst, arith, true, false, inl, inr}
use Rattle.std.specs.Prelude.{◌&&◌, ◌||◌, ◌==◌, ◌/◌, Bool, Option, Some, None, count_by, filter, length, map, option_map}
use Rattle.std.specs.List.{range_with_len}
use Rattle.std.proofs.lemmas.Bool.{false_from_ne_true}
use Rattle.std.proofs.lemmas.List.{length-map}
use Rattle.tape_base.specs.declared.pieces.PieceId.{PieceId}
use Rattle.tape_base.specs.Blocks.{blocks_of}
use Rattle.alternate_vector.specs.Alternates.{vector_size}
use Rattle.cache_model.specs.declared.record.Rec.{Rec}
use Rattle.cache_model.specs.declared.record.Rec.TheVariants as rec
use Rattle.cache_model.specs.State.{State, PutRow, Row, after_all, fragment_piece, list_of_put, live_row_of, live_rows, place_now, put_of, vector_piece}
use Rattle.cache_model.specs.Permit.{Intent, Permit, Fragment, Finish, End, Reason, Work}
use Rattle.cache_model.specs.Room.{MayDisplace, bucket_of_piece, displaces, has_room, is_bucket_used, is_full_for, is_full_with, limit, rows_of_segment, segment_of_piece, used_buckets}
use Rattle.cache_model.specs.Legal
use Rattle.cache_model.specs.Legal.{Advances, Does, DoesFinish, DoesFragment, IsFragmentLive, IsStep, MayGrow, MayPlaceFragment, MayPlaceVector, more, next_fragment_of, nothing, vector_length}
use Rattle.cache_model.proofs.Found.{no_truth, number_of, same_some}
use Rattle.cache_model.proofs.Steps.{all_append, all_parts, seen}
use Rattle.model_laws.specs.Agreeing.{AreLike, HoldTheSame, IsUntroubled, TellTheSame, is_trouble, without_digest, without_digests}
use Rattle.model_laws.specs.Purging.{TellNoDeviceTrouble, is_device_trouble}
use Rattle.model_laws.specs.RoomLaws.{TellNoDisplacement, is_displacement}
use Rattle.model_laws.proofs.AgreeingSteps.{advances_agree, none_comes}
use Rattle.model_laws.proofs.Calm.{calm_purged, calm_room}
use Rattle.model_laws.proofs.Digests.{filtered, list_too, live_row_too, live_rows_too}
use Rattle.model_laws.proofs.DigestSteps.{all_alike}
use Rattle.model_laws.proofs.Undisplaced.{PlacesFreely, group_other}
use Rattle.step_laws.proofs.Unsynced.{never, unmark_on}

-- ---- slots, but for digests

bucket_too : (s : State) (bucket : ℕ) (rows : List Row) → is_bucket_used s (map without_digest rows) bucket ≡ is_bucket_used s rows bucket
bucket_too s bucket [] = refl
bucket_too s bucket (row ∷ rows) = ap (λ (b : Bool). (bucket_of_piece s row.id == bucket) || b) (bucket_too s bucket rows)

full_too : (s : State) (bucket : ℕ) (rows : List Row) → is_full_with s bucket (map without_digest rows) ≡ is_full_with s bucket rows
full_too s bucket rows =
    let blind : List Row = map without_digest rows in
    let used : used_buckets s blind ≡ used_buckets s rows = λ i. count_by (λ b. bucket_too s b rows i) (range_with_len 0 s.geometry.buckets) in
    ap (λ (b : Bool). b && length blind == 3 * s.geometry.buckets + used_buckets s blind) (bucket_too s bucket rows)
    ∙ ap (λ (n : ℕ). is_bucket_used s rows bucket && n == 3 * s.geometry.buckets + used_buckets s blind) (length-map rows without_digest)
    ∙ ap (λ (n : ℕ). is_bucket_used s rows bucket && length rows == 3 * s.geometry.buckets + n) used

slots_too : (s : State) (piece : PieceId) → is_full_for (without_digests s) piece ≡ is_full_for s piece
slots_too s piece =
    let segment : ℕ = segment_of_piece s piece in
    let test : Row → Bool = λ row. segment_of_piece s row.id == segment in
    ap (λ (rows : List Row). is_full_with s (bucket_of_piece s piece) rows) (ap (filter test) (live_rows_too s) ∙ filtered test (λ row. refl) (live_rows s))
    ∙ full_too s (bucket_of_piece s piece) (rows_of_segment s segment)

displaces_alike : (p q : Permit) (s t : State) (piece : PieceId) → p.packed ≡ q.packed → HoldTheSame s t
    → displaces p s piece ≡ displaces q t piece
displaces_alike p q s t piece packed same =
    ap (λ (b : Bool). b && is_full_for s piece) packed
    ∙ ap (λ (b : Bool). q.packed && b) (sym (slots_too s piece) ∙ ap (λ (x : State). is_full_for x piece) same ∙ slots_too t piece)

-- a tenth of some slots is some
tenth_some : (buckets n : ℕ) → 1 ≤ buckets → n ≡ (3 * buckets + 9) / 10 → n ≡ 0 → ⊥
tenth_some buckets n some tenth none = omega (arith, some, tenth, none)

-- where nothing is told as displaced there was a slot
had_slot : {p : Permit} {s : State} {piece : PieceId} {added : List Rec} (rest : List Rec) → IsUntroubled (added ++ rest)
    → MayDisplace p s piece added
    → displaces p s piece ≡ false
had_slot {p} {s} {piece} rest calm m =
    false_from_ne_true (displaces p s piece)
    (λ full. tenth_some s.geometry.buckets (length m.purged) s.geometry.accepted.buckets_fit.0 (m.full full).tenth (ap length (calm_purged rest calm m)))

-- ---- what is placed

module _ (p q : Permit) (s t : State) (put : ℕ) (like : AreLike p q) (packed : p.packed ≡ q.packed) (same : HoldTheSame s t) where
  puts : put_of s put ≡ put_of t put
  puts = ap (λ (x : State). put_of x put) same

  row_same : (w v : PutRow) → put_of s put ≡ Some w → put_of t put ≡ Some v → w ≡ v
  row_same w v mine theirs = same_some w v (put_of s put) mine (puts ∙ theirs)

  slot_too : (piece other : PieceId) → piece ≡ other → displaces p s piece ≡ false → displaces q t other ≡ false
  slot_too piece other is slot = sym (displaces_alike p q s t other packed same) ∙ ap (displaces p s) (sym is) ∙ slot

  -- where there is room in the one, there is in the other
  no_room : (bytes others : ℕ) → bytes ≡ others → has_room s bytes ≡ false → has_room t others ≡ true → ⊥
  no_room bytes others is none some = no_truth (sym some ∙ sym (ap (λ (x : State). has_room x others) same) ∙ ap (has_room s) (sym is) ∙ none)

  no_place : (blocks others : ℕ) → blocks ≡ others → limit ≤ place_now s + blocks → place_now t + others < limit → ⊥
  no_place blocks others is above below =
      let places : place_now s ≡ place_now t = ap place_now same in
      omega (arith, is, above, below, places)

  fragment_free : {index : ℕ} {payload : List ℕ} {one other : List Rec} {e : End} → IsUntroubled one
      → DoesFragment p s put index payload one e
      → (m : MayPlaceFragment q t put index payload other) → displaces q t (next_fragment_of m.w) ≡ false
  fragment_free calm (Legal.DoesFragment.unmarks w cut place u) m = never like.unsynced (unmark_on u)
  fragment_free calm (Legal.DoesFragment.places is n) m =
      slot_too (next_fragment_of n.w) (next_fragment_of m.w) (ap next_fragment_of (row_same n.w m.w n.cut.writing.found m.cut.writing.found))
      (had_slot _ (subst IsUntroubled n.is calm).1 n.displaces)
  fragment_free {payload = payload} calm (Legal.DoesFragment.rooms w cut room) m =
      absurd (no_room (length payload) (length payload) refl (calm_room like.unsynced calm room).0 m.place.room)
  fragment_free calm (Legal.DoesFragment.exhausted w is cut none) m = absurd (no_place _ _ refl none.above m.place.below)

  lengths : vector_length s put ≡ vector_length t put
  lengths = ap vector_size (sym (list_too s put) ∙ ap (λ (x : State). list_of_put x put) same ∙ list_too t put)

  -- a fragment that is live in the one is live in the other
  not_lost : (piece : PieceId) (row : Row) → live_row_of s piece ≡ None → live_row_of t piece ≡ Some row → ⊥
  not_lost piece row none some =
      let blind : option_map without_digest (live_row_of s piece) ≡ option_map without_digest (live_row_of t piece) =
      sym (live_row_too s piece) ∙ ap (λ (x : State). live_row_of x piece) same ∙ live_row_too t piece in
      let no : None ≡ Some (without_digest row) = sym (ap (option_map without_digest) none) ∙ blind ∙ ap (option_map without_digest) some in
      cc

  vector_free : {fragments : ℕ} {one other : List Rec} {e : End} → IsUntroubled one → DoesFinish p s put fragments one e
      → (m : MayPlaceVector q t put fragments other) → displaces q t (vector_piece m.w.key put) ≡ false
  vector_free calm (Legal.DoesFinish.unmarks w cut live place u) m = never like.unsynced (unmark_on u)
  vector_free calm (Legal.DoesFinish.places is n) m =
      slot_too (vector_piece n.w.key put) (vector_piece m.w.key put) (ap (λ (w : PutRow). vector_piece w.key put) (row_same n.w m.w n.cut.writing.found m.cut.writing.found))
      (had_slot _ (subst IsUntroubled n.is calm) n.displaces)
  vector_free calm (Legal.DoesFinish.rooms w cut room) m = absurd (no_room (vector_length s put) (vector_length t put) lengths (calm_room like.unsynced calm room).0 m.place.room)
  vector_free calm (Legal.DoesFinish.loses w index is n gone) m =
      let row : w ≡ m.w = row_same w m.w n.cut.writing.found m.cut.writing.found in
      let number : m.w.put ≡ put = number_of t put m.w m.cut.writing.found in
      let live : IsFragmentLive t m.w index = m.whole index n.some n.within in
      let piece : fragment_piece m.w.key m.w.put index ≡ fragment_piece w.key put index =
      ap (λ (n : ℕ). fragment_piece m.w.key n index) number ∙ ap (λ (v : PutRow). fragment_piece v.key put index) (sym row) in
      absurd (not_lost (fragment_piece w.key put index) live.0 n.lost (ap (live_row_of t) (sym piece) ∙ live.1))
  vector_free calm (Legal.DoesFinish.exhausted w is cut live none) m = absurd (no_place _ _ (ap blocks_of lengths) none.above m.place.below)

places_free : (p q : Permit) (s t : State) (one other : List Rec) (e : End) (i : Intent) → AreLike p q → p.packed ≡ q.packed
    → HoldTheSame s t
    → IsUntroubled one → Does p s i one e → PlacesFreely q t other i
places_free p q s t one other e (Fragment put index payload) like packed same calm h = fragment_free p q s t put like packed same calm h
places_free p q s t one other e (Finish put fragments) like packed same calm h = vector_free p q s t put like packed same calm h
places_free p q s t one other e _ like packed same calm h = tt

-- ---- groups

record_untroubled : (r : Rec) → is_displacement r ≡ false → is_device_trouble r ≡ false → is_trouble r ≡ false
record_untroubled (rec.Fault count) stays quiet = no_truth quiet
record_untroubled (rec.Damaged piece place kept found) stays quiet = no_truth quiet
record_untroubled (rec.Displaced piece segment live) stays quiet = no_truth stays
record_untroubled _ stays quiet = refl

pub all_untroubled : (recs : List Rec) → TellNoDisplacement recs → TellNoDeviceTrouble recs → IsUntroubled recs
all_untroubled [] stay quiet = tt
all_untroubled (r ∷ recs) stay quiet = (record_untroubled r stay.0 quiet.0, all_untroubled recs stay.1 quiet.1)

advances_free : (p q : Permit) (s t : State) (is : List Intent) (why : Option Reason) (one other : List Rec) (between after : Work)
    → AreLike p q → p.packed ≡ q.packed
    → HoldTheSame s t → IsUntroubled one → TellNoDeviceTrouble other → Advances p s is why one between → Advances q t is why other after
    → IsUntroubled other
advances_free p q s t [] why one other between after like packed same calm quiet h k = absurd h
advances_free p q s t (i ∷ is) why one other between after like packed same calm quiet h k =
    all_untroubled other (group_other q t i other k.0 (places_free p q s t one other h.0 i like packed same calm h.1) k.1) quiet

-- ---- steps

grown_free : {p q : Permit} {s t : State} {w after last : Work} {one other : List Rec} → AreLike p q → p.packed ≡ q.packed → HoldTheSame s t
    → IsUntroubled one → TellNoDeviceTrouble other
    → after.intents ≡ [] → last.intents ≡ [] → MayGrow p s w one after → MayGrow q t w other last → IsUntroubled other
grown_free {q = q} {t = t} {w = w} like packed same calm quiet done over nothing k = elim (seen k) [
  | inl e ↦ subst IsUntroubled (sym e.0) tt
  | inr v ↦ absurd (none_comes q t w.intents w.refused v.added v.between done v.first)
]
grown_free {p} {q} {s} {t} {w} {after} {last} like packed same calm quiet done over (more {rest = tail} added between one others) k = elim (seen k) [
  | inl e ↦ absurd (none_comes p s w.intents w.refused added between (ap (λ (x : Work). x.intents) e.1 ∙ over) one)
  | inr v ↦
      let mine = all_parts (λ r. is_trouble r ≡ false) added tail calm in
      let theirs = all_parts (λ r. is_device_trouble r ≡ false) v.added v.rest (subst TellNoDeviceTrouble v.is quiet) in
      let here : IsUntroubled v.added = advances_free p q s t w.intents w.refused added v.added between v.between like packed same mine.0 theirs.0 one v.first in
      let agree : TellTheSame added v.added × (between ≡ v.between) =
      advances_agree p q s t w.intents w.refused added v.added between v.between like same mine.0 here one v.first in
      let behind : MayGrow q (after_all t v.added) between v.rest last = subst (λ (x : Work). MayGrow q (after_all t v.added) x v.rest last) (sym agree.1) v.behind in
      let rest : IsUntroubled v.rest = grown_free like packed (all_alike s t added v.added same agree.0) mine.1 theirs.1 done over others behind in
      subst IsUntroubled (sym v.is) (all_append (λ r. is_trouble r ≡ false) v.added v.rest here rest)
]

pub displacements_agree : (p q : Permit) (s t : State) (intents : List Intent) (one other : List Rec) (why because : Option Reason)
    → AreLike p q → p.packed ≡ q.packed → HoldTheSame s t
    → IsUntroubled one → TellNoDeviceTrouble other → IsStep p s intents one why → IsStep q t intents other because → IsUntroubled other
displacements_agree p q s t intents one other why because like packed same calm quiet h k = grown_free like packed same calm quiet refl refl h.grows k.grows
