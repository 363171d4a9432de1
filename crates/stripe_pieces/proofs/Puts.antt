-- A piece that was put and recorded is held, and what is recorded of it.
use Rattle.std.proofs.Common.{◌≡◌, ℕ, ◌+◌, ◌≤◌, ◌^◌, List, [], ◌∷◌, ◌++◌, refl, sym, ◌∙◌, ap, subst, arith, Bool, true, false, Some, None, length}
use Rattle.std.specs.Prelude.{◌&&◌, if◌then◌else◌, MatchBool}
use Rattle.std.proofs.lemmas.Bool.{leb-true}
use Rattle.std.proofs.lemmas.List.{length-map}
use Rattle.tape_base.specs.declared.pieces.PieceId.{PieceId}
use Rattle.tape_base.specs.declared.digests.Digest.{Digest}
use Rattle.tape_base.specs.Blocks.{blocks_of}
use Rattle.tape_base.specs.Digest.{digest_of}
use Rattle.tape_base.specs.Piece.{is_vector, key_of_piece}
use Rattle.fragment_table.specs.Table.{made_row}
use Rattle.doc_header.specs.declared.documents.Doc.{Doc}
use Rattle.doc_header.specs.Document.{digest_of_document, document_bytes}
use Rattle.doc_header.specs.Reading.{document_digest}
use Rattle.agg_buffer.specs.Buffer.{blocks_in}
use Rattle.logged_disk.specs.Device.{DeviceState as Device, IsAfter, Keeps}
use Rattle.logged_disk.proofs.GoingOn.{asked_nothing, stays_put}
use Rattle.dir_table.specs.declared.rows.DirRow.{DirRow}
use Rattle.dir_table.specs.Displacement.{Displacement, IsPurge, NoneGoes, is_full, purge_of}
use Rattle.dir_table.specs.Rows.{row_of_key}
use Rattle.cyclone.specs.Cyclone.{IsPut, IsTurning, Seen}
use Rattle.cache_model.specs.declared.record.Rec.{Rec}
use Rattle.cache_model.specs.declared.record.Rec.TheVariants as rec
use Rattle.cache_model.specs.State.{State, after_all, list_of_put, place_now, state_after}
use Rattle.cache_model.specs.Kept.{Kept, state_of, with_records}
use Rattle.cache_model.specs.Room.{doc_at, has_room}
use Rattle.cache_model.proofs.Sound.{later_leaves}
use Rattle.cache_model.specs.Contents.{Contents}
use Rattle.piece_answers.specs.Covers.{Uses}
use Rattle.power_cuts.specs.Surviving.{LeaveCopies, NoneMade}
use Rattle.cache_model.specs.Displacing.{PushesOut}
use Rattle.held_pieces.specs.Displaced.{displaced_of}
use Rattle.held_pieces.specs.Held.{IsHeld}
use Rattle.piece_answers.specs.Place.{IsNewPiece, PutsIn, cut_record_of}
use Rattle.held_pieces.specs.Records.{HasSlots, IsHeldBehind, IsPlaceable, placed_behind}
use Rattle.piece_answers.specs.Standing.{AreStanding, IsToldPlaced}
use Rattle.piece_answers.proofs.RecordsAdded.{with_records-append}
use Rattle.held_pieces.proofs.Going.{alike_is_held}
use Rattle.held_pieces.proofs.Purging.{placed_is_held}
use Rattle.stripe_pieces.proofs.StandingPlaced.{WasCutLast, standing_placed, told_alike}
use Rattle.stripe_pieces.proofs.Telling.{state_behind}

-- ---- what a cut leaves

-- that a fragment of a put was cut; a vector is none
abbrev cut_where : Bool → ℕ → ℕ → ℕ → Digest → List Rec
cut_where vector put index length digest = if vector then [] else rec.Cut put index length digest ∷ []

-- what is held stays held
cut_is_held : (vector : Bool) (s : State) (c : Seen) (put index length : ℕ) (digest : Digest) → IsHeld s c → IsHeld (after_all s (cut_where vector put index length digest)) c
cut_is_held true s c put index length digest held = held
cut_is_held false s c put index length digest held =
    alike_is_held s (state_after s (rec.Cut put index length digest)) c held
    (record { geometry = refl; cursor = refl; least = refl; filled = refl; rows = refl; sound = (later_leaves s (rec.Cut put index length digest ∷ []) (tt, tt) held.sound).sound }) held.faults

-- the piece may be placed as before
cut_is_placeable : (vector : Bool) (s : State) (doc : Doc) (payload : List ℕ) (cut digest : Digest) (put index length : ℕ) → IsPlaceable s doc payload digest
    → IsPlaceable (after_all s (cut_where vector put index length cut)) doc payload digest
cut_is_placeable true s doc payload cut digest put index length h = h
cut_is_placeable false s doc payload cut digest put index length h =
    record { new = h.new; place = h.place; small = h.small; room = h.room; sized = h.sized; recorded = h.recorded }

-- and what its entry displaces is what it would have displaced before
pushed_before : (vector packed : Bool) (s : State) (put index length : ℕ) (digest : Digest) (id : PieceId) (displaced : List Rec)
    → PushesOut packed (after_all s (cut_where vector put index length digest)) id displaced → PushesOut packed s id displaced
pushed_before true packed s put index length digest id displaced h = h
pushed_before false packed s put index length digest id displaced h = λ p same.
    let m = h p same in
    record {
      purged = m.purged;
      full = λ e. let purge = m.full e in record { each = purge.each; apart = purge.apart; tenth = purge.tenth; slot = purge.slot };
      free = m.free;
      is = m.is;
    }

-- a piece is placed there as before
placed_before : (vector : Bool) (s : State) (put index length : ℕ) (digest : Digest) → place_now (after_all s (cut_where vector put index length digest)) ≡ place_now s
placed_before true s put index length digest = refl
placed_before false s put index length digest = refl

-- as the same document
cut_doc : (vector : Bool) (s : State) (put index length : ℕ) (digest : Digest) (id : PieceId) (pin start : ℕ)
    → doc_at (after_all s (cut_where vector put index length digest)) id pin start ≡ doc_at s id pin start
cut_doc true s put index length digest id pin start = refl
cut_doc false s put index length digest id pin start = refl

-- and lists what it would have listed before: a fragment nothing
cut_listed : (vector : Bool) (s : State) (put index length : ℕ) (digest : Digest)
    → (if vector then Some (list_of_put (after_all s (cut_where vector put index length digest)) put) else None) ≡ (if vector then Some (list_of_put s put) else None)
cut_listed true s put index length digest = refl
cut_listed false s put index length digest = refl

-- a fragment was cut last
cut_is_last : (vector : Bool) (s : State) (put index : ℕ) (payload : List ℕ) (cut : Digest) → cut ≡ digest_of payload → vector ≡ false
    → (after_all s (cut_where vector put index (length payload) cut)).last_cut ≡ Some (made_row (length payload) (digest_of payload).0)
cut_is_last true s put index payload cut same fragment = absurd (cc fragment)
cut_is_last false s put index payload cut same fragment = ap (λ (d : Digest). Some (made_row (length payload) d.0)) same

-- what is told of the pieces stands as before
cut_stands : (contents : Contents) (vector : Bool) (s : State) (c : Seen) (put index length : ℕ) (digest : Digest) → AreStanding contents s c
    → AreStanding contents (after_all s (cut_where vector put index length digest)) c
cut_stands contents true s c put index length digest stands = stands
cut_stands contents false s c put index length digest stands =
    record { buffered = stands.buffered; written = stands.written; recorded = stands.recorded }

-- ---- a piece that is put

-- how a document was put
pub record IsPutAs (purges : Bool) (c new : Seen) (doc : Doc) (payload : List ℕ) (cut digest : Digest) : Type 0 where
  pub put : IsPut purges c new doc payload
  pub turning : IsTurning new
  pub slots : HasSlots purges new
  pub payload_is : cut ≡ digest_of payload
  pub document : digest ≡ digest_of_document doc payload
  pub again : document_digest (document_bytes doc payload) ≡ digest
  pub size : blocks_in (document_bytes doc payload) ≡ blocks_of (length payload)

-- a piece is told of: that it was cut, then what its entry displaced, and its place
pub record IsToldOf (k cut_of displaced_in new : Kept) (seen : Seen) (doc : Doc) (payload : List ℕ) (cut digest : Digest) : Type 0 where
  pub told : Displacement
  pub told_is : told ≡ seen.displaced
  pub blocks : ℕ
  pub blocks_are : blocks ≡ blocks_of (length payload)
  pub cut_is : cut_of ≡ with_records k (cut_record_of doc.id (length payload) cut)
  pub displaced_is : displaced_in ≡ with_records cut_of (displaced_of (state_of cut_of) told)
  pub placed_is : new ≡ with_records displaced_in (rec.Placed doc.id doc.place blocks digest doc.pin ∷ [])

module _ (purges : Bool) (k cut_of displaced_in last : Kept) (c new : Seen) (doc : Doc) (payload : List ℕ) (cut digest : Digest) (held : IsHeld (state_of k) c)
    (fresh : IsNewPiece (state_of k) doc.id payload) (at : doc ≡ doc_at (state_of k) doc.id doc.pin doc.start) (room : has_room (state_of k) (length payload) ≡ true)
    (put : IsPutAs purges c new doc payload cut digest) (told : IsToldOf k cut_of displaced_in last new doc payload cut digest) where
  abbrev s : State
  s = state_of k

  abbrev vector : Bool
  vector = is_vector doc.id

  -- the state behind the cut
  abbrev mid : State
  mid = after_all s (cut_record_of doc.id (length payload) cut)

  abbrev displaced : List Rec
  displaced = displaced_of (state_of cut_of) new.displaced

  abbrev placed_at : ℕ → Rec
  placed_at place = rec.Placed doc.id place (blocks_of (length payload)) digest doc.pin

  displaced_as : displaced_in ≡ with_records cut_of displaced
  displaced_as = told.displaced_is ∙ ap (λ d. with_records cut_of (displaced_of (state_of cut_of) d)) told.told_is

  placed_as : last ≡ with_records displaced_in (placed_at doc.place ∷ [])
  placed_as = told.placed_is ∙ ap (λ n. with_records displaced_in (rec.Placed doc.id doc.place n digest doc.pin ∷ [])) told.blocks_are

  mid_is : state_of cut_of ≡ mid
  mid_is = state_behind k cut_of (cut_record_of doc.id (length payload) cut) told.cut_is

  placeable : IsPlaceable s doc payload digest
  placeable = record {
    new = fresh.nowhere;
    place = ap (λ (d : Doc). d.place) at;
    small = fresh.small;
    room = leb-true (s.filled + blocks_of (length payload)) s.geometry.agg room;
    sized = put.size;
    recorded = put.again;
  }

  behind : IsHeldBehind purges mid new doc payload digest
  behind =
      placed_is_held purges mid c new doc payload digest (cut_is_held vector s c doc.id.put doc.id.index (length payload) cut held)
      (cut_is_placeable vector s doc payload cut digest doc.id.put doc.id.index (length payload) placeable) put.put put.turning put.slots

  -- the state behind all that is told
  last_is : state_of last ≡ placed_behind mid new doc payload digest
  last_is =
      let there : state_of last ≡ state_after (after_all (state_of cut_of) displaced) (placed_at doc.place) =
      state_behind displaced_in last (placed_at doc.place ∷ []) placed_as
      ∙ ap (λ t. state_after t (placed_at doc.place)) (state_behind cut_of displaced_in displaced displaced_as) in
      let place : doc.place ≡ place_now mid = ap (λ (d : Doc). d.place) at ∙ sym (placed_before vector s doc.id.put doc.id.index (length payload) cut) in
      there
      ∙ (ap (λ t. state_after (after_all t (displaced_of t new.displaced)) (placed_at doc.place)) mid_is
      ∙ ap (λ n. state_after (after_all mid (displaced_of mid new.displaced)) (placed_at n)) place)

  pub put_is_held : IsHeld (state_of last) new
  put_is_held = subst (λ t. IsHeld t new) (sym last_is) behind.held

  -- what is told of the pieces goes on to stand, where it tells this of the one that is put
  pub put_stands : (contents : Contents) → length payload ≤ 2 ^ 31 → IsToldPlaced new.device s doc.id doc.start payload contents
      → AreStanding contents s c → AreStanding contents (state_of last) new
  put_stands contents few said stands =
      let cut_at : doc ≡ doc_at mid doc.id doc.pin doc.start = at ∙ sym (cut_doc vector s doc.id.put doc.id.index (length payload) cut doc.id doc.pin doc.start) in
      let mid_said : IsToldPlaced new.device mid doc.id doc.start payload contents = λ tells.
      told_alike contents s mid doc.id doc.start payload (sym (cut_listed vector s doc.id.put doc.id.index (length payload) cut))
      (said tells) in
      subst (λ t. AreStanding contents t new) (sym last_is)
      (standing_placed contents purges mid c new doc payload digest (cut_is_held vector s c doc.id.put doc.id.index (length payload) cut held)
      (cut_is_placeable vector s doc payload cut digest doc.id.put doc.id.index (length payload) placeable) cut_at few
      put.document (cut_is_last vector s doc.id.put doc.id.index payload cut put.payload_is) put.put put.turning mid_said
      (cut_stands contents vector s c doc.id.put doc.id.index (length payload) cut stands))

  pub put_adds : PutsIn purges k last doc.id doc.pin doc.start payload
  put_adds = record {
    added = cut_record_of doc.id (length payload) cut ++ (displaced ++ placed_at doc.place ∷ []);
    adds = placed_as
        ∙ (ap (λ x. with_records x (placed_at doc.place ∷ [])) displaced_as
        ∙ (with_records-append cut_of displaced (placed_at doc.place ∷ [])
        ∙ (ap (λ x. with_records x (displaced ++ placed_at doc.place ∷ [])) told.cut_is
        ∙ with_records-append k (cut_record_of doc.id (length payload) cut) (displaced ++ placed_at doc.place ∷ []))));
    are = record {
      displaced = displaced;
      pushed = subst (PushesOut purges s doc.id) (sym (ap (λ t. displaced_of t new.displaced) mid_is))
          (pushed_before vector purges s doc.id.put doc.id.index (length payload) cut doc.id (displaced_of mid new.displaced) behind.pushed);
      is = let document : digest ≡ digest_of_document (doc_at s doc.id doc.pin doc.start) payload = put.document ∙ ap (λ (d : Doc). digest_of_document d payload) at in
          λ i. cut_record_of doc.id (length payload) (put.payload_is i)
          ++ (displaced ++ rec.Placed doc.id (at i).place (blocks_of (length payload)) (document i) doc.pin ∷ []);
    };
  }

-- ---- what that uses up

few_by : (c : Seen) (entry : DirRow) (gone : List DirRow) (d : Displacement) (b : Bool) → IsTurning c → MatchBool b (IsPurge c.window entry c.rows gone d) (NoneGoes gone d)
    → length d.places ≤ purge_of c.geometry
few_by c entry gone d true turning purge =
    let told : length d.places ≡ length gone = ap (λ (places : List ℕ). length places) purge.places ∙ length-map gone (λ (r : DirRow). r.place) in
    let same : purge_of c.window.geometry ≡ purge_of c.geometry = ap purge_of turning.geometry in
    omega (arith, told, same, purge.count)
few_by c entry gone d false turning none = let told : length d.places ≡ 0 = ap (λ (places : List ℕ). length places) none.untold in omega (arith, told)

-- no more is told as displaced than a purge takes
pub few_displaced : (purges : Bool) (c new : Seen) (doc : Doc) (payload : List ℕ) → IsTurning c → IsPut purges c new doc payload → length new.displaced.places ≤ purge_of c.geometry
few_displaced purges c new doc payload turning put =
    let entry : DirRow = row_of_key c.geometry (key_of_piece doc.id) doc.place in
    few_by c entry put.gone new.displaced (purges && is_full c.window entry c.rows) turning put.displaced

pub put_uses : (purges : Bool) (c new : Seen) (doc : Doc) (payload : List ℕ) (records room left : ℕ) → IsPut purges c new doc payload → room ≤ left + records
    → Uses records 1 0 0 room left c new
put_uses purges c new doc payload records room left put few = record {
  same = put.geometry;
  of_records = few;
  of_entries = put.spare;
  device = subst (Keeps 0 0 c.device) (sym put.device) (asked_nothing c.device).keeps;
  goes = subst (IsAfter c.device) (sym put.device) (stays_put c.device);
  leaves = subst (λ (d : Device). LeaveCopies c.geometry c.device.past d.past) (sym put.device) NoneMade;
  later = let same : new.device.faults ≡ c.device.faults = ap (λ (d : Device). d.faults) put.device in omega (arith, same);
}
