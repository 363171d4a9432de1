-- What is told of pieces goes on to stand where one is placed, behind what its entry displaces, and where one is copied.
use Rattle.std.proofs.Common.{◌≡◌, ℕ, ◌+◌, ◌*◌, ◌≤◌, ◌^◌, List, [], ◌∷◌, ◌++◌, refl, sym, ◌∙◌, ap, subst, arith, Bool, true, false, Option, Some, None, length}
use Rattle.std.specs.Prelude.{if◌then◌else◌, IfSome, map, option_to_list, replicate}
use Rattle.std.specs.List.{AllByRecursion}
use Rattle.std.proofs.lemmas.List.{length-append, take_at}
use Rattle.std.proofs.lemmas.Option.{IfSome_then}
use Rattle.tape_base.specs.declared.geometries.Geometry.{Geometry}
use Rattle.tape_base.specs.declared.pieces.PieceId.{PieceId}
use Rattle.tape_base.specs.declared.digests.Digest.{Digest}
use Rattle.tape_base.specs.Blocks.{blocks_of}
use Rattle.tape_base.specs.Digest.{digest_of}
use Rattle.tape_base.specs.Piece.{is_vector}
use Rattle.fragment_table.specs.Table.{TableRow, made_row}
use Rattle.alternate_vector.specs.Spelling.{IsSpelling, vector_bytes}
use Rattle.alternate_vector.proofs.Loops.{each_push}
use Rattle.device_log.specs.Image.{Image}
use Rattle.logged_disk.specs.Device.{DeviceState as Device, TellsAll, seen as content_of}
use Rattle.doc_header.specs.declared.documents.Doc.{Doc}
use Rattle.doc_header.specs.Document.{digest_of_document, document_bytes, header_bytes, padding_of}
use Rattle.doc_header.specs.Moving.{BeginsWith, moved_to}
use Rattle.doc_header.specs.Reading.{document_digest}
use Rattle.doc_header.proofs.MovingLaws.{moved_is_recorded_lem, moved_is_spelled_lem, moves_keep_lem}
use Rattle.doc_header.proofs.ReadingLaws.{length-header}
use Rattle.evacuator.specs.declared.choosing.Candidate.{Candidate}
use Rattle.dir_table.specs.Displacement.{Displacement}
use Rattle.agg_buffer.specs.Buffer.{AddsPiece, Buffer, blocks_in, bytes_at, next_place_of}
use Rattle.cyclone.specs.Cyclone.{IsMoved, IsPut, IsTurning, Seen}
use Rattle.cache_model.specs.declared.record.Rec.{Rec}
use Rattle.cache_model.specs.declared.record.Rec.TheVariants as rec
use Rattle.cache_model.specs.State.{Row, State, after_all, list_of_put, listed, moved_row, place_now, placed_row, state_after, without}
use Rattle.cache_model.specs.Kept.{Kept, state_of, with_records}
use Rattle.cache_model.specs.Room.{doc_at}
use Rattle.cache_model.proofs.Lists.{found_row}
use Rattle.cache_model.specs.Contents.{Content, Contents, IsRecordedAs, IsRecordedFrom, IsRecordedWith, IsToldAs, doc_of_row, payload_recorded}
use Rattle.stripe_pieces.specs.Copying.{IsCopyable, IsToldRow, copied_record}
use Rattle.cache_model.specs.Displacing.{AreOfDisplacement, IsOfDisplacement}
use Rattle.held_pieces.specs.Displaced.{displaced_from, displaced_of, displaced_piece, last_at}
use Rattle.held_pieces.specs.Held.{IsBuffered, IsBufferedWhereNew, IsHeld}
use Rattle.held_pieces.specs.Records.{IsPlaceable, placed_behind}
use Rattle.piece_answers.specs.Standing.{AreStanding, BeginsAs, HasContent, IsToldPlaced, StandsInBuffer, StandsOnDevice}
use Rattle.piece_answers.proofs.Displacing.{displaced_listed}
use Rattle.held_pieces.proofs.Going.{all_left}
use Rattle.held_pieces.proofs.Holding.{end_is}
use Rattle.stripe_pieces.proofs.Telling.{state_behind}

-- ---- what is told

-- where the piece lists the same in two states, the same is told of it in both
pub told_alike : (contents : Contents) (s t : State) (id : PieceId) (start : ℕ) (payload : List ℕ) → listed s id ≡ listed t id
    → IsToldAs contents s id start payload → IsToldAs contents t id start payload
told_alike contents s t id start payload same told = record {
  content = subst (λ list. IfSome (contents id list) (λ x. x ≡ record { start = start; payload = payload })) same told.content;
  spelled = subst (λ o. IfSome o (λ list. IsSpelling (vector_bytes list) list)) same told.spelled;
}

-- ---- what an entry displaces

one_displaced : (d : Displacement) (found : Option PieceId) (rest : List Rec) → AreOfDisplacement rest
    → AreOfDisplacement (displaced_piece d found ++ rest)
one_displaced d None rest all = all
one_displaced d (Some id) rest all = (tt, all)

all_displaced : (at : ℕ → Option PieceId) (d : Displacement) (places : List ℕ) → AreOfDisplacement (displaced_from at d places)
all_displaced at d [] = tt
all_displaced at d (place ∷ places) = one_displaced d (at place) (displaced_from at d places) (all_displaced at d places)

-- it takes rows out, and leaves the others
one_left : (P : Row → Type 0) (s : State) (r : Rec) → IsOfDisplacement r → AllByRecursion P s.rows → AllByRecursion P (state_after s r).rows
one_left P s (rec.Displaced piece segment live) h all = all_left P piece s.rows all
one_left P s _ h all = absurd h

displaced_rows : (P : Row → Type 0) (s : State) (recs : List Rec) → AreOfDisplacement recs → AllByRecursion P s.rows
    → AllByRecursion P (after_all s recs).rows
displaced_rows P s [] kinds all = all
displaced_rows P s (r ∷ recs) kinds all = displaced_rows P (state_after s r) recs kinds.1 (one_left P s r kinds.0 all)

-- the tape is the same, and the fragment that was cut last
record SameTape (s t : State) : Type 0 where
  geometry : t.geometry ≡ s.geometry
  cursor : t.cursor ≡ s.cursor
  least : t.least ≡ s.least
  last_cut : t.last_cut ≡ s.last_cut

one_tape : (s : State) (r : Rec) → IsOfDisplacement r → SameTape s (state_after s r)
one_tape s (rec.Displaced piece segment live) h = record { geometry = refl; cursor = refl; least = refl; last_cut = refl }
one_tape s _ h = absurd h

displaced_tape : (s : State) (recs : List Rec) → AreOfDisplacement recs → SameTape s (after_all s recs)
displaced_tape s [] kinds = record { geometry = refl; cursor = refl; least = refl; last_cut = refl }
displaced_tape s (r ∷ recs) kinds =
    let first : SameTape s (state_after s r) = one_tape s r kinds.0 in
    let rest : SameTape (state_after s r) (after_all (state_after s r) recs) = displaced_tape (state_after s r) recs kinds.1 in
    record { geometry = rest.geometry ∙ first.geometry; cursor = rest.cursor ∙ first.cursor; least = rest.least ∙ first.least; last_cut = rest.last_cut ∙ first.last_cut }

-- ---- the other pieces

-- those of the buffer stand in it behind one more piece
still_in_buffer : (contents : Contents) (g : Geometry) (b after : Buffer) (piece : List ℕ) (rows : List Row)
    → AddsPiece b after piece → after.cursor ≡ b.cursor → AllByRecursion (IsBufferedWhereNew b) rows
    → AllByRecursion (StandsInBuffer contents g b) rows → AllByRecursion (StandsInBuffer contents g after) rows
still_in_buffer contents g b after piece [] adds same buffered all = tt
still_in_buffer contents g b after piece (row ∷ rows) adds same buffered all =
    (one, still_in_buffer contents g b after piece rows adds same buffered.1 all.1)
  where
    one : StandsInBuffer contents g after row
    one = λ above.
        let low : b.cursor ≤ row.place = subst (λ n. n ≤ row.place) same above in
        let old : IsBuffered b row = buffered.0 low in
        subst (HasContent contents g row) (sym (adds.others row.place row.blocks old.filled)) (all.0 low)

-- those of the device stand there for each state with the same tape
still_on_device : (contents : Contents) (s t : State) (content : Image) (rows : List Row) → SameTape s t
    → AllByRecursion (StandsOnDevice contents s content) rows → AllByRecursion (StandsOnDevice contents t content) rows
still_on_device contents s t content [] same all = tt
still_on_device contents s t content (row ∷ rows) same all = (one, still_on_device contents s t content rows same all.1)
  where
    one : StandsOnDevice contents t content row
    one = rw (same.geometry, same.cursor, same.least) all.0

-- ---- a piece is placed

-- a fragment that is placed is the one that was cut last
abbrev pub WasCutLast : State → PieceId → List ℕ → Type 0
WasCutLast s id payload = is_vector id ≡ false → s.last_cut ≡ Some (made_row (length payload) (digest_of payload).0)

-- so what is recorded of its payload is right
cut_as_recorded : (vector : Bool) (last cut : Option TableRow) → (vector ≡ false → last ≡ cut)
    → (if vector then None else last) ≡ (if vector then None else cut)
cut_as_recorded true last cut same = refl
cut_as_recorded false last cut same = same refl

-- the bytes of a document begin with it
own_begins : (doc : Doc) (payload : List ℕ) → BeginsWith (document_bytes doc payload) doc payload
own_begins doc payload =
    let front : List ℕ = header_bytes doc payload ++ payload in
    take_at front (replicate (padding_of (length payload)) 0) (length payload + 128)
    (omega (arith, length-append (header_bytes doc payload) payload, length-header doc payload))

module _ (contents : Contents) (purges : Bool) (s : State) (c new : Seen) (doc : Doc) (payload : List ℕ) (digest : Digest)
    (held : IsHeld s c) (placeable : IsPlaceable s doc payload digest) (at : doc ≡ doc_at s doc.id doc.pin doc.start)
    (few : length payload ≤ 2 ^ 31) (document : digest ≡ digest_of_document doc payload) (cut : WasCutLast s doc.id payload)
    (put : IsPut purges c new doc payload)
    (told : IsToldPlaced new.device s doc.id doc.start payload contents) (stands : AreStanding contents s c) where
  abbrev size : ℕ
  size = blocks_of (length payload)

  abbrev displaced : List Rec
  displaced = displaced_of s new.displaced

  abbrev mid : State
  mid = after_all s displaced

  abbrev row : Row
  row = placed_row mid doc.id (place_now s) size digest doc.pin

  abbrev after : State
  after = placed_behind s new doc payload digest

  kinds : AreOfDisplacement displaced
  kinds = all_displaced (last_at s) new.displaced new.displaced.places

  tape : SameTape s mid
  tape = displaced_tape s displaced kinds

  same_cursor : new.buffer.cursor ≡ c.buffer.cursor
  same_cursor = ap (λ (b : Buffer). b.cursor) put.buffer.behind

  own_bytes : bytes_at new.buffer (place_now s) size ≡ document_bytes doc payload
  own_bytes =
      let next : next_place_of c.buffer ≡ place_now s = sym held.turning.end ∙ end_is s c held in
      ap (λ p. bytes_at new.buffer p size) (sym next)
      ∙ (ap (λ n. bytes_at new.buffer (next_place_of c.buffer) n) (sym placeable.sized) ∙ put.buffer.readable)

  -- it is the document of its row
  doc_is : doc ≡ doc_of_row mid.geometry row doc.start
  doc_is = at ∙ ap (λ (g : Geometry). doc_of_row g row doc.start) (sym tape.geometry)

  -- it is recorded as its document
  own_document : IsRecordedFrom mid.geometry row doc.start payload
  own_document = record {
    digest = document ∙ ap (λ d. digest_of_document d payload) doc_is;
    blocks = refl;
    payload = cut_as_recorded (is_vector doc.id) mid.last_cut (Some (made_row (length payload) (digest_of payload).0))
        (λ fragment. tape.last_cut ∙ cut fragment);
  }

  own_content : BeginsAs mid.geometry row (bytes_at new.buffer (place_now s) size) (record { start = doc.start; payload = payload })
  own_content = record {
    start = doc.start;
    starts = λ fragment. refl;
    few = omega (arith, few);
    document = own_document;
    begins = subst (λ bytes. BeginsWith bytes (doc_of_row mid.geometry row doc.start) payload) (sym own_bytes)
        (subst (λ d. BeginsWith (document_bytes doc payload) d payload) doc_is (own_begins doc payload));
  }

  -- what is told of it is told behind what it displaces
  as_told : TellsAll new.device → IsToldAs contents mid doc.id doc.start payload
  as_told = λ tells. told_alike contents s mid doc.id doc.start payload (sym (displaced_listed s displaced doc.id kinds)) (told tells)

  own_in_buffer : TellsAll new.device → StandsInBuffer contents mid.geometry new.buffer row
  own_in_buffer = λ tells above.
      IfSome_then (contents doc.id (listed mid doc.id)) (as_told tells).content
      (λ x is. subst (BeginsAs mid.geometry row (bytes_at new.buffer (place_now s) size)) (sym is) own_content)

  own_record : IsRecordedWith mid.geometry row (record { start = doc.start; payload = payload })
  own_record = record { start = doc.start; starts = λ fragment. refl; document = own_document }

  own_recorded : TellsAll new.device → IsRecordedAs contents mid.geometry row
  own_recorded = λ tells. record {
    content = IfSome_then (contents doc.id (listed mid doc.id)) (as_told tells).content
        (λ x is. subst (IsRecordedWith mid.geometry row) (sym is) own_record);
    lists = λ vector. rw vector refl;
    unlisted = λ fragment. rw fragment refl;
    spelled = (as_told tells).spelled;
  }

  -- it is in the buffer
  not_on_device : StandsOnDevice contents after (content_of new.device) row
  not_on_device = λ low below. let cursor : mid.cursor ≡ s.cursor = tape.cursor in absurd (omega (arith, below, cursor))

  -- what was told before is told of the same device
  before : TellsAll new.device → TellsAll c.device
  before = subst TellsAll put.device

  -- the rows behind it
  placed_rows : (P : Row → Type 0) → AllByRecursion P s.rows → P row → AllByRecursion P after.rows
  placed_rows P all own =
      each_push P (without doc.id mid.rows) row (all_left P doc.id mid.rows (displaced_rows P s displaced kinds all)) own

  placed_here : AreStanding contents after new
  placed_here = record {
    buffered = λ tells.
        placed_rows (StandsInBuffer contents mid.geometry new.buffer)
        (subst (λ g. AllByRecursion (StandsInBuffer contents g new.buffer) s.rows) (sym tape.geometry)
        (still_in_buffer contents s.geometry c.buffer new.buffer (document_bytes doc payload) s.rows put.buffer same_cursor held.buffered
        (stands.buffered (before tells))))
        (own_in_buffer tells);
    written = λ tells.
        placed_rows (StandsOnDevice contents after (content_of new.device))
        (still_on_device contents s after (content_of new.device) s.rows
        (record { geometry = tape.geometry; cursor = tape.cursor; least = tape.least; last_cut = tape.last_cut })
        (subst (λ d. AllByRecursion (StandsOnDevice contents s (content_of d)) s.rows) (sym put.device) (stands.written (before tells))))
        not_on_device;
    recorded = λ tells.
        placed_rows (IsRecordedAs contents mid.geometry)
        (subst (λ g. AllByRecursion (IsRecordedAs contents g) s.rows) (sym tape.geometry) (stands.recorded (before tells)))
        (own_recorded tells);
  }

pub standing_placed : (contents : Contents) (purges : Bool) (s : State) (c new : Seen) (doc : Doc) (payload : List ℕ) (digest : Digest)
    → IsHeld s c → IsPlaceable s doc payload digest → doc ≡ doc_at s doc.id doc.pin doc.start → length payload ≤ 2 ^ 31
    → digest ≡ digest_of_document doc payload → WasCutLast s doc.id payload → IsPut purges c new doc payload → IsTurning new
    → IsToldPlaced new.device s doc.id doc.start payload contents → AreStanding contents s c
    → AreStanding contents (placed_behind s new doc payload digest) new
standing_placed contents purges s c new doc payload digest held placeable at few document cut put turning told stands =
    placed_here contents purges s c new doc payload digest held placeable at few document cut put told stands

-- ---- a piece is copied

module _ (contents : Contents) (packed : Bool) (s : State) (c new : Seen) (x : Candidate) (bytes : List ℕ) (held : IsHeld s c)
    (copyable : IsCopyable packed s x bytes) (moved : IsMoved packed c new x.id x.place bytes)
    (told : TellsAll c.device → IsToldRow contents s x bytes) (stands : AreStanding contents s c) where
  abbrev old : Row
  old = copyable.row

  abbrev digest : Digest
  digest = document_digest (moved_to (place_now s) bytes)

  abbrev copy : Row
  copy = moved_row (place_now s) digest old

  abbrev others : List Row
  others = without x.id s.rows

  abbrev behind : State
  behind = state_after s (copied_record s x bytes)

  next_is : next_place_of c.buffer ≡ place_now s
  next_is = sym held.turning.end ∙ end_is s c held

  size_is : blocks_in (moved_to (next_place_of c.buffer) bytes) ≡ old.blocks
  size_is =
      let sized : length bytes ≡ 512 * old.blocks = copyable.movable.sized in
      let as_many : length (moved_to (next_place_of c.buffer) bytes) ≡ length bytes =
      (moves_keep_lem (next_place_of c.buffer) bytes (omega (arith, sized, copyable.blocks, copyable.some))).as_many in
      omega (arith, sized, as_many)

  its_bytes : bytes_at new.buffer (place_now s) old.blocks ≡ moved_to (place_now s) bytes
  its_bytes =
      ap (λ p. bytes_at new.buffer p old.blocks) (sym next_is)
      ∙ (ap (λ n. bytes_at new.buffer (next_place_of c.buffer) n) (sym size_is)
      ∙ (moved.buffer.readable ∙ ap (λ p. moved_to p bytes) next_is))

  -- it is recorded as the document at its new place, and else as before
  copy_document : (content : Content) (is : BeginsAs s.geometry old bytes content) → IsRecordedFrom s.geometry copy is.start content.payload
  copy_document content is = record {
    digest = moved_is_recorded_lem (place_now s) bytes (doc_of_row s.geometry old is.start) content.payload is.few is.begins;
    blocks = is.document.blocks;
    payload = is.document.payload;
  }

  copy_in_buffer : TellsAll new.device → StandsInBuffer contents s.geometry new.buffer copy
  copy_in_buffer = λ tells above.
      IfSome_then (contents old.id old.alternates) (told (subst TellsAll moved.device tells) old copyable.movable.found)
      (λ content is. record {
        start = is.start;
        starts = is.starts;
        few = is.few;
        document = copy_document content is;
        begins = subst (λ l. BeginsWith l (doc_of_row s.geometry copy is.start) content.payload) (sym its_bytes)
            (moved_is_spelled_lem (place_now s) bytes (doc_of_row s.geometry old is.start) content.payload is.begins);
      })

  copy_recorded : TellsAll new.device → IsRecordedAs contents s.geometry copy
  copy_recorded = λ tells.
      let before : TellsAll c.device = subst TellsAll moved.device tells in
      let was : IsRecordedAs contents s.geometry old =
      found_row (IsRecordedAs contents s.geometry) x.id s.rows old (stands.recorded before) copyable.movable.found in
      record {
        content = IfSome_then (contents old.id old.alternates) (told before old copyable.movable.found)
            (λ content is. record { start = is.start; starts = is.starts; document = copy_document content is });
        lists = was.lists;
        unlisted = was.unlisted;
        spelled = was.spelled;
      }

  -- it is in the buffer
  copy_not_on_device : StandsOnDevice contents behind (content_of new.device) copy
  copy_not_on_device = λ low below. absurd (omega (arith, below))

  -- the rows behind it
  copied_rows : (P : Row → Type 0) → AllByRecursion P s.rows → P copy → AllByRecursion P behind.rows
  copied_rows P all own =
      subst (λ o. AllByRecursion P (others ++ map (moved_row (place_now s) digest) (option_to_list o))) (sym copyable.movable.found)
      (each_push P others copy (all_left P x.id s.rows all) own)

  copied_here : AreStanding contents behind new
  copied_here = record {
    buffered = λ tells.
        copied_rows (StandsInBuffer contents s.geometry new.buffer)
        (still_in_buffer contents s.geometry c.buffer new.buffer (moved_to (next_place_of c.buffer) bytes) s.rows moved.buffer
        (ap (λ (b : Buffer). b.cursor) moved.buffer.behind) held.buffered (stands.buffered (subst TellsAll moved.device tells)))
        (copy_in_buffer tells);
    written = λ tells.
        copied_rows (StandsOnDevice contents behind (content_of new.device))
        (subst (λ d. AllByRecursion (StandsOnDevice contents s (content_of d)) s.rows) (sym moved.device)
        (stands.written (subst TellsAll moved.device tells)))
        copy_not_on_device;
    recorded = λ tells.
        copied_rows (IsRecordedAs contents s.geometry) (stands.recorded (subst TellsAll moved.device tells)) (copy_recorded tells);
  }

pub standing_copied : (contents : Contents) (packed : Bool) (s : State) (c new : Seen) (x : Candidate) (bytes : List ℕ)
    → IsHeld s c → IsCopyable packed s x bytes → IsMoved packed c new x.id x.place bytes → IsTurning new
    → (TellsAll c.device → IsToldRow contents s x bytes) → AreStanding contents s c
    → AreStanding contents (state_after s (copied_record s x bytes)) new
standing_copied contents packed s c new x bytes held copyable moved turning told stands =
    copied_here contents packed s c new x bytes held copyable moved told stands

-- ---- behind other records

-- a fragment lists nothing in any state, so that the same is told of it
pub told_of_fragment : (contents : Contents) (device : Device) (s t : State) (id : PieceId) (start : ℕ) (payload : List ℕ)
    → is_vector id ≡ false → IsToldPlaced device s id start payload contents → IsToldPlaced device t id start payload contents
told_of_fragment contents device s t id start payload kind said = λ tells.
    let none : (u : State) → listed u id ≡ None = λ u. ap (λ b. if b then Some (list_of_put u id.put) else None) kind in
    told_alike contents s t id start payload (none s ∙ sym (none t)) (said tells)

pub stands_behind : (contents : Contents) (k new : Kept) (recs : List Rec) (c : Seen) → new ≡ with_records k recs
    → AreStanding contents (after_all (state_of k) recs) c → AreStanding contents (state_of new) c
stands_behind contents k new recs c is stands = subst (λ t. AreStanding contents t c) (sym (state_behind k new recs is)) stands
