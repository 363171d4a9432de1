-- What was read of a live piece, and what it tells.
use Rattle.std.proofs.Common.{◌≡◌, ℕ, ◌*◌, ◌/◌, ◌<◌, ◌≤◌, List, [], ◌∷◌, refl, sym, ◌∙◌, ap, subst, arith, length, inl, inr, Result, Ok, Err, ◌⊎◌}
use Rattle.std.proofs.lemmas.Bool.{leb-true}
use Rattle.device_log.proofs.Spans.{span_same}
use Rattle.std.specs.Prelude.{None, Some, IsOk}
use Rattle.std.specs.List.{AllByRecursion}
use Rattle.device_log.specs.Calls.{Call, Read, RefusedCall, ToRead}
use Rattle.device_log.specs.Causes.{Rose}
use Rattle.edge_io.specs.declared.source.Failed.{Failed}
use Rattle.tape_base.specs.declared.pieces.PieceId.{PieceId}
use Rattle.tape_base.specs.declared.digests.Digest.{Digest}
use Rattle.tape_base.specs.Place.{block_of}
use Rattle.device_log.specs.Image.{span}
use Rattle.logged_disk.specs.Device.{DeviceState as Device, IsTrusted, TellsAll, seen as content_of}
use Rattle.logged_disk.proofs.GoingOn.{told_before}
use Rattle.doc_header.specs.Reading.{document_digest}
use Rattle.cyclone.specs.Cyclone.{ReadsBlocks, Seen}
use Rattle.cyclone.proofs.Calls.{reads_go_on, reads_same}
use Rattle.cache_model.specs.declared.cause.Cause.{Cause}
use Rattle.cache_model.specs.declared.cause.Cause.TheVariants as cause
use Rattle.cache_model.specs.declared.record.Rec.TheVariants as rec
use Rattle.cache_model.specs.State.{State, Row, floor_now, live_row_of, row_in, state_after}
use Rattle.cache_model.specs.Permit.{IsAmong, Permit}
use Rattle.cache_model.specs.Given.{CountsRead, Denied, IsGiven, Trouble, effects_told}
use Rattle.cache_model.specs.Verdict.{cause_of_piece}
use Rattle.cache_model.proofs.Lists.{found_row, own_piece}
use Rattle.piece_answers.specs.declared.answer.Found.{Found}
use Rattle.piece_answers.specs.declared.answer.Found.TheVariants as found
use Rattle.held_pieces.specs.Held.{IsBufferedWhereNew, IsHeld, IsIntactWhereWritten}
use Rattle.cache_model.specs.Damage.{TellNoDamage}
use Rattle.piece_answers.specs.Covers.{AllReadIsSeen, Covers, ReadIsSeen}
use Rattle.piece_answers.specs.Faults.{HasEffects}
use Rattle.cache_model.specs.Contents.{Contents}
use Rattle.piece_answers.specs.Standing.{AreStanding}
use Rattle.cache_model.specs.Troubles.{cause_records}
use Rattle.piece_answers.specs.Find.{Finds, HasPayload, IsFoundAs, IsJudged, IsRecorded, TellsCount, find_adds, found_records, judged_records}
use Rattle.piece_answers.proofs.Effects.{effects_none}
use Rattle.piece_answers.proofs.Covering.{made_is}
use Rattle.held_pieces.proofs.Candidates.{live_is}
use Rattle.stripe_pieces.proofs.Payloads.{content_by, found_content}

-- ---- records

-- the piece that is live is the one that was recorded
own_name : (s : State) (id : PieceId) (row : Row) → live_row_of s id ≡ Some row → row.id ≡ id
own_name s id row live = own_piece id s.rows row (live_is s (row_in s.rows id) row live).0

pub judged_adds : (s : State) (id : PieceId) (place blocks : ℕ) (kept : Digest) (bytes : List ℕ) (answer : Found) (into : List ℕ) → IsRecorded s id place blocks kept
    → IsJudged place kept bytes answer into → judged_records id place answer ≡ find_adds s id answer
judged_adds s id place blocks kept bytes (found.Found size) into r j = rw r.live refl
judged_adds s id place blocks kept bytes (found.Missing why) into r j =
    rw (j.0, r.live) (ap (λ (i : PieceId). Rattle.cache_model.specs.declared.record.Rec.TheVariants.Damaged i place kept (document_digest bytes) ∷ []) (sym (own_name s id r.row r.live))
    ∙ ap (λ p. Rattle.cache_model.specs.declared.record.Rec.TheVariants.Damaged r.row.id p kept (document_digest bytes) ∷ []) (sym r.place_is))

-- ---- the call of a read

-- the piece's bytes are those of a call of the step
pub given_read : (p : Permit) (t : State) (c new : Seen) (row : Row) (bytes : List ℕ) → c.geometry ≡ t.geometry → row.place < c.buffer.cursor → row.place < t.cursor
    → ReadsBlocks c new row.place row.blocks (Ok tt) bytes → Covers p c.device.past new.device.past → IsGiven p t row bytes
given_read p t c new row bytes same from below read covers = record {
  written = below;
  given = subst (λ at. IsAmong (Read at bytes) p.events) (ap (λ g. block_of g row.place) same)
      (covers.knows (Read (block_of c.geometry row.place) bytes ∷ []) (read.logs from).past).0;
  whole = read.length;
  of_bytes = read.of_bytes;
}

pub effects_read : (c new : Seen) (place blocks : ℕ) (bytes : List ℕ) → place < c.buffer.cursor → ReadsBlocks c new place blocks (Ok tt) bytes → HasEffects c.device.past new.device.past []
effects_read c new place blocks bytes from read = record { made = Read (block_of c.geometry place) bytes ∷ []; past = (read.logs from).past; are = refl }

pub effects_failed : (c new : Seen) (place blocks : ℕ) (bytes : List ℕ) (e : Failed) (count : ℕ) → place < c.buffer.cursor → ReadsBlocks c new place blocks (Err e) bytes → count ≡ new.device.faults
    → HasEffects c.device.past new.device.past (Denied count ∷ [])
effects_failed c new place blocks bytes e count from read is = record {
  made = RefusedCall (ToRead (block_of c.geometry place) (length bytes / 512)) new.device.faults ∷ [];
  past = (read.logs from).0;
  are = ap (λ n. Denied n ∷ []) (sym is);
}

pub lower_rose : (a b n : ℕ) → a ≤ b → Rose b n → Rose a n
lower_rose a b n h r = omega arith

-- the count is that of a call of the step that was refused
pub counts_read : (p : Permit) (t : State) (c new : Seen) (row : Row) (bytes : List ℕ) (e : Failed) (count : ℕ) → c.geometry ≡ t.geometry → row.place < c.buffer.cursor
    → ReadsBlocks c new row.place row.blocks (Err e) bytes → count ≡ new.device.faults → t.fault ≤ c.device.faults → Covers p c.device.past new.device.past → CountsRead p t row count
counts_read p t c new row bytes e count same from read is low covers =
    let few : length bytes / 512 ≡ row.blocks = (let whole : length bytes ≡ 512 * row.blocks = read.length in omega (arith, whole)) in
    let rose : Rose c.device.faults new.device.faults = read.cause.failed in
    record {
      rose = rw is (lower_rose t.fault c.device.faults new.device.faults low rose);
      refused = subst (λ call. IsAmong call p.events)
          (ap (λ at. RefusedCall (ToRead at (length bytes / 512)) new.device.faults) (ap (λ g. block_of g row.place) same)
          ∙ (ap (λ n. RefusedCall (ToRead (block_of t.geometry row.place) n) new.device.faults) few
          ∙ ap (λ n. RefusedCall (ToRead (block_of t.geometry row.place) row.blocks) n) (sym is)))
          (covers.knows (RefusedCall (ToRead (block_of c.geometry row.place) (length bytes / 512)) new.device.faults ∷ []) (read.logs from).0).0;
    }

-- where no call was made, nothing was read
none_seen : (old new : Device) → new.past ≡ old.past → AllReadIsSeen old new
none_seen old new same = λ made past trusted. subst (AllByRecursion (ReadIsSeen new)) (sym (made_is old.past new.past made [] same past)) tt

-- ---- bytes that were read

module _ (s : State) (c new : Seen) (id : PieceId) (row : Row) (bytes into : List ℕ) (held : IsHeld s c) (live : live_row_of s id ≡ Some row)
    (read : ReadsBlocks c new row.place row.blocks (Ok tt) bytes) where
  whole : length bytes ≡ 512 * row.blocks
  whole = read.length

  -- what stands in the buffer has its digest
  own_digest : s.cursor ≤ row.place → row.digest ≡ document_digest bytes
  own_digest above =
      let from : c.buffer.cursor ≤ row.place = omega (arith, above, held.cursor) in
      let here = found_row (IsBufferedWhereNew c.buffer) id s.rows row held.buffered (live_is s (row_in s.rows id) row live).0 in
      sym (ap document_digest (read.buffered from) ∙ (here from).digest)

  from_device : row.place < s.cursor → row.place < c.buffer.cursor
  from_device below = omega (arith, below, held.cursor)

  abbrev given : Call
  given = Read (block_of c.geometry row.place) bytes

  -- where the device is trusted, what it gave is what is seen
  shown : row.place < s.cursor → IsTrusted new.device → bytes ≡ span (content_of new.device) (block_of c.geometry row.place) (length bytes / 512)
  shown below trusted =
      let count : row.blocks ≡ length bytes / 512 = omega (arith, whole) in
      read.given (from_device below) trusted
      ∙ (span_same (content_of c.device) (content_of new.device) (block_of c.geometry row.place) row.blocks (λ j low high. sym (reads_same c new row.place row.blocks (Ok tt) bytes read j))
      ∙ ap (span (content_of new.device) (block_of c.geometry row.place)) count)

  all_shown : row.place < s.cursor → AllReadIsSeen c.device new.device
  all_shown below = λ made past trusted.
      subst (AllByRecursion (ReadIsSeen new.device)) (sym (made_is c.device.past new.device.past made (given ∷ []) (read.logs (from_device below)).past past)) (shown below trusted, tt)

  -- bytes from the device
  told_by : (p : Permit) (answer : Found) → row.place < s.cursor → Covers p c.device.past new.device.past → IsJudged row.place row.digest bytes answer into → IsFoundAs p s id (Some row) answer into
  told_by p (found.Found size) below covers j = record {
    bytes = bytes;
    whole = whole;
    of_bytes = read.of_bytes;
    digest = j.0;
    given = λ w. given_read p s c new row bytes held.geometry (from_device below) below read covers;
    size_is = j.1;
    payload = j.2;
  }
  told_by p (found.Missing why) below covers j =
      subst (λ (y : Cause). Trouble p s row (cause_records row y) y) (sym j.0)
      (Trouble.damaged (document_digest bytes) (record {
        bytes = bytes;
        given = given_read p s c new row bytes held.geometry (from_device below) below read covers;
        digest = refl;
        differ = j.1;
      }))

  -- bytes from the buffer
  kept_by : (p : Permit) (answer : Found) → s.cursor ≤ row.place → IsJudged row.place row.digest bytes answer into → IsFoundAs p s id (Some row) answer into
  kept_by p (found.Found size) above j = record { bytes = bytes; whole = whole; of_bytes = read.of_bytes; digest = j.0; given = λ w. absurd (below_not_above w above); size_is = j.1; payload = j.2 }
    where
      below_not_above : row.place < s.cursor → s.cursor ≤ row.place → ⊥
      below_not_above w a = omega (arith, w, a)
  kept_by p (found.Missing why) above j = absurd (j.1 (own_digest above))

  -- what was read tells no fault
  judged_quiet : (answer : Found) → IsJudged row.place row.digest bytes answer into → effects_told (find_adds s id answer) ≡ []
  judged_quiet (found.Found size) j = rw live refl
  judged_quiet (found.Missing why) j = rw (j.0, live) refl

  no_count : (answer : Found) → IsJudged row.place row.digest bytes answer into → TellsCount (Some row) new.device.faults answer
  no_count (found.Found size) j = tt
  no_count (found.Missing why) j = subst (λ (y : Cause). TellsCount (Some row) new.device.faults (found.Missing y)) (sym j.0) tt

  -- where the device tells its content, it is what is told of the piece
  payload_by : (answer : Found) → ((s.cursor ≤ row.place) ⊎ (row.place < s.cursor)) → IsJudged row.place row.digest bytes answer into
      → TellsAll new.device → (contents : Contents) → AreStanding contents s c → HasPayload contents (live_row_of s id) answer into
  payload_by answer side j told contents stands =
      subst (λ o. HasPayload contents o answer into) (sym live)
      (found_content contents s.geometry row.place row bytes into answer (content_by s c new id row bytes held live read side told contents stands) j)

  finds_by : (answer : Found) → ((s.cursor ≤ row.place) ⊎ (row.place < s.cursor)) → IsJudged row.place row.digest bytes answer into → Finds s c new id answer into
  finds_by answer (inl above) j =
      let still : new.device ≡ c.device = read.none (omega (arith, above, held.cursor)) in
      let past : new.device.past ≡ c.device.past = ap (λ (d : Device). d.past) still in
      record {
        seen = none_seen c.device new.device past;
        faults = subst (HasEffects c.device.past new.device.past) (sym (judged_quiet answer j)) (effects_none c.device.past new.device.past past);
        counted = subst (λ o. TellsCount o new.device.faults answer) (sym live) (no_count answer j);
        contents = payload_by answer (inl above) j;
        answers = λ p covers. subst (λ o. IsFoundAs p s id o answer into) (sym live) (kept_by p answer above j);
      }
  finds_by answer (inr below) j = record {
    seen = all_shown below;
    faults = subst (HasEffects c.device.past new.device.past) (sym (judged_quiet answer j)) (effects_read c new row.place row.blocks bytes (from_device below) read);
    counted = subst (λ o. TellsCount o new.device.faults answer) (sym live) (no_count answer j);
    contents = payload_by answer (inr below) j;
    answers = λ p covers. subst (λ o. IsFoundAs p s id o answer into) (sym live) (told_by p answer below covers j);
  }

  -- where the device tells its content, what was read has the recorded digest
  pub right_by : ((s.cursor ≤ row.place) ⊎ (row.place < s.cursor)) → TellsAll new.device → row.digest ≡ document_digest bytes
  right_by (inl above) told = own_digest above
  right_by (inr below) told =
      let before : TellsAll c.device = told_before c.device new.device (reads_go_on c new row.place row.blocks (Ok tt) bytes read) told in
      let found = live_is s (row_in s.rows id) row live in
      let i = found_row (IsIntactWhereWritten s (content_of c.device)) id s.rows row (held.intact before) found.0 (leb-true (floor_now s) row.place found.1) below in
      sym (ap document_digest (read.given (omega (arith, below, held.cursor)) told.trusted ∙ ap (λ g. span (content_of c.device) (block_of g row.place) row.blocks) held.geometry) ∙ i.digest)

  no_damage_by : (answer : Found) → ((s.cursor ≤ row.place) ⊎ (row.place < s.cursor)) → IsJudged row.place row.digest bytes answer into → TellsAll new.device → TellNoDamage (find_adds s id answer)
  no_damage_by (found.Found size) side j told = rw live tt
  no_damage_by (found.Missing why) side j told = absurd (j.1 (right_by side told))

either_side : (a b : ℕ) → ((a ≤ b) ⊎ (b < a))
either_side a b = grind arith

pub finds_read : (s : State) (c new : Seen) (id : PieceId) (place blocks : ℕ) (kept : Digest) (bytes into : List ℕ) (answer : Found) → IsHeld s c
    → IsRecorded s id place blocks kept → ReadsBlocks c new place blocks (Ok tt) bytes → IsJudged place kept bytes answer into → Finds s c new id answer into
finds_read s c new id place blocks kept bytes into answer held r read j =
    let here : ReadsBlocks c new r.row.place r.row.blocks (Ok tt) bytes =
    subst (λ n. ReadsBlocks c new r.row.place n (Ok tt) bytes) (sym r.blocks_is) (subst (λ p. ReadsBlocks c new p blocks (Ok tt) bytes) (sym r.place_is) read) in
    let judged : IsJudged r.row.place r.row.digest bytes answer into =
    subst (λ d. IsJudged r.row.place d bytes answer into) (sym r.digest_is) (subst (λ p. IsJudged p kept bytes answer into) (sym r.place_is) j) in
    finds_by s c new id r.row bytes into held r.live here answer (either_side s.cursor r.row.place) judged

-- the same behind what the device did not do
pub finds_in : (s : State) (c mid new : Seen) (id : PieceId) (answer : Found) (into : List ℕ) → new.device ≡ mid.device → Finds s c mid id answer into
    → Finds s c new id answer into
finds_in s c mid new id answer into same f = record {
  seen = subst (AllReadIsSeen c.device) (sym same) f.seen;
  faults = subst (λ (d : Device). HasEffects c.device.past d.past (effects_told (find_adds s id answer))) (sym same) f.faults;
  counted = subst (λ (d : Device). TellsCount (live_row_of s id) d.faults answer) (sym same) f.counted;
  contents = λ told. f.contents (subst TellsAll same told);
  answers = λ p covers. f.answers p (subst (λ (d : Device). Covers p c.device.past d.past) same covers);
}

pub finds_no_damage : (s : State) (c new : Seen) (id : PieceId) (place blocks : ℕ) (kept : Digest) (bytes into : List ℕ) (answer : Found) → IsHeld s c
    → IsRecorded s id place blocks kept → ReadsBlocks c new place blocks (Ok tt) bytes → IsJudged place kept bytes answer into → TellsAll new.device → TellNoDamage (find_adds s id answer)
finds_no_damage s c new id place blocks kept bytes into answer held r read j told =
    let here : ReadsBlocks c new r.row.place r.row.blocks (Ok tt) bytes =
    subst (λ n. ReadsBlocks c new r.row.place n (Ok tt) bytes) (sym r.blocks_is) (subst (λ p. ReadsBlocks c new p blocks (Ok tt) bytes) (sym r.place_is) read) in
    let judged : IsJudged r.row.place r.row.digest bytes answer into =
    subst (λ d. IsJudged r.row.place d bytes answer into) (sym r.digest_is) (subst (λ p. IsJudged p kept bytes answer into) (sym r.place_is) j) in
    no_damage_by s c new id r.row bytes into held r.live here answer (either_side s.cursor r.row.place) judged told

-- ---- a device that refused

-- its fault is of no piece
pub fault_stands : (contents : Contents) (s : State) (c : Seen) (count : ℕ) → AreStanding contents s c → AreStanding contents (state_after s (rec.Fault count)) c
fault_stands contents s c count stands =
    record { buffered = stands.buffered; written = stands.written; recorded = stands.recorded }

abbrev failed : Failed → Result (Unit {0}) Failed
failed e = Err e

written_by : (s : State) (c : Seen) (place : ℕ) (e : Failed) → IsHeld s c → (c.buffer.cursor ≤ place → IsOk (failed e)) → ((s.cursor ≤ place) ⊎ (place < s.cursor)) → place < s.cursor
written_by s c place e held ok (inl above) = let clash : IsOk (failed e) = ok (omega (arith, above, held.cursor)) in cc
written_by s c place e held ok (inr below) = below

module _ (s : State) (c new : Seen) (id : PieceId) (row : Row) (count : ℕ) (bytes into : List ℕ) (e : Failed) (held : IsHeld s c) (live : live_row_of s id ≡ Some row)
    (read : ReadsBlocks c new row.place row.blocks (Err e) bytes) (below : row.place < s.cursor) (is : count ≡ new.device.faults) where
  beneath : row.place < c.buffer.cursor
  beneath = omega (arith, below, held.cursor)

  fault_by : Finds s c new id (found.Missing (cause.DeviceFault count)) into
  fault_by = record {
    seen = λ made past trusted.
        subst (AllByRecursion (ReadIsSeen new.device)) (sym (made_is c.device.past new.device.past made
        (RefusedCall (ToRead (block_of c.geometry row.place) (length bytes / 512)) new.device.faults ∷ []) (read.logs beneath).0 past)) (tt, tt);
    faults = subst (HasEffects c.device.past new.device.past) (sym (ap (λ o. effects_told (found_records o (found.Missing (cause.DeviceFault count)))) live))
        (effects_failed c new row.place row.blocks bytes e count beneath read is);
    counted = subst (λ o. TellsCount o new.device.faults (found.Missing (cause.DeviceFault count))) (sym live) is;
    contents = λ told contents stands. subst (λ o. HasPayload contents o (found.Missing (cause.DeviceFault count)) into) (sym live) tt;
    answers = λ p covers.
        subst (λ o. IsFoundAs p s id o (found.Missing (cause.DeviceFault count)) into) (sym live)
        (Trouble.faulted count below (counts_read p s c new row bytes e count held.geometry beneath read is held.faults covers));
  }

pub finds_fault : (s : State) (c new : Seen) (id : PieceId) (place blocks count : ℕ) (kept : Digest) (bytes into : List ℕ) (e : Failed) → IsHeld s c
    → IsRecorded s id place blocks kept → ReadsBlocks c new place blocks (Err e) bytes → (c.buffer.cursor ≤ place → IsOk (failed e)) → count ≡ new.device.faults
    → Finds s c new id (found.Missing (cause.DeviceFault count)) into
finds_fault s c new id place blocks count kept bytes into e held r read ok is =
    let below : place < s.cursor = written_by s c place e held ok (either_side s.cursor place) in
    let here : ReadsBlocks c new r.row.place r.row.blocks (Err e) bytes =
    subst (λ n. ReadsBlocks c new r.row.place n (Err e) bytes) (sym r.blocks_is) (subst (λ p. ReadsBlocks c new p blocks (Err e) bytes) (sym r.place_is) read) in
    fault_by s c new id r.row count bytes into e held r.live here (subst (λ n. n < s.cursor) (sym r.place_is) below) is

-- of a piece that is not live
pub finds_nothing : (s : State) (c : Seen) (id : PieceId) (into : List ℕ) → live_row_of s id ≡ None → Finds s c c id (found.Missing (cause_of_piece s id)) into
finds_nothing s c id into none = record {
  seen = none_seen c.device c.device refl;
  faults = subst (λ o. HasEffects c.device.past c.device.past (effects_told (found_records o (found.Missing (cause_of_piece s id))))) (sym none)
      (effects_none c.device.past c.device.past refl);
  counted = subst (λ o. TellsCount o c.device.faults (found.Missing (cause_of_piece s id))) (sym none) tt;
  contents = λ told contents stands. subst (λ o. HasPayload contents o (found.Missing (cause_of_piece s id)) into) (sym none) tt;
  answers = λ p covers. subst (λ o. IsFoundAs p s id o (found.Missing (cause_of_piece s id)) into) (sym none) refl;
}
