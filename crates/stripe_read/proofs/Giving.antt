-- What a reader is given, and that it was read on as asked.
use Rattle.std.proofs.Common.{◌≡◌, ℕ, ◌≤◌, List, [], ◌∷◌, ◌++◌, refl, sym, ◌∙◌, ap, subst, inl, inr, ◌⊎◌, false}
use Rattle.std.specs.declared.alloc.AllocError.{AllocError}
use Rattle.std.specs.Prelude.{Option, Some, None, Result, Ok, Err, IfOk, option_and_then, option_map, unwrap_or}
use Rattle.tape_base.specs.declared.digests.Digest.{Digest}
use Rattle.tape_base.specs.declared.pieces.PieceId.{PieceId}
use Rattle.device_log.specs.Calls.{Call}
use Rattle.logged_disk.specs.Device.{DeviceState as Device, TellsAll}
use Rattle.fragment_table.specs.Table.{TableRow}
use Rattle.cyclone.specs.Cyclone.{Seen}
use Rattle.cache_model.specs.declared.cause.Cause.{Cause}
use Rattle.cache_model.specs.declared.cause.Cause.TheVariants as cause
use Rattle.cache_model.specs.declared.answer.NextAnswer.TheVariants as next
use Rattle.cache_model.specs.State.{Closed, GivenUp, Open, PutRow, ReaderRow, Row, State, Writing, after_all, live_row_of, put_of}
use Rattle.cache_model.specs.Kept.{Kept, state_of, with_records}
use Rattle.cache_model.specs.Verdict.{cause_of_piece, digest_in, next_piece, next_row, reader_verdict, verdict_at_end, verdict_of_followed, verdict_of_fragment, verdict_of_writing}
use Rattle.cache_model.specs.Permit.{Done, Permit, ReadOn}
use Rattle.cache_model.specs.Given.{IsReadWhereLive}
use Rattle.cache_model.specs.Legal.{Does, IsAsListed, IsNextAsListed, IsQuiet, IsReading, answer_record, live_next}
use Rattle.cache_model.proofs.Found.{end_gives_none, no_truth}
use Rattle.cache_model.specs.Contents.{Contents}
use Rattle.piece_answers.specs.declared.answer.Found.{Found}
use Rattle.piece_answers.specs.declared.answer.Found.TheVariants as found
use Rattle.stripe_answers.specs.Acts.{NotesAsAsked}
use Rattle.piece_answers.specs.Covers.{AllReadIsSeen, Covers}
use Rattle.piece_answers.proofs.Covering.{own_covers, own_permit}
use Rattle.cache_model.specs.Troubles.{cause_records}
use Rattle.piece_answers.specs.Find.{HasPayload, find_adds, found_records}
use Rattle.piece_answers.specs.Standing.{AreStanding}
use Rattle.stripe_read.specs.declared.reader.Reader.{Reader}
use Rattle.cache_answers.specs.declared.answers.NextPiece.{NextPiece}
use Rattle.cache_answers.specs.declared.answers.NextPiece.TheVariants as piece
use Rattle.stripe_read.specs.Readers.{rows_hit, reading_as}
use Rattle.stripe_read.specs.Fetches.{Fetches, IsFetched, IsOtherPiece}
use Rattle.stripe_read.specs.Nexts.{BreakIsCounted, HasNext, ReadsOn}
use Rattle.stripe_vectors.proofs.Counting.{cause_counted}
use Rattle.stripe_vectors.proofs.Finding.{found_same}
use Rattle.stripe_answers.proofs.Seeing.{seen_before, seen_none}
use Rattle.stripe_read.proofs.Comparing.{is_read, unlike_row}
use Rattle.stripe_read.proofs.Staying.{is_gave, two_calls}
use Rattle.stripe_read.proofs.Counted.{of_live}
use Rattle.stripe_read.specs.Troubles.{TroubleIsCounted}
use Rattle.cache_calls.specs.Actors.{IsReaderOf, as_row, row_by}
use Rattle.cache_calls.specs.Readers.{noted, listed_length, next_trouble, read_adds, IsFragment, IsGivenAs, IsOtherNext, next_behind, IsBehindAnswer}
use Rattle.cache_calls.specs.Standing.{GivesPayload}

-- ---- verdicts

verdict_live : (s : State) (r : ReaderRow) (entry : TableRow) (row : Row) → next_row s r ≡ Some entry → live_row_of s (next_piece r) ≡ Some row → reader_verdict s r ≡ next.Gave r.next entry.length
verdict_live s r entry row cut live =
    ap (λ o. unwrap_or (option_map (verdict_of_fragment s r) o) (verdict_at_end s r r.table)) cut
    ∙ ap (λ o. unwrap_or (option_map (λ (x : Row). next.Gave r.next entry.length) o) (next.Broke (cause_of_piece s (next_piece r)))) live

verdict_lost : (s : State) (r : ReaderRow) (entry : TableRow) → next_row s r ≡ Some entry → live_row_of s (next_piece r) ≡ None → reader_verdict s r ≡ next.Broke (cause_of_piece s (next_piece r))
verdict_lost s r entry cut gone =
    ap (λ o. unwrap_or (option_map (verdict_of_fragment s r) o) (verdict_at_end s r r.table)) cut
    ∙ ap (λ o. unwrap_or (option_map (λ (x : Row). next.Gave r.next entry.length) o) (next.Broke (cause_of_piece s (next_piece r)))) gone

verdict_end : (s : State) (r : ReaderRow) → next_row s r ≡ None → reader_verdict s r ≡ verdict_at_end s r r.table
verdict_end s r none = ap (λ o. unwrap_or (option_map (verdict_of_fragment s r) o) (verdict_at_end s r r.table)) none

next_live : (s : State) (r : ReaderRow) (entry : TableRow) → next_row s r ≡ Some entry → live_next s r ≡ live_row_of s (next_piece r)
next_live s r entry cut = ap (option_and_then (λ (x : TableRow). live_row_of s (next_piece r))) cut

next_none : (s : State) (r : ReaderRow) → next_row s r ≡ None → live_next s r ≡ None
next_none s r none = ap (option_and_then (λ (x : TableRow). live_row_of s (next_piece r))) none

-- ---- the fragment that it takes next, as it is listed

next_as_listed : (s : State) (r : ReaderRow) (entry : TableRow) (row : Row) → next_row s r ≡ Some entry → live_row_of s (next_piece r) ≡ Some row → IsAsListed row entry → IsNextAsListed s r
next_as_listed s r entry row cut live is = λ e x cut_now live_now.
    let cuts : Some entry ≡ Some e = sym cut ∙ cut_now in
    let lives : Some row ≡ Some x = sym live ∙ live_now in
    let same : entry ≡ e = cc in
    let rows : row ≡ x = cc in
    subst (IsAsListed x) same (subst (λ (y : Row). IsAsListed y entry) rows is)

lost_as_listed : (s : State) (r : ReaderRow) → live_row_of s (next_piece r) ≡ None → IsNextAsListed s r
lost_as_listed s r gone = λ e x cut live. let no : None ≡ Some x = sym gone ∙ live in cc

end_as_listed : (s : State) (r : ReaderRow) → next_row s r ≡ None → IsNextAsListed s r
end_as_listed s r none = λ e x cut live. let no : None ≡ Some e = sym none ∙ cut in cc

-- ---- it was read on

no_trouble : (o : Option Row) (index size : ℕ) → next_trouble o (piece.Piece index size) ≡ []
no_trouble None index size = refl
no_trouble (Some row) index size = refl

not_missing : (size : ℕ) (why : Cause) → found.Found size ≡ found.Missing why → ⊥
not_missing size why h = cc

-- its record
given_adds : (s : State) (r : Reader) (entry : TableRow) (size : ℕ) → next_row s (as_row (reading_as r)) ≡ Some entry
    → read_adds s (reading_as r) (piece.Piece r.next size) ≡ answer_record r.reader (next.Gave r.next entry.length) ∷ []
given_adds s r entry size cut =
    ap (λ recs. recs ++ answer_record r.reader (next.Gave r.next (listed_length s (reading_as r))) ∷ [])
    (no_trouble (live_next s (as_row (reading_as r))) r.next size)
    ∙ ap (λ o. answer_record r.reader (next.Gave r.next (unwrap_or (option_map (λ (x : TableRow). x.length) o) 0)) ∷ []) cut

-- a fragment that is given
module _ (p : Permit) (s : State) (r : Reader) (entry : TableRow) (size : ℕ) (into : List ℕ) (cut : next_row s (as_row (reading_as r)) ≡ Some entry) where
  given_does : NotesAsAsked r.reader (next.Gave r.next entry.length) → (o : Option Row) (own : IsReaderOf s (reading_as r)) → IsQuiet s → live_row_of s (next_piece (as_row (reading_as r))) ≡ o → IsFetched p s (next_piece (as_row (reading_as r))) o entry (found.Found size) into
      → Does p s (ReadOn r.reader) (read_adds s (reading_as r) (piece.Piece r.next size)) Done
  given_does notes None own quiet live h = absurd (not_missing size (cause_of_piece s (next_piece (as_row (reading_as r)))) h)
  given_does notes (Some row) own quiet live h =
      let mine : ReaderRow = row_by own.actor (reading_as r) in
      let was : IsReadWhereLive p s (live_next s mine) = subst (IsReadWhereLive p s) (sym (next_live s mine entry cut ∙ live)) (is_read p s row size into h.0) in
      subst (λ recs. Does p s (ReadOn r.reader) recs Done) (sym (given_adds s r entry size cut))
      (notes p s mine [] quiet own.found
      (subst (IsReading p s mine []) (verdict_live s mine entry row cut live) (IsReading.verdict was (next_as_listed s mine entry row cut live h.1))))

  given_is : (o : Option Row) → live_row_of s (next_piece (as_row (reading_as r))) ≡ o → IsFetched p s (next_piece (as_row (reading_as r))) o entry (found.Found size) into → IsFragment p s (reading_as r) r.next size into
  given_is None live h = absurd (not_missing size (cause_of_piece s (next_piece (as_row (reading_as r)))) h)
  given_is (Some row) live h = record {
    entry = entry;
    row = row;
    index_is = refl;
    cut = cut;
    live = live;
    document = h.0;
    listed = h.1;
  }

-- the records of one that is not
broken_adds : (s : State) (r : Reader) (entry : TableRow) (why : Cause) → next_row s (as_row (reading_as r)) ≡ Some entry → (o : Option Row)
    → live_row_of s (next_piece (as_row (reading_as r))) ≡ o
    → read_adds s (reading_as r) (piece.Broken why) ≡ next_trouble o (piece.Broken why) ++ answer_record r.reader (next.Broke why) ∷ []
broken_adds s r entry why cut o live =
    ap (λ x. next_trouble x (piece.Broken why) ++ answer_record r.reader (next.Broke why) ∷ [])
    (next_live s (as_row (reading_as r)) entry cut ∙ live)

-- a fragment that is not
module _ (p : Permit) (s : State) (r : Reader) (entry : TableRow) (why : Cause) (into : List ℕ) (cut : next_row s (as_row (reading_as r)) ≡ Some entry) where
  broken_reading : (own : IsReaderOf s (reading_as r)) (o : Option Row) → live_row_of s (next_piece (as_row (reading_as r))) ≡ o → IsFetched p s (next_piece (as_row (reading_as r))) o entry (found.Missing why) into
      → IsReading p s (row_by own.actor (reading_as r)) (next_trouble o (piece.Broken why)) (next.Broke why)
  broken_reading own None gone h =
      let mine : ReaderRow = row_by own.actor (reading_as r) in
      let is : cause_of_piece s (next_piece mine) ≡ why = cc in
      subst (IsReading p s mine []) (verdict_lost s mine entry cut gone ∙ ap next.Broke is)
      (IsReading.verdict (subst (IsReadWhereLive p s) (sym (next_live s mine entry cut ∙ gone)) tt) (lost_as_listed s mine gone))
  broken_reading own (Some row) live h = IsReading.trouble entry row (cause_records row why) why cut live h

  broken_does : NotesAsAsked r.reader (next.Broke why) → (own : IsReaderOf s (reading_as r)) → IsQuiet s → IsFetched p s (next_piece (as_row (reading_as r))) (live_row_of s (next_piece (as_row (reading_as r)))) entry (found.Missing why) into
      → Does p s (ReadOn r.reader) (read_adds s (reading_as r) (piece.Broken why)) Done
  broken_does notes own quiet h =
      let o : Option Row = live_row_of s (next_piece (as_row (reading_as r))) in
      subst (λ recs. Does p s (ReadOn r.reader) recs Done) (sym (broken_adds s r entry why cut o refl))
      (notes p s (row_by own.actor (reading_as r)) (next_trouble o (piece.Broken why)) quiet own.found (broken_reading own o refl h))

-- ---- behind the call of the piece

trouble_same : (o : Option Row) (why : Cause) → found_records o (found.Missing why) ≡ next_trouble o (piece.Broken why)
trouble_same None why = refl
trouble_same (Some row) why = refl

module _ (k k1 k2 : Kept) (r : Reader) (id : PieceId) (cut : ℕ) (digest : Digest) where
  pub piece_kept : (size : ℕ) → HasNext (state_of k) r cut digest → k1 ≡ with_records k (find_adds (state_of k) id (found.Found size))
      → k2 ≡ with_records k1 (answer_record r.reader (next.Gave r.next cut) ∷ [])
      → k2 ≡ with_records k (read_adds (state_of k) (reading_as r) (piece.Piece r.next size))
  piece_kept size has adds notes =
      notes
      ∙ (ap (λ x. with_records x (answer_record r.reader (next.Gave r.next cut) ∷ []))
      (found_same k k1 (live_row_of (state_of k) id) size adds)
      ∙ (ap (λ n. with_records k (answer_record r.reader (next.Gave r.next n) ∷ [])) (sym has.length_is)
      ∙ ap (with_records k) (sym (given_adds (state_of k) r has.row size has.found))))

  pub broken_kept : (why : Cause) → HasNext (state_of k) r cut digest → id ≡ next_piece (as_row (reading_as r))
      → k1 ≡ with_records k (find_adds (state_of k) id (found.Missing why))
      → k2 ≡ with_records k1 (answer_record r.reader (next.Broke why) ∷ [])
      → k2 ≡ with_records k (read_adds (state_of k) (reading_as r) (piece.Broken why))
  broken_kept why has id_is adds notes =
      two_calls k k1 k2 (find_adds (state_of k) id (found.Missing why)) (answer_record r.reader (next.Broke why) ∷ []) adds notes
      ∙ (ap (λ recs. with_records k (recs ++ answer_record r.reader (next.Broke why) ∷ [])) (trouble_same (live_row_of (state_of k) id) why)
      ∙ ap (with_records k) (sym
      (broken_adds (state_of k) r has.row why has.found (live_row_of (state_of k) id) (ap (live_row_of (state_of k)) (sym id_is)))))

-- ---- what the device gave

-- why a fragment is missing is no count to which the device has not come
fetched_counted : (p : Permit) (s : State) (faults : ℕ) (id : PieceId) (o : Option Row) (entry : TableRow) (why : Cause) (into : List ℕ) → (after_all s (found_records o (found.Missing why))).fault ≤ faults
    → IsFetched p s id o entry (found.Missing why) into → (why ≡ cause_of_piece s id) ⊎ TroubleIsCounted faults o why
fetched_counted p s faults id None entry why into reached h = inl cc
fetched_counted p s faults id (Some row) entry why into reached h = inr (of_live faults (Some row) why (cause_counted s row why faults reached) refl)

-- how the put stands is no count of the device
writing_counted : (faults : ℕ) (o : Option Row) (w : PutRow) (writing : Writing) (why : Cause) → next.Broke why ≡ verdict_of_writing w writing
    → TroubleIsCounted faults o why
writing_counted faults o w Open why h = cc
writing_counted faults o w Closed why h = cc
writing_counted faults o w GivenUp why h = let is : cause.Aborted w.put ≡ why = cc in subst (TroubleIsCounted faults o) is tt

followed_counted : (faults : ℕ) (o : Option Row) (row : Option PutRow) (why : Cause) → next.Broke why ≡ verdict_of_followed row
    → TroubleIsCounted faults o why
followed_counted faults o None why h = cc
followed_counted faults o (Some w) why h = writing_counted faults o w w.writing why h

end_counted : (faults : ℕ) (o : Option Row) (s : State) (r : ReaderRow) (t : Option (List TableRow)) (why : Cause) → next.Broke why ≡ verdict_at_end s r t
    → TroubleIsCounted faults o why
end_counted faults o s r None why h = followed_counted faults o (put_of s r.put) why h
end_counted faults o s r (Some table) why h = cc

-- its payload is not the one that is listed
other_by : (s : State) (r : Reader) (cut : ℕ) (digest : Digest) (has : HasNext s r cut digest) (o : Option Row) → live_row_of s (next_piece (as_row (reading_as r))) ≡ o → IsOtherPiece s (next_piece (as_row (reading_as r))) digest → IsOtherNext s (reading_as r)
other_by s r cut digest has None gone other =
    let no : None ≡ Some other.found = sym (ap (λ (o : Option Row). option_map digest_in (option_and_then (λ (row : Row). row.payload) o)) gone) ∙ other.payload in cc
other_by s r cut digest has (Some row) live other = record {
  entry = has.row;
  row = row;
  found = other.found;
  cut = has.found;
  live = live;
  unlike = unlike_row s (next_piece (as_row (reading_as r))) digest other.found row has.row live other.payload other.differ has.digest_is;
}

pub other_next : (s : State) (r : Reader) (id : PieceId) (cut : ℕ) (digest : Digest) → HasNext s r cut digest → id ≡ next_piece (as_row (reading_as r)) → IsOtherPiece s id digest → IsOtherNext s (reading_as r)
other_next s r id cut digest has id_is other = other_by s r cut digest has (live_row_of s (next_piece (as_row (reading_as r)))) refl (subst (λ i. IsOtherPiece s i digest) id_is other)

-- a fragment that is given is the one that was fetched
fetched_payload : (contents : Contents) (o : Option Row) (index size : ℕ) (into : List ℕ) → HasPayload contents o (found.Found size) into
    → GivesPayload contents o (Ok (piece.Piece index size)) into
fetched_payload contents None index size into h = tt
fetched_payload contents (Some row) index size into h = h

broken_payload : (contents : Contents) (o : Option Row) (why : Cause) (into : List ℕ) → GivesPayload contents o (Ok (piece.Broken why)) into
broken_payload contents None why into = tt
broken_payload contents (Some row) why into = tt

module _ (s : State) (old new newer : Seen) (r : Reader) (id : PieceId) (cut : ℕ) (digest : Digest) (into : List ℕ)
    (has : HasNext s r cut digest) (quiet : IsQuiet s) (id_is : id ≡ next_piece (as_row (reading_as r)))
    (newer_is : newer.device ≡ new.device) where
  fetched : (answer : Found) (f : Fetches s old new id digest answer into) (p : Permit) → Covers p old.device.past newer.device.past
      → IsFetched p s (next_piece (as_row (reading_as r))) (live_row_of s (next_piece (as_row (reading_as r)))) has.row answer into
  fetched answer f p covers =
      subst (λ i. IsFetched p s i (live_row_of s i) has.row answer into) id_is
      (f.answers p has.row (subst (λ (x : Device). Covers p old.device.past x.past) newer_is covers) has.digest_is)

  next_is : live_next s (as_row (reading_as r)) ≡ live_row_of s id
  next_is = next_live s (as_row (reading_as r)) has.row has.found ∙ ap (live_row_of s) (sym id_is)

  pub piece_reads : NotesAsAsked r.reader (next.Gave r.next cut) → (size : ℕ) → Fetches s old new id digest (found.Found size) into
      → ReadsOn s old newer r (piece.Piece r.next size) into
  piece_reads notes size f = record {
    seen = subst (AllReadIsSeen old.device) (sym newer_is) f.seen;
    contents = λ tells contents stands.
        fetched_payload contents (live_next s (as_row (reading_as r))) r.next size into
        (subst (λ o. HasPayload contents o (found.Found size) into) (sym next_is) (f.contents (subst TellsAll newer_is tells) contents stands));
    does = λ p covers own. given_does p s r has.row size into has.found (subst (λ n. NotesAsAsked r.reader (next.Gave r.next n)) (sym has.length_is) notes) (live_row_of s (next_piece (as_row (reading_as r)))) own quiet refl (fetched (found.Found size) f p covers);
    gives = λ p covers. given_is p s r has.row size into has.found (live_row_of s (next_piece (as_row (reading_as r)))) refl (fetched (found.Found size) f p covers);
    counted = tt;
  }

  pub broken_reads : (why : Cause) → NotesAsAsked r.reader (next.Broke why) → (after_all s (find_adds s id (found.Missing why))).fault ≤ new.device.faults
      → Fetches s old new id digest (found.Missing why) into → ReadsOn s old newer r (piece.Broken why) into
  broken_reads why notes reached f = record {
    seen = subst (AllReadIsSeen old.device) (sym newer_is) f.seen;
    contents = λ tells contents stands. broken_payload contents (live_next s (as_row (reading_as r))) why into;
    does = λ p covers own. broken_does p s r has.row why into has.found notes own quiet (fetched (found.Missing why) f p covers);
    gives = λ p covers. tt;
    counted =
        let own : Permit = own_permit 0 old.device.past newer.device.past in
        let there : (after_all s (find_adds s id (found.Missing why))).fault ≤ newer.device.faults =
        subst (λ (x : Device). (after_all s (find_adds s id (found.Missing why))).fault ≤ x.faults) (sym newer_is) reached in
        let missing : Cause → Option Row → Type 0 = λ c o. (c ≡ cause_of_piece s (next_piece (as_row (reading_as r)))) ⊎ TroubleIsCounted newer.device.faults o c in
        subst (missing why) (sym (next_live s (as_row (reading_as r)) has.row has.found))
        (fetched_counted own s newer.device.faults (next_piece (as_row (reading_as r))) (live_row_of s (next_piece (as_row (reading_as r))))
        has.row why into
        (subst (λ i. (after_all s (find_adds s i (found.Missing why))).fault ≤ newer.device.faults) id_is there)
        (fetched (found.Missing why) f own (own_covers 0 old.device.past newer.device.past)));
  }

-- ---- behind the last fragment

end_is_no_piece : (s : State) (r : ReaderRow) (t : Option (List TableRow)) (answer : NextPiece) → noted 0 answer ≡ verdict_at_end s r t → is_gave (noted 0 answer) ≡ false
end_is_no_piece s r t (piece.Piece index size) is = absurd (end_gives_none s r t index 0 (sym is))
end_is_no_piece s r t (piece.End n) is = refl
end_is_no_piece s r t (piece.NotYet cut) is = refl
end_is_no_piece s r t (piece.Broken why) is = refl

gives_none : (p : Permit) (s : State) (r : Reader) (answer : NextPiece) (into : List ℕ) → is_gave (noted 0 answer) ≡ false → IsGivenAs p s (reading_as r) answer into
gives_none p s r (piece.Piece index size) into h = no_truth h
gives_none p s r (piece.End n) into h = tt
gives_none p s r (piece.NotYet cut) into h = tt
gives_none p s r (piece.Broken why) into h = tt

stays_there : (answer : NextPiece) (n : ℕ) → is_gave (noted 0 answer) ≡ false → n ≡ next_behind n answer
stays_there (piece.Piece index size) n h = no_truth h
stays_there (piece.End k) n h = refl
stays_there (piece.NotYet cut) n h = refl
stays_there (piece.Broken why) n h = refl

module _ (s : State) (r : Reader) (answer : NextPiece) (none : next_row s (as_row (reading_as r)) ≡ None) (is : noted 0 answer ≡ verdict_at_end s (as_row (reading_as r)) (rows_hit r)) where
  pub no_piece : is_gave (noted 0 answer) ≡ false
  no_piece = end_is_no_piece s (as_row (reading_as r)) (rows_hit r) answer is

  pub stop_adds : read_adds s (reading_as r) answer ≡ answer_record r.reader (noted 0 answer) ∷ []
  stop_adds =
      ap (λ o. next_trouble o answer ++ answer_record r.reader (noted (listed_length s (reading_as r)) answer) ∷ [])
      (next_none s (as_row (reading_as r)) none)
      ∙ ap (λ o. answer_record r.reader (noted (unwrap_or (option_map (λ (x : TableRow). x.length) o) 0) answer) ∷ []) none

  stop_does : NotesAsAsked r.reader (noted 0 answer) → (p : Permit) (own : IsReaderOf s (reading_as r)) → IsQuiet s → Does p s (ReadOn r.reader) (read_adds s (reading_as r) answer) Done
  stop_does notes p own quiet =
      let mine : ReaderRow = row_by own.actor (reading_as r) in
      let verdict : reader_verdict s mine ≡ noted 0 answer = verdict_end s mine none ∙ sym is in
      subst (λ recs. Does p s (ReadOn r.reader) recs Done) (sym stop_adds)
      (notes p s mine [] quiet own.found
      (subst (IsReading p s mine []) verdict (IsReading.verdict (subst (IsReadWhereLive p s) (sym (next_none s mine none)) tt) (end_as_listed s mine none))))

  stop_counted : (faults : ℕ) (a : NextPiece) → noted 0 a ≡ verdict_at_end s (as_row (reading_as r)) (rows_hit r)
      → BreakIsCounted faults s r a
  stop_counted faults (piece.Piece index size) h = tt
  stop_counted faults (piece.End n) h = tt
  stop_counted faults (piece.NotYet cut) h = tt
  stop_counted faults (piece.Broken why) h =
      inr (end_counted faults (live_next s (as_row (reading_as r))) s (as_row (reading_as r)) (rows_hit r) why h)

  pub stop_reads : NotesAsAsked r.reader (noted 0 answer) → (old new : Seen) (into : List ℕ)
      → new.device.past ≡ old.device.past → IsQuiet s
      → ReadsOn s old new r answer into
  stop_reads notes old new into still quiet = record {
    seen = seen_none old.device new.device still;
    contents = λ tells contents stands. subst (λ o. GivesPayload contents o (Ok answer) into) (sym (next_none s (as_row (reading_as r)) none)) tt;
    does = λ p covers own. stop_does notes p own quiet;
    gives = λ p covers. gives_none p s r answer into no_piece;
    counted = stop_counted new.device.faults answer is;
  }

  pub stop_goes : IsBehindAnswer (reading_as r) answer (reading_as r)
  stop_goes = record { reader = refl; key = refl; put = refl; table = refl; next = stays_there answer r.next no_piece }

-- ---- behind the memory that was made first

pub reads_prepared : (s t : State) (old older new : Seen) (r : Reader) (answer : NextPiece) (into : List ℕ) → t ≡ s → older.device.past ≡ old.device.past
    → ((contents : Contents) → AreStanding contents s old → AreStanding contents t older) → ReadsOn t older new r answer into → ReadsOn s old new r answer into
reads_prepared s t old older new r answer into same past stay h = record {
  seen = seen_before old.device older.device new.device past h.seen;
  contents = λ tells contents stands.
      subst (λ (x : State). GivesPayload contents (live_next x (as_row (reading_as r))) (Ok answer) into) same (h.contents tells contents (stay contents stands));
  does = λ p covers.
      subst (λ (x : State). IsReaderOf x (reading_as r) → Does p x (ReadOn r.reader) (read_adds x (reading_as r) answer) Done) same
      (h.does p (subst (λ (calls : List Call). Covers p calls new.device.past) (sym past) covers));
  gives = λ p covers.
      subst (λ (x : State). IsGivenAs p x (reading_as r) answer into) same
      (h.gives p (subst (λ (calls : List Call). Covers p calls new.device.past) (sym past) covers));
  counted = subst (λ (x : State). BreakIsCounted new.device.faults x r answer) same h.counted;
}

pub given_prepared : (s t : State) (old older new : Seen) (r : Reader) (answer : Result NextPiece AllocError) (into : List ℕ) → t ≡ s
    → older.device.past ≡ old.device.past → ((contents : Contents) → AreStanding contents s old → AreStanding contents t older)
    → IfOk answer (λ a. ReadsOn t older new r a into) → IfOk answer (λ a. ReadsOn s old new r a into)
given_prepared s t old older new r (Ok answer) into same past stay h = reads_prepared s t old older new r answer into same past stay h
given_prepared s t old older new r (Err e) into same past stay h = tt
