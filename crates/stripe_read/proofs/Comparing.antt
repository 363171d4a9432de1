-- What is read of a fragment.
use Rattle.std.proofs.Common.{◌≡◌, ◌≢◌, ℕ, ◌<◌, ◌≤◌, List, [], ◌∷◌, refl, sym, ◌∙◌, ap, subst, arith, inl, inr, ◌⊎◌}
use Rattle.std.specs.Prelude.{Option, Some, None, option_and_then, option_map}
use Rattle.tape_base.specs.declared.digests.Digest.{Digest}
use Rattle.tape_base.specs.declared.pieces.PieceId.{PieceId}
use Rattle.logged_disk.specs.Device.{DeviceState as Device, TellsAll}
use Rattle.fragment_table.specs.Table.{TableRow}
use Rattle.cyclone.specs.Cyclone.{Seen}
use Rattle.cache_model.specs.declared.cause.Cause.{Cause}
use Rattle.cache_model.specs.declared.cause.Cause.TheVariants as cause
use Rattle.cache_model.specs.declared.record.Rec.TheVariants as rec
use Rattle.cache_model.specs.State.{Row, State, live_row_of, row_in}
use Rattle.cache_model.specs.Verdict.{digest_in, payload_of_piece}
use Rattle.cache_model.specs.Permit.{Permit}
use Rattle.cache_model.specs.Given.{IsDocumentOf, IsRead, damage_cause}
use Rattle.cache_model.specs.Legal.{IsAsListed, IsUnlike, ReadTrouble}
use Rattle.cache_model.proofs.Lists.{own_piece}
use Rattle.cache_model.specs.Contents.{Contents}
use Rattle.piece_answers.specs.declared.answer.Found.{Found}
use Rattle.piece_answers.specs.declared.answer.Found.TheVariants as found
use Rattle.piece_answers.specs.Covers.{AllReadIsSeen, Covers}
use Rattle.cache_model.specs.Troubles.{cause_records}
use Rattle.piece_answers.specs.Find.{Finds, HasPayload, IsFoundAs, find_adds, found_records}
use Rattle.held_pieces.proofs.Candidates.{live_is}
use Rattle.stripe_read.specs.declared.fetching.Unlike.{Unlike}
use Rattle.stripe_read.specs.Fetches.{Fetches, IsCompared, IsFetched, IsOtherPiece, IsPieceAsListed, IsUnlikePiece}

-- ---- the two digests

abbrev payload_in : Option Row → Option Digest
payload_in o = option_map digest_in (option_and_then (λ (row : Row). row.payload) o)

-- a payload of which a digest is told
pub record HasDigest (o : Option TableRow) (told : Digest) : Type 0 where
  pub payload : TableRow
  pub has : o ≡ Some payload
  pub told_is : told ≡ digest_in payload

has_digest : (o : Option TableRow) (told : Digest) → option_map digest_in o ≡ Some told → HasDigest o told
has_digest None told h = cc
has_digest (Some payload) told h = record { payload = payload; has = refl; told_is = cc }

-- a live piece of another payload, beside a row of a table that lists the digest
pub unlike_row : (s : State) (id : PieceId) (listed other : Digest) (row : Row) (entry : TableRow) → live_row_of s id ≡ Some row → payload_of_piece s id ≡ Some other → listed ≢ other → digest_in entry ≡ listed
    → IsUnlike row entry other
unlike_row s id listed other row entry live told differ lists =
    let h : HasDigest row.payload other = has_digest row.payload other (sym (ap payload_in live) ∙ told) in
    record { payload = h.payload; has = h.has; found_is = h.told_is; differ = λ e. differ (sym lists ∙ e) }

-- one of the payload that is listed
pub row_as_listed : (s : State) (id : PieceId) (listed : Digest) (row : Row) (entry : TableRow) → live_row_of s id ≡ Some row → IsPieceAsListed s id listed → digest_in entry ≡ listed → IsAsListed row entry
row_as_listed s id listed row entry live is lists = λ payload has. is (digest_in payload) (ap payload_in live ∙ ap (option_map digest_in) has) ∙ sym lists

pub other_piece : (s : State) (id : PieceId) (listed : Digest) (u : Unlike) → IsUnlikePiece s id listed u → IsOtherPiece s id listed
other_piece s id listed u h = record { found = u.found; payload = h.payload; differ = h.differ }

-- ---- what is recorded

place_is : (o : Option Row) (row : Row) (place : ℕ) → o ≡ Some row → option_map (λ (r : Row). r.place) o ≡ Some place → row.place ≡ place
place_is o row place live at = let both : Some row.place ≡ Some place = sym (ap (option_map (λ (r : Row). r.place)) live) ∙ at in cc

unlike_adds_by : (s : State) (id : PieceId) (listed : Digest) (u : Unlike) (o : Option Row) → live_row_of s id ≡ o → option_map (λ (r : Row). r.place) o ≡ Some u.place
    → rec.Damaged id u.place listed u.found ∷ [] ≡ found_records o (found.Missing (cause.Damaged u.place listed u.found))
unlike_adds_by s id listed u None live at = cc
unlike_adds_by s id listed u (Some row) live at =
    let name : row.id ≡ id = own_piece id s.rows row (live_is s (row_in s.rows id) row live).0 in
    ap (λ i. rec.Damaged i u.place listed u.found ∷ []) (sym name)
    ∙ ap (λ n. rec.Damaged row.id n listed u.found ∷ []) (sym (place_is (Some row) row u.place refl at))

pub unlike_adds : (s : State) (id : PieceId) (listed : Digest) (u : Unlike) → IsUnlikePiece s id listed u
    → rec.Damaged id u.place listed u.found ∷ [] ≡ find_adds s id (found.Missing (cause.Damaged u.place listed u.found))
unlike_adds s id listed u h = unlike_adds_by s id listed u (live_row_of s id) refl h.place

-- ---- what was found, compared

pub either : (a b : ℕ) → ((a ≤ b) ⊎ (b < a))
either a b = grind arith

pub is_read : (p : Permit) (s : State) (row : Row) (size : ℕ) (into : List ℕ) → IsDocumentOf p s row size into → IsRead p s row
is_read p s row size into h = by (either s.cursor row.place)
  where
    by : ((s.cursor ≤ row.place) ⊎ (row.place < s.cursor)) → IsRead p s row
    by (inl above) = IsRead.buffered above
    by (inr below) = IsRead.given h.bytes (h.given below) h.digest

mismatched : (p : Permit) (s : State) (id : PieceId) (listed : Digest) (row : Row) (entry : TableRow) (why : Cause) (u : Unlike) → live_row_of s id ≡ Some row → digest_in entry ≡ listed → IsRead p s row
    → why ≡ cause.Damaged u.place listed u.found → IsUnlikePiece s id listed u → ReadTrouble p s row entry (cause_records row why) why
mismatched p s id listed row entry why u live lists read is h =
    let at : row.place ≡ u.place = place_is (live_row_of s id) row u.place live h.place in
    let same : why ≡ damage_cause row (digest_in entry) u.found =
    is ∙ (ap (λ n. cause.Damaged n listed u.found) (sym at) ∙ ap (λ d. cause.Damaged row.place d u.found) (sym lists)) in
    subst (λ (y : Cause). ReadTrouble p s row entry (cause_records row y) y) (sym same)
    (ReadTrouble.mismatched u.found read (unlike_row s id listed u.found row entry live h.payload h.differ lists))

compared_by : (p : Permit) (s : State) (id : PieceId) (o : Option Row) (listed : Digest) (entry : TableRow) (size : ℕ) (into : List ℕ) (answer : Found) → live_row_of s id ≡ o → digest_in entry ≡ listed
    → IsFoundAs p s id o (found.Found size) into → IsCompared s id listed size answer → IsFetched p s id o entry answer into
compared_by p s id None listed entry size into answer live lists h c = cc
compared_by p s id (Some row) listed entry size into (found.Found n) live lists h c = (subst (λ k. IsDocumentOf p s row k into) (sym c.0) h, row_as_listed s id listed row entry live c.1 lists)
compared_by p s id (Some row) listed entry size into (found.Missing why) live lists h c =
    mismatched p s id listed row entry why c.0 live lists (is_read p s row size into h) c.1 c.2

-- a payload that is given is the one that was found
compared_payload : (contents : Contents) (s : State) (id : PieceId) (o : Option Row) (listed : Digest) (size : ℕ) (into : List ℕ)
    (answer : Found) → IsCompared s id listed size answer → HasPayload contents o (found.Found size) into → HasPayload contents o answer into
compared_payload contents s id None listed size into answer c h = tt
compared_payload contents s id (Some row) listed size into (found.Found n) c h =
    subst (λ k. HasPayload contents (Some row) (found.Found k) into) (sym c.0) h
compared_payload contents s id (Some row) listed size into (found.Missing why) c h = tt

-- what was found is compared with the device left as it is
pub compared : (s : State) (old new newer : Seen) (id : PieceId) (listed : Digest) (size : ℕ) (into : List ℕ) (answer : Found)
    → newer.device ≡ new.device → Finds s old new id (found.Found size) into → IsCompared s id listed size answer → Fetches s old newer id listed answer into
compared s old new newer id listed size into answer still f c = record {
  seen = subst (AllReadIsSeen old.device) (sym still) f.seen;
  contents = λ tells contents stands.
      compared_payload contents s id (live_row_of s id) listed size into answer c (f.contents (subst TellsAll still tells) contents stands);
  answers = λ p entry covers lists.
      compared_by p s id (live_row_of s id) listed entry size into answer refl lists
      (f.answers p (subst (λ (d : Device). Covers p old.device.past d.past) still covers)) c;
}

missing_by : (p : Permit) (s : State) (id : PieceId) (o : Option Row) (entry : TableRow) (why : Cause) (into : List ℕ)
    → IsFoundAs p s id o (found.Missing why) into → IsFetched p s id o entry (found.Missing why) into
missing_by p s id None entry why into h = h
missing_by p s id (Some row) entry why into h = ReadTrouble.troubled (cause_records row why) why h

missing_payload : (contents : Contents) (o : Option Row) (why : Cause) (into : List ℕ) → HasPayload contents o (found.Missing why) into
missing_payload contents None why into = tt
missing_payload contents (Some row) why into = tt

pub missing : (s : State) (old new : Seen) (id : PieceId) (listed : Digest) (why : Cause) (into : List ℕ)
    → Finds s old new id (found.Missing why) into → Fetches s old new id listed (found.Missing why) into
missing s old new id listed why into f = record {
  seen = f.seen;
  contents = λ tells contents stands. missing_payload contents (live_row_of s id) why into;
  answers = λ p entry covers lists. missing_by p s id (live_row_of s id) entry why into (f.answers p covers);
}
