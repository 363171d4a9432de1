-- Whole steps that are accepted, condition by condition: a put, a get, a put that a device fault refuses, a
-- close that flushes for its vector, and gets of a vector that is damaged and of one that the device gives.
use Rattle.std.proofs.Common.{◌≡◌, ℕ, List, [], ◌∷◌, ◌++◌, refl, ap, arith, false, true, inl, lit<, lit≤}
use Rattle.std.specs.Prelude.{◌≢◌, Option, Some, None, ◌/◌, codes, length, replicate, take}
use Rattle.std.proofs.lemmas.List.{length-take-le}
use Rattle.tape_base.specs.declared.keys.Key.{Key}
use Rattle.tape_base.specs.declared.digests.Digest.{Digest}
use Rattle.tape_base.specs.declared.geometries.Geometry.{Geometry}
use Rattle.hex.specs.Hex.{IsBytes}
use Rattle.tape_base.specs.Digest.{digest_of}
use Rattle.tape_base.specs.Key.{key_bytes, key_of_bytes}
use Rattle.tape_base.specs.Place.{block_of}
use Rattle.tape_base.proofs.Bytes.{bytes_by_test, zeros_are_bytes}
use Rattle.device_log.specs.Calls.{Call, Read, RefusedCall, ToWrite, Wrote}
use Rattle.doc_header.specs.declared.documents.Doc.{Doc}
use Rattle.doc_header.specs.Document.{Fits, digest_of_document, document_bytes}
use Rattle.doc_header.specs.Reading.{document_digest}
use Rattle.doc_header.proofs.ReadingLaws.{recorded, written}
use Rattle.fragment_table.specs.Table.{TableRow, made_row}
use Rattle.alternate_vector.specs.Field.{AreFields}
use Rattle.alternate_vector.specs.Alternates.{Stored}
use Rattle.cache_model.specs.declared.record.Rec.{Rec}
use Rattle.cache_model.specs.declared.record.Rec.TheVariants as rec
use Rattle.cache_model.specs.declared.cause.Cause.TheVariants as cause
use Rattle.cache_model.specs.declared.answer.ReadAnswer.TheVariants as read
use Rattle.cache_model.specs.declared.answer.NextAnswer.TheVariants as next
use Rattle.cache_model.specs.State.{State, Row, PutRow, ReaderRow, Open, Complete, nothing_yet, after_all, list_of_piece, list_of_put, placed_row, state_after, vector_piece}
use Rattle.cache_model.specs.Permit.{Permit, Intent, Write, Fragment, Weigh, Finish, Commit, GiveUp, Look, ReadAll, StopReading, End, Stays, Done, Fails, Reason, Faulted, work_after}
use Rattle.cache_model.specs.Room.{doc_at, placed_record, greatest_pin}
use Rattle.cache_model.specs.Given
use Rattle.cache_model.specs.Legal
use Rattle.cache_model.specs.Legal.{Does, MayGrow, IsStep, AreLiveTo, IsWriting, aborted_record, format_records, next_fragment_of, vector_length, vector_payload}
use Rattle.cache_model.proofs.Steps.{grows_on, grows_by}
use Rattle.model_laws.proofs.Listed.{listed_by, none_next, own_is_listed}

-- one group
pub group : (p : Permit) (s : State) (i : Intent) (rest : List Intent) (why : Option Reason) (e : End) (added : List Rec) → Does p s i added e
    → MayGrow p s (record { intents = i ∷ rest; refused = why }) added (work_after i rest why e)
group p s i rest why e added does = grows_by p s (record { intents = i ∷ rest; refused = why }) (work_after i rest why e) added (e, does, refl)

-- ---- the session

abbrev pub geometry : Geometry
geometry = record {
  segments = 1;
  buckets = 64;
  content = 64;
  agg = 8;
  reach = 16;
  fragment = 4;
  generation = 7;
  alternates = 5;
  accepted = record {
    segments_fit = (lit≤ tt, lit≤ tt);
    buckets_fit = (lit≤ tt, lit≤ tt);
    agg_fits = (lit≤ tt, lit≤ tt, refl);
    content_fits = (lit≤ tt, lit< tt);
    reach_fits = (lit≤ tt, lit< tt);
    fragment_fits = (lit≤ tt, lit≤ tt);
  };
  keeps = record { some = lit≤ tt; few = lit≤ tt };
}

abbrev pub k : Key
k = record { number = 1 }

abbrev pub formatted : State
formatted = after_all nothing_yet (format_records geometry)

-- a device that did this in the step, the newest first
abbrev did : List Call → Permit
did events = record { packed = false; syncs = false; now = 0; past = []; events = events }

-- a device that did nothing
abbrev idle : Permit
idle = did []

-- ---- a put of four bytes

abbrev pub body : List ℕ
body = codes "abcd"

abbrev pub opened : List Rec
opened = rec.WriteOpened (record { 0 = 0 }) 1 k [] [] 0 ∷ []

abbrev s1 : State
s1 = after_all formatted opened

abbrev pub w1 : PutRow
w1 = record { actor = 0; put = 1; key = k; request = []; response = []; pin = 0; cuts = []; writing = Open }

abbrev cut : List Rec
cut = rec.Cut 1 1 4 (digest_of body) ∷ placed_record s1 (next_fragment_of w1) 0 0 4 body ∷ []

abbrev s2 : State
s2 = after_all s1 cut

abbrev w2 : PutRow
w2 = record w1 { cuts = made_row 4 (digest_of body).0 ∷ [] }

abbrev vector : List Rec
vector = placed_record s2 (vector_piece k 1) (greatest_pin (list_of_put s2 1)) 0 (vector_length s2 1) (vector_payload s2 1) ∷ []

abbrev s3 : State
s3 = after_all s2 vector

abbrev committed : List Rec
committed = rec.Committed 1 k 4 (list_of_piece s3 (vector_piece k 1)) ∷ []

abbrev s4 : State
s4 = after_all s3 committed

pub no_fields : AreFields []
no_fields = record { few = lit≤ tt; each = tt; rising = tt }

opens : Does idle formatted (Write 0 k [] [] 0) opened Done
opens = Legal.opens (record { who = record { 0 = 0 }; number = refl; quiet = refl; few = lit< tt; below = lit< tt; request_fits = no_fields; response_fits = no_fields; pin_fits = lit< tt; is = refl })

is_writing_1 : IsWriting s1 1 w1
is_writing_1 = record { quiet = refl; found = refl; is_open = refl }

places : Does idle s1 (Fragment 1 1 body) cut Done
places = Legal.DoesFragment.places refl (record {
  w = w1;
  displaced = [];
  cut = record { writing = is_writing_1; next = refl; few = lit< tt; full = refl; some = lit< tt; small = lit≤ tt; of_bytes = bytes_by_test body refl };
  unmarked = refl;
  place = record { small = lit≤ tt; room = refl; below = lit< tt };
  displaces = record { purged = []; full = (λ h. let f : false ≡ true = h in cc); free = (λ h. refl); is = refl };
  is = refl;
})

is_writing_2 : IsWriting s2 1 w2
is_writing_2 = record { quiet = refl; found = refl; is_open = refl }

weighs : Does idle s2 (Weigh 1 0) [] Done
weighs = Legal.weighs w2 is_writing_2 tt (lit≤ tt) refl

all_live : AreLiveTo s2 w2 1
all_live i low high = let one : i ≡ 1 = omega arith in rw one (_, refl)

finishes : Does idle s2 (Finish 1 1) vector Done
finishes = Legal.DoesFinish.places refl (record {
  w = w2;
  displaced = [];
  cut = record { writing = is_writing_2; count = refl; alone = lit≤ tt };
  unmarked = refl;
  whole = all_live;
  place = record { small = lit≤ tt; room = refl; below = lit< tt };
  displaces = record { purged = []; full = (λ h. let f : false ≡ true = h in cc); free = (λ h. refl); is = refl };
  is = refl;
})

commits : Does idle s3 (Commit 1) committed Done
commits = Legal.commits w2 refl refl refl refl

over : Does idle s4 (GiveUp 1) [] Done
over = Legal.over refl refl refl

abbrev put_line : List Intent
put_line = Write 0 k [] [] 0 ∷ Fragment 1 1 body ∷ Weigh 1 0 ∷ Finish 1 1 ∷ Commit 1 ∷ GiveUp 1 ∷ []

pub a_put_is_a_step : IsStep idle formatted put_line (opened ++ cut ++ vector ++ committed) None
a_put_is_a_step = record {
  grows = grows_on (grows_on (grows_on (grows_on (grows_on
      (group idle formatted _ _ _ Done opened opens) (group idle s1 _ _ _ Done cut places)) (group idle s2 _ _ _ Done [] weighs))
      (group idle s2 _ _ _ Done vector finishes)) (group idle s3 _ _ _ Done committed commits)) (group idle s4 _ _ _ Done [] over);
  quiet = refl;
  faults = refl;
  effects = λ off. refl;
}

-- ---- a get that hits it and reads to the end

abbrev cut_row : TableRow
cut_row = made_row 4 (digest_of body).0

-- the fragment as it was placed
abbrev cut_piece : Row
cut_piece = placed_row (state_after s1 (rec.Cut 1 1 4 (digest_of body))) (next_fragment_of w1) 64 1 (digest_of_document (doc_at s1 (next_fragment_of w1) 0 0) body) 0

-- the reader, with what it takes next
abbrev reading_on : List TableRow → ℕ → ReaderRow
reading_on table next = record { actor = 0; reader = 1; key = k; put = 1; table = Some table; next = next }

abbrev hit : List Rec
hit = rec.ReadOpened 1 (record { 0 = 0 }) k [] (read.Hit 1) ∷ []

abbrev r0 : State
r0 = after_all s4 hit

abbrev given : List Rec
given = rec.Gave 1 1 4 ∷ []

abbrev r1 : State
r1 = after_all r0 given

abbrev ended : List Rec
ended = rec.Ended 1 4 ∷ []

abbrev r2 : State
r2 = after_all r1 ended

abbrev stopped : List Rec
stopped = rec.ReadClosed 1 ∷ []

looks : Does idle s4 (Look 0 k []) hit Done
looks = Legal.looks (record { who = record { 0 = 0 }; before = []; answer = read.Hit 1; number = refl; quiet = refl; right = Legal.IsLookup.verdict (Given.IsRead.buffered (lit≤ tt)); is = refl })

gives : Does idle r0 (ReadAll 1) given Stays
gives = Legal.DoesReadAll.reads_on (next.Gave 1 4) refl (record { r = _; before = []; quiet = refl; reading = refl; right = Legal.IsReading.verdict (Given.IsRead.buffered (lit≤ tt)) (listed_by r0 (reading_on (cut_row ∷ []) 1) cut_row cut_piece refl refl (own_is_listed cut_piece cut_row refl)); is = refl }) refl

ends : Does idle r1 (ReadAll 1) ended Done
ends = Legal.DoesReadAll.reads_on (next.Ended 4) refl (record { r = _; before = []; quiet = refl; reading = refl; right = Legal.IsReading.verdict tt (none_next r1 (reading_on (cut_row ∷ []) 2) refl); is = refl }) refl

stops : Does idle r2 (StopReading 1) stopped Done
stops = Legal.closes _ refl refl refl

abbrev get_line : List Intent
get_line = Look 0 k [] ∷ ReadAll 1 ∷ StopReading 1 ∷ []

pub a_get_is_a_step : IsStep idle s4 get_line (hit ++ given ++ ended ++ stopped) None
a_get_is_a_step = record {
  grows = grows_on (grows_on (grows_on
      (group idle s4 _ _ _ Done hit looks) (group idle r0 _ _ _ Stays given gives)) (group idle r1 _ _ _ Done ended ends)) (group idle r2 _ _ _ Done stopped stops);
  quiet = refl;
  faults = refl;
  effects = λ off. refl;
}

-- ---- a put whose fragment finds a full buffer, and whose flush meets a fault

abbrev full : State
full = record formatted { filled = 8 }

abbrev faulty : Permit
faulty = did (RefusedCall (ToWrite (block_of geometry 64) 8 []) 1 ∷ [])

abbrev f1 : State
f1 = after_all full opened

abbrev fault : List Rec
fault = rec.Fault 1 ∷ []

abbrev f2 : State
f2 = after_all f1 fault

abbrev aborted : List Rec
aborted = aborted_record w1 ∷ []

opens_full : Does faulty full (Write 0 k [] [] 0) opened Done
opens_full = Legal.opens (record { who = record { 0 = 0 }; number = refl; quiet = refl; few = lit< tt; below = lit< tt; request_fits = no_fields; response_fits = no_fields; pin_fits = lit< tt; is = refl })

faults : Does faulty f1 (Fragment 1 1 body) fault (Fails (Faulted 1))
faults = Legal.DoesFragment.rooms w1
    (record { writing = record { quiet = refl; found = refl; is_open = refl }; next = refl; few = lit< tt; full = refl; some = lit< tt; small = lit≤ tt; of_bytes = bytes_by_test body refl })
    (Legal.MakesRoom.stops 1 refl (record {
      unsynced = refl;
      outcomes = [];
      can = record { quiet = refl; filled = lit< tt; below = refl };
      are = tt;
      counts = record { left = []; counts = record { rose = lit≤ tt; refused = inl refl } };
      is = refl;
    }))

gives_up : Does faulty f2 (GiveUp 1) aborted Done
gives_up = Legal.DoesGiveUp.aborts w1 (record { quiet = refl; found = refl; is_open = refl }) refl

pub a_refused_put_is_a_step : IsStep faulty full put_line (opened ++ fault ++ aborted) (Some (Faulted 1))
a_refused_put_is_a_step = record {
  grows = grows_on (grows_on
      (group faulty full _ _ _ Done opened opens_full) (group faulty f1 _ _ _ (Fails (Faulted 1)) fault faults)) (group faulty f2 _ _ _ Done aborted gives_up);
  quiet = refl;
  faults = refl;
  effects = λ off. refl;
}

-- ---- a close whose vector finds a full buffer, which begins with the fragment

abbrev full_of : State
full_of = record s2 { filled = 8 }

abbrev cut_doc : Doc
cut_doc = doc_at s1 (next_fragment_of w1) 0 0

-- a device that took these bytes
abbrev taking : List ℕ → Permit
taking bytes = did (Wrote (block_of geometry 64) bytes ∷ [])

-- a buffer of eight blocks that begins with the fragment's document
pub record IsBuffer (bytes : List ℕ) : Type 0 where
  pub whole : length bytes ≡ 4096
  pub document : take 512 bytes ≡ document_bytes cut_doc body

cut_fits : Fits cut_doc body
unfolding key_of_bytes key_bytes
cut_fits = record {
  name = record { is_key = refl; put_fits = lit< tt; index_fits = lit< tt };
  position = record { place_fits = lit< tt; generation_fits = lit< tt; pin_fits = lit< tt; start_fits = lit< tt };
  size_fits = lit< tt;
}

begins_with_fragment : (bytes : List ℕ) → IsBuffer bytes → document_digest (take 512 bytes) ≡ digest_of_document cut_doc body
begins_with_fragment bytes buffer =
    let whole = buffer.whole in
    let block : length (take 512 bytes) ≡ 512 = length-take-le 512 bytes (omega (arith, whole)) in
    recorded (take 512 bytes) 7 64 cut_doc body (written (take 512 bytes) cut_doc body cut_fits block buffer.document)

abbrev began : List Rec
began = rec.Began 72 16 ∷ []

abbrev c1 : State
c1 = after_all full_of began

abbrev vector_behind : List Rec
vector_behind = placed_record c1 (vector_piece k 1) (greatest_pin (list_of_put c1 1)) 0 (vector_length c1 1) (vector_payload c1 1) ∷ []

abbrev c2 : State
c2 = after_all c1 vector_behind

is_writing_full : IsWriting full_of 1 w2
is_writing_full = record { quiet = refl; found = refl; is_open = refl }

is_writing_c1 : IsWriting c1 1 w2
is_writing_c1 = record { quiet = refl; found = refl; is_open = refl }

weighs_full : (bytes : List ℕ) → Does (taking bytes) full_of (Weigh 1 0) [] Done
weighs_full bytes = Legal.weighs w2 is_writing_full tt (lit≤ tt) refl

all_live_c1 : AreLiveTo c1 w2 1
all_live_c1 i low high = let one : i ≡ 1 = omega arith in rw one (_, refl)

flushes : (bytes : List ℕ) → IsBuffer bytes → Does (taking bytes) full_of (Finish 1 1) began Stays
flushes bytes buffer = Legal.DoesFinish.rooms w2 (record { writing = is_writing_full; count = refl; alone = lit≤ tt })
    (Legal.MakesRoom.flushes refl (record {
      unsynced = refl;
      outcomes = [];
      can = record { quiet = refl; filled = lit< tt; below = refl };
      takes = record { bytes = bytes; written = inl refl; whole = ap (λ n. n / 512) buffer.whole; holds = ((λ within. begins_with_fragment bytes buffer), tt) };
      are = tt;
      is = refl;
    }))

finishes_behind : (bytes : List ℕ) → Does (taking bytes) c1 (Finish 1 1) vector_behind Done
finishes_behind bytes = Legal.DoesFinish.places refl (record {
  w = w2;
  displaced = [];
  cut = record { writing = is_writing_c1; count = refl; alone = lit≤ tt };
  unmarked = refl;
  whole = all_live_c1;
  place = record { small = lit≤ tt; room = refl; below = lit< tt };
  displaces = record { purged = []; full = (λ h. let f : false ≡ true = h in cc); free = (λ h. refl); is = refl };
  is = refl;
})

commits_behind : (bytes : List ℕ) → Does (taking bytes) c2 (Commit 1) committed Done
commits_behind bytes = Legal.commits w2 refl refl refl refl

pub a_close_that_flushes_is_a_step : (bytes : List ℕ) → IsBuffer bytes
    → IsStep (taking bytes) full_of (Weigh 1 0 ∷ Finish 1 1 ∷ Commit 1 ∷ []) (began ++ vector_behind ++ committed) None
a_close_that_flushes_is_a_step bytes buffer = record {
  grows = grows_on (grows_on (grows_on
      (group (taking bytes) full_of _ _ _ Done [] (weighs_full bytes)) (group (taking bytes) full_of _ _ _ Stays began (flushes bytes buffer)))
      (group (taking bytes) c1 _ _ _ Done vector_behind (finishes_behind bytes)))
      (group (taking bytes) c2 _ _ _ Done committed (commits_behind bytes));
  quiet = refl;
  faults = refl;
  effects = λ off. refl;
}

-- ---- a get of a vector for which the device gives other bytes

abbrev junk : List ℕ
junk = replicate 512 0

abbrev reading : Permit
reading = did (Read (block_of geometry 65) junk ∷ [])

abbrev stored_row : Digest → Row
stored_row kept = record { id = vector_piece k 1; place = 65; blocks = 1; digest = kept; payload = None; pin = 0; alternates = Some [] }

abbrev behind_vector : Digest → State
behind_vector kept = record formatted { cursor = 66; rows = stored_row kept ∷ []; vectors = (k, Complete 1) ∷ [] }

abbrev missed : Digest → List Rec
missed kept =
    rec.Damaged (vector_piece k 1) 65 kept (document_digest junk)
    ∷ rec.ReadOpened 1 (record { 0 = 0 }) k [] (read.Miss (cause.Damaged 65 kept (document_digest junk))) ∷ []

abbrev d1 : Digest → State
d1 kept = after_all (behind_vector kept) (missed kept)

misses : (kept : Digest) → kept ≢ document_digest junk → Does reading (behind_vector kept) (Look 0 k []) (missed kept) Done
misses kept differ = Legal.looks (record {
  who = record { 0 = 0 };
  before = _;
  answer = _;
  number = refl;
  quiet = refl;
  right = Legal.IsLookup.trouble (stored_row kept) _ _ refl
      (Given.Trouble.damaged (document_digest junk) (record {
        bytes = junk;
        given = record { written = lit< tt; given = inl refl; whole = refl; of_bytes = zeros_are_bytes 512 };
        digest = refl;
        differ = differ;
      }));
  is = refl;
})

reads_nothing : (kept : Digest) → Does reading (d1 kept) (ReadAll 1) [] Done
reads_nothing kept = Legal.DoesReadAll.has_none refl refl refl refl

stops_nothing : (kept : Digest) → Does reading (d1 kept) (StopReading 1) [] Done
stops_nothing kept = Legal.closed refl refl refl

pub a_get_of_a_damaged_vector_is_a_step : (kept : Digest) → kept ≢ document_digest junk → IsStep reading (behind_vector kept) get_line (missed kept) None
a_get_of_a_damaged_vector_is_a_step kept differ = record {
  grows = grows_on (grows_on (group reading (behind_vector kept) _ _ _ Done (missed kept) (misses kept differ)) (group reading (d1 kept) _ _ _ Done [] (reads_nothing kept)))
      (group reading (d1 kept) _ _ _ Done [] (stops_nothing kept));
  quiet = refl;
  faults = refl;
  effects = λ off. refl;
}

-- ---- a get of a vector that the device gives

abbrev empty_alternate : Stored
empty_alternate = record { put = 1; pin = 0; length = 0; request = []; response = []; table = [] }

abbrev kept_row : List ℕ → Row
kept_row bytes = record { id = vector_piece k 1; place = 65; blocks = 1; digest = document_digest bytes; payload = None; pin = 0; alternates = Some (empty_alternate ∷ []) }

abbrev kept_state : List ℕ → State
kept_state bytes = record formatted { cursor = 66; rows = kept_row bytes ∷ []; vectors = (k, Complete 1) ∷ [] }

abbrev giving : List ℕ → Permit
giving bytes = did (Read (block_of geometry 65) bytes ∷ [])

abbrev g1 : List ℕ → State
g1 bytes = after_all (kept_state bytes) hit

abbrev ended_empty : List Rec
ended_empty = rec.Ended 1 0 ∷ []

abbrev g2 : List ℕ → State
g2 bytes = after_all (g1 bytes) ended_empty

looks_up : (bytes : List ℕ) → length bytes ≡ 512 → IsBytes bytes → Does (giving bytes) (kept_state bytes) (Look 0 k []) hit Done
looks_up bytes whole small = Legal.looks (record {
  who = record { 0 = 0 };
  before = [];
  answer = read.Hit 1;
  number = refl;
  quiet = refl;
  right = Legal.IsLookup.verdict (Given.IsRead.given bytes (record { written = lit< tt; given = inl refl; whole = whole; of_bytes = small }) refl);
  is = refl;
})

ends_empty : (bytes : List ℕ) → Does (giving bytes) (g1 bytes) (ReadAll 1) ended_empty Done
ends_empty bytes =
    Legal.DoesReadAll.reads_on (next.Ended 0) refl (record { r = _; before = []; quiet = refl; reading = refl; right = Legal.IsReading.verdict tt (none_next (g1 bytes) (reading_on [] 1) refl); is = refl }) refl

stops_empty : (bytes : List ℕ) → Does (giving bytes) (g2 bytes) (StopReading 1) stopped Done
stops_empty bytes = Legal.closes _ refl refl refl

pub a_get_of_what_the_device_gives_is_a_step : (bytes : List ℕ) → length bytes ≡ 512 → IsBytes bytes
    → IsStep (giving bytes) (kept_state bytes) get_line (hit ++ ended_empty ++ stopped) None
a_get_of_what_the_device_gives_is_a_step bytes whole small = record {
  grows = grows_on (grows_on (group (giving bytes) (kept_state bytes) _ _ _ Done hit (looks_up bytes whole small))
      (group (giving bytes) (g1 bytes) _ _ _ Done ended_empty (ends_empty bytes))) (group (giving bytes) (g2 bytes) _ _ _ Done stopped (stops_empty bytes));
  quiet = refl;
  faults = refl;
  effects = λ off. refl;
}
