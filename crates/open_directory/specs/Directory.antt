-- What a contract sees of an `OpenDirectory`: who writes, what was cut, and who reads.
use Rattle.std.specs.Prelude.{◌≡◌, ℕ, ◌+◌, ◌-◌, ◌≤◌, min, Bool, true, false, not, ◌&&◌, ◌==◌, if◌then◌else◌, List, [], ◌∷◌, ◌++◌, length, filter, Option, Some, None, option_map, slice_get}
use Rattle.std.specs.List.{fold}
use Rattle.std.specs.Ordering.{nat_cmp}
use Rattle.std.specs.BTreeMap.{is_at, insert_entry}
use Rattle.std.specs.Map.{lookup, remove_entry}
use Rattle.alternate_vector.specs.Field.{Field}
use Rattle.alternate_vector.specs.Vary.{request_matches}
use Rattle.fragment_table.specs.Table.{TableRow, total_length}
use Rattle.tape_base.specs.declared.keys.Key.{Key}
use Rattle.tape_base.specs.declared.digests.Digest.{Digest}
use Rattle.tape_base.specs.Key.{same_key}
use Rattle.open_directory.specs.declared.kept.Writer.{Writer}
use Rattle.open_directory.specs.declared.kept.KeptPut.{KeptPut}
use Rattle.open_directory.specs.declared.kept.Reader.{Reader}
use Rattle.open_directory.specs.declared.kept.Phase.{Phase}
use Rattle.open_directory.specs.declared.kept.Phase.TheVariants.{Writing, Closed, GivenUp}
use Rattle.open_directory.specs.declared.kept.PutState.{PutState}
use Rattle.open_directory.specs.declared.kept.PutState.TheVariants.{Open, Committed, Aborted}

-- the open writers in the order of opening, by their numbers the kept puts and the open readers, and how many more
-- readers can be added without taking memory
pub record Held : Type 0 where
  pub writers : List Writer
  pub puts : List (ℕ × KeptPut)
  pub readers : List (ℕ × Reader)
  pub reader_room : ℕ

-- a reader takes room of both tables
abbrev pub room_now : ℕ → ℕ → ℕ
room_now readers index = min readers index

-- the same, with another room for readers
abbrev pub with_reader_room : ℕ → Held → Held
with_reader_room room held = record held { reader_room = room }

-- the test for a number
abbrev pub is_number : ℕ → ℕ → Bool
is_number n = is_at (nat_cmp n)

-- the entry of a number, changed
abbrev pub changed : {X : Type 0} → (X → X) → ℕ → List (ℕ × X) → List (ℕ × X)
changed f n [] = []
changed f n (e ∷ es) = if is_number n e.0 then (e.0, f e.1) ∷ es else e ∷ changed f n es

-- what is kept of a put, where it is
abbrev pub kept_put : ℕ → List (ℕ × KeptPut) → Option KeptPut
kept_put put puts = lookup (is_number put) puts

-- how a put stands, with so many fragments cut, of so many bytes
abbrev pub put_state_at : Phase → ℕ → ℕ → PutState
put_state_at Writing cut bytes = Open cut
put_state_at Closed cut bytes = Committed cut bytes
put_state_at GivenUp cut bytes = Aborted cut

-- how a put stands, by its phase and the fragments in its table
abbrev pub put_state_of : KeptPut → PutState
put_state_of kept = put_state_at kept.phase (length kept.cuts.rows) (total_length kept.cuts.rows)

-- the same by its number; none where it never began, or ended and is forgotten
abbrev pub put_state : ℕ → List (ℕ × KeptPut) → Option PutState
put_state put puts = option_map put_state_of (kept_put put puts)

-- the put is kept, and a writer of it is open
abbrev pub is_open_state : Option PutState → Bool
is_open_state None = false
is_open_state (Some (Open cut)) = true
is_open_state (Some (Committed cut length)) = false
is_open_state (Some (Aborted cut)) = false

-- the put is kept, and ended
abbrev pub is_ended_state : Option PutState → Bool
is_ended_state None = false
is_ended_state (Some (Open cut)) = false
is_ended_state (Some (Committed cut length)) = true
is_ended_state (Some (Aborted cut)) = true

-- the phase of an open put: neither closed nor given up
abbrev pub is_writing_phase : Phase → Bool
is_writing_phase Writing = true
is_writing_phase Closed = false
is_writing_phase GivenUp = false

-- what is kept of a put is that of an open one; a put that is not kept is not open
abbrev pub is_open_put : Option KeptPut → Bool
is_open_put None = false
is_open_put (Some kept) = is_writing_phase kept.phase

-- a writer of the put is open
abbrev pub is_kept_open : ℕ → List (ℕ × KeptPut) → Bool
is_kept_open put puts = is_open_put (kept_put put puts)

-- the rows of its fragments: none where the put is not kept
abbrev pub rows_kept : Option KeptPut → List TableRow
rows_kept None = []
rows_kept (Some kept) = kept.cuts.rows

-- the fragments that were cut of a put
abbrev pub kept_cuts : ℕ → List (ℕ × KeptPut) → List TableRow
kept_cuts put puts = rows_kept (kept_put put puts)

-- how many fragments are cut, as a cut answers
abbrev pub count_of_rows : List TableRow → ℕ
count_of_rows rows = length rows

-- the room in its table: none where the put is not kept
abbrev pub room_kept : Option KeptPut → ℕ
room_kept None = 0
room_kept (Some kept) = kept.cuts.room

-- how many more fragments of a put can be cut without taking memory
abbrev pub room_for_fragments : ℕ → List (ℕ × KeptPut) → ℕ
room_for_fragments put puts = room_kept (kept_put put puts)

-- a row as callers are told it, with its digest as a `Digest`
abbrev pub table_row : TableRow → ℕ × Digest
table_row row = (row.length, record { 0 = row.digest })

-- the row of a fragment, counted from 1
abbrev pub row_of_index : ℕ → List TableRow → Option (ℕ × Digest)
row_of_index index rows = if index == 0 then None else option_map table_row (slice_get rows (index - 1))

-- a put of which nothing is cut, with room for so many fragments
abbrev pub new_put : ℕ → KeptPut
new_put room = record { phase = Writing; cuts = record { rows = []; room = room }; followers = 0 }

-- one writer more, of a put with room for so many fragments
abbrev pub with_open_writer : Writer → ℕ → Held → Held
with_open_writer writer room held = record held { writers = held.writers ++ writer ∷ []; puts = insert_entry nat_cmp held.puts writer.put (new_put room) }

-- the put with these fragments and room for so many more, its phase and followers as they were
abbrev pub with_cuts : List TableRow → ℕ → KeptPut → KeptPut
with_cuts rows room kept = record kept { cuts = record { rows = rows; room = room } }

-- one fragment more of a put, and room for so many behind it
abbrev pub kept_with_cut : ℕ → TableRow → ℕ → List (ℕ × KeptPut) → List (ℕ × KeptPut)
kept_with_cut put row room puts = changed (λ kept. with_cuts (kept.cuts.rows ++ row ∷ []) room kept) put puts

-- the same fragments of a put, and room for so many behind them
abbrev pub with_room : ℕ → ℕ → List (ℕ × KeptPut) → List (ℕ × KeptPut)
with_room put room puts = changed (λ kept. with_cuts kept.cuts.rows room kept) put puts

-- the put ended, and no reader follows it: nothing of it need be kept
abbrev pub is_done_put : Option KeptPut → Bool
is_done_put None = false
is_done_put (Some kept) = not (is_writing_phase kept.phase) && kept.followers == 0

-- how many open readers were added to a put while it was open, as the put counts them
abbrev pub followers_kept : Option KeptPut → ℕ
followers_kept None = 0
followers_kept (Some kept) = kept.followers

-- no put has more or fewer followers
abbrev pub KeepsFollowers : List (ℕ × KeptPut) → List (ℕ × KeptPut) → Type 0
KeepsFollowers before after = (put : ℕ) → followers_kept (kept_put put after) ≡ followers_kept (kept_put put before)

-- each put is open, and is done, as it was
abbrev pub KeepsStanding : List (ℕ × KeptPut) → List (ℕ × KeptPut) → Type 0
KeepsStanding before after = (put : ℕ) → (is_kept_open put after ≡ is_kept_open put before) × (is_done_put (kept_put put after) ≡ is_done_put (kept_put put before))

-- one put has one follower more, and no other has more or fewer
abbrev pub AddsFollower : ℕ → List (ℕ × KeptPut) → List (ℕ × KeptPut) → Type 0
AddsFollower to before after = (put : ℕ) → followers_kept (kept_put put after) ≡ (if is_number to put then 1 else 0) + followers_kept (kept_put put before)

-- the put with so many followers, its phase and fragments as they were
abbrev pub with_followers : ℕ → KeptPut → KeptPut
with_followers followers kept = record kept { followers = followers }

-- a put has one follower more; where it is not kept, nothing changes
abbrev pub with_follower : ℕ → List (ℕ × KeptPut) → List (ℕ × KeptPut)
with_follower put puts = changed (λ kept. with_followers (kept.followers + 1) kept) put puts

-- a put has one follower fewer; it stays kept, also where it is done then
abbrev pub one_fewer : ℕ → List (ℕ × KeptPut) → List (ℕ × KeptPut)
one_fewer put puts = changed (λ kept. with_followers (kept.followers - 1) kept) put puts

-- a put that ended and that no reader follows is forgotten
abbrev pub without_done : ℕ → List (ℕ × KeptPut) → List (ℕ × KeptPut)
without_done put puts = if is_done_put (kept_put put puts) then remove_entry (is_number put) puts else puts

-- what is left of what is kept of a put: nothing where it is done
abbrev pub unless_done : Option KeptPut → Option KeptPut
unless_done kept = if is_done_put kept then None else kept

-- one put is forgotten where it is done, and no other
abbrev pub Forgets : ℕ → List (ℕ × KeptPut) → List (ℕ × KeptPut) → Type 0
Forgets put before after = (q : ℕ) → kept_put q after ≡ (if is_number put q then unless_done (kept_put q before) else kept_put q before)

-- the put in this phase, its fragments and followers as they were
abbrev pub with_phase : Phase → KeptPut → KeptPut
with_phase phase kept = record kept { phase = phase }

-- the writers of other puts
abbrev pub writers_but : ℕ → List Writer → List Writer
writers_but put writers = filter (λ w. not (w.put == put)) writers

-- the writer of a put gone
abbrev pub ended : Phase → ℕ → Held → Held
ended phase put held = record held {
  writers = writers_but put held.writers;
  puts = without_done put (changed (with_phase phase) put held.puts);
}

-- a lookup of the key with this request can follow the writer
abbrev pub is_follow : Key → List Field → Writer → Bool
is_follow key request writer = same_key writer.key key && request_matches request writer.request writer.response

-- the put of the last writer that can be followed
abbrev pub put_followed : Key → List Field → List Writer → Option ℕ
put_followed key request writers = fold (λ last w. if is_follow key request w then Some w.put else last) None writers

-- a reader that was added to the put while it was open
abbrev pub is_follower : ℕ → Reader → Bool
is_follower put reader = reader.follows && is_number reader.put put

-- how many open readers were added to a put while it was open
abbrev pub followers_of : ℕ → List (ℕ × Reader) → ℕ
followers_of put [] = 0
followers_of put (e ∷ es) = (if is_follower put e.1 then 1 else 0) + followers_of put es

-- how many open writers a put has
abbrev pub writers_of : ℕ → List Writer → ℕ
writers_of put [] = 0
writers_of put (w ∷ ws) = (if w.put == put then 1 else 0) + writers_of put ws

-- what is kept agrees: at most 64 writers are open, one of each put that is open and none of another; each put counts its
-- followers, and one that ended has some
pub record IsHeldDirectory (held : Held) : Type 0 where
  pub few : length held.writers ≤ 64
  pub writing : (put : ℕ) → writers_of put held.writers ≡ (if is_kept_open put held.puts then 1 else 0)
  pub followers : (put : ℕ) → followers_kept (kept_put put held.puts) ≡ followers_of put held.readers
  pub followed : (put : ℕ) → is_done_put (kept_put put held.puts) ≡ false

-- a reader of a put, which follows it where it is open
abbrev pub new_reader : ℕ → ℕ → List (ℕ × KeptPut) → Reader
new_reader put next puts = record { put = put; next = next; follows = is_kept_open put puts }

-- one reader more
abbrev pub with_reader : ℕ → ℕ → ℕ → Held → Held
with_reader number put next held = record held {
  puts = (if is_kept_open put held.puts then with_follower put held.puts else held.puts);
  readers = insert_entry nat_cmp held.readers number (new_reader put next held.puts);
}

-- an open reader by its number: none where it never opened, or was closed
abbrev pub reader_at : ℕ → Held → Option Reader
reader_at number held = lookup (is_number number) held.readers

-- with another next index
abbrev pub moved : ℕ → ℕ → Held → Held
moved number next held = record held { readers = changed (λ reader. record reader { next = next }) number held.readers }

-- the puts without one of their readers
abbrev pub puts_without : Option Reader → List (ℕ × KeptPut) → List (ℕ × KeptPut)
puts_without None puts = puts
puts_without (Some reader) puts = if reader.follows then without_done reader.put (one_fewer reader.put puts) else puts

-- one reader gone
abbrev pub held_without_reader : ℕ → Held → Held
held_without_reader number held = record held {
  puts = puts_without (reader_at number held) held.puts;
  readers = remove_entry (is_number number) held.readers;
}

-- the lesser of a number and one that may be there
abbrev pub min_with : ℕ → Option ℕ → Option ℕ
min_with n None = Some n
min_with n (Some m) = Some (min n m)

-- the least next index of the open readers of a put
abbrev pub least_next : ℕ → List Reader → Option ℕ
least_next put readers = fold (λ least r. if r.put == put then min_with r.next least else least) None readers
