-- What a flush tells of the pieces that are due, by what came of each: these are the records of its front,
-- and it can tell them.
use Rattle.std.proofs.Common.{◌≡◌, ℕ, ◌+◌, ◌*◌, ◌≤◌, Bool, true, false, List, [], ◌∷◌, ◌++◌, refl, ◌∙◌, ap, arith, length}
use Rattle.std.specs.Prelude.{if◌then◌else◌, map, None, option_and_then, option_map}
use Rattle.std.specs.List.{AllByRecursion}
use Rattle.std.proofs.lemmas.List.{length-append}
use Rattle.tape_base.specs.declared.digests.Digest.{Digest}
use Rattle.tape_base.specs.declared.pieces.PieceId.{PieceId}
use Rattle.tape_base.specs.Piece.{same_piece}
use Rattle.evacuator.specs.declared.choosing.Candidate.{Candidate}
use Rattle.cache_model.specs.declared.record.Rec.TheVariants as rec
use Rattle.cache_model.specs.State.{Row, State, after_all, live_row_of, only_live, row_in}
use Rattle.cache_model.specs.Tape.{AreApart, NotAmong}
use Rattle.cache_model.specs.Outcomes.{Copied, NoRoom, Outcome, ReadRefused, Spoiled, front_of, records_of, stopped_front_of, stopped_records_of}
use Rattle.cache_model.proofs.Lists.{row_in-without}
use Rattle.cache_model.proofs.Live.{IsFound}
use Rattle.cache_model.proofs.Steps.{after_all-append}
use Rattle.cache_model.specs.Due.{candidate_of}
use Rattle.piece_answers.specs.declared.ahead.Fate.{Fate}
use Rattle.piece_answers.specs.declared.ahead.Fate.TheVariants as fate
use Rattle.piece_answers.specs.Ahead.{AreFates, IsFate}
use Rattle.piece_answers.specs.Faults.{CountsUpTo}
use Rattle.stripe_pieces.specs.Copying.{AreTellable, IsTellable, copies_among, copies_by, told_of_piece, told_of_pieces}

-- ---- what came of each piece, and what was kept of that

pub data Came (row : Row) : Outcome → Fate → Type 0 where
  no_room : Came row NoRoom fate.NoRoom
  copied : (bytes : List ℕ) (pinned : Bool) → Came row (Copied bytes) (fate.Copied pinned)
  spoiled : (found kept other : Digest) → kept ≡ row.digest → other ≡ found → Came row (Spoiled found) (fate.Spoiled kept other)
  refused : (count n : ℕ) → n ≡ count → Came row (ReadRefused count) (fate.Refused n)

came : (row : Row) (o : Outcome) (f : Fate) → IsFate row o f → Came row o f
came row NoRoom fate.NoRoom h = no_room
came row (Copied bytes) (fate.Copied pinned) h = copied bytes pinned
came row (Spoiled found) (fate.Spoiled kept other) h = spoiled found kept other h.0 h.1
came row (ReadRefused count) (fate.Refused n) h = refused count n h
came row NoRoom (fate.Copied pinned) h = absurd h
came row NoRoom (fate.Spoiled kept other) h = absurd h
came row NoRoom (fate.Refused n) h = absurd h
came row (Copied bytes) fate.NoRoom h = absurd h
came row (Copied bytes) (fate.Spoiled kept other) h = absurd h
came row (Copied bytes) (fate.Refused n) h = absurd h
came row (Spoiled found) fate.NoRoom h = absurd h
came row (Spoiled found) (fate.Copied pinned) h = absurd h
came row (Spoiled found) (fate.Refused n) h = absurd h
came row (ReadRefused count) fate.NoRoom h = absurd h
came row (ReadRefused count) (fate.Copied pinned) h = absurd h
came row (ReadRefused count) (fate.Spoiled kept other) h = absurd h

pub data AllCame : List Row → List Outcome → List Fate → Type 0 where
  none : AllCame [] [] []
  more : {o : Outcome} {f : Fate} {rows : List Row} {outcomes : List Outcome} {fates : List Fate} (row : Row) → Came row o f → AllCame rows outcomes fates
      → AllCame (row ∷ rows) (o ∷ outcomes) (f ∷ fates)

pub all_came : (rows : List Row) (outcomes : List Outcome) (fates : List Fate) → AreFates rows outcomes fates → AllCame rows outcomes fates
all_came [] [] [] h = none
all_came (row ∷ rows) (o ∷ outcomes) (f ∷ fates) h = more row (came row o f h.0) (all_came rows outcomes fates h.1)
all_came (row ∷ rows) [] fates h = absurd h
all_came (row ∷ rows) (o ∷ outcomes) [] h = absurd h
all_came [] (o ∷ outcomes) fates h = absurd h
all_came [] [] (f ∷ fates) h = absurd h

-- ---- the records are those of a front

one_told : (row : Row) {o : Outcome} {f : Fate} → Came row o f → told_of_piece true (candidate_of row) f ≡ records_of row o
one_told row no_room = refl
one_told row (copied bytes pinned) = refl
one_told row (spoiled found kept other same found_is) =
    ap (λ k. rec.Damaged row.id row.place k other ∷ []) same ∙ ap (λ k. rec.Damaged row.id row.place row.digest k ∷ []) found_is
one_told row (refused count n is) = ap (λ k. rec.Fault k ∷ rec.Unsaved row.id row.place true ∷ []) is

one_stopped : (row : Row) {o : Outcome} {f : Fate} → Came row o f → told_of_piece false (candidate_of row) f ≡ stopped_records_of row o
one_stopped row no_room = refl
one_stopped row (copied bytes pinned) = refl
one_stopped row (spoiled found kept other same found_is) =
    ap (λ k. rec.Damaged row.id row.place k other ∷ []) same ∙ ap (λ k. rec.Damaged row.id row.place row.digest k ∷ []) found_is
one_stopped row (refused count n is) = ap (λ k. rec.Fault k ∷ []) is

pub told_is : {rows : List Row} {outcomes : List Outcome} {fates : List Fate} → AllCame rows outcomes fates → told_of_pieces true (map candidate_of rows) fates ≡ front_of rows outcomes
told_is none = refl
told_is (more {o = o} {rows = rows} {fates = fates} row one rest) =
    ap (λ recs. recs ++ told_of_pieces true (map candidate_of rows) fates) (one_told row one) ∙ ap (λ recs. records_of row o ++ recs) (told_is rest)

pub stopped_is : {rows : List Row} {outcomes : List Outcome} {fates : List Fate} → AllCame rows outcomes fates → told_of_pieces false (map candidate_of rows) fates ≡ stopped_front_of rows outcomes
stopped_is none = refl
stopped_is (more {o = o} {rows = rows} {fates = fates} row one rest) =
    ap (λ recs. recs ++ told_of_pieces false (map candidate_of rows) fates) (one_stopped row one) ∙ ap (λ recs. stopped_records_of row o ++ recs) (stopped_is rest)

-- ---- they can be told

-- what is told of a piece leaves the others live
told_keeps : (done : Bool) (t : State) (c : Candidate) (f : Fate) (x : PieceId) → same_piece c.id x ≡ false → live_row_of (after_all t (told_of_piece done c f)) x ≡ live_row_of t x
told_keeps true t c fate.NoRoom x h = refl
told_keeps false t c fate.NoRoom x h = refl
told_keeps done t c (fate.Copied pinned) x h = refl
told_keeps done t c (fate.Spoiled kept found) x h =
    ap (option_and_then (only_live t)) (row_in-without c.id x t.rows ∙ ap (λ b. if b then None else row_in t.rows x) h)
told_keeps true t c (fate.Refused count) x h = refl
told_keeps false t c (fate.Refused count) x h = refl

still_live : (done : Bool) (t : State) (c : Candidate) (f : Fate) (rows : List Row) → NotAmong c.id rows → AllByRecursion (IsFound t) rows → AllByRecursion (IsFound (after_all t (told_of_piece done c f))) rows
still_live done t c f [] n h = tt
still_live done t c f (row ∷ rows) n h = (told_keeps done t c f row.id n.0 ∙ h.0, still_live done t c f rows n.1 h.1)

one_tellable : (t : State) (faults : ℕ) (row : Row) {o : Outcome} {f : Fate} → Came row o f → CountsUpTo faults o → IsFound t row → IsTellable t faults (candidate_of row) f
one_tellable t faults row no_room h live = tt
one_tellable t faults row (copied bytes pinned) h live = tt
one_tellable t faults row (spoiled found kept other a b) h live = ap (option_map (λ (r : Row). r.place)) live
one_tellable t faults row (refused count n is) h live = let reached : count ≤ faults = h in omega (arith, is, reached)

pub are_tellable : (done : Bool) (t : State) (faults : ℕ) {rows : List Row} {outcomes : List Outcome} {fates : List Fate} → AllCame rows outcomes fates
    → AllByRecursion (CountsUpTo faults) outcomes → AreApart rows → AllByRecursion (IsFound t) rows → AreTellable done t faults (map candidate_of rows) fates
are_tellable done t faults none h apart live = tt
are_tellable done t faults (more {o = o} {f = f} {rows = rows} row one rest) h apart live = (
  one_tellable t faults row one h.0 live.0,
  are_tellable done (after_all t (told_of_piece done (candidate_of row) f)) faults rest h.1 apart.1 (still_live done t (candidate_of row) f rows apart.0 live.1),
)

-- ---- how many they are

one_count : (done : Bool) (c : Candidate) (f : Fate) → length (told_of_piece done c f) + copies_by f ≤ 2
one_count true c fate.NoRoom = omega arith
one_count false c fate.NoRoom = omega arith
one_count done c (fate.Copied pinned) = omega arith
one_count done c (fate.Spoiled kept found) = omega arith
one_count true c (fate.Refused count) = omega arith
one_count false c (fate.Refused count) = omega arith

-- of each piece two at most, and of one that is copied its copy
pub few_told : (done : Bool) (s : State) (faults : ℕ) (cs : List Candidate) (fs : List Fate) → AreTellable done s faults cs fs
    → length (told_of_pieces done cs fs) + copies_among fs ≤ 2 * length cs
few_told done s faults [] [] h = omega arith
few_told done s faults [] (f ∷ fs) h = absurd h
few_told done s faults (c ∷ cs) [] h = absurd h
few_told done s faults (c ∷ cs) (f ∷ fs) h =
    let rest = few_told done (after_all s (told_of_piece done c f)) faults cs fs h.1 in
    omega (arith, rest, one_count done c f, length-append (told_of_piece done c f) (told_of_pieces done cs fs))

-- ---- the last fault among them

one_fault : (done : Bool) (s : State) (faults : ℕ) (c : Candidate) (f : Fate) → IsTellable s faults c f → s.fault ≤ faults → (after_all s (told_of_piece done c f)).fault ≤ faults
one_fault true s faults c fate.NoRoom h low = low
one_fault false s faults c fate.NoRoom h low = low
one_fault done s faults c (fate.Copied pinned) h low = low
one_fault done s faults c (fate.Spoiled kept found) h low = low
one_fault true s faults c (fate.Refused count) h low = h
one_fault false s faults c (fate.Refused count) h low = h

pub last_fault : (done : Bool) (s : State) (faults : ℕ) (cs : List Candidate) (fs : List Fate) → AreTellable done s faults cs fs → s.fault ≤ faults
    → (after_all s (told_of_pieces done cs fs)).fault ≤ faults
last_fault done s faults [] [] h low = low
last_fault done s faults [] (f ∷ fs) h low = absurd h
last_fault done s faults (c ∷ cs) [] h low = absurd h
last_fault done s faults (c ∷ cs) (f ∷ fs) h low =
    let first : State = after_all s (told_of_piece done c f) in
    rw (after_all-append s (told_of_piece done c f) (told_of_pieces done cs fs)) (last_fault done first faults cs fs h.1 (one_fault done s faults c f h.0 low))
