-- A reader reads on.
use Rattle.std.proofs.Common.{◌≡◌, ℕ, ◌≤◌, List, [], ◌∷◌, ◌++◌, length, take, refl, sym, ◌∙◌, ap, subst, inl, inr, ◌⊎◌, arith, Result, Ok, Err}
use Rattle.std.specs.Prelude.{Option, Some, None, IsErrAnd, min, option_and_then}
use Rattle.std.proofs.lemmas.List.{length-take}
use Rattle.device_log.specs.Calls.{Call}
use Rattle.cache_model.specs.declared.cause.Cause.{Cause}
use Rattle.cache_model.specs.declared.cause.Cause.TheVariants as cause
use Rattle.cache_model.specs.declared.record.Rec.{Rec}
use Rattle.fragment_table.specs.Table.{TableRow}
use Rattle.cache_model.specs.State.{Row, State, live_row_of}
use Rattle.cache_model.specs.Verdict.{next_piece, next_row}
use Rattle.cache_model.specs.Permit.{Permit, ReadOn, to_do}
use Rattle.cache_model.specs.Given.{IsDocumentOf}
use Rattle.cache_model.specs.Legal.{answer_record, live_next, nothing}
use Rattle.cache_model.specs.Pair.{Documents, IsPairOf}
use Rattle.cache_model.specs.ToRead.{IsToRead, to_read}
use Rattle.cache_model.specs.Vectors.{IsVectorAs}
use Rattle.logged_disk.specs.Device.{DeviceState as Device, TellsAll}
use Rattle.call_laws.specs.Untold.{Untold}
use Rattle.cache_model.specs.Contents.{Contents}
use Rattle.call_laws.specs.Moments.{At, NothingKnown, permit_of}
use Rattle.call_laws.specs.Happens.{Happens}
use Rattle.call_laws.specs.Progress.{AllDone, in_full}
use Rattle.call_laws.specs.Serves.{ServesFrom}
use Rattle.call_laws.specs.Whole.{IsWholeStep}
use Rattle.call_laws.proofs.Kept.{tells_or_not}
use Rattle.cache_calls.specs.declared.calls.Calls.{Ghosts as CallsGhosts}
use Rattle.cache_answers.specs.declared.answers.NextPiece.{NextPiece}
use Rattle.cache_answers.specs.declared.answers.NextPiece.TheVariants as piece
use Rattle.cache_calls.specs.Actors.{IsOpenReader, IsReaderOf, ReaderSeen, as_row, row_by}
use Rattle.cache_calls.specs.Keeping.{IsAtRest, StaysUnharmed, plain_setting, state_at}
use Rattle.cache_calls.specs.Standing.{GivesAsTold}
use Rattle.cache_model.specs.Troubles.{cause_records}
use Rattle.cache_calls.specs.Readers.{HasRead, IsFragment, IsGivenAs, IsGivenInEachStep, IsToldTo, listed_length, next_trouble, noted, read_adds}
use Rattle.call_laws.proofs.Whole.{encloses_own}
use Rattle.script_grammar.specs.declared.step.Step.TheVariants as step
use Rattle.script_grammar.specs.declared.answer.StepAnswer.{StepAnswer}
use Rattle.script_grammar.specs.declared.answer.StepAnswer.TheVariants as answer
use Rattle.script_run.specs.Run.{Run, Stream}
use Rattle.script_run.specs.Turn.{Turn, later, told_in}
use Rattle.script_run.specs.Asked as asks
use Rattle.script_run.specs.Answers as says
use Rattle.script_run.specs.Own.{AreOwn, IsPlacedAs, piece_of}
use Rattle.script_run.specs.Takes.{IsNextPiece, IsPiece}
use Rattle.script_run.proofs.Reading.{read_is_own}
use Rattle.cache_replay.specs.declared.stop.Stop.{Stop}
use Rattle.cache_replay.specs.declared.stop.Stop.TheVariants.{Memory}
use Rattle.line_calls.specs.Moves.{ShowsIn}
use Rattle.cache_replay.specs.ReaderLines.{IsReadBy, IsWithin, NextEnds, ReadsOnLine, next_answer}
use Rattle.line_calls.specs.Standing.{OwnStands, own_contents}
use Rattle.cache_replay.proofs.Frames.{same_added}
use Rattle.line_calls.proofs.OwnContents.{given_is_own, tells_own}
use Rattle.line_calls.proofs.Whole.{left_by, moves_line, serves_whole, shows_line}

-- ---- what the reader was told

pub later_none : (o : Option Rec) → later None o ≡ o
later_none None = refl
later_none (Some r) = refl

told_cause : (row : Row) (why : Cause) (last : List Rec) → told_in (cause_records row why ++ last) ≡ told_in last
told_cause row (cause.DeviceFault count) last = later_none (told_in last)
told_cause row (cause.Damaged place kept other) last = later_none (told_in last)
told_cause row _ last = refl

told_trouble : (o : Option Row) (given : NextPiece) (last : List Rec) → told_in (next_trouble o given ++ last) ≡ told_in last
told_trouble None given last = refl
told_trouble (Some row) (piece.Piece index size) last = refl
told_trouble (Some row) (piece.End size) last = refl
told_trouble (Some row) (piece.NotYet cut) last = refl
told_trouble (Some row) (piece.Broken why) last = told_cause row why last

told_last : (s : State) (r : ReaderSeen) (given : NextPiece) → told_in (read_adds s r given) ≡ told_in (answer_record r.reader (noted (listed_length s r) given) ∷ [])
told_last s r given = told_trouble (live_next s (as_row r)) given (answer_record r.reader (noted (listed_length s r) given) ∷ [])

-- ---- what it was given

whole_payload : (p : Permit) (s : State) (row : Row) (size : ℕ) (into : List ℕ) → IsDocumentOf p s row size into → size ≡ length (take size into)
whole_payload p s row size into d = d.size_is ∙ ap length (sym d.payload)

fits_page : (size : ℕ) (into : List ℕ) → size ≡ length (take size into) → size ≤ length into
fits_page size into e = let cut : length (take size into) ≡ min size (length into) = length-take size into in omega (arith, e, cut)

-- a piece is within what it was read to
given_within : (p : Permit) (s : State) (r : ReaderSeen) (given : NextPiece) (into : List ℕ) → IsGivenAs p s r given into → IsWithin given into
given_within p s r (piece.Piece index size) into h = fits_page size into (whole_payload p s h.row size into h.document)
given_within p s r (piece.End size) into h = tt
given_within p s r (piece.NotYet cut) into h = tt
given_within p s r (piece.Broken why) into h = tt

-- by the step that has the calls of this one alone
given_in : (now : ℕ) (a b : At) (r : ReaderSeen) (given : NextPiece) (into : List ℕ) (calls : List Call) → b.device.past ≡ calls ++ a.device.past
    → IsGivenInEachStep a b r given into → IsGivenAs (permit_of now a calls) (state_at a) r given into
given_in now a b r given into calls past is = is now (permit_of now a calls) [] calls past (encloses_own now a calls)

pub read_within : (a b : At) (r : ReaderSeen) (given : NextPiece) (into : List ℕ) (calls : List Call) (added : List Rec) → Happens a b calls added
    → HasRead a b r given into → IsWithin given into
read_within a b r given into calls added happens read =
    given_within (permit_of 0 a calls) (state_at a) r given into (given_in 0 a b r given into calls happens.past read.given)

-- ---- what comes of it beside a run

-- the piece that is read for it
reads_next : (s : State) (r : ReaderSeen) (entry : TableRow) (row : Row) → IsReaderOf s r → next_row s (as_row r) ≡ Some entry → live_row_of s (next_piece (as_row r)) ≡ Some row
    → to_read s (ReadOn r.reader) ≡ Some row
reads_next s r entry row own cut live =
    ap (option_and_then (live_next s)) own.found ∙ (ap (option_and_then (λ (e : TableRow). live_row_of s (next_piece (as_row r)))) cut ∙ live)

-- a pair on a device that did not tell its content
untold_pair : (IsPlaced : Documents) (last : Device) (p : Permit) (s : State) (row : Row) → (TellsAll last → ⊥) → IsPairOf IsPlaced p s row → IsPairOf (Untold last IsPlaced) p s row
untold_pair IsPlaced last p s row none h =
    record { document = h.document; bytes = h.bytes; live = h.live; placed = (h.placed, none); given = h.given; collide = h.collide }

module _ {S W R : Type 0} (c : CallsGhosts S W R) (old new : S) (r later : ReaderSeen) (plain : (c.at old).setting ≡ plain_setting) (first : 1 ≤ r.next)
    (run : Run) (name : List ℕ) (by : IsReadBy run name (state_at (c.at old)) r) (stands : OwnStands run.streams (state_at (c.at old)) (c.stands old))
    (keeps : IsReaderOf (state_at (c.at new)) later)
    (w : IsWholeStep (Untold (c.at new).device IsVectorAs) run.now (c.at old) (c.at new) (ReadOn r.reader ∷ []) None NothingKnown) where
  abbrev a : At
  a = c.at old

  abbrev b : At
  b = c.at new

  asked_is : asks.asked run (state_at a) (step.Next name) ≡ ReadOn r.reader ∷ []
  asked_is = ap (λ (o : Option ℕ). asks.asks_if_has o (λ reader. ReadOn reader ∷ [])) by.held

  abbrev permit : Permit
  permit = permit_of run.now a w.calls

  moves_with : (given : NextPiece) (bytes : List ℕ) (said : StepAnswer) → w.added ≡ read_adds (state_at a) r given
      → IsPiece run (state_at a) r.reader bytes (told_in (answer_record r.reader (noted (listed_length (state_at a) r) given) ∷ []))
      → says.next_said bytes (told_in (answer_record r.reader (noted (listed_length (state_at a) r) given) ∷ [])) ≡ said
      → NextEnds run name a b later said
  moves_with given bytes said adds whose answers =
      let told : told_in w.added ≡ told_in (answer_record r.reader (noted (listed_length (state_at a) r) given) ∷ []) = ap told_in adds ∙ told_last (state_at a) r given in
      let turn : Turn = record { added = w.added; refused = None; device = permit; given = bytes; told = [] } in
      elim (moves_line run (step.Next name) a b run.now plain refl (ReadOn r.reader ∷ []) None bytes said asked_is refl w
      (subst (IsNextPiece run (state_at a) turn) (sym by.held) (subst (IsPiece run (state_at a) r.reader bytes) (sym told) whose))
      (λ known. ap (λ (o : Option ℕ). says.if_has o (λ reader. says.next_said bytes (told_in w.added))) by.held ∙ (ap (says.next_said bytes) told ∙ answers))) [
        | inl m ↦ inl (record { moves = m; keeps = keeps })
        | inr pair ↦ inr pair
      ]

  shows_other : (row : Row) → to_read (state_at a) (ReadOn r.reader) ≡ Some row → (TellsAll b.device → ⊥) → IsPairOf (IsPlacedAs run.streams) permit (state_at a) row
      → ShowsIn run (step.Next name) a b
  shows_other row reads none pair =
      shows_line run (step.Next name) a b run.now plain refl (ReadOn r.reader ∷ []) w.calls w.added asked_is refl w.happens.past
      (left_by run (step.Next name) a b run.now plain refl w.calls w.added w.happens) (record {
        before = [];
        rest = w.added;
        left = to_do (ReadOn r.reader ∷ []);
        is = refl;
        grows = nothing;
        pair = record { row = row; read = IsToRead.asked_for reads; pair = untold_pair (IsPlacedAs run.streams) b.device permit (state_at a) row none pair };
      })

  -- what is read is the put's: on a device that tells its content it is what is told of it
  is_own : (index size : ℕ) (into : List ℕ) → IsFragment permit (state_at a) r index size into → GivesAsTold c.at c.stands old new r (Ok (piece.Piece index size)) into
      → (take size into ≡ piece_of (state_at a).geometry.fragment (run.streams r.put).bytes r.next) ⊎ ShowsIn run (step.Next name) a b
  is_own index size into h exact = elim (tells_or_not b.device) [
    | inl tells ↦
        let own : Contents = own_contents (state_at a).geometry.fragment run.streams in
        inl (given_is_own (state_at a) run.streams r (state_at a).geometry.fragment index size into h.entry h.row by.own first h.cut h.live
        (exact tells own (stands own (tells_own run.streams (state_at a)))))
    | inr none ↦ elim (read_is_own permit (state_at a) run.streams (row_by by.reader.actor r) h.row size into by.own first h.live h.document) [
      | inl is ↦ inl is
      | inr other ↦ inr (shows_other h.row (reads_next (state_at a) r h.entry h.row by.reader h.cut h.live) none other)
    ]
  ]

  ends_with : (given : NextPiece) (into : List ℕ) → w.added ≡ read_adds (state_at a) r given → IsGivenAs permit (state_at a) r given into
      → GivesAsTold c.at c.stands old new r (Ok given) into → NextEnds run name a b later (next_answer given into)
  ends_with (piece.Piece index size) into adds h exact =
      elim (is_own index size into h exact) [
        | inl is ↦ moves_with (piece.Piece index size) (take size into) (answer.Piece index size (take size into)) adds
            (row_by by.reader.actor r, by.reader.found, is ∙ ap (piece_of (state_at a).geometry.fragment (run.streams r.put).bytes) (sym h.index_is))
            (ap (λ n. answer.Piece index n (take size into)) (sym (whole_payload permit (state_at a) h.row size into h.document)))
        | inr shows ↦ inr shows
      ]
  ends_with (piece.End size) into adds h exact = moves_with (piece.End size) [] (answer.End size) adds refl refl
  ends_with (piece.NotYet cut) into adds h exact = moves_with (piece.NotYet cut) [] (answer.NotYet cut) adds refl refl
  ends_with (piece.Broken why) into adds h exact = moves_with (piece.Broken why) [] (says.broken_said why) adds refl refl

module _ {S W R : Type 0} (c : CallsGhosts S W R) where
  pub next_ends : (old new : S) (r later : ReaderSeen) (given : NextPiece) (into : List ℕ) → (c.at old).setting ≡ plain_setting → IsAtRest (c.at new)
      → 1 ≤ r.next → ((now : ℕ) → ServesFrom (Untold (c.at new).device IsVectorAs) now (c.at old) (c.at new) (ReadOn r.reader ∷ []) AllDone (IsToldTo r) NothingKnown)
      → HasRead (c.at old) (c.at new) r given into → GivesAsTold c.at c.stands old new r (Ok given) into → (IsReaderOf (state_at (c.at old)) r → IsReaderOf (state_at (c.at new)) later)
      → (run : Run) (name : List ℕ) → IsReadBy run name (state_at (c.at old)) r → OwnStands run.streams (state_at (c.at old)) (c.stands old)
      → NextEnds run name (c.at old) (c.at new) later (next_answer given into)
  next_ends old new r later given into setting rest first serves read exact keeps run name by stands =
      let a : At = c.at old in
      let w : IsWholeStep (Untold (c.at new).device IsVectorAs) run.now a (c.at new) (ReadOn r.reader ∷ []) None NothingKnown =
      serves_whole None in_full setting rest.quiet (by.told, by.reader) (serves run.now) in
      ends_with c old new r later setting first run name by stands (keeps by.reader) w given into
      (same_added a.kept (c.at new).kept w.added (read_adds (state_at a) r given) w.happens.adds read.adds) (given_in run.now a (c.at new) r given into w.calls w.happens.past read.given)
      exact

  -- where memory was wanting it is answered nothing
  pub reads_wanting : (old new : S) (r later : ReaderSeen) (result : Result StepAnswer Stop) → IsErrAnd result (λ why. why ≡ Memory) → IsOpenReader (state_at (c.at new)) later
      → later.reader ≡ r.reader → ((streams : ℕ → Stream) → AreOwn (state_at (c.at old)) streams → IsReaderOf (state_at (c.at old)) r → StaysUnharmed (c.at old) (c.at new))
      → ReadsOnLine c old new r later result
  reads_wanting old new r later (Ok said) wanting reader same unharmed = absurd wanting
  reads_wanting old new r later (Err why) wanting reader same unharmed = record { reader = reader; same = same; ends = tt; unharmed = unharmed; counts = tt }
