-- What is told of the fragments that a line on a writer cuts: they are those of what the writer took.
use Rattle.std.proofs.Common.{◌≡◌, ℕ, ◌+◌, ◌-◌, ◌*◌, ◌<◌, ◌≤◌, List, [], ◌++◌, length, take, drop, refl, sym, ◌∙◌, ap, subst, arith, inl, inr}
use Rattle.std.proofs.Common.{Bool, true, false, length-append}
use Rattle.std.specs.Prelude.{Option, Some, None, if◌then◌else◌, min}
use Rattle.std.proofs.Math.Nat.{mul-le-mul_left, mul_comm}
use Rattle.std.proofs.Math.Seq.{take-append-add}
use Rattle.std.proofs.lemmas.List.{drop-append-le}
use Rattle.tape_base.specs.declared.geometries.Geometry.{Geometry}
use Rattle.fragment_table.specs.Table.{TableRow, total_length}
use Rattle.cache_model.specs.declared.record.Rec.{Rec}
use Rattle.cache_model.specs.State.{Open, PutRow, State, after_all, put_of}
use Rattle.cache_model.specs.Verdict.{cuts_of}
use Rattle.cache_model.specs.Permit.{Permit, Reason}
use Rattle.cache_model.specs.Legal.{IsQuiet, IsStep, is_writing}
use Rattle.cache_model.specs.Tape.{IsSound}
use Rattle.cache_model.proofs.Found.{cuts_found, number_of, same_some}
use Rattle.cache_model.proofs.Steps.{none_left}
use Rattle.cache_model.specs.Contents.{Contents}
use Rattle.cache_calls.specs.Actors.{IsAtHand, WriterSeen}
use Rattle.cache_calls.specs.Standing.{IsToldClosed}
use Rattle.script_run.specs.Run.{Holding, Run, Stream, no_stream, put_written_by, with_value}
use Rattle.script_run.specs.Behind.{Streams, fed, of_put, sealed_by, seals, streams_closed, streams_fed, streams_opened, taken_in_line}
use Rattle.script_run.specs.Own.{AreCuts, AreOwnPuts, ArePayloadsOwn, IsOwnPut, piece_of}
use Rattle.script_run.specs.Takes.{offered}
use Rattle.script_run.proofs.Cuts.{HaveCut, have_longer, have_same, have_shorter, length-piece, total_cuts}
use Rattle.script_run.proofs.Ended.{IsFoundOpen, open_row}
use Rattle.script_run.proofs.Fitting.{cuts_fit}
use Rattle.script_run.proofs.Grown.{held_grown}
use Rattle.script_run.proofs.Held.{IsHeld, quiet_whole}
use Rattle.script_run.proofs.Payloads.{kept_kind, stands_kept}
use Rattle.script_run.proofs.Showing.{none_shown}
use Rattle.script_run.proofs.Streams.{stands_longer}
use Rattle.script_run.proofs.Values.{value_by, value_here}
use Rattle.cache_replay.specs.Feeding.{feed_asks}
use Rattle.cache_replay.specs.Plays.{IsStreamOf}
use Rattle.cache_replay.specs.Session.{IsOpenWriter}
use Rattle.line_calls.specs.Standing.{IsToldFrom, TellsOwn, TellsPut}
use Rattle.cache_replay.proofs.ToldFrom.{IsLater, piece_behind, told_closed, told_from}

-- ---- what was cut before is the same behind the line

-- what an open put has cut of an unsealed writer are whole fragments
whole_cuts : (s : State) (streams : Streams) (put : ℕ) (w : PutRow) → AreOwnPuts s streams → is_writing s put ≡ true
    → (streams put).sealed ≡ false → put_of s put ≡ Some w
    → (total_length w.cuts ≡ length w.cuts * s.geometry.fragment) × (total_length w.cuts ≤ length (streams put).bytes)
whole_cuts s streams put w own writing unsealed found =
    let o : IsFoundOpen s put = open_row s put writing in
    let p : IsOwnPut s streams w = own put w found in
    let stream : streams w.put ≡ streams put = ap streams (number_of s put w found) in
    let is_open : w.writing ≡ Open = subst (λ (x : PutRow). x.writing ≡ Open) (same_some o.w w (put_of s put) o.found found) o.is_open in (
      p.full is_open (ap (λ (x : Stream). x.sealed) stream ∙ unsealed),
      subst (λ (x : Stream). total_length w.cuts ≤ length x.bytes) stream p.cuts.within,
    )

module _ (s : State) (streams : Streams) (own : AreOwnPuts s streams) where
  -- of this many fragments of a put another stream has the same
  abbrev Same : ℕ → PutRow → Stream → Type 0
  Same n w x = HaveCut s.geometry.fragment (length w.cuts) (streams n).bytes x.bytes

  same_here : (n : ℕ) (w : PutRow) → Same n w (streams n)
  same_here n w = have_same s.geometry.fragment (length w.cuts) (streams n).bytes

  -- so it is of each put where it is so of the one that has another stream
  with_same : (put : ℕ) (x : Stream) → ((w : PutRow) → put_of s put ≡ Some w → Same put w x)
      → (n : ℕ) (w : PutRow) → put_of s n ≡ Some w → Same n w (with_value streams put x n)
  with_same put x here n w found = value_by (Same n w) x (streams n) n put
      (λ same. subst (λ k. Same k w x) (sym same) (here w (subst (λ k. put_of s k ≡ Some w) same found))) (λ other. same_here n w)

  fed_by : (put : ℕ) (body : List ℕ) (taken : ℕ) (b : Bool) → (streams put).sealed ≡ b → is_writing s put ≡ true
      → (n : ℕ) (w : PutRow) → put_of s n ≡ Some w
      → Same n w ((if b then streams else with_value streams put (fed (streams put) body taken)) n)
  fed_by put body taken true e writing n w found = same_here n w
  fed_by put body taken false e writing n w found = with_same put (fed (streams put) body taken) (λ v there.
      let full = whole_cuts s streams put v own writing e there in
      let total = full.0 in
      let within = full.1 in
      have_longer s.geometry.fragment (length v.cuts) (streams put).bytes (take taken body) (omega (arith, total, within))) n w found

  sealed_bytes : (why : Option Reason) (x : Stream) → (sealed_by why x).bytes ≡ x.bytes
  sealed_bytes why x = by (seals why)
    where
      by : (b : Bool) → (if b then record { bytes = x.bytes; sealed = true } else x).bytes ≡ x.bytes
      by true = refl
      by false = refl

  closed_by : (put : ℕ) (why : Option Reason) (n : ℕ) (w : PutRow) → put_of s n ≡ Some w
      → Same n w (with_value streams put (sealed_by why (streams put)) n)
  closed_by put why = with_same put (sealed_by why (streams put))
      (λ w found. subst (λ (bytes : List ℕ). HaveCut s.geometry.fragment (length w.cuts) (streams put).bytes bytes)
      (sym (sealed_bytes why (streams put))) (same_here put w))

  -- a put that has not begun has cut nothing, whatever its writer takes then
  pub begun_cut : (x : Stream) (n : ℕ) (w : PutRow) → put_of s n ≡ Some w → Same n w (with_value streams s.next_put x n)
  begun_cut x = with_same s.next_put x (λ w found.
      let number = number_of s s.next_put w found in
      let below = (own s.next_put w found).begun in
      absurd (omega (arith, number, below)))

module _ (run : Run) (s : State) (name : List ℕ) (put : ℕ) (own : AreOwnPuts s run.streams)
    (has : put_written_by run name ≡ Some put) where
  pub fed_cut : is_writing s put ≡ true → (t : State) (body : List ℕ) (why : Option Reason) (n : ℕ) (w : PutRow) → put_of s n ≡ Some w
      → Same s run.streams own n w (of_put run (put_written_by run name) (streams_fed run t body why) n)
  fed_cut writing t body why n w found =
      subst (λ o. Same s run.streams own n w (of_put run o (streams_fed run t body why) n)) (sym has)
      (fed_by s run.streams own put body (taken_in_line run t body why put) (run.streams put).sealed refl writing n w found)

  pub closed_cut : (why : Option Reason) (n : ℕ) (w : PutRow) → put_of s n ≡ Some w
      → Same s run.streams own n w (of_put run (put_written_by run name) (streams_closed run why) n)
  closed_cut why n w found =
      subst (λ o. Same s run.streams own n w (of_put run o (streams_closed run why) n)) (sym has)
      (closed_by s run.streams own put why n w found)

  -- a close takes no bytes
  pub closed_bytes : (why : Option Reason)
      → (of_put run (put_written_by run name) (streams_closed run why) put).bytes ≡ (run.streams put).bytes
  closed_bytes why =
      let x : Stream = sealed_by why (run.streams put) in
      ap (λ o. (of_put run o (streams_closed run why) put).bytes) has
      ∙ (ap (λ (y : Stream). y.bytes) (value_here x (run.streams put) put put refl) ∙ sealed_bytes s run.streams own why (run.streams put))

pub opened_cut : (run : Run) (s : State) (o : Option Holding) → AreOwnPuts s run.streams → o ≡ None → (n : ℕ) (w : PutRow)
    → put_of s n ≡ Some w → HaveCut s.geometry.fragment (length w.cuts) (run.streams n).bytes (streams_opened run s o n).bytes
opened_cut run s o own none n w found =
    subst (λ x. HaveCut s.geometry.fragment (length w.cuts) (run.streams n).bytes (streams_opened run s x n).bytes) (sym none)
    (begun_cut s run.streams own no_stream n w found)

-- ---- fragments behind those that were cut

module _ (fragment : ℕ) (stream : Stream) (w : WriterSeen) (of : IsStreamOf stream w) where
  -- all that it gathered and takes then stands behind what is cut
  gathered_is : (more : List ℕ) → total_length w.cuts ≡ length w.cuts * fragment
      → w.gathered ++ more ≡ drop (length w.cuts * fragment) (stream.bytes ++ more)
  gathered_is more full =
      ap (λ (l : List ℕ). l ++ more) of.gathered
      ∙ (sym (drop-append-le (total_length w.cuts) stream.bytes more of.within) ∙ ap (λ k. drop k (stream.bytes ++ more)) full)

  -- so the fragments are those of that
  gathered_pieces : (more : List ℕ) (index : ℕ) → total_length w.cuts ≡ length w.cuts * fragment → length w.cuts < index
      → piece_of fragment (stream.bytes ++ more) index ≡ piece_of fragment (w.gathered ++ more) (index - length w.cuts)
  gathered_pieces more index full behind =
      piece_behind fragment (length w.cuts) (stream.bytes ++ more) index behind
      ∙ ap (λ (l : List ℕ). piece_of fragment l (index - length w.cuts)) (sym (gathered_is more full))

-- a put that goes on to cut what its writer took has cut whole fragments
cut_whole : (fragment : ℕ) (body : List ℕ) (before rows : List TableRow) (index : ℕ) → AreCuts fragment body before
    → AreCuts fragment body rows → length before < index → index ≤ length rows → total_length before ≡ length before * fragment
cut_whole fragment body before rows index c d behind within =
    let some : 0 < length (piece_of fragment body index) = d.none_empty index (omega (arith, behind)) within in
    let size = length-piece fragment body index in
    let total : total_length before ≡ min (length before * fragment) (length body) = total_cuts fragment body before c in
    let below : length before ≤ index - 1 = omega (arith, behind) in
    let front : fragment * length before ≤ fragment * (index - 1) = mul-le-mul_left fragment below in
    omega (arith, some, size, total, front, mul_comm fragment (length before), mul_comm fragment (index - 1))

-- ---- what is told of them

-- the fragments that the writer's put has cut are those of what it took
pub writer_cuts : (s : State) (streams : Streams) (w : WriterSeen) → AreOwnPuts s streams → IsOpenWriter s w
    → AreCuts s.geometry.fragment (streams w.put).bytes w.cuts
writer_cuts s streams w own at_hand =
    let o : IsFoundOpen s w.put = open_row s w.put at_hand.writing in
    let hand : IsAtHand s.geometry o.w w = at_hand.writer o.w o.found o.is_open in
    subst (λ (rows : List TableRow). AreCuts s.geometry.fragment (streams w.put).bytes rows) hand.cuts_are
    (subst (λ n. AreCuts s.geometry.fragment (streams n).bytes o.w.cuts) (number_of s w.put o.w o.found)
    (own w.put o.w o.found).cuts)

-- so are those of a row that was found
row_cuts : (t : State) (streams : Streams) (put : ℕ) (row : PutRow) → AreOwnPuts t streams → put_of t put ≡ Some row
    → AreCuts t.geometry.fragment (streams put).bytes row.cuts
row_cuts t streams put row own found =
    subst (λ n. AreCuts t.geometry.fragment (streams n).bytes row.cuts) (number_of t put row found) (own put row found).cuts

-- ---- a writer that closes

module _ (s t : State) (stream : Stream) (w : WriterSeen) (streams : Streams) (later : IsLater s t w) (of : IsStreamOf stream w)
    (before : AreCuts s.geometry.fragment stream.bytes w.cuts) (own : AreOwnPuts t streams)
    (bytes : (streams w.put).bytes ≡ stream.bytes) (few : length w.gathered < t.geometry.fragment) where
  -- where it has cut more, it had cut whole fragments
  closed_whole : length w.cuts < length later.row.cuts → total_length w.cuts ≡ length w.cuts * t.geometry.fragment
  closed_whole more =
      cut_whole t.geometry.fragment stream.bytes w.cuts later.row.cuts (length w.cuts + 1)
      (subst (λ (g : Geometry). AreCuts g.fragment stream.bytes w.cuts) (sym later.geometry) before)
      (subst (λ (body : List ℕ). AreCuts t.geometry.fragment body later.row.cuts) bytes (row_cuts t streams w.put later.row own later.found))
      (omega arith) (omega (arith, more))

  pub told_close : (contents : Contents) → TellsOwn streams t contents → IsToldClosed t w contents
  told_close contents tells =
      told_closed s t w stream.bytes later few of.gathered closed_whole contents tells.vectors
      (subst (λ (body : List ℕ). TellsPut t w.put body contents) bytes (tells.puts w.put))

-- ---- a writer that is fed

module _ (run : Run) (s : State) (w : WriterSeen) (body : List ℕ) (at_hand : IsOpenWriter s w)
    (of : IsStreamOf (run.streams w.put) w) (sound : IsSound s) (none : s.displaced ≡ []) (quiet : IsQuiet s)
    (kept : ArePayloadsOwn s run.streams) (p : Permit) (added : List Rec) (why : Option Reason) where
  abbrev put : ℕ
  put = w.put

  abbrev t : State
  t = after_all s added

  abbrev taken : List ℕ
  taken = (run.streams put).bytes

  -- the streams with all of the line
  abbrev all_offered : Streams
  all_offered = with_value run.streams put (offered (run.streams put) body)

  found_open : IsFoundOpen s put
  found_open = open_row s put at_hand.writing

  hand : IsAtHand s.geometry found_open.w w
  hand = at_hand.writer found_open.w found_open.found found_open.is_open

  module _ (unsealed : (run.streams put).sealed ≡ false) (step : IsStep p s (feed_asks s w body) added why) where
    full : total_length w.cuts ≡ length w.cuts * s.geometry.fragment
    full = subst (λ (rows : List TableRow). total_length rows ≡ length rows * s.geometry.fragment) hand.cuts_are
        (whole_cuts s run.streams put found_open.w kept.puts at_hand.writing unsealed found_open.found).0

    -- what was cut is of all that was given
    offered_own : AreOwnPuts t all_offered
    offered_own =
        let here : all_offered put ≡ offered (run.streams put) body =
        value_here (offered (run.streams put) body) (run.streams put) put put refl in
        let opens : (v : PutRow) → put_of s put ≡ Some v → v.writing ≡ Open =
        λ v found. subst (λ (x : PutRow). x.writing ≡ Open) (same_some found_open.w v (put_of s put) found_open.found found)
        found_open.is_open in
        let held : IsHeld kept_kind s.geometry all_offered s = record {
          geometry = refl;
          stands = stands_longer kept_kind s run.streams put body opens unsealed (stands_kept s run.streams kept);
          displaced = none;
          pending = quiet_whole s all_offered quiet;
        } in
        let gathered : w.gathered ++ body ≡ drop (length w.cuts * s.geometry.fragment) (all_offered put).bytes =
        gathered_is s.geometry.fragment (run.streams put) w of body full
        ∙ ap (λ (x : Stream). drop (length w.cuts * s.geometry.fragment) x.bytes) (sym here) in
        elim (held_grown kept_kind s.geometry all_offered
        (cuts_fit s.geometry.fragment all_offered put (length (w.gathered ++ body)) (length w.cuts) (w.gathered ++ body) gathered)
        sound held step.grows) [
          | inl behind ↦ behind.stands.puts
          | inr shown ↦ absurd (none_shown p s _ added shown)
        ]

    offered_cuts : (row : PutRow) → put_of t put ≡ Some row → AreCuts t.geometry.fragment (taken ++ body) row.cuts
    offered_cuts row found = subst (λ (x : Stream). AreCuts t.geometry.fragment x.bytes row.cuts)
        (value_here (offered (run.streams put) body) (run.streams put) put put refl) (row_cuts t all_offered put row offered_own found)

    -- so it took no less than was cut
    enough : (o : Option Reason) (row : PutRow) → put_of t put ≡ Some row
        → total_length row.cuts ≤ length taken + taken_in_line run t body o put
    enough None row found =
        let size = length-append taken body in
        let within = (offered_cuts row found).within in
        omega (arith, size, within)
    enough (Some reason) row found =
        let same : total_length (cuts_of t put) ≡ total_length row.cuts = ap total_length (cuts_found t put row found) in
        omega (arith, same)

    fed_pieces : (same : t.geometry ≡ s.geometry) (later : Streams)
        → (later put).bytes ≡ taken ++ take (taken_in_line run t body why put) body
        → (row : PutRow) → put_of t put ≡ Some row → (index : ℕ) → length w.cuts < index → index ≤ length row.cuts
        → piece_of t.geometry.fragment (later put).bytes index ≡ piece_of t.geometry.fragment (w.gathered ++ body) (index - length w.cuts)
    fed_pieces same later bytes row found index behind within =
        let n : ℕ = taken_in_line run t body why put in
        let have : HaveCut t.geometry.fragment (length row.cuts) (taken ++ body) (take (length taken + n) (taken ++ body)) =
        have_shorter t.geometry.fragment (taken ++ body) row.cuts (length taken + n) (offered_cuts row found) (enough why row found) in
        ap (λ (l : List ℕ). piece_of t.geometry.fragment l index) (bytes ∙ sym (take-append-add taken body n))
        ∙ (sym (have.pieces index (omega (arith, behind)) within)
        ∙ gathered_pieces t.geometry.fragment (run.streams put) w of body index
        (full ∙ ap (λ (g : Geometry). length w.cuts * g.fragment) (sym same)) behind)

  -- a sealed writer cuts nothing
  sealed_pieces : IsStep p s [] added why → (later : Streams) (row : PutRow) → put_of t put ≡ Some row
      → (index : ℕ) → length w.cuts < index → index ≤ length row.cuts
      → piece_of t.geometry.fragment (later put).bytes index ≡ piece_of t.geometry.fragment (w.gathered ++ body) (index - length w.cuts)
  sealed_pieces step later row found index behind within =
      let nothing : added ≡ [] = (none_left p s None added _ step.grows).0 in
      let was : put_of s put ≡ Some row = subst (λ recs. put_of (after_all s recs) put ≡ Some row) nothing found in
      let same : found_open.w ≡ row = same_some found_open.w row (put_of s put) found_open.found was in
      let rows : row.cuts ≡ w.cuts = ap (λ (x : PutRow). x.cuts) (sym same) ∙ hand.cuts_are in
      let count : length row.cuts ≡ length w.cuts = ap length rows in
      absurd (omega (arith, count, behind, within))

  fed_bytes : (b : Bool) → (run.streams put).sealed ≡ b → IsStep p s (if b then [] else feed_asks s w body) added why
      → t.geometry ≡ s.geometry → (contents : Contents)
      → TellsOwn (if b then run.streams else with_value run.streams put (fed (run.streams put) body (taken_in_line run t body why put))) t contents
      → IsToldFrom t w body contents
  fed_bytes true e step same contents = λ tells.
      told_from t w body taken contents (sealed_pieces step run.streams) tells.vectors (tells.puts put)
  fed_bytes false e step same contents = λ tells.
      let x : Stream = fed (run.streams put) body (taken_in_line run t body why put) in
      let later : Streams = with_value run.streams put x in
      told_from t w body (later put).bytes contents
      (fed_pieces e step same later (ap (λ (y : Stream). y.bytes) (value_here x (run.streams put) put put refl))) tells.vectors (tells.puts put)

  pub told_fed : IsStep p s (if (run.streams put).sealed then [] else feed_asks s w body) added why → t.geometry ≡ s.geometry
      → (contents : Contents) → TellsOwn (streams_fed run t body why put) t contents → IsToldFrom t w body contents
  told_fed step same contents tells = fed_bytes (run.streams put).sealed refl step same contents tells
