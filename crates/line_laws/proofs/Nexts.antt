-- What a reader that is asked for its next fragment is given, and where it stands behind that.
use Rattle.std.proofs.Common.{◌≡◌, ℕ, ◌+◌, ◌-◌, ◌*◌, ◌<◌, ◌≤◌, List, [], ◌∷◌, ◌++◌, length, take, refl, sym, ◌∙◌, ap, subst, arith, Bool, cond}
use Rattle.std.specs.Prelude.{Option, Some, None, find, option_map, unwrap_or, ◌==◌}
use Rattle.std.proofs.lemmas.Bool.{eq-eqb}
use Rattle.std.proofs.lemmas.Option.{slice_get_within}
use Rattle.fragment_table.specs.Table.{TableRow}
use Rattle.cache_model.specs.declared.answer.NextAnswer.{NextAnswer}
use Rattle.cache_model.specs.declared.answer.NextAnswer.TheVariants as next
use Rattle.cache_model.specs.declared.cause.Cause.{Cause}
use Rattle.cache_model.specs.declared.record.Rec.{Rec}
use Rattle.cache_model.specs.declared.record.Rec.TheVariants as rec
use Rattle.cache_model.specs.State.{State, Row, ReaderRow, change_reader, reader_of, state_after}
use Rattle.cache_model.specs.Verdict.{cuts_of, next_row, reader_verdict, table_of, verdict_at_end, verdict_of_fragment}
use Rattle.cache_model.specs.Permit.{Permit}
use Rattle.cache_model.specs.Given
use Rattle.cache_model.specs.Legal
use Rattle.cache_model.specs.Legal.{answer_record}
use Rattle.cache_model.proofs.Found.{end_gives_none, same_some}
use Rattle.step_laws.proofs.Answered.{given_is_own}
use Rattle.cache_model.proofs.Steps.{all_append}
use Rattle.script_run.specs.Run.{Run, Stream}
use Rattle.script_run.specs.Turn.{told_in}
use Rattle.script_run.specs.Own.{piece_of}
use Rattle.script_run.specs.Takes.{IsPiece}
use Rattle.script_run.proofs.Cuts.{at_next}
use Rattle.line_laws.specs.Along.{IsOpenAt}
use Rattle.line_laws.proofs.Beside.{AllBeside, AnyNumber, IsBeside, OtherThan, reading_beside}
use Rattle.line_laws.proofs.Keeping.{KeepsReader, gave_reader}
use Rattle.line_laws.proofs.Pieces.{Told, told_none, told_part, told_then}

-- ---- from one state to another

-- the reader that is u in t was r in s, and went on over what it was given
pub record GoesOn (n fragment : ℕ) (s t : State) (old now : ℕ → Stream) (given : List ℕ) (u : ReaderRow) : Type 0 where
  pub r : ReaderRow
  pub found : reader_of s n ≡ Some r
  pub put : u.put ≡ r.put
  pub on : r.next ≤ u.next
  pub opens : IsOpenAt s n r → IsOpenAt t n u
  pub told : IsOpenAt s n r → Told ((r.next - 1) * fragment) ((u.next - 1) * fragment) (old r.put).bytes (now r.put).bytes given

pub goes_then : (n fragment : ℕ) (s t v : State) (a b c : ℕ → Stream) (first second : List ℕ) (u : ReaderRow) → (g : GoesOn n fragment t v b c second u) → GoesOn n fragment s t a b first g.r
    → GoesOn n fragment s v a c (first ++ second) u
goes_then n fragment s t v a b c first second u g h = record {
  r = h.r;
  found = h.found;
  put = g.put ∙ h.put;
  on = let p = h.on in let q = g.on in omega (arith, p, q);
  opens = λ at. g.opens (h.opens at);
  told = λ at. told_then ((h.r.next - 1) * fragment) ((g.r.next - 1) * fragment) ((u.next - 1) * fragment) (a h.r.put).bytes (b h.r.put).bytes (c h.r.put).bytes first second
      (h.told at)
      (subst (λ k. Told ((g.r.next - 1) * fragment) ((u.next - 1) * fragment) (b k).bytes (c k).bytes second) h.put (g.told (h.opens at)));
}

-- ---- where the reader stays

-- what a reader is given from has no fewer fragments behind records
table_by : (n : ℕ) (s t : State) (put next : ℕ) (o : Option (List TableRow)) → KeepsReader n put s t → put < s.next_put → next ≤ length (unwrap_or o (cuts_of s put)) → next ≤ length (unwrap_or o (cuts_of t put))
table_by n s t put next None k begun within = let more = k.cuts begun in omega (arith, within, more)
table_by n s t put next (Some table) k begun within = within

pub stays : (n : ℕ) (s t : State) (old now : ℕ → Stream) (u : ReaderRow) → n < s.next_reader → KeepsReader n u.put s t
    → (IsOpenAt s n u → take ((u.next - 1) * s.geometry.fragment) (old u.put).bytes ≡ take ((u.next - 1) * s.geometry.fragment) (now u.put).bytes)
    → reader_of t n ≡ Some u → GoesOn n s.geometry.fragment s t old now [] u
stays n s t old now u opened k front found = record {
  r = u;
  found = sym (k.reader opened) ∙ found;
  put = refl;
  on = omega arith;
  opens = λ at. record { found = found; begun = k.begun at.begun; first = at.first; within = table_by n s t u.put (u.next - 1) u.table k at.begun at.within };
  told = λ at. told_none ((u.next - 1) * s.geometry.fragment) (old u.put).bytes (now u.put).bytes (front at);
}

-- ---- a fragment that is given

within_by : (s : State) (r : ReaderRow) (o : Option TableRow) (index size : ℕ) → next_row s r ≡ o
    → unwrap_or (option_map (verdict_of_fragment s r) o) (verdict_at_end s r r.table) ≡ next.Gave index size → r.next - 1 < length (table_of s r)
within_by s r None index size e h = absurd (end_gives_none s r r.table index size h)
within_by s r (Some entry) index size e h = slice_get_within (table_of s r) (r.next - 1) entry e

-- a fragment that is given is cut
given_within : (s : State) (r : ReaderRow) (index size : ℕ) → reader_verdict s r ≡ next.Gave index size → r.next - 1 < length (table_of s r)
given_within s r index size h = within_by s r (next_row s r) index size refl h

-- what a reader that reads on is told: nothing is given, or the next fragment
pub data IsNext (n : ℕ) (run : Run) (s : State) (added : List Rec) (given : List ℕ) : Type 0 where
  beside : AllBeside (OtherThan n) AnyNumber added → given ≡ [] → IsNext n run s added given
  gives : (r : ReaderRow) (size : ℕ) → reader_of s n ≡ Some r → r.next - 1 < length (table_of s r) → added ≡ rec.Gave n r.next size ∷ []
      → given ≡ piece_of s.geometry.fragment (run.streams r.put).bytes r.next → IsNext n run s added given

verdict_next : (n : ℕ) (run : Run) (s : State) (r : ReaderRow) (given : List ℕ) (answer : NextAnswer) → reader_of s n ≡ Some r → reader_verdict s r ≡ answer
    → IsPiece run s n given (told_in (answer_record n answer ∷ [])) → IsNext n run s (answer_record n answer ∷ []) given
verdict_next n run s r given (next.Gave index size) found verdict piece =
    let own : index ≡ r.next = (given_is_own s r index size verdict).0 in
    let x : ReaderRow = piece.0 in
    let same : x ≡ r = same_some x r (reader_of s n) piece.1 found in
    gives r size found (given_within s r index size verdict) (ap (λ i. rec.Gave n i size ∷ []) own)
    (piece.2 ∙ (ap (λ (y : ReaderRow). piece_of s.geometry.fragment (run.streams y.put).bytes index) same ∙ ap (piece_of s.geometry.fragment (run.streams r.put).bytes) own))
verdict_next n run s r given (next.Ended size) found verdict piece = beside (tt, tt) piece
verdict_next n run s r given (next.Waited cut) found verdict piece = beside (tt, tt) piece
verdict_next n run s r given (next.Broke why) found verdict piece = beside (tt, tt) piece

trouble_told : (p : Permit) (s : State) (row : Row) (before : List Rec) (why : Cause) (run : Run) (n : ℕ) (given : List ℕ) (last : Cause) → Given.Trouble p s row before why
    → IsPiece run s n given (told_in (before ++ rec.Broke n last ∷ [])) → given ≡ []
trouble_told p s row before why run n given last (Given.Trouble.faulted count w m) piece = piece
trouble_told p s row before why run n given last (Given.Trouble.damaged found d) piece = piece

broken_told : (p : Permit) (s : State) (row : Row) (entry : TableRow) (before : List Rec) (why : Cause) (run : Run) (n : ℕ) (given : List ℕ) (last : Cause)
    → Legal.ReadTrouble p s row entry before why → IsPiece run s n given (told_in (before ++ rec.Broke n last ∷ [])) → given ≡ []
broken_told p s row entry before why run n given last (Legal.ReadTrouble.troubled b c t) piece = trouble_told p s row before why run n given last t piece
broken_told p s row entry before why run n given last (Legal.ReadTrouble.mismatched found read unlike) piece = piece

reading_next : (n : ℕ) (run : Run) (p : Permit) (s : State) (r : ReaderRow) (before : List Rec) (answer : NextAnswer) (given : List ℕ) → reader_of s n ≡ Some r → Legal.IsReading p s r before answer
    → IsPiece run s n given (told_in (before ++ answer_record n answer ∷ [])) → IsNext n run s (before ++ answer_record n answer ∷ []) given
reading_next n run p s r before answer given found (Legal.IsReading.verdict x listed) piece = verdict_next n run s r given (reader_verdict s r) found refl piece
reading_next n run p s r before answer given found (Legal.IsReading.trouble entry row b why e live t) piece =
    beside (all_append (IsBeside (OtherThan n) AnyNumber) before _ (reading_beside (OtherThan n) AnyNumber p s r before (next.Broke why) (Legal.IsReading.trouble entry row b why e live t)) (tt, tt))
    (broken_told p s row entry before why run n given why t piece)

pub next_is : (n : ℕ) (run : Run) (p : Permit) (s : State) (added : List Rec) (given : List ℕ) (e : Rattle.cache_model.specs.Permit.End) → Legal.DoesReadOn p s n added e
    → IsPiece run s n given (told_in added) → IsNext n run s added given
next_is n run p s added given e (Legal.DoesReadOn.reads_on answer m) piece =
    subst (λ recs. IsNext n run s recs given) (sym m.is)
    (reading_next n run p s m.r m.before answer given m.reading m.right (subst (λ recs. IsPiece run s n given (told_in recs)) m.is piece))

-- ---- behind a fragment

further_found : (n : ℕ) (s : State) (r : ReaderRow) → reader_of s n ≡ Some r
    → find (λ (x : ReaderRow). x.reader == n) (change_reader n (r.next + 1) s.readers) ≡ Some (record r { next = r.next + 1 })
further_found n s r found =
    gave_reader n n (r.next + 1) s.readers
    ∙ (ap (λ (b : Bool). cond b (option_map (λ (x : ReaderRow). record x { next = r.next + 1 }) (reader_of s n)) (reader_of s n)) (eq-eqb n n refl)
    ∙ ap (option_map (λ (x : ReaderRow). record x { next = r.next + 1 })) found)

-- a reader that was given its next fragment goes on over that
pub gave : (n : ℕ) (s : State) (streams : ℕ → Stream) (r : ReaderRow) (size : ℕ) (given : List ℕ) (u : ReaderRow) → reader_of s n ≡ Some r → r.next - 1 < length (table_of s r)
    → given ≡ piece_of s.geometry.fragment (streams r.put).bytes r.next → reader_of (state_after s (rec.Gave n r.next size)) n ≡ Some u
    → GoesOn n s.geometry.fragment s (state_after s (rec.Gave n r.next size)) streams streams given u
gave n s streams r size given u found within piece now =
    let t : State = state_after s (rec.Gave n r.next size) in
    let v : ReaderRow = record r { next = r.next + 1 } in
    let there : reader_of t n ≡ Some v = further_found n s r found in
    let f : ℕ = s.geometry.fragment in
    let body : List ℕ = (streams r.put).bytes in
    let g : GoesOn n f s t streams streams given v = record {
      r = r;
      found = found;
      put = refl;
      on = omega arith;
      opens = λ at. record { found = there; begun = at.begun; first = omega arith; within = let first = at.first in omega (arith, within, first) };
      told = λ at.
          subst (λ e. Told ((r.next - 1) * f) e body body given) (sym (at_next r.next f at.first))
          (subst (Told ((r.next - 1) * f) ((r.next - 1) * f + f) body body) (sym piece) (told_part ((r.next - 1) * f) f body));
    } in
    subst (GoesOn n f s t streams streams given) (same_some v u (reader_of t n) there now) g
