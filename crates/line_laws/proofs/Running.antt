-- What lines give to a reader, one after the other.
use Rattle.std.proofs.Common.{◌≡◌, ℕ, ◌<◌, List, [], ◌∷◌, refl, sym, ◌∙◌, ap, subst, inl, inr}
use Rattle.std.specs.Prelude.{IsSome, Option, Some, None, is_some}
use Rattle.cache_model.specs.State.{State, ReaderRow, reader_of}
use Rattle.cache_model.specs.Legal.{IsQuiet}
use Rattle.cache_model.proofs.Found.{same_some}
use Rattle.script_grammar.specs.Grammar.{reading_of}
use Rattle.script_run.specs.Run.{Run, Stream}
use Rattle.script_run.specs.Turn.{Turn}
use Rattle.script_run.specs.Behind.{after_line}
use Rattle.script_run.specs.Takes.{IsRun, run_after}
use Rattle.line_laws.proofs.Nones.{none_along}
use Rattle.line_laws.specs.Along.{AreOfSession, IsOpenAt, KeptAlong, StandsKept, StandsWhere}
use Rattle.line_laws.specs.Given.{given_to}
use Rattle.line_laws.specs.Laws.{HasGiven}
use Rattle.line_laws.proofs.Keeping.{keeps_self}
use Rattle.line_laws.proofs.Fronts.{reader_begun}
use Rattle.line_laws.proofs.Nexts.{GoesOn, goes_then, stays}
use Rattle.line_laws.proofs.Lines.{OfSteps, line_goes}

-- behind all lines the session goes on, and so does the reader where it is open still
pub record RunGoes (n : ℕ) (s : State) (old : ℕ → Stream) (after : Run) (given : List ℕ) : Type 0 where
  pub t : State
  pub state : after.state ≡ Some t
  pub geometry : t.geometry ≡ s.geometry
  pub quiet : IsQuiet t
  pub stands : StandsKept after t
  pub goes : (u : ReaderRow) → reader_of t n ≡ Some u → GoesOn n s.geometry.fragment s t old after.streams given u

-- no line but a format begins a session
session_along : (run : Run) (lines : List (List ℕ)) (turns : List Turn) → IsRun run lines turns → KeptAlong run lines turns → AreOfSession lines
session_along run [] turns takes along = tt
session_along run (bytes ∷ lines) [] takes along = absurd takes
session_along run (bytes ∷ lines) (turn ∷ turns) takes along = (along.0, session_along (after_line run turn bytes) lines turns takes.1 along.2)

not_some : (let none : Option State = None in IsSome none) → ⊥
not_some is = cc

stands_in : (run : Run) (s : State) → run.state ≡ Some s → StandsWhere StandsKept run run.state → StandsKept run s
stands_in run s e h = subst (StandsWhere StandsKept run) e h

pub run_goes : (laws : OfSteps) (n : ℕ) (lines : List (List ℕ)) (turns : List Turn) (run : Run) (s : State) → run.state ≡ Some s → IsRun run lines turns → KeptAlong run lines turns → IsQuiet s → n < s.next_reader
    → IsSome (run_after run lines turns).state → RunGoes n s run.streams (run_after run lines turns) (given_to n run lines turns)
run_goes laws n [] [] run s e takes along quiet opened stands = record {
  t = s;
  state = e;
  geometry = refl;
  quiet = quiet;
  stands = stands_in run s e along;
  goes = λ u found. stays n s s run.streams run.streams u opened (keeps_self n u.put s) (λ at. refl) found;
}
run_goes laws n [] (turn ∷ turns) run s e takes along quiet opened stands = absurd takes
run_goes laws n (bytes ∷ lines) [] run s e takes along quiet opened stands = absurd takes
run_goes laws n (bytes ∷ lines) (turn ∷ turns) run s e takes along quiet opened last =
    let stands : StandsKept run s = stands_in run s e along.1 in
    let mid : Run = after_line run turn bytes in
    elim (line_goes laws n run s turn stands quiet opened (reading_of bytes) e along.0 takes.0) [
      | inl first ↦
          let rest = run_goes laws n lines turns mid first.t first.state takes.1 along.2 first.quiet first.opened last in
          record {
            t = rest.t;
            state = rest.state;
            geometry = rest.geometry ∙ first.geometry;
            quiet = rest.quiet;
            stands = rest.stands;
            goes = λ u found.
                let g : GoesOn n s.geometry.fragment first.t rest.t mid.streams (run_after mid lines turns).streams (given_to n mid lines turns) u =
                subst (λ f. GoesOn n f first.t rest.t mid.streams (run_after mid lines turns).streams (given_to n mid lines turns) u) (ap (λ (x : Rattle.tape_base.specs.declared.geometries.Geometry.Geometry). x.fragment) first.geometry) (rest.goes u found) in
                goes_then n s.geometry.fragment s first.t rest.t run.streams mid.streams (run_after mid lines turns).streams _ (given_to n mid lines turns) u g (first.goes g.r g.found);
          }
      | inr none ↦ absurd (not_some (subst IsSome (none_along mid lines turns none takes.1 (session_along mid lines turns takes.1 along.2)) last))
    ]

-- it stands before the first line
pub stands_first : (run : Run) (lines : List (List ℕ)) (turns : List Turn) (s : State) → run.state ≡ Some s → IsRun run lines turns → KeptAlong run lines turns → StandsKept run s
stands_first run [] [] s e takes along = stands_in run s e along
stands_first run [] (turn ∷ turns) s e takes along = absurd takes
stands_first run (bytes ∷ lines) [] s e takes along = absurd takes
stands_first run (bytes ∷ lines) (turn ∷ turns) s e takes along = stands_in run s e along.1

has_given : (s t : State) (n : ℕ) (r u : ReaderRow) (old now : ℕ → Stream) (given : List ℕ) → IsOpenAt s n r → (g : GoesOn n s.geometry.fragment s t old now given u) → g.r ≡ r
    → HasGiven s.geometry.fragment (now r.put).bytes given r u
has_given s t n r u old now given at g first =
    let here : IsOpenAt s n g.r = subst (IsOpenAt s n) (sym first) at in
    subst (λ (x : ReaderRow). HasGiven s.geometry.fragment (now x.put).bytes given x u) first (record { put = g.put; on = g.on; is = (g.told here).is })

pub fragments_given : (laws : OfSteps) (run : Run) (lines : List (List ℕ)) (turns : List Turn) (s t : State) (reader : ℕ) (r u : ReaderRow)
    → IsRun run lines turns → KeptAlong run lines turns → run.state ≡ Some s → IsQuiet s → IsOpenAt s reader r
    → (run_after run lines turns).state ≡ Some t → reader_of t reader ≡ Some u
    → HasGiven s.geometry.fragment ((run_after run lines turns).streams r.put).bytes (given_to reader run lines turns) r u
fragments_given laws run lines turns s t reader r u takes along e quiet at last found =
    let stands : StandsKept run s = stands_first run lines turns s e takes along in
    let all = run_goes laws reader lines turns run s e takes along quiet (reader_begun run s reader r stands at.found) (ap is_some last) in
    let same : all.t ≡ t = same_some all.t t (run_after run lines turns).state all.state last in
    let g = all.goes u (subst (λ (x : State). reader_of x reader ≡ Some u) (sym same) found) in
    let first : g.r ≡ r = same_some g.r r (reader_of s reader) g.found at.found in
    has_given s all.t reader r u run.streams (run_after run lines turns).streams (given_to reader run lines turns) at g first
