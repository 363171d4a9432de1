-- What stands behind a line, by what writers took: of pieces it is told what was told of them before the line.
use Rattle.std.proofs.Common.{◌≡◌, ℕ, ◌-◌, ◌*◌, List, length, sym, ap, subst, inl, inr, ◌⊎◌}
use Rattle.std.specs.Prelude.{Some, None, IfSome}
use Rattle.logged_disk.specs.Device.{TellsAll}
use Rattle.cache_model.specs.State.{PutRow, State, fragment_piece, put_of}
use Rattle.cache_model.specs.Pair.{ShowsPair}
use Rattle.cache_model.specs.Vectors.{ArePuts, AreTold, AreVectors}
use Rattle.step_laws.proofs.ToldGroups.{told_step}
use Rattle.cache_model.specs.Contents.{AnyContents, AreRecordedAs, Content, Contents}
use Rattle.call_laws.proofs.Kept.{tells_or_not}
use Rattle.cache_calls.specs.declared.calls.Calls.{Ghosts as CallsGhosts}
use Rattle.cache_calls.specs.Keeping.{IsAtRest, state_at}
use Rattle.cache_calls.specs.Standing.{StaysStanding}
use Rattle.script_grammar.specs.declared.step.Step.{Step}
use Rattle.script_grammar.specs.declared.answer.StepAnswer.{StepAnswer}
use Rattle.script_run.specs.Run.{Run}
use Rattle.script_run.specs.Asked.{asked}
use Rattle.script_run.specs.Behind.{Streams, streams_behind}
use Rattle.script_run.specs.Own.{AreOwn, ArePayloadsOwn, AreWriting, IsPlacedAs}
use Rattle.script_run.specs.Takes.{streams_with}
use Rattle.script_run.proofs.Alone.{shows_taken}
use Rattle.script_run.proofs.Cuts.{HaveCut, have_same}
use Rattle.script_run.proofs.Fragments.{own_is_kept}
use Rattle.script_run.proofs.Stepping.{steps_keep}
use Rattle.cache_replay.specs.declared.session.Part.{Part}
use Rattle.line_calls.specs.Moves.{Moves, ShowsIn}
use Rattle.cache_replay.specs.Session.{at_in, state_in_part}
use Rattle.line_calls.specs.Standing.{OwnStands, TellsOwn, own_contents, piece_content}
use Rattle.line_calls.proofs.KeptPuts.{grown_leaves}
use Rattle.line_calls.proofs.Owned.{own_stays, writer_is_ended}
use Rattle.line_calls.proofs.OwnContents.{kept_is_own, tells_own}
use Rattle.cache_replay.proofs.PutsGrown.{GrowsFrom, told_grown}
use Rattle.line_calls.proofs.Whole.{shows_placed}

-- ---- what is told

-- what is told behind a step was told before it, as far as it was cut there
module _ (s t : State) (a b : Streams) (grows : (n : ℕ) → GrowsFrom s t n)
    (cut : (n : ℕ) (w : PutRow) → put_of s n ≡ Some w → HaveCut s.geometry.fragment (length w.cuts) (a n).bytes (b n).bytes) where
  told_then : (contents : Contents) → TellsOwn b t contents → TellsOwn a s contents
  told_then contents tells = record {
    vectors = tells.vectors;
    puts = λ n w found index some within.
        let same : piece_content s.geometry.fragment (b n).bytes index ≡ piece_content s.geometry.fragment (a n).bytes index =
        ap (λ (payload : List ℕ). let c : Content = record { start = (index - 1) * s.geometry.fragment; payload = payload } in c)
        (sym ((cut n w found).pieces index some within)) in
        subst (λ x. IfSome (contents (fragment_piece w.key n index) None) (λ c. c ≡ x)) same
        (told_grown s t n (b n).bytes contents (grows n) (tells.puts n) w found index some within);
  }

-- where a writer takes nothing, what was cut is the same
cut_same : (s : State) (a b : Streams) → b ≡ a → (n : ℕ) (w : PutRow) → put_of s n ≡ Some w
    → HaveCut s.geometry.fragment (length w.cuts) (a n).bytes (b n).bytes
cut_same s a b same n w found =
    subst (λ (x : Streams). HaveCut s.geometry.fragment (length w.cuts) (a n).bytes (x n).bytes) (sym same)
    (have_same s.geometry.fragment (length w.cuts) (a n).bytes)

-- ---- a line

-- what the laws of the trait `Calls` tell of a cache: it is at rest, and where its device tells its content, each vector lists what the
-- records say, and what stands is recorded as its document
pub record IsLawful {S W R : Type 0} (c : CallsGhosts S W R) : Type 0 where
  pub rest : (cache : S) → c.holds cache → IsAtRest (c.at cache)
  pub vectors : (cache : S) → c.holds cache → TellsAll (c.at cache).device → AreVectors (state_at (c.at cache))
  pub recorded : (cache : S) (contents : Contents) → c.holds cache → c.stands cache contents → TellsAll (c.at cache).device
      → AreRecordedAs contents (state_at (c.at cache))

module _ {S W R : Type 0} {c : CallsGhosts S W R} (run : Run) (step : Step) (old new : Part S W R c) (said : StepAnswer)
    (m : Moves run step (at_in old) (at_in new) said) where
  abbrev s : State
  s = state_in_part old

  abbrev t : State
  t = state_in_part new

  abbrev later : Streams
  later = streams_behind run s t m.turn step

  -- vectors are told, and what stands belongs to what writers took
  pub record Stood : Type 0 where
    pub told : AreTold t
    pub own : AreOwn t later

  -- what was told of pieces stands behind the line, where it is told so of what the line placed
  pub stands_then : (Told : Contents → Type 0) → ((n : ℕ) → GrowsFrom s t n)
      → ((n : ℕ) (w : PutRow) → put_of s n ≡ Some w → HaveCut s.geometry.fragment (length w.cuts) (run.streams n).bytes (later n).bytes)
      → ((contents : Contents) → TellsOwn later t contents → Told contents)
      → StaysStanding c.stands Told old.cache new.cache → OwnStands run.streams s (c.stands old.cache)
      → OwnStands later t (c.stands new.cache)
  stands_then Told grows cut told stays stands =
      λ contents tells.
      stays contents (told contents tells) (stands contents (told_then s t run.streams later grows cut contents tells))

  -- so it does behind a line in which no writer takes anything
  pub stands_on : later ≡ run.streams → ((n : ℕ) → GrowsFrom s t n) → StaysStanding c.stands AnyContents old.cache new.cache
      → OwnStands run.streams s (c.stands old.cache) → OwnStands later t (c.stands new.cache)
  stands_on same grows stays stands = stands_then AnyContents grows (cut_same s run.streams later same) (λ contents tells. tt) stays stands

  module _ (rest : IsAtRest (at_in old)) (told : AreTold s) (own : AreOwn s run.streams) (writing : AreWriting run s) where
    -- what writers took goes on to be what stands, but for the documents of fragments
    pub kept_then : ArePayloadsOwn t later
    kept_then =
        let kept = steps_keep writer_is_ended run s m.turn step rest.sound rest.none rest.quiet (own_is_kept s run.streams own) writing
        m.takes.legal in
        subst (λ x. ArePayloadsOwn x (streams_behind run s x m.turn step)) (sym m.state) kept.0

    -- on a device that tells its content no pair is shown
    stood_told : IsLawful c → c.holds new.cache → OwnStands later t (c.stands new.cache) → TellsAll (at_in new).device → Stood
    stood_told lawful holds stands tells =
        let contents : Contents = own_contents t.geometry.fragment later in
        record {
          told = record {
            vectors = lawful.vectors new.cache holds tells;
            puts = subst ArePuts (sym m.state) (grown_leaves m.takes.legal.grows told.puts);
            displaced = (lawful.rest new.cache holds).none;
          };
          own = kept_is_own t later kept_then (lawful.recorded new.cache contents holds (stands contents (tells_own later t)) tells);
        }

    -- a pair of the turn is one that the line shows
    shown_so : (TellsAll (at_in new).device → ⊥)
        → ShowsPair (IsPlacedAs (streams_with run s step)) m.turn.device s (asked run s step) m.turn.added
        → ShowsIn run step (at_in old) (at_in new)
    shown_so untold pair = record {
      turn = m.turn;
      calls = m.calls;
      shows = shows_taken (at_in old).device.past run s m.turn step m.takes pair;
      untold = untold;
    }

    stood_untold : (TellsAll (at_in new).device → ⊥) → Stood ⊎ ShowsIn run step (at_in old) (at_in new)
    stood_untold untold = elim (told_step m.turn.device s (asked run s step) m.turn.added m.turn.refused rest.sound told m.takes.legal) [
      | inr pair ↦
          inr (shown_so untold (shows_placed (streams_with run s step) m.turn.device s (asked run s step) m.turn.added pair))
      | inl later_told ↦ elim (own_stays run s m.turn step rest.sound told rest.quiet own writing m.takes.legal) [
        | inr pair ↦ inr (shown_so untold pair)
        | inl later_own ↦ inl (record {
          told = subst AreTold (sym m.state) later_told;
          own = subst (λ x. AreOwn x (streams_behind run s x m.turn step)) (sym m.state) later_own;
        })
      ]
    ]

    -- so it is behind the line, or the line shows a pair
    pub stood : IsLawful c → c.holds new.cache → OwnStands later t (c.stands new.cache) → Stood ⊎ ShowsIn run step (at_in old) (at_in new)
    stood lawful holds stands = elim (tells_or_not (at_in new).device) [
      | inl tells ↦ inl (stood_told lawful holds stands tells)
      | inr untold ↦ stood_untold untold
    ]
