-- What a line asks of a writer, and what it leaves of it.
use Rattle.std.proofs.Common.{◌≡◌, ℕ, List, [], ◌∷◌, ◌++◌, length, drop, refl, sym, ◌∙◌, ap, subst, Bool, true, false, inl, inr}
use Rattle.std.specs.Prelude.{Option, Some, None, IfSome, if◌then◌else◌, option_and_then, option_map, unwrap_or}
use Rattle.tape_base.specs.declared.keys.Key.{Key}
use Rattle.fragment_table.specs.Table.{TableRow, total_length}
use Rattle.cache_model.specs.State.{PutRow, State, after_all, put_of}
use Rattle.cache_model.specs.Verdict.{cuts_of}
use Rattle.cache_model.specs.Permit.{GiveUp, Intent, Reason}
use Rattle.cache_model.specs.Legal.{IsQuiet, IsStep, is_writing}
use Rattle.cache_model.specs.Vectors.{IsVectorAs}
use Rattle.call_laws.specs.Untold.{Untold}
use Rattle.call_laws.specs.Moments.{At, Facts, permit_of}
use Rattle.call_laws.specs.Progress.{AllDone, EndsWith}
use Rattle.call_laws.specs.Progress as progress
use Rattle.call_laws.specs.Serves.{ServesTold}
use Rattle.call_laws.specs.Whole.{IsWholeStep}
use Rattle.call_laws.proofs.Joined.{state_behind}
use Rattle.cache_calls.specs.Actors.{IsWriterOf, WriterSeen}
use Rattle.cache_calls.specs.Keeping.{plain_setting, state_at}
use Rattle.script_grammar.specs.declared.answer.StepAnswer.{StepAnswer}
use Rattle.script_grammar.specs.declared.answer.StepAnswer.TheVariants as answer
use Rattle.script_run.specs.Answers as says
use Rattle.script_run.specs.Answers.{session_said}
use Rattle.script_run.specs.Asked as asks
use Rattle.script_run.specs.Asked.{asked, feed_intents}
use Rattle.script_run.specs.Behind.{holds_behind, still_open, streams_behind}
use Rattle.script_run.specs.Run.{Run, HoldsWriter, gathered_of, put_in, put_written_by}
use Rattle.script_run.specs.Takes.{GivesOwn, streams_with}
use Rattle.script_run.specs.Switch.{order_of_step}
use Rattle.script_run.specs.Turn.{Turn}
use Rattle.script_run.proofs.Ended.{IsFoundOpen, open_row}
use Rattle.cache_replay.specs.Feeding.{feed_asks}
use Rattle.cache_replay.specs.Plays.{IsStreamOf}
use Rattle.cache_replay.specs.Session.{IsOpenWriter}
use Rattle.cache_replay.specs.WriterLines.{ClosesLine, FeedsLine, GivesUpLine, IsPlayed, IsWriterLeft, OpensLine, WriterDoes, WriterEnds, WriterLine, step_of_writer, writes_in}
use Rattle.line_calls.proofs.Owned.{writer_is_ended}
use Rattle.line_calls.proofs.Whole.{left_by, serves_whole, shows_line, shows_piece, takes_line, turn_by}

-- ---- the put of an actor

pub has_put : (run : Run) (name : List ℕ) (s : State) (w : WriterSeen) → IsPlayed run name s w → put_written_by run name ≡ Some w.put
has_put run name s w played = ap (option_and_then put_in) played.held

pub cuts_at : (s : State) (w : WriterSeen) → IsOpenWriter s w → cuts_of s w.put ≡ w.cuts
cuts_at s w own =
    let o : IsFoundOpen s w.put = open_row s w.put own.writing in
    ap (λ (r : Option PutRow). unwrap_or (option_map (λ (p : PutRow). p.cuts) r) []) o.found ∙ (own.writer o.w o.found o.is_open).cuts_are

pub key_at : (s : State) (w : WriterSeen) → IsOpenWriter s w → option_map (λ (p : PutRow). p.key) (put_of s w.put) ≡ Some w.key
key_at s w own =
    let o : IsFoundOpen s w.put = open_row s w.put own.writing in
    ap (λ (r : Option PutRow). option_map (λ (p : PutRow). p.key) r) o.found ∙ ap (λ (k : Key). Some k) (own.writer o.w o.found o.is_open).key_is

pub gathered_at : (run : Run) (name : List ℕ) (s : State) (w : WriterSeen) → IsPlayed run name s w → IsOpenWriter s w → gathered_of run s w.put ≡ w.gathered
gathered_at run name s w played own =
    ap (λ (rows : List TableRow). drop (total_length rows) (run.streams w.put).bytes) (cuts_at s w own) ∙ sym played.stream.gathered

-- a writer that is not sealed is asked for the whole fragments among what it has gathered with these bytes
pub feeding_asks : (run : Run) (name : List ℕ) (s : State) (w : WriterSeen) (body : List ℕ) → IsPlayed run name s w → IsOpenWriter s w
    → asked run s (step_of_writer (FeedsLine body) name) ≡ (if (run.streams w.put).sealed then [] else feed_asks s w body)
feeding_asks run name s w body played own =
    ap (λ o. asks.asks_if_has o (asks.feeding run s body)) (has_put run name s w played)
    ∙ (ap (λ (rows : List TableRow). if (run.streams w.put).sealed then [] else feed_intents s.geometry.fragment w.put (length rows) (gathered_of run s w.put ++ body))
    (cuts_at s w own)
    ∙ ap (λ (bytes : List ℕ). if (run.streams w.put).sealed then [] else feed_intents s.geometry.fragment w.put (length w.cuts) (bytes ++ body))
    (gathered_at run name s w played own))

-- ---- a line whose calls are a step

-- what the run has behind it
pub record IsBehind (run : Run) (name : List ℕ) (a b : At) (line : WriterLine) (turn : Turn) (left : Option WriterSeen) (said : StepAnswer) : Type 0 where
  pub held : holds_behind run (state_at a) (state_at b) (step_of_writer line name) name ≡ writes_in left
  pub stream : IfSome left (λ w. IsStreamOf (streams_behind run (state_at a) (state_at b) turn (step_of_writer line name) w.put) w)
  pub says : session_said run (state_at a) (state_at b) turn (step_of_writer line name) ≡ said

pub given_none : (line : WriterLine) (run : Run) (s : State) (name : List ℕ) (turn : Turn) → turn.given ≡ [] → GivesOwn run s turn (step_of_writer line name)
given_none (FeedsLine body) run s name turn h = h
given_none ClosesLine run s name turn h = h
given_none GivesUpLine run s name turn h = h
given_none (OpensLine key pin request response) run s name turn h = h

-- it tells no switch anything
silent : (line : WriterLine) (name : List ℕ) → order_of_step (step_of_writer line name) ≡ None
silent (FeedsLine body) name = refl
silent ClosesLine name = refl
silent GivesUpLine name = refl
silent (OpensLine key pin request response) name = refl

module _ (run : Run) (name : List ℕ) (a b : At) (now : ℕ) (plain : a.setting ≡ plain_setting) (moment : run.now ≡ now) (line : WriterLine) where
  pub writer_ends : {known : Facts} (is : List Intent) (why : Option Reason) (left : Option WriterSeen) (said : StepAnswer)
      → asked run (state_at a) (step_of_writer line name) ≡ is
      → (w : IsWholeStep (Untold b.device IsVectorAs) now a b is why known)
      → (IsStep (permit_of now a w.calls) (state_at a) is w.added why → state_at b ≡ after_all (state_at a) w.added
      → known (state_at b)
      → IsBehind run name a b line (turn_by run (step_of_writer line name) a b now plain moment w.added why w.calls []) left said)
      → WriterEnds run name a b line left said
  writer_ends is why left said same w then_ =
      let p = permit_of now a w.calls in
      let turn : Turn = turn_by run (step_of_writer line name) a b now plain moment w.added why w.calls [] in
      elim w.ends [
        | inr pair ↦ inr (shows_line run (step_of_writer line name) a b now plain moment is w.calls w.added same (silent line name) w.happens.past
            (left_by run (step_of_writer line name) a b now plain moment w.calls w.added w.happens)
            (shows_piece (streams_with run (state_at a) (step_of_writer line name)) b.device p (state_at a) is w.added pair))
        | inl v ↦
            let behind : IsBehind run name a b line turn left said = then_ v.0 (state_behind a.kept b.kept w.added w.happens.adds) v.1 in
            inl (record {
              moves = record {
                turn = turn;
                takes = takes_line run (step_of_writer line name) a b now plain moment is why [] same (silent line name) w (given_none line run (state_at a) name turn refl) v.0;
                calls = w.happens.past;
                state = state_behind a.kept b.kept w.added w.happens.adds;
                says = behind.says;
              };
              held = behind.held;
              stream = behind.stream;
            })
      ]

-- ---- a put is given up

ended_at : (t : State) (put : ℕ) → is_writing t put ≡ false → still_open t (Some (HoldsWriter put)) ≡ None
ended_at t put none = ap (λ (b : Bool). if b then Some (HoldsWriter put) else None) none

pub gives_up : (a b : At) (w : WriterSeen) (put : ℕ) → a.setting ≡ plain_setting → IsQuiet (state_at b) → put ≡ w.put
    → ((now : ℕ) → ServesTold now a b (GiveUp w.put ∷ []) AllDone)
    → (now : ℕ) → WriterDoes now a b GivesUpLine w None (Some (answer.Aborted put))
gives_up a b w put plain quiet is serves now = λ run name moment played.
    let s : State = state_at a in
    let t : State = state_at b in
    let has = has_put run name s w played in
    writer_ends run name a b now plain moment GivesUpLine (GiveUp w.put ∷ []) None None (answer.Aborted put)
    (ap (λ o. asks.asks_if_has o (λ n. GiveUp n ∷ [])) has)
    (serves_whole None progress.EndsWith.in_full plain quiet played.told (serves now))
    (λ legal there known. record {
      held = ap (still_open t) played.held ∙ ended_at t w.put (ap (λ x. is_writing x w.put) there ∙ writer_is_ended _ s (GiveUp w.put ∷ []) _ None w.put refl legal);
      stream = tt;
      says = ap (λ o. says.if_has o answer.Aborted) has ∙ ap answer.Aborted (sym is);
    })

-- ---- a writer that is left where its put is open

-- what is left of a writer, where its put is open
abbrev pub LeftOpen : State → WriterSeen → Option WriterSeen → Type 0
LeftOpen t w left = left ≡ (if is_writing t w.put then Some w else None)

held_by_open : (t : State) (put : ℕ) (w : WriterSeen) (left : Option WriterSeen) (b : Bool) → w.put ≡ put → is_writing t put ≡ b → left ≡ (if b then Some w else None)
    → (if b then Some (HoldsWriter put) else None) ≡ writes_in left
held_by_open t put w left true is e l = ap (λ (n : ℕ). Some (HoldsWriter n)) (sym is) ∙ ap writes_in (sym l)
held_by_open t put w left false is e l = ap writes_in (sym l)

pub held_open : (t : State) (put : ℕ) (w : WriterSeen) (left : Option WriterSeen) → w.put ≡ put → LeftOpen t w left → still_open t (Some (HoldsWriter put)) ≡ writes_in left
held_open t put w left is l =
    held_by_open t put w left (is_writing t put) is refl (l ∙ ap (λ n. if is_writing t n then Some w else None) is)

stream_by : (P : WriterSeen → Type 0) (w : WriterSeen) (left : Option WriterSeen) (b : Bool) → left ≡ (if b then Some w else None) → (b ≡ true → P w) → IfSome left P
stream_by P w left true l h = subst (λ o. IfSome o P) (sym l) (h refl)
stream_by P w left false l h = subst (λ o. IfSome o P) (sym l) tt

-- what holds of it where its put is open holds of the one that is left
pub of_left : (P : WriterSeen → Type 0) (t : State) (w : WriterSeen) (left : Option WriterSeen) → LeftOpen t w left → (is_writing t w.put ≡ true → P w) → IfSome left P
of_left P t w left l h = by (is_writing t w.put) refl
  where
    by : (b : Bool) → is_writing t w.put ≡ b → IfSome left P
    by b e = stream_by P w left b (l ∙ ap (λ (c : Bool). if c then Some w else None) e) (λ yea. h (e ∙ yea))

pub is_left : (t : State) (put : ℕ) (w : WriterSeen) (left : Option WriterSeen) → w.put ≡ put → IsWriterOf t w → LeftOpen t w left → IsWriterLeft t put left
is_left t put w left is own l = of_left (λ w. (w.put ≡ put) × IsOpenWriter t w) t w left l (λ o. (is, record { writing = o; writer = own }))

-- as a function answers it
pub left_seen : {W : Type 0} (seen : W → WriterSeen) (t : State) (w : W) (left : Option W) → left ≡ (if is_writing t (seen w).put then Some w else None)
    → LeftOpen t (seen w) (option_map seen left)
left_seen {W} seen t w left is = ap (option_map seen) is ∙ by (is_writing t (seen w).put)
  where
    by : (b : Bool) → option_map seen (if b then Some w else None) ≡ (if b then Some (seen w) else None)
    by true = refl
    by false = refl
