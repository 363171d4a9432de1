-- How each line that is not answered ends a run.
use Rattle.std.proofs.Common.{◌≡◌, ℕ, ◌+◌, ◌-◌, ◌^◌, min, List, [], ◌∷◌, ◌++◌, length, length-append, append_assoc, append-nil, Option, Some, None, Ok, Err, refl, sym, ◌∙◌, ap, subst, arith, inl, inr, ◌⊎◌, lit≤}
use Rattle.device_log.specs.Faults.{next_count}
use Rattle.device_log.specs.Streams.{SourceRead, SinkWrite, GaveBytes, CameToEnd, RefusedRead, refused_reads}
use Rattle.edge_io.specs.Lines.{GivesLine}
use Rattle.edge_io.specs.Source.{LastReadFailed, NoReadFailed}
use Rattle.edge_io.specs.Text.{text_after}
use Rattle.edge_io.specs.LineReader.{Answers, AreNeeded, FailsAsRead, IsDecided}
use Rattle.edge_io.specs.declared.reader.LineFault.{LineFault}
use Rattle.edge_io.specs.declared.reader.LineFault.TheVariants as fault
use Rattle.cache_calls.specs.declared.calls.Calls.{Ghosts as CallsGhosts}
use Rattle.logged_disk.specs.Device.{DeviceState as Device}
use Rattle.device_bay.specs.Calls.{BayCall, refusals_of}
use Rattle.script_grammar.specs.declared.line.BadLine.{BadLine}
use Rattle.script_grammar.specs.declared.line.LineAnswer.TheVariants as line
use Rattle.script_grammar.specs.declared.step.Step.{Step}
use Rattle.script_grammar.specs.declared.last_line.LastLine.{LastLine}
use Rattle.script_grammar.specs.declared.last_line.LastLine.TheVariants as last
use Rattle.script_grammar.specs.Texts.{answer_line}
use Rattle.script_grammar.specs.Grammar.{reading_of}
use Rattle.script_run.specs.Run.{Harm, Run, fresh, no_harm}
use Rattle.script_run.specs.Behind.{own_harm}
use Rattle.script_run.specs.Takes.{run_after}
use Rattle.run_promise.specs.Outline.{Lacks, Outline, blank_outline, told_of}
use Rattle.run_promise.specs.Lines.{texts_before, texts_of}
use Rattle.logged_disk.specs.declared.device.Disk.{Ghosts as DiskGhosts}
use Rattle.cache_replay.specs.declared.session.Replay.{Replay}
use Rattle.cache_replay.specs.declared.stop.Stop.TheVariants as stop
use Rattle.cache_replay.specs.declared.stop.Stop.{Stop as Stopped}
use Rattle.cache_replay.specs.Replay.{IsLeftAtEnd, IsOutlined, IsReplay, PlaysOn, bare_return, devices_in, ended, returns_in, stays, tried}
use Rattle.cache_replay.specs.Session.{return_of}
use Rattle.cache_replay.specs.Stop.{LacksIn}
use Rattle.script_run.specs.Switch.{is_of_device}
use Rattle.std.specs.Prelude.{Bool, false, is_some, true}
use Rattle.script_run.specs.Ledger.{AreReached, ComeBack, Deals, Ledger}
use Rattle.run_script.specs.declared.run.Ending.{Ending}
use Rattle.run_script.specs.declared.run.Ending.TheVariants as ending
use Rattle.run_script.specs.declared.run.Halt.{Halt}
use Rattle.run_script.specs.declared.run.Halt.TheVariants.{Stop, WriteFault, Memory}
use Rattle.run_promise.specs.Story.{Story, DevicesTold, Taken, SinkTook, Recorded, ShownAlong, GoesOn, GaveBack, IsReadThrough, Owes, OwesOrGave, SendsAll, SendsBefore, SendsFront, CutsLast, WantsInLine, Refusals, refusals_around, Because, all_in, own_loosened, told_by, told_by_records}
use Rattle.run_script.specs.Ending.{EndsRun, FailedReads, IsOfRun}
use Rattle.run_script.specs.Halt.{AnswerIsWritten, StepHalts, StepLeaves, ending_of, last_of}
use Rattle.run_script.proofs.Stories.{step_more, Deals-nothing, Deals-trans, Deals-settled, answered_with, along_with, story_with}
use Rattle.run_script.proofs.Halts.{Took-kept, Took-nothing, Took-trans, cuts_last, plays_reach}

-- the end that the last reads met
pub read_through : (given : ℕ) (more old now : List SourceRead) (unread unread' : List ℕ) → now ≡ more ++ old → Answers given more unread unread' (Ok None) → IsReadThrough now unread
read_through given more old now unread unread' grew known =
    record { ended = (known.0.0 ++ old, grew ∙ ap (λ l. l ++ old) known.0.1); none = known.1 }

-- one refusal more is one count more
not_same : (old older : List SourceRead) (count : ℕ) → old ≡ RefusedRead count ∷ older → refused_reads older ≡ refused_reads old → ⊥
unfolding refused_reads
not_same old older count is same =
    let more : length (refused_reads old) ≡ length (refused_reads older) + 1 = ap (λ l. length (refused_reads l)) is ∙ length-append (refused_reads older) (count ∷ []) in
    absurd (omega (arith, more, ap length same))

-- a read that failed was made where nothing was decided
pub holds_none : (given : ℕ) (before : List ℕ) (more old now : List SourceRead) (count : ℕ) → now ≡ more ++ old → LastReadFailed old now count → AreNeeded given before more → IsDecided given (text_after before more) → ⊥
holds_none given before [] old now count grew failed needed = λ decided. not_same old failed.older count (sym grew ∙ failed.is) failed.others
holds_none given before (GaveBytes bytes ∷ more) old now count grew failed needed = let no : GaveBytes bytes ∷ (more ++ old) ≡ RefusedRead count ∷ failed.older = sym grew ∙ failed.is in absurd cc
holds_none given before (CameToEnd ∷ more) old now count grew failed needed = let no : CameToEnd ∷ (more ++ old) ≡ RefusedRead count ∷ failed.older = sym grew ∙ failed.is in absurd cc
holds_none given before (RefusedRead k ∷ more) old now count grew failed needed = needed.0

module _ (first now : List SourceRead) (taken_first taken : List SinkWrite) (ledger_first ledger : Ledger) (unread : List ℕ) (given : ℕ) (Outlined : Outline → Type 0) (PlaysOn' : Run → Type 0)
    (Reached : List Harm → Type 0) (devices : ℕ) (reach : (o : Outline) → Outlined o → Reached (told_of o.session)) (reach_run : (run : Run) → PlaysOn' run → Reached (own_harm run))
    (story : GoesOn first taken_first ledger_first now unread given taken ledger Outlined PlaysOn') where
  -- what the records are worth as they stand
  still_recorded : (Devices : DevicesTold → Type 0) (Behind : Outline → Type 0) → ((t : DevicesTold) → Deals ledger_first ledger t.ended t.names → Reached t.own → Devices t) → ((o : Outline) → Outlined o → Behind o)
      → Recorded story.lines story.answers (λ t. Deals ledger_first ledger t.ended t.names) PlaysOn' ⊎ ShownAlong story.lines story.answers (λ t. Deals ledger_first ledger t.ended t.names) Outlined
      → Recorded story.lines story.answers Devices (λ run. Unit {0}) ⊎ ShownAlong story.lines story.answers Devices Behind
  still_recorded Devices Behind settle behind (inl r) = inl (record { turns = r.turns; legal = r.legal; says = r.says; devices = settle _ r.devices (reach_run _ r.known); known = tt })
  still_recorded Devices Behind settle behind (inr along) =
      inr (along_with story.lines story.answers (λ t. Deals ledger_first ledger t.ended t.names) Devices Outlined Behind (λ o deals is. settle (told_by o) deals (reach o is)) behind along)

  -- the story as it stands
  pub still : (Text : (before all : List ℕ) → Type 0) (Devices : DevicesTold → Type 0) (Behind : Outline → Type 0) → Text (texts_before story.answers) (texts_of story.answers)
      → ((t : DevicesTold) → Deals ledger_first ledger t.ended t.names → Reached t.own → Devices t) → ((o : Outline) → Outlined o → Behind o) → Story first now unread given Text Devices Behind (λ run. Unit {0})
  still Text Devices Behind text settle behind = record {
    reads = story.reads;
    since = story.since;
    lines = story.lines;
    answers = story.answers;
    taken = story.taken;
    counted = story.counted;
    text = text;
    outline = answered_with blank_outline story.lines story.answers (λ t. Deals ledger_first ledger t.ended t.names) Devices Outlined Behind (λ o deals is. settle (told_by o) deals (reach o is)) behind story.outline;
    records = still_recorded Devices Behind settle behind story.records;
  }

  pub owes : (t : DevicesTold) → Deals ledger_first ledger t.ended t.names → Reached t.own → Owes ledger_first ledger Reached t
  owes t deals reached = record { deals = deals; reached = reached }

  abbrev Wants : List ℕ → ℕ → DevicesTold → Type 0
  Wants = OwesOrGave ledger_first ledger devices Reached

  -- the script was read to its end
  pub done_ends : (bay : Refusals) → IsReadThrough now unread → EndsRun first now taken_first taken bay (Owes ledger_first ledger Reached) Wants ending.Done
  done_ends bay through = record { held = unread; given = given; story = still (SendsAll taken_first taken) _ _ story.text owes (λ o is. through) }

  pub memory_ends : (bay : Refusals) → EndsRun first now taken_first taken bay (Owes ledger_first ledger Reached) Wants ending.OutOfMemory
  memory_ends bay = inl (record { held = unread; given = given; story = still (SendsAll taken_first taken) _ _ story.text (λ t deals reached. inl (owes t deals reached)) (λ o is. tt) })

  stopped : (bay : Refusals) (why : LastLine) → ((o : Outline) → Outlined o → Because bay unread given o why) → EndsRun first now taken_first taken bay (Owes ledger_first ledger Reached) Wants (ending.Stopped why)
  stopped bay why because = record { held = unread; given = given; story = still (SendsAll taken_first taken) _ _ story.text owes because }

  -- the reader met a fault
  pub fault_ends : (before : List ℕ) (old more : List SourceRead) (unread' : List ℕ) (bay : Refusals) (f : LineFault) → unread ≡ text_after before more → now ≡ more ++ old → AreNeeded given before more → FailsAsRead old now (Err f)
      → Answers given more unread unread' (Err f) → EndsRun first now taken_first taken bay (Owes ledger_first ledger Reached) Wants (ending.Stopped (last_of f))
  fault_ends before old more unread' bay (fault.LineTooLong number) is grew needed failed known = stopped bay (last.LineTooLong number) (λ o out. (known.0, known.1))
  fault_ends before old more unread' bay fault.TooManyLines is grew needed failed known = stopped bay last.TooManyLines (λ o out. known.0)
  fault_ends before old more unread' bay (fault.ReadFault count) is grew needed failed known =
      stopped bay last.ReadFault (λ o out. record { undecided = λ decided. holds_none given before more old now count grew failed needed (subst (λ (l : List ℕ). IsDecided given l) is decided) })

  -- the next line
  module _ (bytes unread' : List ℕ) (given' : ℕ) (known : GivesLine given unread bytes unread') (counted : given' ≡ given + 1) where
    pub bad_ends : (bay : Refusals) (bad : BadLine) → reading_of bytes ≡ line.Bad bad
        → EndsRun first now taken_first taken bay (Owes ledger_first ledger Reached) Wants (ending.Stopped (last.BadScript given' bad))
    bad_ends bay bad e =
        stopped bay (last.BadScript given' bad) (λ o out. (counted, record { bytes = bytes; next = (unread', known); bad = e }))

-- the next line is a step
module _ {D S W R : Type 0} {d : DiskGhosts D} {c : CallsGhosts S W R} (old : Replay D S W R d c) (first now : List SourceRead) (taken_first taken : List SinkWrite) (ledger_first ledger : Ledger)
    (unread unread' : List ℕ) (given given' : ℕ)
    (story : GoesOn first taken_first ledger_first now unread given taken ledger (λ o. IsOutlined o old) (λ run. PlaysOn run old))
    (bytes : List ℕ) (known : GivesLine given unread bytes unread') (counted : given' ≡ given + 1)
    (step : Step) (asks : reading_of bytes ≡ line.Step step) (session : Replay D S W R d c) (ledger' : Ledger) (taken' : List SinkWrite) where
  -- the session before it
  abbrev Before : Outline → Type 0
  Before = λ o. IsOutlined o old

  abbrev Reaches : List Harm → Type 0
  Reaches = λ harms. AreReached harms (returns_in session)

  abbrev Wanting : List ℕ → ℕ → DevicesTold → Type 0
  Wanting = OwesOrGave ledger_first ledger' (devices_in session) Reaches

  -- the run goes on behind it
  pub step_goes : IsReplay old → AnswerIsWritten old step session ledger ledger' (SinkTook taken taken')
      → GoesOn first taken_first ledger_first now unread' given' taken' ledger' (λ o. IsOutlined o session) (λ run. PlaysOn run session)
  step_goes was w =
      step_more first now taken_first taken ledger_first ledger unread unread' given given' _ _ story bytes known counted step asks w.said ledger' session
      (SendsAll taken_first taken') (λ t. Deals ledger_first ledger' t.ended t.names) _ _ w.outlines w.ends
      (λ out appends. Took-trans taken_first taken taken' out _ appends w.text) (λ o is deals. deals) (λ run plays deals. deals) (λ o is. is) (λ run plays. plays)

  -- or ends with it
  module _ (was : IsReplay old) (is : IsReplay session) (bay_old bay_new : List BayCall) where
    -- what the bay refused before and behind the line
    abbrev bay : Refusals
    bay = refusals_around (refusals_of bay_old) (refusals_of bay_new)

    written_ends : (Text : List ℕ → Type 0) (Sent : (before all : List ℕ) → Type 0) (Devices : DevicesTold → Type 0) (Behind : Outline → Type 0) (w : AnswerIsWritten old step session ledger ledger' Text)
        → ((out : List ℕ) → SinkTook taken_first taken out → Sent out (out ++ answer_line w.said)) → ((t : DevicesTold) → Owes ledger_first ledger' Reaches t → Devices t) → ((o : Outline) → Behind o)
        → Story first now unread' given' Sent Devices Behind (λ run. Unit {0})
    written_ends Text Sent Devices Behind w sent owed behind =
        step_more first now taken_first taken ledger_first ledger unread unread' given given' _ _ story bytes known counted step asks w.said ledger' session
        Sent Devices Behind (λ run. Unit {0}) w.outlines w.ends sent (λ o reached deals. owed (told_by o) (record { deals = deals; reached = reached.reached }))
        (λ run plays deals. owed (told_by_records run) (record { deals = deals; reached = plays_reach session is run plays })) (λ o reached. behind o) (λ run plays. tt)

    -- what a line leaves that was not done
    left_ends : (why : Stopped) (Devices : DevicesTold → Type 0) → ((t : DevicesTold) → Deals ledger_first ledger t.ended t.names → IsLeftAtEnd t.own step session ledger ledger' why → Devices t)
        → StepLeaves old step session ledger ledger' why → (Text : (before all : List ℕ) → Type 0) (Behind : Outline → Type 0) → Text (texts_before story.answers) (texts_of story.answers)
        → ((o : Outline) → Before o → Behind o) → Story first now unread given Text Devices Behind (λ run. Unit {0})
    left_ends why Devices settle leaves Text Behind text behind =
        let left : (o : Outline) → Deals ledger_first ledger o.ended o.names → Before o → Devices (told_by o) = λ o deals is. settle (told_by o) deals (leaves (told_of o.session) is.reached) in
        record {
          reads = story.reads;
          since = story.since;
          lines = story.lines;
          answers = story.answers;
          taken = story.taken;
          counted = story.counted;
          text = text;
          outline = answered_with blank_outline story.lines story.answers (λ t. Deals ledger_first ledger t.ended t.names) Devices Before Behind left behind story.outline;
          records = elim story.records [
            | inl r ↦
                let run : Run = run_after fresh story.lines r.turns in
                inl (record { turns = r.turns; legal = r.legal; says = r.says; devices = settle (told_by_records run) r.devices (leaves (own_harm run) (plays_reach old was run r.known)); known = tt })
            | inr along ↦ inr (along_with story.lines story.answers (λ t. Deals ledger_first ledger t.ended t.names) Devices Before Behind left behind along)
          ];
        }

    stays_owes : (t : DevicesTold) → Deals ledger_first ledger t.ended t.names → AreReached t.own (returns_in session) → ledger' ≡ ledger → Owes ledger_first ledger' Reaches t
    stays_owes t deals reached same = record { deals = rw same deals; reached = reached }

    not_ended : (by : Stopped) → (by ≡ stop.Memory → ⊥) → (t : DevicesTold) → Deals ledger_first ledger t.ended t.names → IsLeftAtEnd t.own step session ledger ledger' by → Owes ledger_first ledger' Reaches t
    not_ended stop.Memory other t deals left = absurd (other refl)
    not_ended stop.NoCache other t deals (stays reached same) = stays_owes t deals reached same
    not_ended stop.NoCache other t deals (tried needs wanting reached same) = absurd (other wanting)
    not_ended stop.NoCache other t deals (ended name attaches none more wanting) = absurd (other wanting)
    not_ended stop.BayFault other t deals (stays reached same) = stays_owes t deals reached same
    not_ended stop.BayFault other t deals (tried needs wanting reached same) = absurd (other wanting)
    not_ended stop.BayFault other t deals (ended name attaches none more wanting) = absurd (other wanting)

    halted : (why : LastLine) (by : Stopped) → (by ≡ stop.Memory → ⊥) → StepLeaves old step session ledger ledger' by → taken' ≡ taken → ((o : Outline) → Before o → Because bay unread given o why)
        → EndsRun first now taken_first taken' bay (Owes ledger_first ledger' Reaches) Wanting (ending.Stopped why)
    halted why by other leaves keeps because = record {
      held = unread;
      given = given;
      story = left_ends by (Owes ledger_first ledger' Reaches) (not_ended by other) leaves (SendsAll taken_first taken') _ (Took-kept taken_first taken taken' _ story.text keeps) because;
    }

    -- what is owed where memory was wanting
    wants : (t : DevicesTold) → Deals ledger_first ledger t.ended t.names → IsLeftAtEnd t.own step session ledger ledger' stop.Memory → Wanting unread given t
    wants t deals (stays reached same) = inl (stays_owes t deals reached same)
    wants t deals (tried needs wanting reached same) =
        inr (inl (record { bytes = bytes; next = (unread', known); step = step; asks = asks; needs = needs; devices = stays_owes (own_loosened t) deals reached same }))
    wants t deals (ended name attaches none more wanting) = inr (inr (
      ap length none,
      record {
        bytes = bytes;
        next = (unread', known);
        step = step;
        asks = asks;
        name = name;
        attaches = attaches;
        deals = rw append_assoc (Deals-trans ledger_first ledger ledger' t.ended (t.own ++ no_harm ∷ []) t.names (name ∷ []) deals more);
      },
    ))

    -- without a device there is none in the outline
    none_told : (told : Option Harm) → AreReached (told_of told) [] → told ≡ None
    none_told None h = refl
    none_told (Some harm) h = absurd h

    -- what a line lacks is not in the outline
    lacks_by : (o : Outline) → IsOutlined o old → LacksIn old step → (b : Bool) → is_of_device step ≡ b → Lacks o step
    lacks_by o is lacks true of_device = inl (none_told o.session (subst (AreReached (told_of o.session))
        (ap (λ p. return_of p ++ bare_return old.bare) lacks.part ∙ ap bare_return (lacks.bare of_device)) is.reached))
    lacks_by o is lacks false other = inr (other, is.stands ∙ ap is_some lacks.part)

    halt_ends : (halt : Halt) → StepHalts old step session ledger ledger' taken taken' bay_old bay_new halt
        → EndsRun first now taken_first taken' bay (Owes ledger_first ledger' Reaches) Wanting (ending_of given' halt)
    halt_ends (Stop stop.NoCache) h =
        halted (last.NoCache given') stop.NoCache (λ e. absurd cc) h.0 h.1
        (λ o is. (counted, record { bytes = bytes; next = (unread', known); step = step; asks = asks; needs = h.2.0; lacks = lacks_by o is h.2.1 (is_of_device step) refl }))
    halt_ends (Stop stop.BayFault) h =
        halted last.BayFault stop.BayFault (λ e. absurd cc) h.0 h.1 (λ o is. record { bytes = bytes; next = (unread', known); step = step; asks = asks; refusal = h.2.refusal; attaches = h.2.attaches; refused = ap refusals_of h.2.refuses.past })
    halt_ends (Stop stop.Memory) h = inl (record {
      held = unread;
      given = given;
      story = left_ends stop.Memory (Wanting unread given) wants h.0 (SendsAll taken_first taken') _ (Took-kept taken_first taken taken' _ story.text h.1) (λ o is. tt);
    })
    halt_ends WriteFault h = record {
      held = unread';
      given = given';
      story = written_ends (SendsFront taken taken' []) (CutsLast taken_first taken') (Owes ledger_first ledger' Reaches) (λ o. Unit {0}) h
          (λ out appends. cuts_last taken_first taken taken' out h.said appends h.text) (λ t owes. owes) (λ o. tt);
    }
    halt_ends Memory h = inr (record {
      held = unread';
      given = given';
      story = written_ends (λ text. taken' ≡ taken) (SendsBefore taken_first taken') (Owes ledger_first ledger' Reaches) (λ o. Unit {0}) h
          (λ out appends. Took-kept taken_first taken taken' out appends h.text) (λ t owes. owes) (λ o. tt);
    })

    pub step_ends : (halt : Halt) → StepHalts old step session ledger ledger' taken taken' bay_old bay_new halt
        → EndsRun first now taken_first taken' bay (Owes ledger_first ledger' Reaches) Wanting (ending_of given' halt)
    step_ends halt h = halt_ends halt h

-- no step ends the run with the last line for words that are no command
pub ending_of-begun : (number : ℕ) (halt : Halt) → IsOfRun (ending_of number halt)
ending_of-begun number (Stop stop.NoCache) = tt
ending_of-begun number (Stop stop.BayFault) = tt
ending_of-begun number (Stop stop.Memory) = tt
ending_of-begun number WriteFault = tt
ending_of-begun number Memory = tt

pub last_of-begun : (f : LineFault) → IsOfRun (ending.Stopped (last_of f))
last_of-begun (fault.LineTooLong number) = tt
last_of-begun fault.TooManyLines = tt
last_of-begun (fault.ReadFault count) = tt

-- ---- refusals that were seen earlier

module _ (bay bay' : Refusals) (bay_from : bay.before ≡ bay'.before) (bay_to : bay.now ≡ bay'.now) where
  because_earlier : (held : List ℕ) (given : ℕ) (o : Outline) (why : LastLine) → Because bay held given o why → Because bay' held given o why
  because_earlier held given o last.Usage b = b
  because_earlier held given o (last.BadScript number bad) b = b
  because_earlier held given o last.ReadFault b = b
  because_earlier held given o last.BayFault b = record { bytes = b.bytes; next = b.next; step = b.step; asks = b.asks; refusal = b.refusal; attaches = b.attaches; refused = sym bay_to ∙ (b.refused ∙ ap (λ l. l ++ b.refusal ∷ []) bay_from) }
  because_earlier held given o (last.LineTooLong number) b = b
  because_earlier held given o last.TooManyLines b = b
  because_earlier held given o (last.NoCache number) b = b

  pub Ends-earlier : (first now : List SourceRead) (old new : List SinkWrite) (Devices : DevicesTold → Type 0) (Wanting : List ℕ → ℕ → DevicesTold → Type 0) (e : Ending) → EndsRun first now old new bay Devices Wanting e → EndsRun first now old new bay' Devices Wanting e
  Ends-earlier first now old new Devices Wanting ending.Done h = h
  Ends-earlier first now old new Devices Wanting (ending.Stopped why) h = record { held = h.held; given = h.given; story = story_with first now h.held h.given (SendsAll old new) (SendsAll old new) Devices Devices _ _ _ (λ out all text. text) (λ t d. d) (λ o b. because_earlier h.held h.given o why b) h.story }
  Ends-earlier first now old new Devices Wanting ending.WriteFault h = h
  Ends-earlier first now old new Devices Wanting ending.OutOfMemory h = h

-- which reads failed in steps of a run, of which the first went on
pub failed_earlier : (first before now : List SourceRead) (e : Ending) → NoReadFailed first before → FailedReads before now e → FailedReads first now e
failed_earlier first before now ending.Done none h = h ∙ none
failed_earlier first before now ending.WriteFault none h = h ∙ none
failed_earlier first before now ending.OutOfMemory none h = h ∙ none
failed_earlier first before now (ending.Stopped last.Usage) none h = h ∙ none
failed_earlier first before now (ending.Stopped (last.BadScript number bad)) none h = h ∙ none
failed_earlier first before now (ending.Stopped last.BayFault) none h = h ∙ none
failed_earlier first before now (ending.Stopped (last.LineTooLong number)) none h = h ∙ none
failed_earlier first before now (ending.Stopped last.TooManyLines) none h = h ∙ none
failed_earlier first before now (ending.Stopped (last.NoCache number)) none h = h ∙ none
failed_earlier first before now (ending.Stopped last.ReadFault) none h = (
  h.0,
  record {
    older = h.1.older;
    is = h.1.is;
    counted = h.1.counted ∙ ap (λ failed. next_count (min (length failed) (2 ^ 64 - 1))) none;
    others = h.1.others ∙ none;
  },
)

-- a fault of the reader is the last read where it is one of a read
pub fault_failed : (old new : List SourceRead) (f : LineFault) → FailsAsRead old new (Err f) → FailedReads old new (ending.Stopped (last_of f))
fault_failed old new (fault.LineTooLong number) h = h
fault_failed old new fault.TooManyLines h = h
fault_failed old new (fault.ReadFault count) h = (count, h)

pub halt_failed : (old new : List SourceRead) (number : ℕ) (halt : Halt) → NoReadFailed old new → FailedReads old new (ending_of number halt)
halt_failed old new number (Stop stop.NoCache) h = h
halt_failed old new number (Stop stop.BayFault) h = h
halt_failed old new number (Stop stop.Memory) h = h
halt_failed old new number WriteFault h = h
halt_failed old new number Memory h = h

-- ---- before the first line

nothing_taken : Taken [] [] []
nothing_taken = record { all = refl; each = tt; within = lit≤ tt }

pub begins : (now : List SourceRead) (taken : List SinkWrite) (ledger : Ledger) (held : List ℕ) (given : ℕ) (Outlined : Outline → Type 0) (PlaysOn' : Run → Type 0) → held ≡ [] → given ≡ 0 → Outlined blank_outline → PlaysOn' fresh → GoesOn now taken ledger now held given taken ledger Outlined PlaysOn'
begins now taken ledger held given Outlined PlaysOn' empty none outlined plays = record {
  reads = [];
  since = refl;
  lines = [];
  answers = [];
  taken = rw empty nothing_taken;
  counted = none;
  text = Took-nothing taken;
  outline = record { each = tt; devices = Deals-nothing ledger; behind = outlined };
  records = inl (record { turns = []; legal = tt; says = refl; devices = Deals-nothing ledger; known = plays });
}

-- ---- once the run has ended

module _ (bay : Refusals) (first now : List SourceRead) (old new : List SinkWrite) (Devices Devices' : DevicesTold → Type 0) (Wanting Wanting' : List ℕ → ℕ → DevicesTold → Type 0)
    (settle : (t : DevicesTold) → Devices t → Devices' t) (settle_wanting : (held : List ℕ) (given : ℕ) (t : DevicesTold) → Wanting held given t → Wanting' held given t) where
  settled : (held : List ℕ) (given : ℕ) (Text : (before all : List ℕ) → Type 0) (From To : DevicesTold → Type 0) (Behind : Outline → Type 0) (Known : Run → Type 0) → ((t : DevicesTold) → From t → To t)
      → Story first now held given Text From Behind Known → Story first now held given Text To Behind Known
  settled held given Text From To Behind Known f s = story_with first now held given Text Text From To Behind Behind Known (λ out all text. text) f (λ o b. b) s

  pub Ends-settled : (e : Ending) → EndsRun first now old new bay Devices Wanting e → EndsRun first now old new bay Devices' Wanting' e
  Ends-settled ending.Done h = record { held = h.held; given = h.given; story = settled h.held h.given (SendsAll old new) Devices Devices' _ _ settle h.story }
  Ends-settled (ending.Stopped why) h = record { held = h.held; given = h.given; story = settled h.held h.given (SendsAll old new) Devices Devices' _ _ settle h.story }
  Ends-settled ending.WriteFault h = record { held = h.held; given = h.given; story = settled h.held h.given (CutsLast old new) Devices Devices' _ _ settle h.story }
  Ends-settled ending.OutOfMemory h = elim h [
    | inl n ↦ inl (record { held = n.held; given = n.given; story = settled n.held n.given (SendsAll old new) (Wanting n.held n.given) (Wanting' n.held n.given) _ _ (settle_wanting n.held n.given) n.story })
    | inr l ↦ inr (record { held = l.held; given = l.given; story = settled l.held l.given (SendsBefore old new) Devices Devices' _ _ settle l.story })
  ]

-- what is owed where memory was wanting, whatever comes of it
pub wants_settled : (first ledger closed : Ledger) (devices : ℕ) (Reached : List Harm → Type 0) (held : List ℕ) (given : ℕ) (t : DevicesTold) → ((u : DevicesTold) → Owes first ledger Reached u → Deals first closed (all_in u) u.names)
    → (devices ≡ 0 → GaveBack first ledger held given t → GaveBack first closed held given t) → OwesOrGave first ledger devices Reached held given t
    → Deals first closed (all_in t) t.names ⊎ WantsInLine held given (Deals first closed (all_in (own_loosened t)) (own_loosened t).names) ⊎ GaveBack first closed held given t
wants_settled first ledger closed devices Reached held given t settle gave (inl owes) = inl (settle t owes)
wants_settled first ledger closed devices Reached held given t settle gave (inr (inl w)) =
    inr (inl (record { bytes = w.bytes; next = w.next; step = w.step; asks = w.asks; needs = w.needs; devices = settle (own_loosened t) w.devices }))
wants_settled first ledger closed devices Reached held given t settle gave (inr (inr g)) = inr (inr (gave g.0 g.1))

-- no device was attached
pub nothing_back : (ledger : Ledger) (t : DevicesTold) → t.ended ≡ [] → t.own ≡ [] → t.names ≡ [] → Deals ledger ledger (all_in t) t.names
nothing_back ledger t none own names = rw (none, own, names) (Deals-nothing ledger)

-- nothing was read for want of memory
pub nothing_ends : (now : List SourceRead) (taken : List SinkWrite) (Devices : DevicesTold → Type 0) (Wanting : List ℕ → ℕ → DevicesTold → Type 0) → ((t : DevicesTold) → t.ended ≡ [] → t.own ≡ [] → t.names ≡ [] → Wanting [] 0 t) → (bay : Refusals)
    → EndsRun now now taken taken bay Devices Wanting ending.OutOfMemory
nothing_ends now taken Devices Wanting back bay = inl (record {
  held = [];
  given = 0;
  story = record {
    reads = [];
    since = refl;
    lines = [];
    answers = [];
    taken = nothing_taken;
    counted = refl;
    text = Took-nothing taken;
    outline = record { each = tt; devices = back (told_by blank_outline) refl refl refl; behind = tt };
    records = inl (record { turns = []; legal = tt; says = refl; devices = back (told_by_records fresh) refl refl refl; known = tt });
  };
})

-- ---- the device of the session comes back

returns_none : (devices : List Device) → length devices ≡ 0 → AreReached [] devices
returns_none [] e = tt
returns_none (d ∷ devices) e = absurd cc

-- no device is its own
pub none_own : (devices : List Device) → length devices ≡ 0 → devices ≡ []
none_own [] e = refl
none_own (d ∷ devices) e = absurd cc

module _ {D S W R : Type 0} {d : DiskGhosts D} {c : CallsGhosts S W R} where
  -- with no session nothing more comes back
  pub gave_settled : (session : Replay D S W R d c) (a b c : Ledger) (held : List ℕ) (given : ℕ) (t : DevicesTold) → ((harms : List Harm) → AreReached harms (returns_in session) → ComeBack b.returned c.returned harms)
      → c.names ≡ b.names → devices_in session ≡ 0 → GaveBack a b held given t → GaveBack a c held given t
  gave_settled session a b c held given t back same none gave = record {
    bytes = gave.bytes;
    next = gave.next;
    step = gave.step;
    asks = gave.asks;
    name = gave.name;
    attaches = gave.attaches;
    deals = rw append-nil at (Deals-settled a b c (all_in t ++ no_harm ∷ []) [] (t.names ++ gave.name ∷ []) gave.deals (back [] (returns_none (returns_in session) none)) same);
  }
