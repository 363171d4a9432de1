-- What a status of `work` says, from how the run ended and what went out behind that.
use Rattle.std.proofs.Common.{◌≡◌, ℕ, ◌-◌, ◌^◌, min, false, List, [], ◌∷◌, ◌++◌, length, Some, refl, sym, ◌∙◌, ap, subst, inl, inr}
use Rattle.device_log.specs.Faults.{next_count}
use Rattle.device_log.specs.Streams.{SourceRead, SinkWrite, RefusedWrite}
use Rattle.script_grammar.specs.declared.last_line.LastLine.{LastLine}
use Rattle.script_grammar.specs.declared.last_line.LastLine.TheVariants as last
use Rattle.script_grammar.specs.Texts.{last_line}
use Rattle.script_run.specs.Run.{Run}
use Rattle.script_run.specs.Ledger.{Ledger}
use Rattle.run_promise.specs.declared.status.Status.{Status}
use Rattle.run_promise.specs.declared.status.Status.TheVariants as status
use Rattle.run_promise.specs.Outline.{Outline}
use Rattle.run_promise.specs.Story.{AnsweredFrom, DevicesTold, Refusals, SendsAll, SendsFront, Story, StoryUpTo, SinkTook, told_by, told_by_records}
use Rattle.run_promise.specs.Top.{AttachesRefused, EachBack, EachBackOrMore, RefusedOne, WentOut, status_of}
use Rattle.run_script.specs.declared.run.Ending.{Ending}
use Rattle.run_script.specs.declared.run.Ending.TheVariants as ending
use Rattle.run_script.specs.Ending.{IsOfRun, is_bay_ending}
use Rattle.run_script.proofs.Halts.{Took-kept, Took-trans, went_out}
use Rattle.run_script.proofs.Stories.{story_with}
use Rattle.work_script.specs.Before.{EndsBy}
use Rattle.work_script.specs.Turns.{WorkTurn, turn_texts}
use Rattle.work_script.specs.Jobs.{AnswersOn, RunsOn}
use Rattle.work_script.specs.Ending.{AreDone, ConcludesWork, CutsTurn, SendsSome, SendsTurns, WorkBecause, WorkEndsEarly, Works}
use Rattle.work_script.specs.Printing.{Says, SaysTurns}

-- a story whose run and outline go on as this says
on_outline : (o : Outline) (lines : List (List ℕ)) (answers : _) (From : DevicesTold → Type 0) (Behind Behind' : Outline → Type 0) → ((o : Outline) → From (told_by o) → Behind o → Behind' o)
    → AnsweredFrom o lines answers From Behind → AnsweredFrom o lines answers (λ t. Unit {0}) Behind'
on_outline o lines answers From Behind Behind' f a = record { each = a.each; devices = tt; behind = f _ a.devices a.behind }

pub story_on : (first now : List SourceRead) (held : List ℕ) (given : ℕ) (Text Text' : (before all : List ℕ) → Type 0) (From : DevicesTold → Type 0) (Behind Behind' : Outline → Type 0) (Known Known' : Run → Type 0)
    → ((out all : List ℕ) → Text out all → Text' out all) → ((o : Outline) → From (told_by o) → Behind o → Behind' o) → ((run : Run) → From (told_by_records run) → Known run → Known' run)
    → Story first now held given Text From Behind Known → Story first now held given Text' (λ t. Unit {0}) Behind' Known'
story_on first now held given Text Text' From Behind Behind' Known Known' text f k s = record {
  reads = s.reads;
  since = s.since;
  lines = s.lines;
  answers = s.answers;
  taken = s.taken;
  counted = s.counted;
  text = text _ _ s.text;
  outline = on_outline _ s.lines s.answers From Behind Behind' f s.outline;
  records = elim s.records [
    | inl r ↦ inl (record { turns = r.turns; legal = r.legal; says = r.says; devices = tt; known = k _ r.devices r.known })
    | inr along ↦ inr (record {
      before = along.before;
      bytes = along.bytes;
      after = along.after;
      is = along.is;
      earlier = along.earlier;
      legal = along.legal;
      rest = along.rest;
      says = along.says;
      turn = along.turn;
      shows = along.shows;
      outline = on_outline _ (along.bytes ∷ along.after) along.rest From Behind Behind' f along.outline;
    })
  ];
}

cut_behind : (a b c : List SinkWrite) (bs ds text : List ℕ) → SinkTook a b bs → SendsFront b c ds text → SendsFront a c (bs ++ ds) text
cut_behind a b c bs ds text p q = record {
  front = q.front;
  rest = q.rest;
  split = q.split;
  older = q.older;
  sent = Took-trans a b q.older bs ds p q.sent;
  failed = q.failed ∙ ap (λ failed. RefusedWrite q.front (next_count (min (length failed) (2 ^ 64 - 1))) ∷ q.older) p.unfailed;
}

module _ (workers : ℕ) (first read : List SourceRead) (old mid new : List SinkWrite) (bay : Refusals) (before now : Ledger) where
  abbrev Concluded : Status → Type 0
  Concluded = ConcludesWork workers first read old new bay before now

  abbrev Ended : Ending → Type 0
  Ended = EndsBy (WorkBecause workers bay read) first read old mid (EachBack before now) (EachBackOrMore before now)

  abbrev Upto : LastLine → Type 0
  Upto why = StoryUpTo first read (SendsAll old mid) (λ held given. EachBack before now) (λ held given o. WorkBecause workers bay read held given o why)

  early : (why : LastLine) (upto : Upto why) (s : Status) → s ≡ status_of why → WentOut mid new [] (last_line why) → WorkEndsEarly workers first read old new bay before now s
  early why upto s said out = record {
    why = why;
    said = said;
    upto = record { held = upto.held; given = upto.given; story = story_with first read upto.held upto.given (SendsAll old mid) _ _ _ _ _ _ (λ b all sent. went_out old mid new all (last_line why) sent out) (λ t back. back) (λ o because. because) upto.story };
  }

  forgotten : (why : LastLine) (upto : Upto why) → new ≡ mid → Concluded status.OutOfMemory
  forgotten why upto keeps = inl (inl (record {
    held = upto.held;
    given = upto.given;
    story = story_with first read upto.held upto.given (SendsAll old mid) _ _ _ _ _ _ (λ b all sent. Took-kept old mid new all sent keeps) (λ t back. inl back) (λ o because. tt) upto.story;
  }))

  told : (why : LastLine) → IsOfRun (ending.Stopped why) → Upto why → WentOut mid new [] (last_line why) → Concluded (status_of why)
  told last.Usage begun upto out = absurd begun
  told (last.BadScript line fault) begun upto out = early (last.BadScript line fault) upto status.BadScript refl out
  told last.ReadFault begun upto out = early last.ReadFault upto status.ReadFault refl out
  told last.BayFault begun upto out = early last.BayFault upto status.BayFault refl out
  told (last.LineTooLong line) begun upto out = early (last.LineTooLong line) upto status.LineTooLong refl out
  told last.TooManyLines begun upto out = early last.TooManyLines upto status.TooManyLines refl out
  told (last.NoCache line) begun upto out = early (last.NoCache line) upto status.NoCache refl out

  -- a run that ended before its jobs were done
  pub concludes : (e : Ending) → IsOfRun e → Ended e → (s : Status) → Says mid new e s → Concluded s
  concludes ending.Done begun h s says =
      subst Concluded (sym says.0) (inl (rw says.1 h))
  concludes (ending.Stopped why) begun h s (inl lost) = subst Concluded (sym lost.0) (forgotten why h lost.1)
  concludes (ending.Stopped why) begun h s (inr said) = subst Concluded (sym said.0) (told why begun h said.1)
  concludes ending.WriteFault begun h s says = subst Concluded (sym says.0) (inl (rw says.1 h))
  concludes ending.OutOfMemory begun h s says = subst Concluded (sym says.0) (inl (rw says.1 h))

  -- or behind them
  module _ (held : List ℕ) (given : ℕ) where
    abbrev Goes : List WorkTurn → Type 0
    Goes turns = Story first read held given (SendsAll old mid) (λ t. Unit {0}) (λ o. AnswersOn o turns (EachBack before now)) (λ run. RunsOn run turns (EachBack before now))

    works : (turns : List WorkTurn) (Text : List WorkTurn → List ℕ → Type 0) → AreDone workers given held read turns → Goes turns → ((all : List ℕ) → SinkTook old mid all → Text turns all) → Works workers first read before now Text
    works turns Text done story text = record {
      held = held;
      given = given;
      turns = turns;
      done = done;
      story = story_on first read held given (SendsAll old mid) (λ b all. Text turns all) (λ t. Unit {0}) _ _ _ _ (λ b all sent. text all sent) (λ o t a. a) (λ run t r. r) story;
    }

    pub concludes_turns : (turns : List WorkTurn) → AreDone workers given held read turns → Goes turns → (s : Status) → SaysTurns mid new (Some turns) s → Concluded s
    concludes_turns turns done story status.Done says = inr (works turns (SendsTurns old new) done story (λ all sent. Took-trans old mid new all (turn_texts 1 turns) sent says))
    concludes_turns turns done story status.WriteFault says = inr (works turns (CutsTurn old new) done story (λ all sent. record {
      earlier = says.earlier;
      turn = says.turn;
      later = says.later;
      is = says.is;
      cut = cut_behind old mid new all (turn_texts 1 says.earlier) _ sent says.cut;
    }))
    concludes_turns turns done story status.OutOfMemory says = inr (inr (works turns (SendsSome old new) done story (λ all sent. record {
      earlier = says.earlier;
      turn = says.turn;
      later = says.later;
      is = says.is;
      sent = Took-trans old mid new all (turn_texts 1 says.earlier) sent says.sent;
    })))
    concludes_turns turns done story status.Usage says = absurd says
    concludes_turns turns done story status.BadScript says = absurd says
    concludes_turns turns done story status.ReadFault says = absurd says
    concludes_turns turns done story status.BayFault says = absurd says
    concludes_turns turns done story status.LineTooLong says = absurd says
    concludes_turns turns done story status.NoCache says = absurd says
    concludes_turns turns done story status.TooManyLines says = absurd says

  -- ---- which attaches were refused

  refused_last : Upto last.BayFault → RefusedOne bay.before bay.now
  refused_last upto = elim upto.story.outline.behind [
    | inl met ↦ (met.refusal, met.refused)
    | inr jobs ↦ absurd jobs.here
  ]

  abbrev NoneRefused : Ending → Type 0
  NoneRefused e = is_bay_ending e ≡ false → bay.now ≡ bay.before

  refused_told : (why : LastLine) → NoneRefused (ending.Stopped why) → Upto why → AttachesRefused bay.before bay.now (status_of why)
  refused_told last.Usage none upto = none refl
  refused_told (last.BadScript line fault) none upto = none refl
  refused_told last.ReadFault none upto = none refl
  refused_told last.BayFault none upto = refused_last upto
  refused_told (last.LineTooLong line) none upto = none refl
  refused_told last.TooManyLines none upto = none refl
  refused_told (last.NoCache line) none upto = none refl

  refused_lost : (why : LastLine) → NoneRefused (ending.Stopped why) → Upto why → AttachesRefused bay.before bay.now status.OutOfMemory
  refused_lost last.Usage none upto = inl (none refl)
  refused_lost (last.BadScript line fault) none upto = inl (none refl)
  refused_lost last.ReadFault none upto = inl (none refl)
  refused_lost last.BayFault none upto = inr (refused_last upto)
  refused_lost (last.LineTooLong line) none upto = inl (none refl)
  refused_lost last.TooManyLines none upto = inl (none refl)
  refused_lost (last.NoCache line) none upto = inl (none refl)

  pub refusals : (e : Ending) → NoneRefused e → Ended e → (s : Status) → Says mid new e s → AttachesRefused bay.before bay.now s
  refusals ending.Done none h s says = subst (AttachesRefused bay.before bay.now) (sym says.0) (none refl)
  refusals (ending.Stopped why) none h s (inl lost) = subst (AttachesRefused bay.before bay.now) (sym lost.0) (refused_lost why none h)
  refusals (ending.Stopped why) none h s (inr said) = subst (AttachesRefused bay.before bay.now) (sym said.0) (refused_told why none h)
  refusals ending.WriteFault none h s says = subst (AttachesRefused bay.before bay.now) (sym says.0) (none refl)
  refusals ending.OutOfMemory none h s says = subst (AttachesRefused bay.before bay.now) (sym says.0) (inl (none refl))
