-- What the last line makes of a run that ended early.
use Rattle.std.proofs.Common.{◌≡◌, List, [], false, refl, sym, subst, inl, inr, ◌⊎◌}
use Rattle.device_log.specs.Streams.{SourceRead, SinkWrite}
use Rattle.script_grammar.specs.declared.last_line.LastLine.{LastLine}
use Rattle.script_grammar.specs.declared.last_line.LastLine.TheVariants as last
use Rattle.script_grammar.specs.Texts.{last_line}
use Rattle.script_run.specs.Ledger.{Ledger}
use Rattle.run_promise.specs.declared.status.Status.{Status}
use Rattle.run_promise.specs.declared.status.Status.TheVariants as status
use Rattle.run_script.specs.declared.run.Ending.TheVariants as ending
use Rattle.run_promise.specs.Story.{Because, MeetsBayFault, Refusals, SendsAll, StoryUpTo}
use Rattle.run_script.specs.Ending.{FailedReads, IsOfRun, is_bay_ending}
use Rattle.run_promise.specs.Top.{WentOut, EachBack, ReadsFailed, AttachesRefused, RefusedOne, status_of, EndsEarly, Concludes}
use Rattle.run_script.proofs.Halts.{Took-kept, went_out}
use Rattle.run_script.proofs.Stories.{story_with}

module _ (first read : List SourceRead) (old mid new : List SinkWrite) (bay : Refusals) (before now : Ledger) where
  abbrev Upto : LastLine → Type 0
  Upto why = StoryUpTo first read (SendsAll old mid) (λ held given. EachBack before now) (λ held given o. Because bay held given o why)

  module _ (why : LastLine) (upto : Upto why) where
    early : (s : Status) → s ≡ status_of why → WentOut mid new [] (last_line why) → EndsEarly first read old new bay before now s
    early s said out = record {
      why = why;
      said = said;
      upto = record { held = upto.held; given = upto.given; story = story_with first read upto.held upto.given (SendsAll old mid) _ _ _ _ _ _ (λ before all sent. went_out old mid new all (last_line why) sent out) (λ t back. back) (λ o because. because) upto.story };
    }

    forgotten : new ≡ mid → Concludes first read old new bay before now status.OutOfMemory
    forgotten keeps = inl (record {
      held = upto.held;
      given = upto.given;
      story = story_with first read upto.held upto.given (SendsAll old mid) _ _ _ _ _ _ (λ before all sent. Took-kept old mid new all sent keeps) (λ t back. inl back) (λ o because. tt) upto.story;
    })

  -- the last line went out
  told : (why : LastLine) → IsOfRun (ending.Stopped why) → Upto why → WentOut mid new [] (last_line why) → Concludes first read old new bay before now (status_of why)
  told last.Usage begun upto out = absurd begun
  told (last.BadScript line fault) begun upto out = early (last.BadScript line fault) upto status.BadScript refl out
  told last.ReadFault begun upto out = early last.ReadFault upto status.ReadFault refl out
  told last.BayFault begun upto out = early last.BayFault upto status.BayFault refl out
  told (last.LineTooLong line) begun upto out = early (last.LineTooLong line) upto status.LineTooLong refl out
  told last.TooManyLines begun upto out = early last.TooManyLines upto status.TooManyLines refl out
  told (last.NoCache line) begun upto out = early (last.NoCache line) upto status.NoCache refl out

  abbrev Said : LastLine → Status → Type 0
  Said why s = ((s ≡ status.OutOfMemory) × (new ≡ mid)) ⊎ ((s ≡ status_of why) × WentOut mid new [] (last_line why))

  pub concludes_stopped : (why : LastLine) → IsOfRun (ending.Stopped why) → Upto why → (s : Status) → Said why s → Concludes first read old new bay before now s
  concludes_stopped why begun upto s (inl lost) = subst (λ (t : Status). Concludes first read old new bay before now t) (sym lost.0) (forgotten why upto lost.1)
  concludes_stopped why begun upto s (inr said) = subst (λ (t : Status). Concludes first read old new bay before now t) (sym said.0) (told why begun upto said.1)

  -- ---- the reads that failed

  reads_told : (why : LastLine) → FailedReads first read (ending.Stopped why) → ReadsFailed first read (status_of why)
  reads_told last.Usage h = h
  reads_told (last.BadScript line fault) h = h
  reads_told last.ReadFault h = h
  reads_told last.BayFault h = h
  reads_told (last.LineTooLong line) h = h
  reads_told last.TooManyLines h = h
  reads_told (last.NoCache line) h = h

  reads_lost : (why : LastLine) → FailedReads first read (ending.Stopped why) → ReadsFailed first read status.OutOfMemory
  reads_lost last.Usage h = inl h
  reads_lost (last.BadScript line fault) h = inl h
  reads_lost last.ReadFault h = inr h
  reads_lost last.BayFault h = inl h
  reads_lost (last.LineTooLong line) h = inl h
  reads_lost last.TooManyLines h = inl h
  reads_lost (last.NoCache line) h = inl h

  pub reads_stopped : (why : LastLine) → FailedReads first read (ending.Stopped why) → (s : Status) → Said why s → ReadsFailed first read s
  reads_stopped why h s (inl lost) = subst (λ (t : Status). ReadsFailed first read t) (sym lost.0) (reads_lost why h)
  reads_stopped why h s (inr said) = subst (λ (t : Status). ReadsFailed first read t) (sym said.0) (reads_told why h)

  -- ---- the attaches that were refused

  abbrev NoneRefused : LastLine → Type 0
  NoneRefused why = is_bay_ending (ending.Stopped why) ≡ false → bay.now ≡ bay.before

  refused_last : Upto last.BayFault → RefusedOne bay.before bay.now
  refused_last upto =
      let met : MeetsBayFault upto.given upto.held bay.before bay.now = upto.story.outline.behind in
      (met.refusal, met.refused)

  refused_told : (why : LastLine) → NoneRefused why → Upto why → AttachesRefused bay.before bay.now (status_of why)
  refused_told last.Usage none upto = none refl
  refused_told (last.BadScript line fault) none upto = none refl
  refused_told last.ReadFault none upto = none refl
  refused_told last.BayFault none upto = refused_last upto
  refused_told (last.LineTooLong line) none upto = none refl
  refused_told last.TooManyLines none upto = none refl
  refused_told (last.NoCache line) none upto = none refl

  refused_lost : (why : LastLine) → NoneRefused why → Upto why → AttachesRefused bay.before bay.now status.OutOfMemory
  refused_lost last.Usage none upto = inl (none refl)
  refused_lost (last.BadScript line fault) none upto = inl (none refl)
  refused_lost last.ReadFault none upto = inl (none refl)
  refused_lost last.BayFault none upto = inr (refused_last upto)
  refused_lost (last.LineTooLong line) none upto = inl (none refl)
  refused_lost last.TooManyLines none upto = inl (none refl)
  refused_lost (last.NoCache line) none upto = inl (none refl)

  pub refusals_stopped : (why : LastLine) → NoneRefused why → Upto why → (s : Status) → Said why s → AttachesRefused bay.before bay.now s
  refusals_stopped why none upto s (inl lost) = subst (λ (t : Status). AttachesRefused bay.before bay.now t) (sym lost.0) (refused_lost why none upto)
  refusals_stopped why none upto s (inr said) = subst (λ (t : Status). AttachesRefused bay.before bay.now t) (sym said.0) (refused_told why none upto)
