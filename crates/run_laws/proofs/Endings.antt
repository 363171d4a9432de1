-- How a run ends, by the text that the source gave and the calls that were refused.
use Rattle.std.proofs.Common.{◌≡◌, ℕ, ◌+◌, ◌<◌, List, [], ◌∷◌, ◌++◌, length, refl, sym, ◌∙◌, ap, subst, arith, length-append, inl, inr}
use Rattle.std.specs.Prelude.{◌≢◌, ◌⊎◌, false, is_some, IsSome, Option, Some, None}
use Rattle.std.proofs.lemmas.List.{append-nil}
use Rattle.device_log.specs.Streams.{SourceRead, SinkWrite, RefusedRead, RefusedWrite, refused_reads, refused_writes, write_faults}
use Rattle.device_log.specs.Faults.{next_count}
use Rattle.edge_io.specs.Source.{LastReadFailed, NoReadFailed}
use Rattle.edge_io.specs.Text.{text_read}
use Rattle.edge_io.specs.Lines.{IsTooLong, IsTooMany}
use Rattle.script_grammar.specs.declared.line.LineAnswer.{LineAnswer}
use Rattle.script_grammar.specs.declared.line.LineAnswer.TheVariants as line
use Rattle.script_grammar.specs.declared.answer.StepAnswer.{StepAnswer}
use Rattle.script_grammar.specs.declared.last_line.LastLine.{LastLine}
use Rattle.script_grammar.specs.declared.last_line.LastLine.TheVariants as last
use Rattle.script_grammar.specs.Grammar.{reading_of}
use Rattle.script_run.specs.Run.{Harm, Run}
use Rattle.script_run.specs.Switch.{is_of_device}
use Rattle.script_grammar.specs.declared.step.Step.{Step}
use Rattle.run_promise.specs.Outline.{Outline, all_told, blank_outline, told_of}
use Rattle.run_promise.specs.Lines.{AreAnswered, IsReadAs, outline_of, outline_read}
use Rattle.run_promise.specs.declared.status.Status.{Status}
use Rattle.run_promise.specs.declared.status.Status.TheVariants as status
use Rattle.run_promise.specs.Story.{Because, CutsLast, HoldsNoLine, IsBadLine, LacksCache, MeetsBayFault, Story, DevicesTold}
use Rattle.run_promise.specs.Top.{EndsEarly, ReadsFailed, status_of}
use Rattle.headline.specs.Account.{ComeBackFrom, IsConcluded, IsDeviceBehind, RunLogs, begun_in, sessions_begun}
use Rattle.headline.specs.Endings.{AreTakeable, CutSince, EndsFirst, EndsHere, FormatFailed, GoesOnWith, HasNoSession, IsFine, LastWriteFailed, LostItsFormat, LostItsPower, MayBeTaken}
use Rattle.account_laws.proofs.Counting.{device_of}
use Rattle.account_laws.proofs.Devices.{come_back}
use Rattle.account_laws.proofs.Outlines.{EndsFaulted, cut_since, none_begun, outline_length, read_length}
use Rattle.run_laws.proofs.Doubted.{split_back}

-- ---- lines that were taken

some_told : (ended : List Harm) (session : Option Harm) (n : ℕ) → length (ended ++ told_of session) ≡ n → IsSome session → 0 < n
some_told ended None n e some = absurd cc
some_told ended (Some h) n e some = omega (arith, e, length-append ended (h ∷ []))

may_be_taken : (o : Outline) (n : ℕ) (read : LineAnswer) (said : Option StepAnswer) → length (all_told o) ≡ n → IsReadAs o read said → MayBeTaken n read
may_be_taken o n (line.Step step) (Some said) e is = λ needs. some_told o.ended o.session n e (is.session needs)
may_be_taken o n (line.Step step) None e is = absurd is
may_be_taken o n line.Nothing said e is = tt
may_be_taken o n (line.Bad fault) said e is = absurd is

pub takeable : (o : Outline) (n : ℕ) (lines : List (List ℕ)) (answers : List (Option StepAnswer)) → length (all_told o) ≡ n → AreAnswered o lines answers → AreTakeable n lines
takeable o n [] answers e are = tt
takeable o n (bytes ∷ lines) [] e are = absurd are
takeable o n (bytes ∷ lines) (said ∷ answers) e are = (
  may_be_taken o n (reading_of bytes) said e are.0,
  takeable (outline_read o (reading_of bytes) said) (n + begun_in (reading_of bytes)) lines answers (omega (arith, read_length o (reading_of bytes) said are.0, e)) are.1,
)

-- ---- a format that failed

-- of the last device that was given back a fault was told, so it refused a call
format_failed : (l : RunLogs) (lines : List (List ℕ)) (o : Outline) → ComeBackFrom l (all_told o) → length (all_told o) ≡ sessions_begun lines → o.session ≡ None → EndsFaulted o.ended
    → FormatFailed l lines
format_failed l lines o come counted none faulted =
    let all : all_told o ≡ faulted.front ++ faulted.harm ∷ [] = ap (λ s. o.ended ++ told_of s) none ∙ (append-nil o.ended ∙ faulted.is) in
    let back : ComeBackFrom l (faulted.front ++ faulted.harm ∷ []) = subst (ComeBackFrom l) all come in
    let split = split_back faulted.front faulted.harm back.devices back.told in
    let which : sessions_begun lines ≡ length faulted.front + 1 = omega (arith, counted, ap length all, length-append faulted.front (faulted.harm ∷ [])) in
    let behind : IsDeviceBehind l lines split.device = record {
      earlier = split.earlier;
      later = split.later;
      returned = back.returned ∙ ap (λ ds. l.before.returned ++ ds) split.are;
      which = omega (arith, which, split.as_many);
    } in
    record {
      device = split.device;
      behind = behind;
      faulted = omega (arith, (device_of l faulted.front faulted.harm (sessions_begun lines) split.device back behind which).counted, faulted.faulted);
    }

-- ---- what ended a run

module _ (l : RunLogs) (lines : List (List ℕ)) (held : List ℕ) (given : ℕ) (answers : List (Option StepAnswer)) (counted : given ≡ length lines) (are : AreAnswered blank_outline lines answers)
    (come : ComeBackFrom l (all_told (outline_of blank_outline lines answers))) where
  -- no device is at hand
  no_device : {Cut : Type 0} → (outline_of blank_outline lines answers).session ≡ None → (sessions_begun lines ≡ 0) ⊎ FormatFailed l lines ⊎ Cut
  no_device none = elim (none_begun blank_outline lines answers are none) [
    | inl begins ↦ inl begins.none
    | inr faulted ↦ inr (inl (format_failed l lines (outline_of blank_outline lines answers) come (omega (arith, outline_length blank_outline lines answers are)) none faulted))
  ]

  -- or one is with no session on it
  by_session : (asks : Step) → is_of_device asks ≡ false → (outline_of blank_outline lines answers).stands ≡ false → (session : Option Harm)
      → (outline_of blank_outline lines answers).session ≡ session → (sessions_begun lines ≡ 0) ⊎ FormatFailed l lines ⊎ ((is_of_device asks ≡ false) × CutSince lines)
  by_session asks other fallen None is = no_device is
  by_session asks other fallen (Some harm) is = inr (inr (other, cut_since lines answers are (ap is_some is) fallen))

  because_ends : (why : LastLine) → Because l.bay held given (outline_of blank_outline lines answers) why → ReadsFailed l.first l.read (status_of why) → EndsHere l lines held (status_of why)
  because_ends last.Usage because failed = absurd because
  because_ends (last.BadScript number fault) because failed = (fault, subst (λ n. IsBadLine n held fault) counted because.1)
  because_ends last.ReadFault because failed = (subst (λ n. HoldsNoLine n held) counted because, failed)
  because_ends last.BayFault because failed = subst (λ n. MeetsBayFault n held l.bay.before l.bay.now) counted because
  because_ends (last.LineTooLong number) because failed = subst (λ n. IsTooLong n held) counted because.1
  because_ends last.TooManyLines because failed = subst (λ n. IsTooMany n held) counted because
  because_ends (last.NoCache number) because failed =
      let lacks : LacksCache (outline_of blank_outline lines answers) (length lines) held = subst (λ n. LacksCache (outline_of blank_outline lines answers) n held) counted because.1 in
      record {
        bytes = lacks.bytes;
        next = lacks.next;
        step = lacks.step;
        asks = lacks.asks;
        needs = lacks.needs;
        none = elim lacks.lacks [
          | inl none ↦ no_device none
          | inr fallen ↦ by_session lacks.step fallen.0 fallen.1 (outline_of blank_outline lines answers).session refl
        ];
      }

module _ (l : RunLogs) where
  ends_first : (held : List ℕ) (given : ℕ) (Text : (before all : List ℕ) → Type 0) (Devices : DevicesTold → Type 0) (Behind : Outline → Type 0) (Known : Run → Type 0) (s : Status)
      → (story : Story l.first l.read held given Text Devices Behind Known) → EndsHere l story.lines held s → EndsFirst l s
  ends_first held given Text Devices Behind Known s story ends = record {
    reads = story.reads;
    since = story.since;
    lines = story.lines;
    held = held;
    taken = story.taken;
    takeable = takeable blank_outline 0 story.lines story.answers refl story.outline.each;
    ends = ends;
  }

  pub ended_early : (s : Status) → (e : EndsEarly l.first l.read l.old l.new l.bay l.before l.now s) → ReadsFailed l.first l.read s → EndsHere l e.upto.story.lines e.upto.held s
  ended_early s e failed =
      let story = e.upto.story in
      let here : EndsHere l story.lines e.upto.held (status_of e.why) =
      because_ends l story.lines e.upto.held e.upto.given story.answers story.counted story.outline.each
      (come_back l (all_told (outline_of blank_outline story.lines story.answers)) story.outline.devices.back) e.why story.outline.behind (subst (λ (t : Status). ReadsFailed l.first l.read t) e.said failed) in
      subst (λ (t : Status). EndsHere l story.lines e.upto.held t) (sym e.said) here

  early : (s : Status) → EndsEarly l.first l.read l.old l.new l.bay l.before l.now s → ReadsFailed l.first l.read s → EndsFirst l s
  early s e failed = ends_first e.upto.held e.upto.given _ _ _ _ s e.upto.story (ended_early s e failed)

  pub cut_short : (before all : List ℕ) → CutsLast l.old l.new before all → LastWriteFailed l.old l.new
  cut_short before all cuts = record { older = cuts.cut.older; front = cuts.cut.front; is = cuts.cut.failed; others = cuts.cut.sent.unfailed }

  pub ends_are_caused : (s : Status) → IsConcluded l s → ReadsFailed l.first l.read s → s ≢ status.Usage → EndsFirst l s
  ends_are_caused status.Done c failed begun = ends_first c.held c.given _ _ _ _ status.Done c.story (c.story.outline.behind.ended, c.story.outline.behind.none)
  ends_are_caused status.Usage c failed begun = absurd (begun refl)
  ends_are_caused status.BadScript c failed begun = early status.BadScript c failed
  ends_are_caused status.ReadFault c failed begun = early status.ReadFault c failed
  ends_are_caused status.WriteFault c failed begun = ends_first c.held c.given _ _ _ _ status.WriteFault c.story (cut_short _ _ c.story.text)
  ends_are_caused status.BayFault c failed begun = early status.BayFault c failed
  ends_are_caused status.LineTooLong c failed begun = early status.LineTooLong c failed
  ends_are_caused status.NoCache c failed begun = early status.NoCache c failed
  ends_are_caused status.OutOfMemory (inl c) failed begun = ends_first c.held c.given _ _ _ _ status.OutOfMemory c.story tt
  ends_are_caused status.OutOfMemory (inr c) failed begun = ends_first c.held c.given _ _ _ _ status.OutOfMemory c.story tt
  ends_are_caused status.TooManyLines c failed begun = early status.TooManyLines c failed

-- ---- where nothing is in the way

not_one_more : {X : Type 0} (xs : List X) (x : X) → xs ++ x ∷ [] ≡ xs → ⊥
not_one_more xs x e = omega (arith, length-append xs (x ∷ []), ap length e)

read_refused : (count : ℕ) (older : List SourceRead) → refused_reads (RefusedRead count ∷ older) ≡ refused_reads older ++ count ∷ []
unfolding refused_reads
read_refused count older = refl

write_refused : (front : List ℕ) (count : ℕ) (older : List SinkWrite) → refused_writes (RefusedWrite front count ∷ older) ≡ refused_writes older ++ count ∷ []
unfolding refused_writes
write_refused front count older = refl

no_read_failed : (first read : List SourceRead) (count : ℕ) → LastReadFailed first read count → NoReadFailed first read → ⊥
no_read_failed first read count f none =
    not_one_more (refused_reads first) count (
    ap (λ (xs : List ℕ). xs ++ count ∷ []) (sym f.others) ∙ (sym (read_refused count f.older) ∙ (ap refused_reads (sym f.is) ∙ none))
    )

no_write_failed : (old new : List SinkWrite) → LastWriteFailed old new → refused_writes new ≡ refused_writes old → ⊥
no_write_failed old new f none =
    let count : ℕ = next_count (write_faults old) in
    not_one_more (refused_writes old) count (
    ap (λ (xs : List ℕ). xs ++ count ∷ []) (sym f.others) ∙ (sym (write_refused f.front count f.older) ∙ (ap refused_writes (sym f.is) ∙ none))
    )

module _ (l : RunLogs) (read_none : NoReadFailed l.first l.read) (write_none : refused_writes l.new ≡ refused_writes l.old) (bay_none : l.bay.now ≡ l.bay.before)
    (fine : (reads : List SourceRead) → l.read ≡ reads ++ l.first → IsFine (text_read reads)) where
  goes_on : {s : Status} (h : EndsFirst l s) → GoesOnWith h.lines h.held
  goes_on h = fine h.reads h.since h.lines h.held h.taken.all h.taken.each h.takeable

  none_below : (n : ℕ) → n ≡ 0 → 0 < n → ⊥
  none_below n e above = omega (arith, e, above)

  only_done : (s : Status) → EndsFirst l s → s ≢ status.Usage → s ≢ status.OutOfMemory → (s ≡ status.Done) ⊎ LostItsFormat l s ⊎ LostItsPower l s
  only_done status.Done h begun found = inl refl
  only_done status.Usage h begun found = absurd h.ends
  only_done status.BadScript h begun found =
      let bad = h.ends.1 in
      let may : MayBeTaken (sessions_begun h.lines) (reading_of bad.bytes) = (goes_on h).next bad.bytes bad.next.0 bad.next.1.is_line bad.next.1.first in
      absurd (subst (MayBeTaken (sessions_begun h.lines)) bad.bad may)
  only_done status.ReadFault h begun found = absurd (no_read_failed l.first l.read h.ends.1.0 h.ends.1.1 read_none)
  only_done status.WriteFault h begun found = absurd (no_write_failed l.old l.new h.ends write_none)
  only_done status.BayFault h begun found = absurd (not_one_more l.bay.before h.ends.refusal (sym h.ends.refused ∙ bay_none))
  only_done status.LineTooLong h begun found = absurd (omega (arith, h.ends.long, (goes_on h).short))
  only_done status.NoCache h begun found =
      let lacks : HasNoSession l h.lines h.held = h.ends in
      let may : MayBeTaken (sessions_begun h.lines) (reading_of lacks.bytes) = (goes_on h).next lacks.bytes lacks.next.0 lacks.next.1.is_line lacks.next.1.first in
      elim lacks.none [
        | inl none ↦ absurd (none_below (sessions_begun h.lines) none (subst (MayBeTaken (sessions_begun h.lines)) lacks.asks may lacks.needs))
        | inr lost ↦ elim lost [
          | inl failed ↦ inr (inl (record { is = refl; lines = h.lines; failed = failed }))
          | inr cut ↦ inr (inr (record { is = refl; reads = h.reads; since = h.since; lines = h.lines; held = h.held; taken = h.taken; cut = cut.1 }))
        ]
      ]
  only_done status.OutOfMemory h begun found = absurd (found refl)
  only_done status.TooManyLines h begun found = absurd (h.ends.more ((goes_on h).few h.ends.all))

pub done_where_fine : (l : RunLogs) (s : Status) → IsConcluded l s → ReadsFailed l.first l.read s → s ≢ status.Usage → s ≢ status.OutOfMemory
    → NoReadFailed l.first l.read → refused_writes l.new ≡ refused_writes l.old → l.bay.now ≡ l.bay.before
    → ((reads : List SourceRead) → l.read ≡ reads ++ l.first → IsFine (text_read reads)) → (s ≡ status.Done) ⊎ LostItsFormat l s ⊎ LostItsPower l s
done_where_fine l s c failed begun memory read_none write_none bay_none fine =
    only_done l read_none write_none bay_none fine s (ends_are_caused l s c failed begun) begun memory
