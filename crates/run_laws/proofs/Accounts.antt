-- What is concluded of a run gives its account.
use Rattle.std.proofs.Common.{ℕ, List, [], ◌∷◌, refl, sym, ◌∙◌, subst, inl, inr, ◌⊎◌, append-nil}
use Rattle.std.specs.Prelude.{◌≢◌}
use Rattle.script_run.specs.Run.{Run, fresh}
use Rattle.script_run.specs.Takes.{run_after}
use Rattle.run_promise.specs.Outline.{Outline, blank_outline}
use Rattle.run_promise.specs.Lines.{answers_of, outline_of}
use Rattle.run_promise.specs.declared.status.Status.{Status}
use Rattle.run_promise.specs.declared.status.Status.TheVariants as status
use Rattle.run_promise.specs.Story.{Because, Recorded, ShownAlong, Story, DevicesTold, all_in}
use Rattle.run_promise.specs.Top.{EachBack, EachBackOrMore, EndsEarly, ReadsFailed}
use Rattle.headline.specs.Account.{Account, ComeBackFrom, IsConcluded, RunLogs}
use Rattle.headline.specs.Endings.{AreTakeable, CameBackBy, EndsHere, EndsWithStatus, IsAccountOf, WentOutBy}
use Rattle.account_laws.proofs.Devices.{come_back, more_back}
use Rattle.account_laws.proofs.Outlines.{shown_before, shown_made}
use Rattle.run_laws.proofs.Endings.{cut_short, ended_early, takeable}

module _ (l : RunLogs) (s : Status) (held : List ℕ) (given : ℕ) (Text : (before all : List ℕ) → Type 0) (Devices : DevicesTold → Type 0) (Behind : Outline → Type 0) (Known : Run → Type 0)
    (back : (t : DevicesTold) → Devices t → ComeBackFrom l (all_in t)) (story : Story l.first l.read held given Text Devices Behind Known) (alone : (t : DevicesTold) → Devices t → CameBackBy l s story.lines held t)
    (sent : WentOutBy l s story.lines held story.answers) (ends : EndsHere l story.lines held s) where
  may_be_taken_all : AreTakeable 0 story.lines
  may_be_taken_all = takeable blank_outline 0 story.lines story.answers refl story.outline.each

  by_records : Recorded story.lines story.answers Devices Known → (a : Account l) × IsAccountOf l s a
  by_records r = (
    record {
      reads = story.reads;
      since = story.since;
      lines = story.lines;
      held = held;
      taken = story.taken;
      answers = story.answers;
      each = story.outline.each;
      told = story.lines;
      left = [];
      are = sym (append-nil story.lines);
      turns = r.turns;
      legal = r.legal;
      rest = [];
      says = r.says ∙ sym (append-nil (answers_of fresh story.lines r.turns));
      whole = inl refl;
      answered = back _ story.outline.devices;
      recorded = back _ r.devices;
    },
    record { sent = sent; takeable = may_be_taken_all; ends = ends; back = alone _ story.outline.devices; alone = λ none. alone _ r.devices },
  )

  by_pair : ShownAlong story.lines story.answers Devices Behind → (a : Account l) × IsAccountOf l s a
  by_pair p =
      let made = shown_made l story.lines story.answers Devices Behind back p in (
        record {
          reads = story.reads;
          since = story.since;
          lines = story.lines;
          held = held;
          taken = story.taken;
          answers = story.answers;
          each = story.outline.each;
          told = p.before;
          left = p.bytes ∷ p.after;
          are = p.is;
          turns = p.earlier;
          legal = p.legal;
          rest = p.rest;
          says = p.says;
          whole = inr (p.turn, p.shows, made);
          answered = back _ story.outline.devices;
          recorded = shown_before l (run_after fresh p.before p.earlier) p.turn made;
        },
        record { sent = sent; takeable = may_be_taken_all; ends = ends; back = alone _ story.outline.devices; alone = λ none. absurd cc },
      )

  by_either : Recorded story.lines story.answers Devices Known ⊎ ShownAlong story.lines story.answers Devices Behind → (a : Account l) × IsAccountOf l s a
  by_either (inl r) = by_records r
  by_either (inr p) = by_pair p

  pub account_of : (a : Account l) × IsAccountOf l s a
  account_of = by_either story.records

module _ (l : RunLogs) where
  each_back : (t : DevicesTold) → EachBack l.before l.now t → ComeBackFrom l (all_in t)
  each_back t each = come_back l (all_in t) each.back

  ends_with : (s : Status) → (e : EndsEarly l.first l.read l.old l.new l.bay l.before l.now s) → EndsWithStatus l s e.upto.story.lines e.upto.held e.upto.story.answers
  ends_with s e =
      let story = e.upto.story in
      record {
        why = e.why;
        is = e.said;
        because = subst (λ n. Because l.bay e.upto.held n (outline_of blank_outline story.lines story.answers) e.why) story.counted story.outline.behind;
        out = story.text;
      }

  early : (s : Status) → (e : EndsEarly l.first l.read l.old l.new l.bay l.before l.now s) → ReadsFailed l.first l.read s
      → ((t : DevicesTold) → EachBack l.before l.now t → CameBackBy l s e.upto.story.lines e.upto.held t) → WentOutBy l s e.upto.story.lines e.upto.held e.upto.story.answers → (a : Account l) × IsAccountOf l s a
  early s e failed alone sent = account_of l s e.upto.held e.upto.given _ _ _ _ each_back e.upto.story alone sent (ended_early l s e failed)

  pub runs_are_told : (s : Status) → IsConcluded l s → ReadsFailed l.first l.read s → s ≢ status.Usage → (a : Account l) × IsAccountOf l s a
  runs_are_told status.Done c failed begun =
      account_of l status.Done c.held c.given _ _ _ _ each_back c.story (λ t each. each) c.story.text (c.story.outline.behind.ended, c.story.outline.behind.none)
  runs_are_told status.Usage c failed begun = absurd (begun refl)
  runs_are_told status.BadScript c failed begun = early status.BadScript c failed (λ t each. each) (ends_with status.BadScript c)
  runs_are_told status.ReadFault c failed begun = early status.ReadFault c failed (λ t each. each) (ends_with status.ReadFault c)
  runs_are_told status.WriteFault c failed begun =
      account_of l status.WriteFault c.held c.given _ _ _ _ each_back c.story (λ t each. each) c.story.text (cut_short l _ _ c.story.text)
  runs_are_told status.BayFault c failed begun = early status.BayFault c failed (λ t each. each) (ends_with status.BayFault c)
  runs_are_told status.LineTooLong c failed begun = early status.LineTooLong c failed (λ t each. each) (ends_with status.LineTooLong c)
  runs_are_told status.NoCache c failed begun = early status.NoCache c failed (λ t each. each) (ends_with status.NoCache c)
  runs_are_told status.OutOfMemory (inl c) failed begun =
      account_of l status.OutOfMemory c.held c.given _ _ _ _ (λ t each. more_back l c.held c.given t each) c.story
      (λ t each. subst (λ n. EachBackOrMore l.before l.now c.held n t) c.story.counted each) (inl c.story.text) tt
  runs_are_told status.OutOfMemory (inr c) failed begun =
      account_of l status.OutOfMemory c.held c.given _ _ _ _ each_back c.story (λ t each. inl each) (inr c.story.text) tt
  runs_are_told status.TooManyLines c failed begun = early status.TooManyLines c failed (λ t each. each) (ends_with status.TooManyLines c)
