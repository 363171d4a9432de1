-- What a line makes of the story of a run.
use Rattle.std.proofs.Common.{◌≡◌, ℕ, ◌+◌, ◌⊎◌, List, [], ◌∷◌, ◌++◌, length, Option, Some, None, refl, sym, ◌∙◌, ap, subst, append_assoc, append-nil, arith, length-append, inl, inr}
use Rattle.device_log.specs.Streams.{SourceRead, SinkWrite}
use Rattle.edge_io.specs.Lines.{AreLines, GivesLine, IsLine}
use Rattle.edge_io.specs.Text.{spelled, text_after}
use Rattle.edge_io.proofs.Texts.{spelled_more, text_behind, text_more}
use Rattle.logged_disk.specs.Device.{DeviceState as Device}
use Rattle.script_grammar.specs.declared.line.LineAnswer.TheVariants as line
use Rattle.script_grammar.specs.declared.step.Step.{Step}
use Rattle.script_grammar.specs.declared.answer.StepAnswer.{StepAnswer}
use Rattle.script_grammar.specs.Grammar.{reading_of}
use Rattle.script_grammar.specs.Texts.{answer_line}
use Rattle.script_run.specs.Run.{Harm, Run, fresh}
use Rattle.script_run.specs.Turn.{Turn, no_turn}
use Rattle.script_run.specs.Behind.{after_line, after_step, with_calls_of}
use Rattle.script_run.specs.Takes.{LineShows, LineTakes, run_after}
use Rattle.cache_calls.specs.declared.calls.Calls.{Ghosts as CallsGhosts}
use Rattle.logged_disk.specs.declared.device.Disk.{Ghosts as DiskGhosts}
use Rattle.cache_replay.specs.declared.session.Replay.{Replay}
use Rattle.run_promise.specs.Outline.{Outline, blank_outline, doubted, outline_after, outline_in}
use Rattle.run_promise.specs.Lines.{AreAnswered, answers_of, outline_of, outline_read, reading_answer, text_of, texts_of}
use Rattle.script_run.specs.Ledger.{ComeBack, Ledger, Deals}
use Rattle.cache_replay.specs.Replay.{DeviceEnds, IsOutlined, Outlines, PlaysOn as PlaysNow}
use Rattle.run_promise.specs.Story.{AnsweredFrom, Story, DevicesTold, Taken, SinkTook, Recorded, ShownAlong, GoesOn, SendsAll, told_by, told_by_records}
use Rattle.run_script.proofs.Runs.{AreAnswered-more, IsRun-more, answers_of-more, outline_of-more, run_after-more, texts_before-more, texts_of-more, AreReached-append}

-- ---- the bytes of a line

AreLines-more : (lines : List (List ℕ)) (bytes : List ℕ) → AreLines lines → IsLine bytes → AreLines (lines ++ bytes ∷ [])
AreLines-more [] bytes each last = (last, tt)
AreLines-more (l ∷ lines) bytes each last = (each.0, AreLines-more lines bytes each.1 last)

Taken-more : (text : List ℕ) (lines : List (List ℕ)) (given : ℕ) (unread unread' bytes : List ℕ) → given ≡ length lines → Taken text lines unread → GivesLine given unread bytes unread' → Taken text (lines ++ bytes ∷ []) unread'
Taken-more text lines given unread unread' bytes counted taken next = record {
  all = taken.all
      ∙ (ap (λ l. spelled lines ++ l) (next.first ∙ sym (append_assoc bytes (10 ∷ []) unread'))
      ∙ (sym (append_assoc (spelled lines) (bytes ++ 10 ∷ []) unread') ∙ ap (λ l. l ++ unread') (sym (spelled_more lines bytes))));
  each = AreLines-more lines bytes taken.each next.is_line;
  within = omega (arith, length-append lines (bytes ∷ []), next.within, counted);
}

-- the same lines, where more was read
Taken-read : (lines : List (List ℕ)) (held : List ℕ) (reads more : List SourceRead) → Taken (text_after [] reads) lines held → Taken (text_after [] (more ++ reads)) lines (text_after held more)
Taken-read lines held reads more taken = record {
  all = text_more [] more reads ∙ (ap (λ l. text_after l more) taken.all ∙ text_behind lines held more);
  each = taken.each;
  within = taken.within;
}

-- a story goes on through reads
pub read_more : (first now now' more : List SourceRead) (held : List ℕ) (given : ℕ) (Text : (before all : List ℕ) → Type 0) (Devices : DevicesTold → Type 0) (Behind : Outline → Type 0) (Known : Run → Type 0)
    → now' ≡ more ++ now → Story first now held given Text Devices Behind Known → Story first now' (text_after held more) given Text Devices Behind Known
read_more first now now' more held given Text Devices Behind Known grew s = record {
  reads = more ++ s.reads;
  since = grew ∙ (ap (λ l. more ++ l) s.since ∙ sym (append_assoc more s.reads first));
  lines = s.lines;
  answers = s.answers;
  taken = Taken-read s.lines held s.reads more s.taken;
  counted = s.counted;
  text = s.text;
  outline = s.outline;
  records = s.records;
}

-- ---- devices that came back

pub ComeBack-nothing : (a : List Device) → ComeBack a a []
ComeBack-nothing a = record { devices = []; returned = sym (append-nil a); reached = tt }

pub ComeBack-trans : (a b c : List Device) (harms more : List Harm) → ComeBack a b harms → ComeBack b c more → ComeBack a c (harms ++ more)
ComeBack-trans a b c harms more first second = record {
  devices = first.devices ++ second.devices;
  returned = second.returned ∙ ap (λ l. l ++ second.devices) first.returned ∙ append_assoc a first.devices second.devices;
  reached = AreReached-append harms more first.devices second.devices first.reached second.reached;
}

pub Deals-nothing : (a : Ledger) → Deals a a [] []
Deals-nothing a = record { back = ComeBack-nothing a.returned; attached = sym (append-nil a.names) }

pub Deals-trans : (a b c : Ledger) (harms more : List Harm) (names others : List (List ℕ)) → Deals a b harms names → Deals b c more others → Deals a c (harms ++ more) (names ++ others)
Deals-trans a b c harms more names others first second = record {
  back = ComeBack-trans a.returned b.returned c.returned harms more first.back second.back;
  attached = second.attached ∙ ap (λ l. l ++ others) first.attached ∙ append_assoc a.names names others;
}

-- the last device came back, and none was attached
pub Deals-settled : (a b c : Ledger) (harms more : List Harm) (names : List (List ℕ)) → Deals a b harms names → ComeBack b.returned c.returned more → c.names ≡ b.names → Deals a c (harms ++ more) names
Deals-settled a b c harms more names first back same = record { back = ComeBack-trans a.returned b.returned c.returned harms more first.back back; attached = same ∙ first.attached }

-- ---- what is kept of an outline, in other words

pub answered_with : (o : Outline) (lines : List (List ℕ)) (answers : List (Option StepAnswer)) (From To : DevicesTold → Type 0) (Behind Behind' : Outline → Type 0) → ((o : Outline) → From (told_by o) → Behind o → To (told_by o)) → ((o : Outline) → Behind o → Behind' o)
    → AnsweredFrom o lines answers From Behind → AnsweredFrom o lines answers To Behind'
answered_with o lines answers From To Behind Behind' settle behind a = record { each = a.each; devices = settle _ a.devices a.behind; behind = behind _ a.behind }

pub along_with : (lines : List (List ℕ)) (answers : List (Option StepAnswer)) (From To : DevicesTold → Type 0) (Behind Behind' : Outline → Type 0) → ((o : Outline) → From (told_by o) → Behind o → To (told_by o)) → ((o : Outline) → Behind o → Behind' o)
    → ShownAlong lines answers From Behind → ShownAlong lines answers To Behind'
along_with lines answers From To Behind Behind' settle behind s = record {
  before = s.before;
  bytes = s.bytes;
  after = s.after;
  is = s.is;
  earlier = s.earlier;
  legal = s.legal;
  rest = s.rest;
  says = s.says;
  turn = s.turn;
  shows = s.shows;
  outline = answered_with (doubted (outline_in (with_calls_of (run_after fresh s.before s.earlier) s.turn))) (s.bytes ∷ s.after) s.rest From To Behind Behind' settle behind s.outline;
}

-- the story, where what is told of its text, its devices and its outline gives something else
pub story_with : (first now : List SourceRead) (held : List ℕ) (given : ℕ) (Text Text' : (before all : List ℕ) → Type 0) (From To : DevicesTold → Type 0) (Behind Behind' : Outline → Type 0) (Known : Run → Type 0)
    → ((out all : List ℕ) → Text out all → Text' out all) → ((t : DevicesTold) → From t → To t) → ((o : Outline) → Behind o → Behind' o)
    → Story first now held given Text From Behind Known → Story first now held given Text' To Behind' Known
story_with first now held given Text Text' From To Behind Behind' Known text settle behind s = record {
  reads = s.reads;
  since = s.since;
  lines = s.lines;
  answers = s.answers;
  taken = s.taken;
  counted = s.counted;
  text = text _ _ s.text;
  outline = answered_with blank_outline s.lines s.answers From To Behind Behind' (λ o from is. settle (told_by o) from) behind s.outline;
  records = elim s.records [
    | inl r ↦ inl (record { turns = r.turns; legal = r.legal; says = r.says; devices = settle _ r.devices; known = r.known })
    | inr along ↦ inr (along_with s.lines s.answers From To Behind Behind' (λ o from is. settle (told_by o) from) behind along)
  ];
}

-- ---- a line more

-- what is kept behind one line more
answered_more : (o : Outline) (lines : List (List ℕ)) (answers : List (Option StepAnswer)) (bytes : List ℕ) (said : Option StepAnswer) (Devices : DevicesTold → Type 0) (Behind : Outline → Type 0)
    → AreAnswered o lines answers → AnsweredFrom (outline_of o lines answers) (bytes ∷ []) (said ∷ []) Devices Behind → AnsweredFrom o (lines ++ bytes ∷ []) (answers ++ said ∷ []) Devices Behind
answered_more o lines answers bytes said Devices Behind are last =
    let after : outline_of o (lines ++ bytes ∷ []) (answers ++ said ∷ []) ≡ outline_read (outline_of o lines answers) (reading_of bytes) said = outline_of-more bytes said o lines answers are in
    record {
      each = AreAnswered-more bytes said o lines answers are last.each.0;
      devices = subst (λ (x : Outline). Devices (told_by x)) (sym after) last.devices;
      behind = subst Behind (sym after) last.behind;
    }

-- one that showed a pair still does
along_more : (lines : List (List ℕ)) (answers : List (Option StepAnswer)) (bytes : List ℕ) (said : Option StepAnswer) (From To : DevicesTold → Type 0) (Behind Behind' : Outline → Type 0)
    → ((o : Outline) → From (told_by o) → Behind o → AnsweredFrom o (bytes ∷ []) (said ∷ []) To Behind') → ShownAlong lines answers From Behind → ShownAlong (lines ++ bytes ∷ []) (answers ++ said ∷ []) To Behind'
along_more lines answers bytes said From To Behind Behind' follows s = record {
  before = s.before;
  bytes = s.bytes;
  after = s.after ++ bytes ∷ [];
  is = ap (λ l. l ++ bytes ∷ []) s.is ∙ append_assoc s.before (s.bytes ∷ s.after) (bytes ∷ []);
  earlier = s.earlier;
  legal = s.legal;
  rest = s.rest ++ said ∷ [];
  says = ap (λ l. l ++ said ∷ []) s.says ∙ append_assoc (answers_of fresh s.before s.earlier) s.rest (said ∷ []);
  turn = s.turn;
  shows = s.shows;
  outline = answered_more (doubted (outline_in (with_calls_of (run_after fresh s.before s.earlier) s.turn))) (s.bytes ∷ s.after) s.rest bytes said To Behind' s.outline.each (follows _ s.outline.devices s.outline.behind);
}

-- or the last one shows one
shown_last : (lines : List (List ℕ)) (answers : List (Option StepAnswer)) (From To : DevicesTold → Type 0) (Known : Run → Type 0) (Behind : Outline → Type 0) (bytes : List ℕ) (said : Option StepAnswer) (r : Recorded lines answers From Known) (turn : Turn)
    → LineShows (run_after fresh lines r.turns) turn bytes → AnsweredFrom (doubted (outline_in (with_calls_of (run_after fresh lines r.turns) turn))) (bytes ∷ []) (said ∷ []) To Behind → ShownAlong (lines ++ bytes ∷ []) (answers ++ said ∷ []) To Behind
shown_last lines answers From To Known Behind bytes said r turn shows outline = record {
  before = lines;
  bytes = bytes;
  after = [];
  is = refl;
  earlier = r.turns;
  legal = r.legal;
  rest = said ∷ [];
  says = ap (λ l. l ++ said ∷ []) r.says;
  turn = turn;
  shows = shows;
  outline = outline;
}

module _ (first now : List SourceRead) (taken_first taken : List SinkWrite) (ledger_first ledger : Ledger) (unread unread' : List ℕ) (given given' : ℕ) (Outlined : Outline → Type 0) (PlaysOn : Run → Type 0)
    (story : GoesOn first taken_first ledger_first now unread given taken ledger Outlined PlaysOn) (bytes : List ℕ) (known : GivesLine given unread bytes unread') (counted : given' ≡ given + 1) where
  -- how the devices stand before the line
  abbrev Dealt : DevicesTold → Type 0
  Dealt = λ t. Deals ledger_first ledger t.ended t.names

  module _ (said : Option StepAnswer) (Text : (before all : List ℕ) → Type 0) (Devices : DevicesTold → Type 0) (Behind : Outline → Type 0) (Known : Run → Type 0) where
    -- a line that did what it must
    recorded_more : (r : Recorded story.lines story.answers Dealt PlaysOn) (turn : Turn) → LineTakes (run_after fresh story.lines r.turns) turn bytes
        → said ≡ reading_answer (run_after fresh story.lines r.turns) turn (reading_of bytes) → Devices (told_by_records (after_line (run_after fresh story.lines r.turns) turn bytes)) → Known (after_line (run_after fresh story.lines r.turns) turn bytes)
        → Recorded (story.lines ++ bytes ∷ []) (story.answers ++ said ∷ []) Devices Known
    recorded_more r turn takes says devices behind =
        let after : run_after fresh (story.lines ++ bytes ∷ []) (r.turns ++ turn ∷ []) ≡ after_line (run_after fresh story.lines r.turns) turn bytes = run_after-more bytes turn fresh story.lines r.turns r.legal in
        record {
          turns = r.turns ++ turn ∷ [];
          legal = IsRun-more bytes turn fresh story.lines r.turns r.legal takes;
          says = ap (λ l. l ++ said ∷ []) r.says ∙ ap (λ a. answers_of fresh story.lines r.turns ++ a ∷ []) says ∙ sym (answers_of-more bytes turn fresh story.lines r.turns r.legal);
          devices = subst (λ run. Devices (told_by_records run)) (sym after) devices;
          known = subst Known (sym after) behind;
        }

    -- it does, or it shows a pair, and the outline with the calls of that turn goes on, its device doubted
    abbrev EndsRecords : Type 0
    EndsRecords = (r : Recorded story.lines story.answers Dealt PlaysOn)
        → Recorded (story.lines ++ bytes ∷ []) (story.answers ++ said ∷ []) Devices Known ⊎ ((turn : Turn) × LineShows (run_after fresh story.lines r.turns) turn bytes × AnsweredFrom (doubted (outline_in (with_calls_of (run_after fresh story.lines r.turns) turn))) (bytes ∷ []) (said ∷ []) Devices Behind)

    pub line_more : ((o : Outline) → Dealt (told_by o) → Outlined o → AnsweredFrom o (bytes ∷ []) (said ∷ []) Devices Behind) → ((out : List ℕ) → SinkTook taken_first taken out → Text out (out ++ text_of said))
        → EndsRecords → Story first now unread' given' Text Devices Behind Known
    line_more follows text records = record {
      reads = story.reads;
      since = story.since;
      lines = story.lines ++ bytes ∷ [];
      answers = story.answers ++ said ∷ [];
      taken = Taken-more _ story.lines given unread unread' bytes story.counted story.taken known;
      counted = counted ∙ ap (λ n. n + 1) story.counted ∙ sym (length-append story.lines (bytes ∷ []));
      text = subst (λ (before : List ℕ). Text before (texts_of (story.answers ++ said ∷ []))) (sym (texts_before-more story.answers said))
          (subst (Text (texts_of story.answers)) (sym (texts_of-more story.answers said)) (text (texts_of story.answers) story.text));
      outline = answered_more blank_outline story.lines story.answers bytes said Devices Behind story.outline.each (follows _ story.outline.devices story.outline.behind);
      records = elim story.records [
        | inl r ↦ elim (records r) [
          | inl more ↦ inl more
          | inr shows ↦ inr (shown_last story.lines story.answers Dealt Devices PlaysOn Behind bytes said r shows.0 shows.1 shows.2)
        ]
        | inr along ↦ inr (along_more story.lines story.answers bytes said Dealt Devices Outlined Behind follows along)
      ];
    }

  -- an empty line or a comment
  pub passed_more : reading_of bytes ≡ line.Nothing → GoesOn first taken_first ledger_first now unread' given' taken ledger Outlined PlaysOn
  passed_more e =
      line_more None (SendsAll taken_first taken) Dealt Outlined PlaysOn
      (λ o deals is. record { each = (rw e tt, tt); devices = rw e deals; behind = rw e is }) (λ out appends. rw append-nil appends)
      (λ r. inl (recorded_more None (SendsAll taken_first taken) Dealt Outlined PlaysOn r no_turn (rw e refl) (rw e refl) (rw e r.devices) (rw e r.known)))

  -- a step, whose answer was written as far as this
  module _ (step : Step) (asks : reading_of bytes ≡ line.Step step) (said : StepAnswer) (ledger' : Ledger) where
    -- what is told of the devices of all lines
    deals_all : (ended more : List Harm) (names others : List (List ℕ)) (all : List Harm) (called : List (List ℕ)) → all ≡ ended ++ more → called ≡ names ++ others
        → Deals ledger_first ledger ended names → Deals ledger ledger' more others → Deals ledger_first ledger' all called
    deals_all ended more names others all called e n first second = rw (e, n) (Deals-trans ledger_first ledger ledger' ended more names others first second)

    module _ {D S W R : Type 0} {d : DiskGhosts D} {c : CallsGhosts S W R} (new : Replay D S W R d c) where
      -- an outline goes on by the answer
      step_follows : (Devices : DevicesTold → Type 0) (Behind : Outline → Type 0) (o : Outline) → Outlines o step new said ledger ledger'
          → ((o : Outline) → IsOutlined o new → Deals ledger_first ledger' o.ended o.names → Devices (told_by o)) → ((o : Outline) → IsOutlined o new → Behind o)
          → Dealt (told_by o) → AnsweredFrom o (bytes ∷ []) (Some said ∷ []) Devices Behind
      step_follows Devices Behind o outlined settle behind deals = record {
        each = (rw asks outlined.answered, tt);
        devices = rw asks (settle (outline_after o step said) outlined.outlined (deals_all o.ended outlined.harms o.names outlined.names _ _ outlined.ended outlined.named deals outlined.deals));
        behind = rw asks (behind (outline_after o step said) outlined.outlined);
      }

      pub step_more : (Text : (before all : List ℕ) → Type 0) (Devices : DevicesTold → Type 0) (Behind : Outline → Type 0) (Known : Run → Type 0)
          → ((o : Outline) → Outlined o → Outlines o step new said ledger ledger')
          → ((run : Run) → PlaysOn run → DeviceEnds run step new said ledger ledger')
          → ((out : List ℕ) → SinkTook taken_first taken out → Text out (out ++ answer_line said))
          → ((o : Outline) → IsOutlined o new → Deals ledger_first ledger' o.ended o.names → Devices (told_by o))
          → ((run : Run) → PlaysNow run new → Deals ledger_first ledger' run.ended run.names → Devices (told_by_records run))
          → ((o : Outline) → IsOutlined o new → Behind o) → ((run : Run) → PlaysNow run new → Known run)
          → Story first now unread' given' Text Devices Behind Known
      step_more Text Devices Behind Known outlined ends text settle settle_run behind knows =
          line_more (Some said) Text Devices Behind Known (λ o deals is. step_follows Devices Behind o (outlined o is) settle behind deals) text
          (λ r. let run : Run = run_after fresh story.lines r.turns in elim (ends run r.known) [
            | inl m ↦
                inl (recorded_more (Some said) Text Devices Behind Known r m.moves.turn (rw asks m.moves.takes) (rw asks (ap Some (sym m.moves.says)))
                (rw asks (settle_run (after_step run m.moves.turn step) m.moves.plays (deals_all run.ended m.harms run.names m.names _ _ m.ended m.named r.devices m.deals)))
                (rw asks (knows (after_step run m.moves.turn step) m.moves.plays)))
            | inr shows ↦ inr (shows.turn, rw asks shows.shows, step_follows Devices Behind (doubted (outline_in (with_calls_of run shows.turn))) shows.outlines settle behind r.devices)
          ])
