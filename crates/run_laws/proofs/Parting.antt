-- Two runs of one source write the same up to the first line in which a call was refused, or both displaced a piece.
use Rattle.std.proofs.Common.{◌≡◌, ℕ, List, [], ◌∷◌, ◌++◌, ◌⊎◌, inl, inr, false, true, refl, sym, ◌∙◌, ap, subst, append-nil, append_assoc}
use Rattle.std.specs.Prelude.{All, Option, ⊤}
use Rattle.std.specs.List.{AllByRecursion}
use Rattle.std.proofs.lemmas.List.{append_cancel_right}
use Rattle.std.proofs.lemmas.List.Elements.{All-cons, All-nil}
use Rattle.device_log.specs.Streams.{SourceRead, taken_by}
use Rattle.edge_io.specs.Text.{spelled, text_read}
use Rattle.edge_io.specs.Lines.{AreLines, lines_of}
use Rattle.edge_io.specs.Laws.{SpelledAreLines}
use Rattle.logged_disk.specs.Device.{DeviceState as Device, TellsAll}
use Rattle.cache_model.specs.declared.record.Rec.{Rec}
use Rattle.cache_model.specs.declared.record.Rec.TheVariants as rec
use Rattle.cache_model.specs.Damage.{TellNoDamage, tells_damage}
use Rattle.cache_model.specs.Permit.{IsAmong}
use Rattle.cache_model.proofs.Found.{no_truth}
use Rattle.cache_model.proofs.Steps.{all_parts}
use Rattle.model_laws.specs.Purging.{is_device_trouble}
use Rattle.script_grammar.specs.declared.answer.StepAnswer.{StepAnswer}
use Rattle.script_grammar.specs.Grammar.{reading_of}
use Rattle.script_run.specs.Run.{Harm, Run, fresh}
use Rattle.script_run.specs.Turn.{Turn}
use Rattle.script_run.specs.Behind.{after_line, harms_of}
use Rattle.script_run.specs.Takes.{IsRun, line_text, output_of, run_after}
use Rattle.script_run.specs.Ledger.{AreReached}
use Rattle.script_run.proofs.Listed.{is_among}
use Rattle.script_laws.specs.Parting.{IsUntroubledUpTo, LinesAgreeBeforeTrouble, LinesPart, MeetsDeviceTrouble, both_displace, first_in_trouble, second_in_trouble, told_apart}
use Rattle.script_laws.specs.TurnTroubles.{TellsRefusals, TurnsTellRefusals, UndamagedTurns}
use Rattle.run_promise.specs.Lines.{TextsAreOutput, answers_of, reading_answer, texts_of}
use Rattle.run_promise.specs.declared.status.Status.TheVariants as status
use Rattle.run_promise.specs.Story.{IsReadThrough, Recorded, ShownAlong, Taken, all_in, told_by_records}
use Rattle.run_promise.specs.Top.{EachBack}
use Rattle.headline.specs.Account.{Account, AllTell, IsConcluded, RunLogs}
use Rattle.headline.specs.Fixed.{GiveSame, HasHistory, TakeSame}
use Rattle.headline.specs.Parting.{BeginAlike, ComesToLine, HistoryBegins, MeetsRefusal, RunsPart, each_displaces, one_has_no_switch, one_refuses, other_refuses}
use Rattle.account_laws.proofs.Devices.{come_back}
use Rattle.headline.proofs.Honest.{no_line_shows}
use Rattle.account_laws.proofs.Outlines.{shown_made}

-- ---- a run that was read to its end

module _ (l : RunLogs) (c : IsConcluded l status.Done) where
  abbrev Lines : List (List ℕ)
  Lines = c.story.lines

  -- its lines are those of the text
  text_is : text_read c.story.reads ≡ spelled Lines ++ []
  text_is = c.story.taken.all ∙ ap (λ (xs : List ℕ). spelled Lines ++ xs) c.story.outline.behind.none

  reads_are : (reads : List SourceRead) → l.read ≡ reads ++ l.first → c.story.reads ≡ reads
  reads_are reads since = append_cancel_right c.story.reads reads l.first (sym c.story.since ∙ since)

  abbrev Records : Type 0
  Records = Recorded Lines c.story.answers (EachBack l.before l.now) (λ run. ⊤)

  abbrev Pairs : Type 0
  Pairs = ShownAlong Lines c.story.answers (EachBack l.before l.now) (λ o. IsReadThrough l.read c.held)

  -- no byte of the text is in no line
  taken_all : (reads : List SourceRead) → l.read ≡ reads ++ l.first → Taken (text_read reads) Lines []
  taken_all reads since =
      subst (λ (rs : List SourceRead). Taken (text_read rs) Lines []) (reads_are reads since)
      (subst (λ (held : List ℕ). Taken (text_read c.story.reads) Lines held) c.story.outline.behind.none c.story.taken)

  -- its devices tell their content, so that no line shows a pair
  none_shown : AllTell l → Pairs → ⊥
  none_shown tell p =
      no_line_shows l tell (run_after fresh p.before p.earlier) p.bytes p.turn p.shows
      (shown_made l Lines c.story.answers _ _ (λ t each. come_back l (all_in t) each.back) p)

  history_of : TextsAreOutput → Records → HasHistory l Lines
  history_of texts r = record {
    turns = r.turns;
    legal = r.legal;
    prints = c.story.text.taken ∙ ap (λ (xs : List ℕ). taken_by l.old ++ xs) (ap texts_of r.says ∙ texts fresh Lines r.turns);
    back = r.devices;
  }

  history : TextsAreOutput → AllTell l → HasHistory l Lines
  history texts tell = elim c.story.records [ inl r ↦ history_of texts r | inr p ↦ absurd (none_shown tell p) ]

-- ---- a history

-- of the same lines
abbrev history_as : (l : RunLogs) (lines others : List (List ℕ)) → lines ≡ others → HasHistory l lines → HasHistory l others
history_as l lines others e h = record {
  turns = h.turns;
  legal = subst (λ (xs : List (List ℕ)). IsRun fresh xs h.turns) e h.legal;
  prints = subst (λ (xs : List (List ℕ)). taken_by l.new ≡ taken_by l.old ++ output_of fresh xs h.turns) e h.prints;
  back = subst (λ (xs : List (List ℕ)). EachBack l.before l.now (told_by_records (run_after fresh xs h.turns))) e h.back;
}

-- the lines before one print first
output_append : (run : Run) (before : List (List ℕ)) (earlier : List Turn) (lines : List (List ℕ)) (turns : List Turn)
    → IsRun run before earlier
    → output_of run (before ++ lines) (earlier ++ turns) ≡ output_of run before earlier ++ output_of (run_after run before earlier) lines turns
output_append run [] [] lines turns is = refl
output_append run [] (turn ∷ earlier) lines turns is = absurd is
output_append run (bytes ∷ before) [] lines turns is = absurd is
output_append run (bytes ∷ before) (turn ∷ earlier) lines turns is =
    let next : Run = after_line run turn bytes in
    ap (λ (text : List ℕ). line_text run turn bytes ++ text) (output_append next before earlier lines turns is.1)
    ∙ sym (append_assoc (line_text run turn bytes) (output_of next before earlier) (output_of (run_after next before earlier) lines turns))

-- devices that tell their content came back undamaged
none_damaged : (hs : List Harm) (ds : List Device) → AreReached hs ds → AllByRecursion TellsAll ds
    → All (λ (harm : Harm). harm.damaged ≡ false) hs
none_damaged [] ds r tell = All-nil (λ harm. harm.damaged ≡ false)
none_damaged (h ∷ hs) [] r tell = absurd r
none_damaged (h ∷ hs) (d ∷ ds) r tell = All-cons (λ harm. harm.damaged ≡ false) h hs (r.0.unharmed tell.0) (none_damaged hs ds r.1 tell.1)

-- trouble of a device that is no damage
refused : (turn : Turn) (told : Rec) → TellsRefusals turn → tells_damage told ≡ false → IsAmong told turn.added
    → is_device_trouble told ≡ true → MeetsRefusal turn
refused turn (rec.Fault count) refusals undamaged among trouble =
    let call = refusals count among in
    record { asked = call.0; count = count; refused = call.1; recorded = among }
refused turn (rec.Damaged piece place kept found) refusals undamaged among trouble = no_truth undamaged
refused turn _ refusals undamaged among trouble = no_truth (sym trouble)

module _ (refusals : TurnsTellRefusals) (undamaged : UndamagedTurns) (l : RunLogs) (tell : AllTell l) (lines before : List (List ℕ))
    (h : HasHistory l lines) (f : IsUntroubledUpTo fresh before h.turns) where
  meets : MeetsDeviceTrouble f.turn → MeetsRefusal f.turn
  meets t =
      let back = h.back.back in
      let none : AllByRecursion (λ (turn : Turn). TellNoDamage turn.added) h.turns =
      undamaged fresh lines h.turns h.legal (none_damaged (harms_of (run_after fresh lines h.turns)) back.devices back.reached (tell back.devices back.returned)) in
      let here : TellNoDamage f.turn.added =
      (all_parts (λ (turn : Turn). TellNoDamage turn.added) f.earlier (f.turn ∷ f.later) (subst (AllByRecursion (λ (turn : Turn). TellNoDamage turn.added)) f.turns_are none)).1.0 in
      let told : TellsRefusals f.turn = (all_parts TellsRefusals f.earlier (f.turn ∷ f.later) (subst (AllByRecursion TellsRefusals) f.turns_are (refusals fresh lines h.turns h.legal))).1.0 in
      refused f.turn t.told told (is_among (λ r. tells_damage r ≡ false) t.told f.turn.added here t.among) t.among t.tells

-- a history as it comes to a line
abbrev comes_to : (l : RunLogs) (lines before : List (List ℕ)) (bytes : List ℕ) (after : List (List ℕ)) → lines ≡ before ++ bytes ∷ after
    → (h : HasHistory l lines) → (f : IsUntroubledUpTo fresh before h.turns) → ComesToLine l before bytes after
comes_to l lines before bytes after e h f = record {
  history = history_as l lines (before ++ bytes ∷ after) e h;
  did = record { earlier = f.earlier; turn = f.turn; later = f.later; turns_are = f.turns_are; legal = f.legal };
  untroubled = f.untroubled;
  rest = output_of (run_after fresh before f.earlier) (bytes ∷ after) (f.turn ∷ f.later);
  first =
      h.prints
      ∙ ap (λ (xs : List (List ℕ)). taken_by l.old ++ output_of fresh xs h.turns) e
      ∙ ap (λ (turns : List Turn). taken_by l.old ++ output_of fresh (before ++ bytes ∷ after) turns) f.turns_are
      ∙ ap (λ (text : List ℕ). taken_by l.old ++ text) (output_append fresh before f.earlier (bytes ∷ after) (f.turn ∷ f.later) f.legal);
}

-- ---- two of them

module _ (agree : LinesAgreeBeforeTrouble) (refusals : TurnsTellRefusals) (undamaged : UndamagedTurns) (texts : TextsAreOutput)
    (spells : SpelledAreLines) (l m : RunLogs) (c : IsConcluded l status.Done) (d : IsConcluded m status.Done)
    (same : GiveSame l m) (tell : AllTell l) (tell_too : AllTell m) where
  lines_read : (lines : List (List ℕ)) → AreLines lines → lines_of (spelled lines ++ []) ≡ lines
  lines_read lines each = spells lines [] each ∙ append-nil lines

  lines_same : Lines l c ≡ Lines m d
  lines_same =
      let texts_same : spelled (Lines l c) ++ [] ≡ spelled (Lines m d) ++ [] =
      sym (text_is l c) ∙ (ap text_read (reads_are l c same.reads same.since) ∙ (same.same ∙ (ap text_read (sym (reads_are m d same.others same.since_too)) ∙ text_is m d))) in
      sym (lines_read (Lines l c) c.story.taken.each) ∙ (ap lines_of texts_same ∙ lines_read (Lines m d) d.story.taken.each)

  module _ (h : HasHistory l (Lines l c)) (k : HasHistory m (Lines l c)) where
    part : LinesPart fresh (Lines l c) h.turns k.turns → RunsPart l m same
    part p = record {
      before = p.before;
      bytes = p.bytes;
      after = p.after;
      taken = subst (λ (xs : List (List ℕ)). Taken (text_read same.reads) xs []) p.lines_are (taken_all l c same.reads same.since);
      one = comes_to l (Lines l c) p.before p.bytes p.after p.lines_are h p.first;
      other = comes_to m (Lines l c) p.before p.bytes p.after p.lines_are k p.second;
      agree = p.same;
      trouble = elim p.part [
        | first_in_trouble trouble ↦ one_refuses (meets refusals undamaged l tell (Lines l c) p.before h p.first trouble)
        | second_in_trouble trouble ↦ other_refuses (meets refusals undamaged m tell_too (Lines l c) p.before k p.second trouble)
        | both_displace displaces displaces_too ↦ each_displaces displaces displaces_too
        | told_apart apart ↦ one_has_no_switch apart
      ];
    }

    same_or_part : TakeSame l m ⊎ RunsPart l m same
    same_or_part = elim (agree fresh (Lines l c) h.turns k.turns h.legal k.legal) [
      | inl alike ↦ inl (record {
        output = output_of fresh (Lines l c) h.turns;
        taken = h.prints;
        taken_too = k.prints ∙ ap (λ (xs : List ℕ). taken_by m.old ++ xs) (sym alike.output);
      })
      | inr p ↦ inr (part p)
    ]

  pub runs_agree_before_trouble : TakeSame l m ⊎ RunsPart l m same
  runs_agree_before_trouble = same_or_part (history l c texts tell) (history_as m (Lines m d) (Lines l c) (sym lines_same) (history m d texts tell_too))

-- ---- any two histories

-- the turns of the first of these lines, and their answers
record Front (run : Run) (lines left : List (List ℕ)) (turns : List Turn) : Type 0 where
  earlier : List Turn
  later : List Turn
  turns_are : turns ≡ earlier ++ later
  legal : IsRun run lines earlier
  rest : List (Option StepAnswer)
  says : answers_of run (lines ++ left) turns ≡ answers_of run lines earlier ++ rest

front : (run : Run) (lines left : List (List ℕ)) (turns : List Turn) → IsRun run (lines ++ left) turns → Front run lines left turns
front run [] left turns is = record { earlier = []; later = turns; turns_are = refl; legal = tt; rest = answers_of run left turns; says = refl }
front run (bytes ∷ lines) left [] is = absurd is
front run (bytes ∷ lines) left (turn ∷ turns) is =
    let f : Front (after_line run turn bytes) lines left turns = front (after_line run turn bytes) lines left turns is.1 in
    record {
      earlier = turn ∷ f.earlier;
      later = f.later;
      turns_are = ap (λ (ts : List Turn). turn ∷ ts) f.turns_are;
      legal = (is.0, f.legal);
      rest = f.rest;
      says = ap (λ (answers : List (Option StepAnswer)). reading_answer run turn (reading_of bytes) ∷ answers) f.says;
    }

begins : (l : RunLogs) (a : Account l) (lines left : List (List ℕ)) → a.told ≡ lines ++ left → HistoryBegins a lines
begins l a lines left are =
    let f : Front fresh lines left a.turns = front fresh lines left a.turns (subst (λ (xs : List (List ℕ)). IsRun fresh xs a.turns) are a.legal) in
    record {
      earlier = f.earlier;
      later = f.later;
      turns_are = f.turns_are;
      legal = f.legal;
      rest = f.rest ++ a.rest;
      says =
          a.says
          ∙ ap (λ (xs : List (List ℕ)). answers_of fresh xs a.turns ++ a.rest) are
          ∙ ap (λ (answers : List (Option StepAnswer)). answers ++ a.rest) f.says
          ∙ append_assoc (answers_of fresh lines f.earlier) f.rest a.rest;
    }

pub histories_agree_before_trouble : (agree : LinesAgreeBeforeTrouble) (l m : RunLogs) (a : Account l) (b : Account m) (lines left more : List (List ℕ))
    → a.told ≡ lines ++ left → b.told ≡ lines ++ more → BeginAlike a b lines
histories_agree_before_trouble agree l m a b lines left more are others_are =
    let one : HistoryBegins a lines = begins l a lines left are in
    let other : HistoryBegins b lines = begins m b lines more others_are in
    record { one = one; other = other; agree = agree fresh lines one.earlier other.earlier one.legal other.legal }
