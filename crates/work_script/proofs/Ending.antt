-- What a run of `work` has come to where its script was read, and how it ends.
use Rattle.std.proofs.Common.{◌≡◌, ℕ, ◌+◌, ◌≤◌, false, List, [], ◌∷◌, ◌++◌, length, None, Some, refl, sym, ◌∙◌, ap, subst, inl, inr, arith, append_assoc}
use Rattle.device_log.specs.Streams.{SourceRead, SinkWrite}
use Rattle.logged_disk.specs.Device.{DeviceState as Device}
use Rattle.edge_io.specs.Lines.{GivesLine}
use Rattle.edge_io.specs.Text.{spelled, text_after}
use Rattle.edge_io.proofs.Texts.{text_behind}
use Rattle.edge_io.specs.declared.reader.TheConstants.{MAX_LINES}
use Rattle.script_grammar.specs.declared.last_line.LastLine.{LastLine}
use Rattle.script_grammar.specs.declared.last_line.LastLine.TheVariants as last
use Rattle.script_run.specs.Run.{Harm, Run}
use Rattle.script_run.specs.Behind.{own_harm}
use Rattle.script_run.specs.Ledger.{AreReached, Deals, Ledger}
use Rattle.run_promise.specs.Outline.{Outline, told_of}
use Rattle.run_promise.specs.Story.{DevicesTold, GoesOn, IsReadThrough, Owes, OwesOrGave, Refusals, SendsAll, Story}
use Rattle.run_script.specs.declared.run.Ending.{Ending}
use Rattle.run_script.specs.declared.run.Ending.TheVariants as ending
use Rattle.run_script.proofs.Ends.{memory_ends, owes, still}
use Rattle.run_script.proofs.Stories.{Deals-nothing, read_more, story_with}
use Rattle.job_lines.specs.declared.asked.Asked.{Asked}
use Rattle.job_lines.specs.Asked.{lanes_in}
use Rattle.job_lines.specs.Lanes.{first_job}
use Rattle.job_lines.specs.Reading.{AreAsked, JobsBecause, ReadsJobs, StopsJobs}
use Rattle.work_script.specs.Before.{ComesToSplit, EndsBy, reading_before}
use Rattle.work_script.specs.Ending.{BehindBecause, ComesToJobs, HasJobs, WorkBecause}

-- ---- lines behind `split`

module _ (workers behind : ℕ) (held bytes unread : List ℕ) (splits : reading_before bytes ≡ None) (next : GivesLine behind held bytes unread) where
  -- more was read, and these are the jobs in it
  has_jobs : (old now : List SourceRead) (given : ℕ) (lines : List (List ℕ)) (unread' : List ℕ) (r : ReadsJobs workers given unread old now lines unread') → given ≡ behind + 1
      → (Here : List (List ℕ) → List ℕ → ℕ → Type 0) → Here lines unread' (given + length lines) → HasJobs workers behind (text_after held r.more) Here
  has_jobs old now given lines unread' r counted Here here = record {
    bytes = bytes;
    splits = splits;
    lines = lines;
    unread = unread';
    all = ap (λ l. text_after l r.more) (next.first ∙ sym (append_assoc bytes (10 ∷ []) unread))
        ∙ (text_behind (bytes ∷ []) unread r.more
        ∙ (ap (λ l. (bytes ++ 10 ∷ []) ++ l) r.text
        ∙ (append_assoc bytes (10 ∷ []) (spelled lines ++ unread') ∙ sym (append_assoc bytes (10 ∷ spelled lines) unread'))));
    each = (next.is_line, r.each);
    within = subst (λ (n : ℕ). n + length lines ≤ MAX_LINES) counted r.within;
    jobs = r.jobs;
    here = subst (λ (n : ℕ). Here lines unread' (n + length lines)) counted here;
  }

module _ (workers : ℕ) (first old now : List SourceRead) (taken_first taken : List SinkWrite) (ledger_first ledger : Ledger) (unread : List ℕ) (given : ℕ) (Outlined : Outline → Type 0) (Plays' : Run → Type 0)
    (split : ComesToSplit first taken_first ledger_first old unread given taken ledger Outlined Plays') where
  abbrev Went : List SourceRead → Type 0
  Went more = GoesOn first taken_first ledger_first now (text_after split.held more) split.behind taken ledger Outlined Plays'

  went : (more : List SourceRead) → now ≡ more ++ old → Went more
  went more grew = read_more first old now more split.held split.behind _ _ _ _ grew split.goes

  -- all of them were read
  pub come : (unread' : List ℕ) (given' : ℕ) (asked : Asked) → AreAsked workers given unread old now unread' given' asked → IsReadThrough now unread'
      → ComesToJobs workers first taken_first ledger_first now taken ledger Outlined Plays' (lanes_in asked)
  come unread' given' asked a through = record {
    held = text_after split.held a.read.more;
    given = split.behind;
    goes = went a.read.more a.read.grew;
    jobs = has_jobs workers split.behind split.held split.bytes unread split.splits split.next old now given a.lines unread' a.read split.counted _ (through, a.lanes);
  }

  module _ (Reached : List Harm → Type 0) (devices : ℕ) (reach : (o : Outline) → Outlined o → Reached (told_of o.session)) (reach_run : (run : Run) → Plays' run → Reached (own_harm run)) (bay : Refusals) where
    abbrev Ends : Ending → Type 0
    Ends = EndsBy (WorkBecause workers bay now) first now taken_first taken (Owes ledger_first ledger Reached) (OwesOrGave ledger_first ledger devices Reached)

    stopped : (why : LastLine) (more : List SourceRead) → now ≡ more ++ old → ((o : Outline) → Outlined o → WorkBecause workers bay now (text_after split.held more) split.behind o why) → Ends (ending.Stopped why)
    stopped why more grew because = record {
      held = text_after split.held more;
      given = split.behind;
      story = still first now taken_first taken ledger_first ledger (text_after split.held more) split.behind Outlined Plays' Reached devices reach reach_run (went more grew) (SendsAll taken_first taken) _ _ (went more grew).text
          (owes first now taken_first taken ledger_first ledger (text_after split.held more) split.behind Outlined Plays' Reached devices reach reach_run (went more grew)) because;
    }

    behind_as : (why : LastLine) (o : Outline) (lines : List (List ℕ)) (unread' : List ℕ) (count : ℕ) → JobsBecause workers unread' count why → BehindBecause workers split.behind now o why lines unread' count
    behind_as last.Usage o lines unread' count b = absurd b
    behind_as (last.BadScript number bad) o lines unread' count b = b
    behind_as last.ReadFault o lines unread' count b = b
    behind_as last.BayFault o lines unread' count b = absurd b
    behind_as (last.LineTooLong number) o lines unread' count b = b
    behind_as last.TooManyLines o lines unread' count b = b
    behind_as (last.NoCache number) o lines unread' count b = absurd b

    -- or reading them ended the run
    pub jobs_stop : (e : Ending) → StopsJobs workers given unread old now e → Ends e
    jobs_stop ending.Done s = absurd s
    jobs_stop (ending.Stopped why) s =
        stopped why s.read.more s.read.grew
        (λ o out. inr (has_jobs workers split.behind split.held split.bytes unread split.splits split.next old now given s.lines s.unread s.read split.counted (BehindBecause workers split.behind now o why)
        (behind_as why o s.lines s.unread (given + length s.lines) s.because)))
    jobs_stop ending.WriteFault s = absurd s
    jobs_stop ending.OutOfMemory s =
        memory_ends first now taken_first taken ledger_first ledger (text_after split.held s.0) split.behind Outlined Plays' Reached devices reach reach_run (went s.0 s.1) bay

    -- or there is a job, and no cache
    pub lacks_cache : (unread' : List ℕ) (given' number : ℕ) (asked : Asked) → AreAsked workers given unread old now unread' given' asked → IsReadThrough now unread' → asked.first ≡ Some number
        → ((o : Outline) → Outlined o → o.stands ≡ false) → Ends (ending.Stopped (last.NoCache number))
    lacks_cache unread' given' number asked a through some none =
        stopped (last.NoCache number) a.read.more a.read.grew
        (λ o out. inr (has_jobs workers split.behind split.held split.bytes unread split.splits split.next old now given a.lines unread' a.read split.counted (BehindBecause workers split.behind now o (last.NoCache number))
        (record { through = through; first = subst (λ (n : ℕ). first_job workers n a.lines ≡ Some number) split.counted (sym a.first ∙ some); none = none o out })))

-- ---- the same ends in other words

module _ (Why Why' : List ℕ → ℕ → Outline → LastLine → Type 0) (why : (held : List ℕ) (given : ℕ) (o : Outline) (e : LastLine) → Why held given o e → Why' held given o e)
    (first now : List SourceRead) (old new : List SinkWrite) (Devices Devices' : DevicesTold → Type 0) (Wanting Wanting' : List ℕ → ℕ → DevicesTold → Type 0)
    (settle : (t : DevicesTold) → Devices t → Devices' t) (settle_wanting : (held : List ℕ) (given : ℕ) (t : DevicesTold) → Wanting held given t → Wanting' held given t) where
  told_with : (held : List ℕ) (given : ℕ) (Text : (before all : List ℕ) → Type 0) (From To : DevicesTold → Type 0) (Behind Behind' : Outline → Type 0) (Known : Run → Type 0) → ((t : DevicesTold) → From t → To t) → ((o : Outline) → Behind o → Behind' o)
      → Story first now held given Text From Behind Known → Story first now held given Text To Behind' Known
  told_with held given Text From To Behind Behind' Known f b s = story_with first now held given Text Text From To Behind Behind' Known (λ out all text. text) f b s

  pub ends_with : (e : Ending) → EndsBy Why first now old new Devices Wanting e → EndsBy Why' first now old new Devices' Wanting' e
  ends_with ending.Done h = record { held = h.held; given = h.given; story = told_with h.held h.given _ Devices Devices' _ _ _ settle (λ o b. b) h.story }
  ends_with (ending.Stopped e) h = record { held = h.held; given = h.given; story = told_with h.held h.given _ Devices Devices' _ _ _ settle (λ o b. why h.held h.given o e b) h.story }
  ends_with ending.WriteFault h = record { held = h.held; given = h.given; story = told_with h.held h.given _ Devices Devices' _ _ _ settle (λ o b. b) h.story }
  ends_with ending.OutOfMemory h = elim h [
    | inl n ↦ inl (record { held = n.held; given = n.given; story = told_with n.held n.given _ (Wanting n.held n.given) (Wanting' n.held n.given) _ _ _ (settle_wanting n.held n.given) (λ o b. b) n.story })
    | inr l ↦ inr (record { held = l.held; given = l.given; story = told_with l.held l.given _ Devices Devices' _ _ _ settle (λ o b. b) l.story })
  ]

-- ---- before the first line

-- nothing is owed of no device
pub nothing_owed : (ledger : Ledger) (own : List Device) (devices : ℕ) → length own ≡ 0 → (t : DevicesTold) → t.ended ≡ [] → t.own ≡ [] → t.names ≡ [] → OwesOrGave ledger ledger devices (λ harms. AreReached harms own) [] 0 t
nothing_owed ledger [] devices e t none told names =
    inl (record { deals = subst (λ (l : List Harm). Deals ledger ledger l t.names) (sym none) (subst (λ (l : List (List ℕ)). Deals ledger ledger [] l) (sym names) (Deals-nothing ledger)); reached = subst (λ (l : List Harm). AreReached l []) (sym told) tt })
nothing_owed ledger (d ∷ own) devices e t none told names = absurd (omega arith)
