-- How far the lines behind `split` were read.
use Rattle.std.proofs.Common.{◌≡◌, ℕ, ◌+◌, ◌-◌, ◌≤◌, List, [], ◌∷◌, ◌++◌, length, Option, None, Err, refl, sym, ◌∙◌, ap, subst, arith, append_assoc, length-append}
use Rattle.device_log.specs.Streams.{SourceRead}
use Rattle.edge_io.specs.Lines.{AreLines, GivesLine, IsLine}
use Rattle.edge_io.specs.Text.{spelled, text_after}
use Rattle.edge_io.proofs.Texts.{spelled_more, text_behind, text_more}
use Rattle.edge_io.specs.declared.reader.TheConstants.{MAX_LINES}
use Rattle.script_lang.specs.Jobs.{job_reading}
use Rattle.edge_io.specs.LineReader.{Answers, AreNeeded, FailsAsRead, IsDecided}
use Rattle.edge_io.specs.declared.reader.LineFault.{LineFault}
use Rattle.edge_io.specs.declared.reader.LineFault.TheVariants as fault
use Rattle.script_grammar.specs.declared.step.Step.{Step}
use Rattle.script_grammar.specs.declared.line.BadLine.{BadLine}
use Rattle.script_grammar.specs.declared.last_line.LastLine.TheVariants as last
use Rattle.script_lang.specs.declared.jobs.JobLine.{JobLine}
use Rattle.script_lang.specs.declared.jobs.JobLine.TheVariants as job
use Rattle.run_script.specs.declared.run.Ending.TheVariants as ending
use Rattle.run_script.specs.Halt.{last_of}
use Rattle.run_script.proofs.Ends.{holds_none}
use Rattle.job_lines.specs.declared.asked.Asked.{Asked}
use Rattle.job_lines.specs.Asked.{lanes_in}
use Rattle.job_lines.specs.Owned.{own_step}
use Rattle.job_lines.specs.Lanes.{AreBlank, AreLanes, IsJobLine, or_first, with_job}
use Rattle.job_lines.specs.Reading.{AreAsked, JobsBecause, ReadsJobs, StopsJobs}
use Rattle.job_lines.proofs.Lanes.{first_more, first_passed, jobs_more, lanes_blank, lanes_more, lanes_passed}

lines_more : (lines : List (List ℕ)) (bytes : List ℕ) → AreLines lines → IsLine bytes → AreLines (lines ++ bytes ∷ [])
lines_more [] bytes each last = (last, tt)
lines_more (l ∷ lines) bytes each last = (each.0, lines_more lines bytes each.1 last)

module _ (workers given : ℕ) (before : List ℕ) (old : List SourceRead) where
  pub nothing_read : given ≤ MAX_LINES → ReadsJobs workers given before old old [] before
  nothing_read within = record { more = []; grew = refl; text = refl; each = tt; within = omega (arith, within); jobs = tt }

  -- through reads
  pub reads_more : (now now' more : List SourceRead) (lines : List (List ℕ)) (unread : List ℕ) → now' ≡ more ++ now → ReadsJobs workers given before old now lines unread
      → ReadsJobs workers given before old now' lines (text_after unread more)
  reads_more now now' more lines unread grew r = record {
    more = more ++ r.more;
    grew = grew ∙ (ap (λ l. more ++ l) r.grew ∙ sym (append_assoc more r.more old));
    text = text_more before more r.more ∙ (ap (λ l. text_after l more) r.text ∙ text_behind lines unread more);
    each = r.each;
    within = r.within;
    jobs = r.jobs;
  }

  -- one line more
  pub line_more : (now : List SourceRead) (lines : List (List ℕ)) (unread unread' bytes : List ℕ) (given' : ℕ) → given' ≡ given + length lines → GivesLine given' unread bytes unread' → IsJobLine (job_reading workers bytes)
      → ReadsJobs workers given before old now lines unread → ReadsJobs workers given before old now (lines ++ bytes ∷ []) unread'
  line_more now lines unread unread' bytes given' counted next is r = record {
    more = r.more;
    grew = r.grew;
    text = r.text
        ∙ (ap (λ l. spelled lines ++ l) (next.first ∙ sym (append_assoc bytes (10 ∷ []) unread'))
        ∙ (sym (append_assoc (spelled lines) (bytes ++ 10 ∷ []) unread') ∙ ap (λ l. l ++ unread') (sym (spelled_more lines bytes))));
    each = lines_more lines bytes r.each next.is_line;
    within = omega (arith, length-append lines (bytes ∷ []), next.within, counted);
    jobs = jobs_more workers lines bytes r.jobs is;
  }

-- ---- what the lines asked for

is_job_by : (answer other : JobLine) → answer ≡ other → IsJobLine other → IsJobLine answer
is_job_by answer other e is = subst IsJobLine (sym e) is

module _ (workers given : ℕ) (before : List ℕ) (old : List SourceRead) where
  pub none_asked : (asked : Asked) → given ≤ MAX_LINES → AreBlank (lanes_in asked) → asked.first ≡ None → AreAsked workers given before old old before given asked
  none_asked asked within blank first = record {
    lines = [];
    read = nothing_read workers given before old within;
    counted = omega arith;
    lanes = lanes_blank workers 1 (lanes_in asked) blank;
    first = first;
  }

  module _ (now : List SourceRead) (unread : List ℕ) (given' : ℕ) (asked : Asked) (a : AreAsked workers given before old now unread given' asked) where
    -- through reads
    pub asked_read : (now' more : List SourceRead) (unread' : List ℕ) (given'' : ℕ) → now' ≡ more ++ now → text_after unread more ≡ unread' → given'' ≡ given' → AreAsked workers given before old now' unread' given'' asked
    asked_read now' more unread' given'' grew text same = record {
      lines = a.lines;
      read = subst (λ (u : List ℕ). ReadsJobs workers given before old now' a.lines u) text (reads_more workers given before old now now' more a.lines unread grew a.read);
      counted = same ∙ a.counted;
      lanes = a.lanes;
      first = a.first;
    }

    module _ (bytes unread' : List ℕ) (given'' : ℕ) (next : GivesLine given' unread bytes unread') (counted : given'' ≡ given' + 1) where
      behind : given'' ≡ given + length (a.lines ++ bytes ∷ [])
      behind = omega (arith, counted, a.counted, length-append a.lines (bytes ∷ []))

      -- past a line that is none
      pub asked_passed : job_reading workers bytes ≡ job.Nothing → AreAsked workers given before old now unread' given'' asked
      asked_passed is = record {
        lines = a.lines ++ bytes ∷ [];
        read = line_more workers given before old now a.lines unread unread' bytes given' a.counted next (is_job_by _ job.Nothing is tt) a.read;
        counted = behind;
        lanes = lanes_passed workers a.lines bytes 1 (lanes_in asked) is a.lanes;
        first = a.first ∙ sym (first_passed workers given a.lines bytes is);
      }

      -- past a job
      pub asked_job : (worker : ℕ) (s : Step) (asked' : Asked) → job_reading workers bytes ≡ job.Job worker s → 1 ≤ worker → lanes_in asked' ≡ with_job (worker - 1) (own_step worker s) (lanes_in asked)
          → asked'.first ≡ or_first asked.first given'' → AreAsked workers given before old now unread' given'' asked'
      asked_job worker s asked' is some lanes first = record {
        lines = a.lines ++ bytes ∷ [];
        read = line_more workers given before old now a.lines unread unread' bytes given' a.counted next (is_job_by _ (job.Job worker s) is tt) a.read;
        counted = behind;
        lanes = subst (AreLanes workers 1 (a.lines ++ bytes ∷ [])) (sym lanes) (lanes_more workers a.lines bytes worker s is (worker - 1) 1 (lanes_in asked) (omega (arith, some)) a.lanes);
        first = first
            ∙ (ap (λ (f : Option ℕ). or_first f given'') a.first
            ∙ sym (first_more workers given given'' a.lines bytes worker s (omega (arith, counted, a.counted)) is));
      }

      -- or the line is in no grammar
      pub stops_bad : (bad : BadLine) → job_reading workers bytes ≡ job.Bad bad → StopsJobs workers given before old now (ending.Stopped (last.BadScript given'' bad))
      stops_bad bad is = record {
        lines = a.lines;
        unread = unread;
        read = a.read;
        because = (omega (arith, counted, a.counted), record { bytes = bytes; next = (unread', subst (λ (n : ℕ). GivesLine n unread bytes unread') a.counted next); bad = is });
      }

    -- the reader met a fault
    pub stops_fault : (from : List ℕ) (earlier more : List SourceRead) (unread' : List ℕ) (f : LineFault) → unread ≡ text_after from more → now ≡ more ++ earlier → AreNeeded given' from more → FailsAsRead earlier now (Err f)
        → Answers given' more unread unread' (Err f) → StopsJobs workers given before old now (ending.Stopped (last_of f))
    stops_fault from earlier more unread' (fault.LineTooLong number) is grew needed failed known = record {
      lines = a.lines;
      unread = unread;
      read = a.read;
      because = subst (λ (n : ℕ). JobsBecause workers unread n (last.LineTooLong number)) a.counted (known.0, known.1);
    }
    stops_fault from earlier more unread' fault.TooManyLines is grew needed failed known = record {
      lines = a.lines;
      unread = unread;
      read = a.read;
      because = subst (λ (n : ℕ). JobsBecause workers unread n last.TooManyLines) a.counted known.0;
    }
    stops_fault from earlier more unread' (fault.ReadFault count) is grew needed failed known = record {
      lines = a.lines;
      unread = unread;
      read = a.read;
      because = subst (λ (n : ℕ). JobsBecause workers unread n last.ReadFault) a.counted
          (record { undecided = λ decided. holds_none given' from more earlier now count grew failed needed (subst (λ (l : List ℕ). IsDecided given' l) is decided) });
    }

    pub stops_memory : StopsJobs workers given before old now ending.OutOfMemory
    stops_memory = (a.read.more, a.read.grew)
