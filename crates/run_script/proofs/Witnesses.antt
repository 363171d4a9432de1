-- What no pair of documents gives leave to say.
use Rattle.std.proofs.Common.{◌≡◌, ℕ, List, [], ◌∷◌, None, inl, lit<, refl, sym, ◌∙◌, subst}
use Rattle.std.specs.Prelude.{codes}
use Rattle.device_log.specs.Streams.{SourceRead, SinkWrite, GaveBytes, RefusedRead, refused_reads}
use Rattle.edge_io.specs.Text.{text_read}
use Rattle.edge_io.specs.Source.{LastReadFailed}
use Rattle.script_grammar.specs.declared.line.BadLine.{BadLine}
use Rattle.script_grammar.specs.declared.last_line.LastLine.{LastLine}
use Rattle.script_grammar.specs.declared.last_line.LastLine.TheVariants as last
use Rattle.script_grammar.specs.declared.step.Step.{Step}
use Rattle.script_grammar.specs.declared.step.Step.TheVariants as step
use Rattle.script_run.specs.Run.{Run}
use Rattle.script_run.specs.Turn.{Turn}
use Rattle.script_run.specs.Takes.{StepShows}
use Rattle.run_promise.specs.Outline.{Outline}
use Rattle.script_run.specs.Ledger.{Ledger}
use Rattle.run_promise.specs.declared.status.Status.{Status}
use Rattle.run_promise.specs.declared.status.Status.TheVariants as status
use Rattle.run_promise.specs.Needs.{AttachesAs}
use Rattle.script_grammar.specs.declared.line.LineAnswer.TheVariants as line
use Rattle.script_grammar.specs.Grammar.{reading_of}
use Rattle.run_promise.specs.Story.{Because, Refusals, GaveBack, HoldsNoLine, IsBadLine, Taken, DevicesTold}
use Rattle.run_promise.specs.Top.{EndsEarly, status_of}

-- without a session no line shows a pair
none_shown : (run : Run) (turn : Turn) (step : Step) → run.state ≡ None → StepShows run turn run.state step → ⊥
none_shown run turn step none shows = subst (λ o. StepShows run turn o step) none shows

module _ (first read : List SourceRead) (old new : List SinkWrite) (bay : Refusals) (before now : Ledger) where
  abbrev Early : Status → Type 0
  Early s = EndsEarly first read old new bay before now s

  bad_because : (held : List ℕ) (given : ℕ) (o : Outline) (why : LastLine) → status.BadScript ≡ status_of why → Because bay held given o why → (fault : BadLine) × IsBadLine given held fault
  bad_because held given o (last.BadScript number fault) said because = (fault, because.1)
  bad_because held given o last.Usage said because = cc
  bad_because held given o last.ReadFault said because = cc
  bad_because held given o last.BayFault said because = cc
  bad_because held given o (last.LineTooLong number) said because = cc
  bad_because held given o last.TooManyLines said because = cc
  bad_because held given o (last.NoCache number) said because = cc

  -- the script is told to be bad only where a line is
  bad_is_told : (e : Early status.BadScript) → (fault : BadLine) × IsBadLine e.upto.given e.upto.held fault
  bad_is_told e = bad_because e.upto.held e.upto.given _ e.why e.said e.upto.story.outline.behind

-- ---- a read fault told in place of a line

-- a source gave `frob` and its newline, and then a read failed
abbrev frob_and_fault : List SourceRead
frob_and_fault = RefusedRead 1 ∷ GaveBytes (codes "frob\n") ∷ []

-- what it gave
frob_is_text : text_read frob_and_fault ≡ codes "frob\n"
frob_is_text = refl

-- the read that failed is the last one, and has the first count
frob_failed : LastReadFailed [] frob_and_fault 1
unfolding refused_reads
frob_failed = record { older = GaveBytes (codes "frob\n") ∷ []; is = refl; counted = refl; others = refl }

-- `error read-fault` may not stand in place of its line: that is whole, so it may not be held
frob_is_whole : HoldsNoLine 0 (text_read frob_and_fault) → ⊥
frob_is_whole holds = holds.undecided (inl (4, lit< tt, refl))

-- nor may it be cut: only the bytes with their newline are a line that was taken, or all of them are held
frob_is_not_cut : (held : List ℕ) → Taken (text_read frob_and_fault) [] held → HoldsNoLine 0 held → ⊥
frob_is_not_cut held taken holds = frob_is_whole (subst (λ (l : List ℕ). HoldsNoLine 0 l) (sym taken.all) holds)

-- two names of one format are the same
one_name : (step : Step) (name other : List ℕ) → AttachesAs name step → AttachesAs other step → name ≡ other
one_name (step.Format called segments buckets content agg reach fragment generation alternates) name other here there = here.0 ∙ sym there.0
one_name _ name other here there = absurd here

-- the device more has the name that its line asks for, and no other
other_name : (before now : Ledger) (held : List ℕ) (given : ℕ) (t : DevicesTold) (g : GaveBack before now held given t) (step : Step) (name : List ℕ)
    → reading_of g.bytes ≡ line.Step step → AttachesAs name step → (g.name ≡ name → ⊥) → ⊥
other_name before now held given t g step name asks attaches other =
    let same : g.step ≡ step = cc in
    other (one_name step g.name name (subst (AttachesAs g.name) same g.attaches) attaches)
