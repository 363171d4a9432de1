-- How a step that is not answered ends a run.
use Rattle.std.proofs.Common.{◌≡◌, ℕ, ◌-◌, ◌^◌, min, List, [], ◌∷◌, ◌++◌, length, Result, Ok, Err, refl, sym, ◌∙◌, ap, subst, inl, inr, ◌⊎◌, append-nil, append_assoc}
use Rattle.std.specs.Prelude.{OnOk, IfErr}
use Rattle.device_log.specs.Faults.{next_count}
use Rattle.device_log.specs.Streams.{SinkWrite, TookBytes, RefusedWrite, taken_by, refused_writes}
use Rattle.edge_io.specs.Sink.{FailsToWrite, Grows, NotesWrite}
use Rattle.cache_calls.specs.declared.calls.Calls.{Ghosts as CallsGhosts}
use Rattle.device_bay.specs.Calls.{BayCall}
use Rattle.script_grammar.specs.declared.step.Step.{Step}
use Rattle.script_grammar.specs.declared.answer.StepAnswer.{StepAnswer}
use Rattle.script_grammar.specs.Texts.{answer_line}
use Rattle.script_run.specs.Run.{Run}
use Rattle.logged_disk.specs.declared.device.Disk.{Ghosts as DiskGhosts}
use Rattle.cache_replay.specs.declared.session.Replay.{Replay}
use Rattle.run_promise.specs.Outline.{Outline}
use Rattle.cache_replay.specs.Replay.{DeviceEnds, HasReached, IsOutlined, IsReplay, Outlines, PlaysOn}
use Rattle.script_run.specs.Ledger.{Ledger}
use Rattle.cache_replay.proofs.Unharming.{plays_reached}
use Rattle.run_script.specs.declared.run.Halt.{Halt}
use Rattle.run_script.specs.declared.run.Halt.TheVariants.{Stop, WriteFault, Memory}
use Rattle.run_promise.specs.Story.{SendsFront, CutsLast, SinkTook}
use Rattle.run_promise.specs.Top.{WentOut}
use Rattle.run_script.specs.Halt.{AnswerIsUnwritten, StepHalts}

pub OnOk-map : {T E : Type 0} (r : Result T E) (P Q : Type 0) → (P → Q) → OnOk r P → OnOk r Q
OnOk-map (Ok x) P Q f h = f h
OnOk-map (Err e) P Q f h = tt

pub IfErr-map : {T E : Type 0} (r : Result T E) (P Q : E → Type 0) → ((e : E) → P e → Q e) → IfErr r P → IfErr r Q
IfErr-map (Ok x) P Q f h = tt
IfErr-map (Err e) P Q f h = f e h

pub either-map : {A B S : Type 0} → (A → B) → A ⊎ S → B ⊎ S
either-map f (inl a) = inl (f a)
either-map f (inr s) = inr s

pub either-both : {A B S T : Type 0} → (A → B) → (S → T) → A ⊎ S → B ⊎ T
either-both f g (inl a) = inl (f a)
either-both f g (inr s) = inr (g s)

module _ {D S W R : Type 0} {d : DiskGhosts D} {c : CallsGhosts S W R} where
  pub unwritten_halts : (session : Replay D S W R d c) (step : Step) (new : Replay D S W R d c) (said : StepAnswer) (before now : Ledger) (taken_old taken_new : List SinkWrite) (bay_old bay_new : List BayCall)
      → ((o : Outline) → IsOutlined o session → Outlines o step new said before now)
      → ((run : Run) → PlaysOn run session → DeviceEnds run step new said before now)
      → (halt : Halt) → AnswerIsUnwritten taken_old taken_new (answer_line said) halt → StepHalts session step new before now taken_old taken_new bay_old bay_new halt
  unwritten_halts session step new said before now taken_old taken_new bay_old bay_new outlines ends WriteFault h = record { said = said; outlines = outlines; ends = ends; text = h }
  unwritten_halts session step new said before now taken_old taken_new bay_old bay_new outlines ends Memory h = record { said = said; outlines = outlines; ends = ends; text = h }
  unwritten_halts session step new said before now taken_old taken_new bay_old bay_new outlines ends (Stop why) h = absurd h

  -- the device of a session is as it was told
  pub plays_reach : (session : Replay D S W R d c) → IsReplay session → (run : Run) → PlaysOn run session → HasReached run session
  plays_reach session is run plays = plays_reached run session is plays

-- ---- the text so far

pub Took-nothing : (a : List SinkWrite) → SinkTook a a []
Took-nothing a = record { taken = sym (append-nil (taken_by a)); unfailed = refl }

pub Took-trans : (a b c : List SinkWrite) (bs cs : List ℕ) → SinkTook a b bs → SinkTook b c cs → SinkTook a c (bs ++ cs)
Took-trans a b c bs cs p q = record {
  taken = q.taken ∙ (ap (λ l. l ++ cs) p.taken ∙ append_assoc (taken_by a) bs cs);
  unfailed = q.unfailed ∙ p.unfailed;
}

pub Took-kept : (a b c : List SinkWrite) (bs : List ℕ) → SinkTook a b bs → c ≡ b → SinkTook a c bs
Took-kept a b c bs p same = subst (λ (w : List SinkWrite). SinkTook a w bs) (sym same) p

-- one write that went
pub took_piece : (old new : List SinkWrite) (piece : List ℕ) → new ≡ TookBytes piece ∷ old → SinkTook old new piece
unfolding taken_by refused_writes
took_piece old new piece is = record { taken = ap taken_by is; unfailed = ap refused_writes is }

-- one that failed
pub sends_piece : (old new : List SinkWrite) (piece : List ℕ) → FailsToWrite old new piece → SendsFront old new [] piece
sends_piece old new piece fails = record { front = fails.front; rest = fails.rest; split = fails.split; older = old; sent = Took-nothing old; failed = fails.is }

pub note_grows : {T E : Type 0} (old new : List SinkWrite) (piece : List ℕ) (r : Result T E) → NotesWrite old new r piece → Grows old new
note_grows old new piece (Ok x) notes = (TookBytes piece ∷ [], notes)
note_grows old new piece (Err e) notes = (RefusedWrite notes.front (next_count (min (length (refused_writes old)) (2 ^ 64 - 1))) ∷ [], notes.is)

pub grows_more : (a b c : List SinkWrite) → Grows a b → Grows b c → Grows a c
grows_more a b c p q = (q.0 ++ p.0, q.1 ∙ (ap (λ l. q.0 ++ l) p.1 ∙ sym (append_assoc q.0 p.0 a)))

pub front_more : (a b c : List SinkWrite) (bs text : List ℕ) → SinkTook a b bs → SendsFront b c [] text → SendsFront a c bs text
front_more a b c bs text p q = record {
  front = q.front;
  rest = q.rest;
  split = q.split;
  older = q.older;
  sent = record { taken = q.sent.taken ∙ (append-nil (taken_by b) ∙ p.taken); unfailed = q.sent.unfailed ∙ p.unfailed };
  failed = q.failed ∙ ap (λ failed. RefusedWrite q.front (next_count (min (length failed) (2 ^ 64 - 1))) ∷ q.older) p.unfailed;
}

-- the last line behind what went out
pub went_out : (old mid new : List SinkWrite) (out text : List ℕ) → SinkTook old mid out → WentOut mid new [] text → WentOut old new out text
went_out old mid new out text sent (inl all) = inl (Took-trans old mid new out text sent all)
went_out old mid new out text sent (inr cut) = inr (front_more old mid new out text sent cut)

pub cuts_last : (a b c : List SinkWrite) (bs : List ℕ) (said : StepAnswer) → SinkTook a b bs → SendsFront b c [] (answer_line said) → CutsLast a c bs (bs ++ answer_line said)
cuts_last a b c bs said p q = record { said = said; split = refl; cut = front_more a b c bs (answer_line said) p q }
