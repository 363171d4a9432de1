use Rattle.std.proofs.Common.{◌≤◌, [], ℕ, arith}
use Rattle.cache_answers.specs.declared.answers.Opened.TheVariants as opened
use Rattle.cache_calls.specs.Keeping.{state_at}
use Rattle.script_run.specs.Asked.{get_intents}
use Rattle.script_run.specs.Losses.{NoLossIsAFault}
use Rattle.cache_replay.specs.Getting.{GetIsAnswered, IsUnderway, given_in, got_answer}
use Rattle.run_promise.specs.Outline.{count_in}
use Rattle.cache_replay.proofs.Counts.{missed_tells}
use Rattle.cache_replay.proofs.ReadsOn.{closed_leaves, leaves_more, losses_read}
use Rattle.cache_replay.proofs.WholeGets.{follow_answered, hit_under, miss_answered, ok_as}
use Rattle.cache_replay.proofs.OtherNext.{sound_before, sound_kept}
use Rattle.cache_replay.proofs.getting.get.Goals as goal

pub returns-in_err-close-in-Follow-clause-leaves : goal.returns-in_err-close-in-Follow-clause-leaves
returns-in_err-close-in-Follow-clause-leaves g c =
    leaves_more _ _ _ _ _ (rw c.in-Follow.is at c.in_ok-reader.ensures.gives).tells.0
    (closed_leaves _ _ _ c.open_read.ensures.keeps c.open_read.ensures.stands c.open_read.ensures.own)
    (closed_leaves _ _ _ c.close.ensures.keeps c.close.ensures.stands c.close.ensures.own)

pub returns-in_ok-close-in-Follow-clause-leaves : goal.returns-in_ok-close-in-Follow-clause-leaves
returns-in_ok-close-in-Follow-clause-leaves g c =
    leaves_more _ _ _ _ _ (rw c.in-Follow.is at c.in_ok-reader.ensures.gives).tells.0
    (closed_leaves _ _ _ c.open_read.ensures.keeps c.open_read.ensures.stands c.open_read.ensures.own)
    (closed_leaves _ _ _ c.close.ensures.keeps c.close.ensures.stands c.close.ensures.own)

pub returns-in-Hit-clause-leaves : goal.returns-in-Hit-clause-leaves
returns-in-Hit-clause-leaves g c =
    leaves_more _ _ _ _ _ (rw c.in-Hit.is at c.in_ok-reader.ensures.gives).tells.0
    (closed_leaves _ _ _ c.open_read.ensures.keeps c.open_read.ensures.stands c.open_read.ensures.own) c.read_whole.ensures.leaves

pub returns-in_ok-close-in-Follow-clause-gets : goal.returns-in_ok-close-in-Follow-clause-gets
returns-in_ok-close-in-Follow-clause-gets g c = record {
  answers = c.in_ok-close-in-Follow.ensures.closes c.args.cache.now (get_intents (state_at (g.S.Calls.at c.args.cache.now)) c.args.key c.args.request) [] _
      (follow_answered g.S.Calls c.args.cache.now c.open_read.new.self (g.met.S.Calls.at_rest _ c.requires.ready.holds) c.args.key c.args.request
      c.in-Follow.put (g.S.Calls.reading c.in-Follow.reader)
      (g.met.S.Calls.at_rest _ c.open_read.ensures.keeps.goes_on.holds_then).quiet
      (rw c.in-Follow.is at c.in_ok-reader.ensures.gives).adds (rw c.in-Follow.is at c.in_ok-reader.ensures.gives).tells.0
      (rw c.in-Follow.is at c.in_ok-reader.ensures.gives).tells.2 (rw c.in-Follow.is at c.in_ok-reader.ensures.serves));
  unharmed = sound_kept g.S.Calls _ _ _ _ (λ u. c.close.ensures.keeps.unharmed (c.open_read.ensures.keeps.unharmed u));
  counts = λ none. omega arith;
}

pub returns-in-Miss-clause-gets : goal.returns-in-Miss-clause-gets
returns-in-Miss-clause-gets g c = record {
  answers = miss_answered g.S.Calls c.args.cache.now c.open_read.new.self (g.met.S.Calls.at_rest _ c.requires.ready.holds) c.args.key c.args.request c.in-Miss.why
      (g.met.S.Calls.at_rest _ c.open_read.ensures.keeps.goes_on.holds_then).quiet
      (rw c.in-Miss.is at c.in_ok-reader.ensures.gives).adds (rw c.in-Miss.is at c.in_ok-reader.ensures.serves);
  unharmed = sound_kept g.S.Calls _ _ _ _ c.open_read.ensures.keeps.unharmed;
  counts = λ none. missed_tells {R = ℕ} (g.S.Calls.at c.args.cache.now) (g.S.Calls.at c.open_read.new.self) c.args.key (opened.Miss c.in-Miss.why)
      none (rw c.in-Miss.is at c.in_ok-reader.ensures.gives).counted;
}

pub returns-in-Hit-clause-gets : goal.returns-in-Hit-clause-gets
returns-in-Hit-clause-gets g c =
    let asks = get_intents (state_at (g.S.Calls.at c.args.cache.now)) c.args.key c.args.request in
    let under : IsUnderway g.S.Calls c.args.cache.now c.open_read.new.self asks (g.S.Calls.reading c.in-Hit.reader) [] =
    hit_under g.S.Calls c.args.cache.now c.open_read.new.self (g.met.S.Calls.at_rest _ c.requires.ready.holds) c.args.key c.args.request
    c.in-Hit.put (g.S.Calls.reading c.in-Hit.reader)
    (rw c.in-Hit.is at c.in_ok-reader.ensures.gives).adds (rw c.in-Hit.is at c.in_ok-reader.ensures.gives).tells.0
    (rw c.in-Hit.is at c.in_ok-reader.ensures.gives).tells.1 (rw c.in-Hit.is at c.in_ok-reader.ensures.serves) c.open_read.ensures.stands in
    record {
      answers = ok_as _ (λ got. GetIsAnswered g.S.Calls c.args.cache.now c.read_whole.new.cache asks [] (given_in got) (got_answer got)) c.read_whole.result
          (λ got answered. answered c.args.cache.now asks under) c.read_whole.ensures.reads.answers;
      unharmed = sound_before g.S.Calls _ _ c.open_read.new.self _ _ c.open_read.ensures.keeps.unharmed
          (c.read_whole.ensures.reads.unharmed c.args.cache.now asks under);
      counts = ok_as _
          (λ got. NoLossIsAFault (state_at (g.S.Calls.at c.args.cache.now)) → count_in (got_answer got) ≤ (g.S.Calls.at c.read_whole.new.cache).device.faults) c.read_whole.result
          (λ got counted. λ none. counted (losses_read _ _ _ c.open_read.ensures.own none)) c.read_whole.ensures.reads.counts;
    }
