use Rattle.std.proofs.Common.{◌≤◌, refl, sym, subst}
use Rattle.logged_disk.proofs.GoingOn.{told_before}
use Rattle.tape_base.specs.declared.actors.Actor.{Actor}
use Rattle.cache_model.specs.Subjects.{IsOfPut}
use Rattle.cache_calls.specs.Adds.{AddsOnly}
use Rattle.cache_calls.specs.Keeping.{state_at}
use Rattle.cache_calls.proofs.Keeping.{keeps_then}
use Rattle.cache_replay.specs.Replies.{count_of_refusal}
use Rattle.line_calls.specs.Standing.{TellsPut}
use Rattle.cache_replay.proofs.Frames.{adds_then, losses_kept}
use Rattle.cache_replay.proofs.PutEnds.{err_when}
use Rattle.cache_replay.proofs.PutOpens.{is_fresh, is_open, open_counts, puts_opened, puts_refused}
use Rattle.cache_replay.proofs.putting.put.Goals as goal

abbrev nobody : Actor
nobody = record { 0 = 0 }

pub put_open-requires-clause-writer : goal.put_open-requires-clause-writer
put_open-requires-clause-writer g c =
    is_open (g.S.Calls.at c.args.cache.now) (g.S.Calls.at c.open_write.new.self) nobody c.args.key c.args.request c.args.response
    (g.S.Calls.written c.in-Ok.writer) c.in-Ok.ensures.gives.answers

pub put_open-requires-clause-fresh : goal.put_open-requires-clause-fresh
put_open-requires-clause-fresh g c =
    is_fresh (g.S.Calls.at c.args.cache.now) (g.S.Calls.at c.open_write.new.self) nobody c.args.key c.args.request c.args.response
    (g.S.Calls.written c.in-Ok.writer) c.in-Ok.ensures.gives.answers

pub returns-in-Ok-clause-keeps : goal.returns-in-Ok-clause-keeps
returns-in-Ok-clause-keeps g c = keeps_then c.open_write.ensures.keeps c.put_open.ensures.keeps

pub returns-in-Ok-clause-puts : goal.returns-in-Ok-clause-puts
returns-in-Ok-clause-puts g c =
    puts_opened (g.S.Calls.at c.args.cache.now) (g.S.Calls.at c.open_write.new.self) nobody c.args.key c.args.request c.args.response
    (g.S.Calls.written c.in-Ok.writer) c.in-Ok.ensures.gives.answers c.args.now (g.S.Calls.at c.put_open.new.cache) c.args.body.now
    (g.met.S.Calls.at_rest c.args.cache.now c.requires.holds).sound
    (record {
      vectors = g.met.S.Calls.vectors_listed c.open_write.new.self c.open_write.ensures.keeps.goes_on.holds_then;
      none = (g.met.S.Calls.at_rest c.open_write.new.self c.open_write.ensures.keeps.goes_on.holds_then).none;
    })
    (told_before (g.S.Calls.at c.open_write.new.self).device (g.S.Calls.at c.put_open.new.cache).device c.put_open.ensures.keeps.goes_on.goes)
    refl (c.in-Ok.ensures.serves c.args.now) c.put_open.result c.put_open.ensures.ends

pub returns-in-Ok-clause-tells : goal.returns-in-Ok-clause-tells
returns-in-Ok-clause-tells g c =
    let old = g.S.Calls.at c.args.cache.now in
    let mid = g.S.Calls.at c.open_write.new.self in
    let new = g.S.Calls.at c.put_open.new.cache in
    let put = (state_at old).next_put in
    let opened : AddsOnly (IsOfPut put) old mid = c.open_write.ensures.own in
    record {
      own = adds_then (IsOfPut put) old mid new opened (subst (λ q. AddsOnly (IsOfPut q) mid new) c.in-Ok.ensures.gives.answers.put c.put_open.ensures.tells.own);
      counts = err_when (λ why. count_of_refusal why ≤ new.device.faults) c.put_open.result (losses_kept old mid opened.added opened.adds) c.put_open.ensures.tells.counts;
    }

pub returns-in-Ok-clause-stands : goal.returns-in-Ok-clause-stands
returns-in-Ok-clause-stands g c = λ contents told before.
    let new = state_at (g.S.Calls.at c.put_open.new.cache) in
    c.put_open.ensures.stands contents
    (told.0, subst (λ q. TellsPut new q c.args.body.now contents) (sym c.in-Ok.ensures.gives.answers.put) told.1) (c.open_write.ensures.stands contents tt before)

pub returns-in-Err-clause-puts : goal.returns-in-Err-clause-puts
returns-in-Err-clause-puts g c =
    let gives = c.in-Err.ensures.gives.answers in
    puts_refused c.args.now (g.S.Calls.at c.args.cache.now) (g.S.Calls.at c.open_write.new.self) (g.met.S.Calls.at_rest c.args.cache.now c.requires.holds)
    (g.met.S.Calls.at_rest c.open_write.new.self c.open_write.ensures.keeps.goes_on.holds_then).quiet nobody c.args.key c.args.body.now
    c.args.request c.args.response refl gives.0 c.in-Err.why gives.1 (c.in-Err.ensures.serves c.args.now)

pub returns-in-Err-clause-tells : goal.returns-in-Err-clause-tells
returns-in-Err-clause-tells g c = record {
  own = c.open_write.ensures.own;
  counts = λ none. open_counts (state_at (g.S.Calls.at c.args.cache.now)) c.in-Err.why (g.S.Calls.at c.open_write.new.self).device.faults c.in-Err.ensures.gives.answers.1;
}
