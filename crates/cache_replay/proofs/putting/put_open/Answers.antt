use Rattle.std.proofs.Common.{subst}
use Rattle.logged_disk.proofs.GoingOn.{told_before}
use Rattle.cache_model.specs.Subjects.{IsOfPut}
use Rattle.cache_calls.specs.Adds.{AddsOnly}
use Rattle.cache_calls.specs.Keeping.{state_at}
use Rattle.cache_calls.proofs.Keeping.{keeps_then}
use Rattle.cache_replay.specs.Putting.{FillsWhere, TellsOfPut}
use Rattle.cache_replay.proofs.PutWhole.{body_ends, complete_ends, tells_ended}
use Rattle.cache_replay.proofs.PutsGrown.{put_grows, told_grown}
use Rattle.cache_replay.proofs.putting.put_open.Goals as goal

pub returns-in-Ok-clause-ends : goal.returns-in-Ok-clause-ends
returns-in-Ok-clause-ends g c =
    let old = g.S.Calls.at c.args.cache.now in
    let new = g.S.Calls.at c.fill.new.cache in
    let w = g.S.Calls.written c.args.writer.now in
    complete_ends c.args.now old new w c.args.body.now c.in-Ok.receipt (g.met.S.Calls.at_rest c.fill.new.cache c.fill.ensures.keeps.goes_on.holds_then).quiet
    (subst (FillsWhere c.args.now old new w c.args.body.now) c.in-Ok.is c.fill.ensures.fills)

pub returns-in-Err-clause-keeps : goal.returns-in-Err-clause-keeps
returns-in-Err-clause-keeps g c = keeps_then c.fill.ensures.keeps c.abort_write-end.ensures.keeps

pub returns-in-Err-clause-ends : goal.returns-in-Err-clause-ends
returns-in-Err-clause-ends g c =
    let old = g.S.Calls.at c.args.cache.now in
    let mid = g.S.Calls.at c.fill.new.cache in
    let w = g.S.Calls.written c.args.writer.now in
    let end = c.abort_write-end in
    body_ends c.args.now old mid (g.S.Calls.at end.new.self) w (g.S.Calls.written c.fill.new.writer) c.args.body.now
    (g.met.S.Calls.at_rest c.args.cache.now c.requires.holds).sound
    (record {
      vectors = g.met.S.Calls.vectors_listed c.fill.new.cache c.fill.ensures.keeps.goes_on.holds_then;
      none = (g.met.S.Calls.at_rest c.fill.new.cache c.fill.ensures.keeps.goes_on.holds_then).none;
    })
    (told_before mid.device (g.S.Calls.at end.new.self).device end.ensures.keeps.goes_on.goes) c.fill.ensures.put end.result c.in-Err.why c.unless_memory.result
    (subst (FillsWhere c.args.now old mid w c.args.body.now) c.in-Err.is c.fill.ensures.fills) end.ensures.gives (end.ensures.serves c.args.now) c.unless_memory.ensures

pub returns-in-Err-clause-tells : goal.returns-in-Err-clause-tells
returns-in-Err-clause-tells g c =
    let mid = g.S.Calls.at c.fill.new.cache in
    let new = g.S.Calls.at c.abort_write-end.new.self in
    let put = (g.S.Calls.written c.args.writer.now).put in
    tells_ended (g.S.Calls.at c.args.cache.now) mid new put c.abort_write-end.result c.in-Err.why c.unless_memory.result c.abort_write-end.ensures.keeps.goes_on.later
    (subst (TellsOfPut (g.S.Calls.at c.args.cache.now) mid put) c.in-Err.is c.fill.ensures.tells)
    (subst (λ q. AddsOnly (IsOfPut q) mid new) c.fill.ensures.put c.abort_write-end.ensures.own) c.unless_memory.ensures

pub returns-in-Err-clause-stands : goal.returns-in-Err-clause-stands
returns-in-Err-clause-stands g c = λ contents told before.
    let mid = g.S.Calls.at c.fill.new.cache in
    let end = c.abort_write-end in
    let new = g.S.Calls.at end.new.self in
    let put = (g.S.Calls.written c.args.writer.now).put in
    let rest = g.met.S.Calls.at_rest end.new.self end.ensures.keeps.goes_on.holds_then in
    let grows = put_grows mid new rest put (g.S.Calls.written c.fill.new.writer).put end.ensures.own in
    end.ensures.stands contents tt
    (c.fill.ensures.stands contents (told.0, told_grown (state_at mid) (state_at new) put c.args.body.now contents grows told.1) before)
