use Rattle.std.proofs.Common.{◌≡◌, ◌≤◌, ◌∙◌, arith, length}
use Rattle.tape_base.specs.declared.actors.Actor.{Actor}
use Rattle.cache_calls.specs.Keeping.{state_at}
use Rattle.cache_calls.proofs.Keeping.{keeps_then}
use Rattle.cache_caller.proofs.Fed.{Further, all_closed, goes_further, held, nothing_cut}
use Rattle.cache_caller.proofs.Over.{not_begun, refused_over}
use Rattle.cache_caller.proofs.store.Given.{Over}
use Rattle.cache_caller.proofs.store.Goals.{In-Ok}
use Rattle.cache_caller.proofs.store.Goals as goal

abbrev nobody : Actor
nobody = record { 0 = 0 }

pub feed-init : goal.feed-init
feed-init g c = record {
  keeps = c.open_write.ensures.keeps;
  writer = c.in_ok-writer.ensures.gives.answers.writer;
  put_is = c.in_ok-writer.ensures.gives.answers.put;
  within = omega arith;
  has = nothing_cut (g.S.Calls.at c.args.cache.now) (g.S.Calls.at c.open_write.new.self) nobody c.args.key c.new-request.result c.new-response.result 0
      (g.S.Calls.written c.in_ok-writer.writer) c.in_ok-writer.ensures.gives.answers;
}

pub returns-in_err-writer-clause-over : goal.returns-in_err-writer-clause-over
returns-in_err-writer-clause-over g c =
    let old = g.S.Calls.at c.args.cache.now in
    let new = g.S.Calls.at c.open_write.new.self in
    refused_over (state_at new) (state_at old).next_put c.from_residual.result
    (not_begun old new (g.met.S.Calls.at_rest c.args.cache.now c.requires) c.in_err-writer.ensures.gives.answers.0)

further : (g : Over) (c : In-Ok g) → Further (g.S.Calls.written c.write.new.writer) c.args.body.now c.feed.taken c.in-Ok.count
further g c =
    goes_further (g.S.Calls.at c.feed.cache) (g.S.Calls.at c.write.new.self) (g.S.Calls.written c.feed.writer) (g.S.Calls.written c.write.new.writer)
    c.args.body.now c.feed.taken c.in-Ok.count c.feed.invariant.writer c.in-Ok.ensures.gives c.in-Ok.ensures.writer.goes
    c.write.ensures.writer.writer c.feed-test.true c.feed.invariant.has

pub feed-smaller : goal.feed-smaller
feed-smaller g c = (further g c).nearer

pub feed-preserved : goal.feed-preserved
feed-preserved g c = record {
  keeps = keeps_then c.feed.invariant.keeps c.write.ensures.keeps;
  writer = c.write.ensures.writer.writer;
  put_is = c.in-Ok.ensures.writer.goes.put ∙ c.feed.invariant.put_is;
  within = (further g c).within;
  has = (further g c).has;
}

pub returns-in-Err-clause-keeps : goal.returns-in-Err-clause-keeps
returns-in-Err-clause-keeps g c = keeps_then c.feed.invariant.keeps (keeps_then c.write.ensures.keeps c.give_up.ensures.keeps)

pub returns-in-Ok-close_write-clause-keeps : goal.returns-in-Ok-close_write-clause-keeps
returns-in-Ok-close_write-clause-keeps g c = keeps_then c.feed.invariant.keeps c.close_write.ensures.keeps

pub returns-in-Ok-close_write-clause-whole : goal.returns-in-Ok-close_write-clause-whole
returns-in-Ok-close_write-clause-whole g c =
    let w = g.S.Calls.written c.feed.writer in
    let told : c.in-Ok-close_write.receipt.length ≡ held w = c.in-Ok-close_write.ensures.gives.1.bytes ∙ all_closed w in
    let most : c.feed.taken ≤ length c.args.body.now = c.feed.invariant.within in
    omega (arith, told, c.feed.invariant.has, most, c.feed-test.false)

pub returns-clause-keeps : goal.returns-clause-keeps
returns-clause-keeps g c = keeps_then c.feed.invariant.keeps (keeps_then c.close_write.ensures.keeps c.give_up-in-Err-close_write.ensures.keeps)
