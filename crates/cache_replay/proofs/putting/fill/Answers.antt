use Rattle.std.proofs.Common.{◌≡◌, ◌≤◌, sym, ◌∙◌, ap, subst, true}
use Rattle.logged_disk.proofs.GoingOn.{told_before}
use Rattle.cache_model.specs.Legal.{is_writing}
use Rattle.cache_model.specs.Subjects.{IsOfPut}
use Rattle.cache_calls.specs.Adds.{AddsOnly}
use Rattle.cache_calls.specs.Keeping.{state_at}
use Rattle.cache_calls.proofs.Keeping.{keeps_then}
use Rattle.cache_replay.specs.Feeding.{FeedsWhere, IsCutWhere, IsOpenBehind, taken_by_feed}
use Rattle.cache_replay.specs.Replies.{count_of_refusal}
use Rattle.cache_replay.proofs.PutEnds.{close_counts, closes_fill, err_when, refused_fill}
use Rattle.cache_replay.proofs.Frames.{adds_then, losses_kept}
use Rattle.cache_replay.proofs.PutsGrown.{grows_still, put_grows}
use Rattle.cache_replay.proofs.ToldFrom.{closed_told, fresh_told}
use Rattle.cache_replay.proofs.putting.fill.Given.{Over}
use Rattle.cache_replay.proofs.putting.fill.Goals.{After-close_write}
use Rattle.cache_replay.proofs.putting.fill.Goals as goal

pub returns-in-None-clause-keeps : goal.returns-in-None-clause-keeps
returns-in-None-clause-keeps g c = keeps_then c.feed.ensures.keeps c.close_write.ensures.keeps

writes_on : (g : Over) (c : After-close_write g) → is_writing (state_at (g.S.Calls.at c.feed.new.cache)) (g.S.Calls.written c.feed.new.writer).put ≡ true
writes_on g c =
    let mid = g.S.Calls.at c.feed.new.cache in
    subst (λ q. is_writing (state_at mid) q ≡ true) (sym c.feed.ensures.fed.fed.put)
    (subst (IsOpenBehind (state_at mid) (g.S.Calls.written c.args.writer.now).put) c.in-None.is c.feed.ensures.fed.writing)

pub returns-in-None-clause-fills : goal.returns-in-None-clause-fills
returns-in-None-clause-fills g c =
    let first = g.S.Calls.at c.args.cache.now in
    let mid = g.S.Calls.at c.feed.new.cache in
    let w = g.S.Calls.written c.args.writer.now in
    let v = g.S.Calls.written c.feed.new.writer in
    let number = c.feed.ensures.fed.fed.put in
    closes_fill c.args.now first mid (g.S.Calls.at c.close_write.new.self) w v c.args.body.now c.requires.fresh number
    (subst (λ o. IsCutWhere (state_at first).geometry.fragment w c.args.body.now o v) c.in-None.is c.feed.ensures.fed.cut)
    (record { writing = writes_on g c; writer = c.feed.ensures.fed.writer })
    (told_before mid.device (g.S.Calls.at c.close_write.new.self).device c.close_write.ensures.keeps.goes_on.goes) c.close_write.result
    (subst (FeedsWhere c.args.now first mid w c.args.body.now) c.in-None.is c.feed.ensures.feeds) c.close_write.ensures.gives c.close_write.ensures.serves

pub returns-in-Some-clause-fills : goal.returns-in-Some-clause-fills
returns-in-Some-clause-fills g c =
    let first = g.S.Calls.at c.args.cache.now in
    let new = g.S.Calls.at c.feed.new.cache in
    let w = g.S.Calls.written c.args.writer.now in
    refused_fill c.args.now first new w c.args.body.now c.requires.fresh c.in-Some.why
    (subst (FeedsWhere c.args.now first new w c.args.body.now) c.in-Some.is c.feed.ensures.feeds)

pub returns-in-None-clause-tells : goal.returns-in-None-clause-tells
returns-in-None-clause-tells g c =
    let first = g.S.Calls.at c.args.cache.now in
    let mid = g.S.Calls.at c.feed.new.cache in
    let new = g.S.Calls.at c.close_write.new.self in
    let w = g.S.Calls.written c.args.writer.now in
    let v = g.S.Calls.written c.feed.new.writer in
    let own : AddsOnly (IsOfPut w.put) first new =
    adds_then (IsOfPut w.put) first mid new c.feed.ensures.fed.own (subst (λ q. AddsOnly (IsOfPut q) mid new) c.feed.ensures.fed.fed.put c.close_write.ensures.own) in
    record {
      own = own;
      counts = err_when (λ why. count_of_refusal why ≤ new.device.faults) c.close_write.result
          (losses_kept first new own.added own.adds) (close_counts mid new v c.close_write.result (writes_on g c) c.close_write.ensures.gives);
    }

pub returns-in-None-clause-stands : goal.returns-in-None-clause-stands
returns-in-None-clause-stands g c = λ contents told before.
    let mid = g.S.Calls.at c.feed.new.cache in
    let new = g.S.Calls.at c.close_write.new.self in
    let w = g.S.Calls.written c.args.writer.now in
    let v = g.S.Calls.written c.feed.new.writer in
    let fed = c.feed.ensures.fed in
    let rest = g.met.S.Calls.at_rest c.close_write.new.self c.close_write.ensures.keeps.goes_on.holds_then in
    let whole = fed.taken_is ∙ ap (taken_by_feed (state_at mid) w c.args.body.now) c.in-None.is in
    c.close_write.ensures.stands contents
    (closed_told (state_at mid) (state_at new) w v c.args.body.now c.feed.result.taken contents c.requires.fresh fed.fed whole
    (record { writing = writes_on g c; writer = fed.writer }) (put_grows mid new rest v.put v.put c.close_write.ensures.own) told)
    (c.feed.ensures.stands contents
    (fresh_told (state_at mid) (state_at new) w c.args.body.now contents c.requires.fresh (put_grows mid new rest w.put v.put c.close_write.ensures.own) told) before)

pub returns-in-Some-clause-stands : goal.returns-in-Some-clause-stands
returns-in-Some-clause-stands g c = λ contents told before.
    let mid = state_at (g.S.Calls.at c.feed.new.cache) in
    let w = g.S.Calls.written c.args.writer.now in
    c.feed.ensures.stands contents (fresh_told mid mid w c.args.body.now contents c.requires.fresh (grows_still mid w.put) told) before
