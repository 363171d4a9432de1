use Rattle.std.proofs.Common.{◌+◌, arith}
use Rattle.std.specs.Prelude.{Some, None}
use Rattle.logged_disk.proofs.GoingOn.{told_before}
use Rattle.step_laws.proofs.ToldGroups.{told_group}
use Rattle.call_laws.proofs.Kept.{told_serves}
use Rattle.cache_calls.proofs.Keeping.{keeps_still, keeps_then}
use Rattle.cache_replay.proofs.FeedEnds.{Ends}
use Rattle.line_calls.proofs.FeedRounds.{Wrote}
use Rattle.cache_replay.proofs.FeedTurns.{all_ends, all_stand, bounds, fed_at, goes_on, onward_from_none, part, refused_stands, refuses, smaller}
use Rattle.line_calls.proofs.KeptPuts.{leave_puts}
use Rattle.cache_replay.proofs.feeding.feed.Given.{Over}
use Rattle.cache_replay.proofs.feeding.feed.Goals.{In-Ok}
use Rattle.cache_replay.proofs.feeding.feed.Goals as goal

refused : (g : Over) (c : goal.In-Err g)
    → Ends c.args.now (g.S.Calls.at c.args.cache.now) (g.S.Calls.at c.write.new.self) (g.S.Calls.written c.args.writer.now) (g.S.Calls.written c.write.new.writer)
    c.args.bytes.now c.feed.taken (Some c.in-Err.why)
refused g c =
    let sound = (g.met.S.Calls.at_rest c.feed.cache c.feed.invariant.keeps.goes_on.holds_then).sound in
    let holds = c.write.ensures.keeps.goes_on.holds_then in
    refuses g.S.Calls.at g.S.Calls.holds g.S.Calls.stands c.args.now c.args.cache.now c.feed.cache c.write.new.self (g.S.Calls.written c.args.writer.now)
    (g.S.Calls.written c.feed.writer) (g.S.Calls.written c.write.new.writer) c.args.bytes.now c.feed.taken c.feed.invariant c.in-Err.why
    c.in-Err.ensures.gives (told_serves told_group leave_puts sound
    (record { vectors = g.met.S.Calls.vectors_listed c.write.new.self holds; none = (g.met.S.Calls.at_rest c.write.new.self holds).none }) c.in-Err.ensures.serves)
    (record { added = c.write.ensures.own.added; adds = c.write.ensures.own.adds; own = c.write.ensures.own.own })
    (told_before (g.S.Calls.at c.feed.cache).device (g.S.Calls.at c.write.new.self).device c.write.ensures.keeps.goes_on.goes) c.in-Err.ensures.writer.goes

pub returns-in-Err-clause-keeps : goal.returns-in-Err-clause-keeps
returns-in-Err-clause-keeps g c = keeps_then c.feed.invariant.keeps c.write.ensures.keeps

pub returns-in-Err-clause-feeds : goal.returns-in-Err-clause-feeds
returns-in-Err-clause-feeds g c = (refused g c).feeds

pub returns-in-Err-clause-fed : goal.returns-in-Err-clause-fed
returns-in-Err-clause-fed g c = fed_at _ _ _ _ _ _ _ _ (refused g c) c.feed.invariant.within c.write.ensures.writer.writer

pub returns-in-Err-clause-stands : goal.returns-in-Err-clause-stands
returns-in-Err-clause-stands g c =
    refused_stands _ _ g.S.Calls.stands _ _ _ c.write.new.self _ _ (g.S.Calls.written c.write.new.writer) _ _ c.feed.invariant c.in-Err.why
    (g.met.S.Calls.at_rest c.write.new.self c.write.ensures.keeps.goes_on.holds_then)
    (record { added = c.write.ensures.own.added; adds = c.write.ensures.own.adds; own = c.write.ensures.own.own }) c.in-Err.ensures.stands

wrote : (g : Over) (c : In-Ok g)
    → Wrote c.args.now (g.S.Calls.at c.feed.cache) (g.S.Calls.at c.write.new.self) (g.S.Calls.written c.feed.writer) (g.S.Calls.written c.write.new.writer)
    (part c.args.bytes.now c.feed.taken) c.in-Ok.count
wrote g c =
    let sound = (g.met.S.Calls.at_rest c.feed.cache c.feed.invariant.keeps.goes_on.holds_then).sound in
    let holds = c.write.ensures.keeps.goes_on.holds_then in
    record {
      own = c.feed.invariant.writer;
      takes = c.in-Ok.ensures.gives;
      serves = told_serves told_group leave_puts sound
          (record { vectors = g.met.S.Calls.vectors_listed c.write.new.self holds; none = (g.met.S.Calls.at_rest c.write.new.self holds).none }) c.in-Ok.ensures.serves;
      adds = record { added = c.write.ensures.own.added; adds = c.write.ensures.own.adds; own = c.write.ensures.own.own };
      gathers = c.in-Ok.ensures.writer.goes;
      next_own = c.write.ensures.writer.writer;
      told = told_before (g.S.Calls.at c.feed.cache).device (g.S.Calls.at c.write.new.self).device c.write.ensures.keeps.goes_on.goes;
    }

whole : (g : Over) (c : goal.Then-taken-bytes g)
    → Ends c.args.now (g.S.Calls.at c.args.cache.now) (g.S.Calls.at c.write.new.self) (g.S.Calls.written c.args.writer.now) (g.S.Calls.written c.write.new.writer)
    c.args.bytes.now (c.feed.taken + c.in-Ok.count) None
whole g c = all_ends _ _ _ _ _ _ _ _ _ _ _ _ c.feed.invariant c.in-Ok.count (wrote g (goal.at.returns-then-taken-bytes-clause-feeds g c).In-Ok) c.if-taken-bytes.true

pub returns-then-taken-bytes-clause-keeps : goal.returns-then-taken-bytes-clause-keeps
returns-then-taken-bytes-clause-keeps g c = keeps_then c.feed.invariant.keeps c.write.ensures.keeps

pub returns-then-taken-bytes-clause-feeds : goal.returns-then-taken-bytes-clause-feeds
returns-then-taken-bytes-clause-feeds g c = (whole g c).feeds

pub returns-then-taken-bytes-clause-fed : goal.returns-then-taken-bytes-clause-fed
returns-then-taken-bytes-clause-fed g c =
    fed_at _ _ _ _ _ _ _ _ (whole g c)
    (bounds _ _ _ _ _ _ _ _ _ _ _ _ c.feed.invariant c.in-Ok.count (wrote g (goal.at.returns-then-taken-bytes-clause-feeds g c).In-Ok)) c.write.ensures.writer.writer

pub returns-then-taken-bytes-clause-stands : goal.returns-then-taken-bytes-clause-stands
returns-then-taken-bytes-clause-stands g c =
    all_stand _ _ g.S.Calls.stands _ _ _ c.write.new.self _ _ _ _ _ c.feed.invariant c.in-Ok.count (wrote g (goal.at.returns-then-taken-bytes-clause-stands g c).In-Ok)
    (g.met.S.Calls.at_rest c.write.new.self c.write.ensures.keeps.goes_on.holds_then) c.in-Ok.ensures.stands

pub feed-smaller : goal.feed-smaller
feed-smaller g c = smaller _ _ _ _ _ _ _ _ _ _ _ _ c.feed.invariant c.in-Ok.count (wrote g (goal.at.feed-smaller g c).In-Ok) c.if-taken-bytes.false

pub feed-preserved : goal.feed-preserved
feed-preserved g c =
    goes_on _ _ g.S.Calls.stands _ _ _ _ _ _ _ _ _ c.feed.invariant c.in-Ok.count (wrote g (goal.at.feed-preserved g c).In-Ok) c.if-taken-bytes.false c.write.ensures.keeps
    (g.met.S.Calls.at_rest c.write.new.self c.write.ensures.keeps.goes_on.holds_then) c.in-Ok.ensures.stands

pub feed-init : goal.feed-init
feed-init g c = record {
  keeps = keeps_still c.args.cache.now c.requires.holds;
  writer = c.requires.writer.writer;
  writing = c.requires.writer.writing;
  within = omega arith;
  onward = onward_from_none c.args.now (g.S.Calls.at c.args.cache.now) (g.S.Calls.written c.args.writer.now) c.args.bytes.now;
  told = λ contents t later told. ((λ stood. stood), told);
}
