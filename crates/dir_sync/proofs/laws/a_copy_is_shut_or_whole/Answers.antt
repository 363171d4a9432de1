use Rattle.std.proofs.Common.{arith}
use Rattle.stripe_header.specs.Layout.{gate_of}
use Rattle.dir_sync.specs.SyncCalls.{shutting_calls, is_last}
use Rattle.dir_sync.specs.Laws.{past_put}
use Rattle.dir_sync.proofs.Touched.{touches_some}
use Rattle.dir_sync.proofs.Stages.{on_shutting, bars}
use Rattle.dir_sync.proofs.Passes.{no_front, opens}
use Rattle.dir_sync.proofs.Syncs.{spares, replaces, puts, halts}
use Rattle.dir_sync.proofs.laws.a_copy_is_shut_or_whole.Goals as goal

pub returns-clause-shutting : goal.returns-clause-shutting
returns-clause-shutting c side shut settled first old new is log made =
    (touches_some settled first (gate_of side) 1 (shutting_calls side shut)
    (on_shutting side shut) old new is log.entries made).moments

pub returns-clause-shut : goal.returns-clause-shut
returns-clause-shut c a side body shut settled first old known =
    record {
      within = omega arith;
      gate = λ is_shut. bars settled first side shut old known;
      front = no_front settled first a side body _;
      whole = λ other. absurd cc;
    }

pub returns-clause-replaces : goal.returns-clause-replaces
returns-clause-replaces c a side body p n settled first old new may stands is log made =
    replaces settled first a side body p n old may is stands new log.entries made

pub returns-clause-puts : goal.returns-clause-puts
returns-clause-puts c a side body p n settled first old may stands is log =
    puts settled first a side body p n old may is stands log.entries

pub returns-clause-halts : goal.returns-clause-halts
returns-clause-halts c a side body p n count shut settled first old new may stands is log halted =
    halts settled first a side body p n old may is stands count shut new log.entries halted

pub returns-clause-opens : goal.returns-clause-opens
returns-clause-opens c a side body p n settled first old last = opens settled first side
    (is_last a p n) (past_put a side body p n old) last

pub returns-clause-spares : goal.returns-clause-spares
returns-clause-spares c a side body p n settled first old new may is log made =
    spares settled first a side body p n old may is new log.entries made
