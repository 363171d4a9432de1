use Rattle.std.proofs.Common.{rules, ◌≤◌, sym, ◌∙◌, subst}
use Rattle.cache_replay.specs.Getting.{given_in, got_answer}
use Rattle.line_calls.specs.Moves.{MovesOrShows}
use Rattle.run_promise.specs.Outline.{count_in}
use Rattle.script_grammar.specs.declared.step.Step.TheVariants as step
use Rattle.cache_replay.proofs.Frames.{reader_leaves}
use Rattle.cache_replay.proofs.ReadsOn.{losses_read}
use Rattle.cache_replay.proofs.WholeLines.{line_gets, line_stays, page_refilled}
use Rattle.cache_replay.proofs.getting.get_in_part.Goals as goal

pub returns-in-Ok : goal.returns-in-Ok
returns-in-Ok g c = record {
  line = record {
    part = record {
      holds = c.get.ensures.leaves.goes.holds_then;
      rest = g.met.S.Calls.at_rest _ c.get.ensures.leaves.goes.holds_then;
      plain = c.get.ensures.leaves.goes.setting ∙ c.requires.part.plain;
      losses = losses_read _ _ _ c.get.ensures.leaves.own c.requires.part.losses;
      page = page_refilled c.args.part.now.page.len c.args.part.now.page.items c.get.new.page _ _ _ (sym c.args.part.now.page.ok.0) c.get.ensures.leaves.own c.requires.part.page;
    };
    goes = c.get.ensures.leaves.goes;
    leaves = reader_leaves _ _ _ c.get.ensures.leaves.own;
    stands = λ contents told stood. c.get.ensures.leaves.stands contents tt stood;
    ends = λ run moment told own standing.
        subst (λ said. MovesOrShows run (step.Get c.args.key c.args.request) (g.S.Calls.at c.args.part.now.cache) (g.S.Calls.at c.get.new.cache) said) (sym c.said_of.ensures)
        (line_gets g.S.Calls run c.args.now c.args.part.now.cache c.get.new.cache c.args.key c.args.request
        c.requires.part.plain moment c.requires.part.rest told own standing
        (given_in c.in-Ok.got) (got_answer c.in-Ok.got) (g.met.S.Calls.at_rest _ c.get.ensures.leaves.goes.holds_then).quiet c.in-Ok.ensures.gets.answers);
    unharmed = λ run moment told own standing.
        line_stays g.S.Calls run c.args.now c.args.part.now.cache c.get.new.cache c.args.key c.args.request
        c.requires.part.plain moment c.requires.part.rest told own standing
        c.get.ensures.leaves.goes.goes c.get.ensures.gets.unharmed;
    counts = subst (λ said. count_in said ≤ (g.S.Calls.at c.get.new.cache).device.faults) (sym c.said_of.ensures) (c.in-Ok.ensures.gets.counts c.requires.part.losses);
    stop = search rules;
  };
}

pub returns-in-Err : goal.returns-in-Err
returns-in-Err g c = record {
  line = record {
    part = record {
      holds = c.get.ensures.leaves.goes.holds_then;
      rest = g.met.S.Calls.at_rest _ c.get.ensures.leaves.goes.holds_then;
      plain = c.get.ensures.leaves.goes.setting ∙ c.requires.part.plain;
      losses = losses_read _ _ _ c.get.ensures.leaves.own c.requires.part.losses;
      page = page_refilled c.args.part.now.page.len c.args.part.now.page.items c.get.new.page _ _ _ (sym c.args.part.now.page.ok.0) c.get.ensures.leaves.own c.requires.part.page;
    };
    goes = c.get.ensures.leaves.goes;
    leaves = reader_leaves _ _ _ c.get.ensures.leaves.own;
    stands = λ contents told stood. c.get.ensures.leaves.stands contents tt stood;
    ends = search rules;
    unharmed = λ run moment told own standing.
        line_stays g.S.Calls run c.args.now c.args.part.now.cache c.get.new.cache c.args.key c.args.request
        c.requires.part.plain moment c.requires.part.rest told own standing
        c.get.ensures.leaves.goes.goes c.get.ensures.gets.unharmed;
    counts = search rules;
    stop = search rules;
  };
}
