use Rattle.std.proofs.Common.{subst, sym, ◌∙◌}
use Rattle.script_grammar.specs.declared.step.Step.TheVariants as step
use Rattle.cache_replay.specs.Deals.{AnswersStep}
use Rattle.cache_replay.proofs.BareLines.{cut_line_step, switchless_step}
use Rattle.cache_replay.proofs.stepping.cut_line.Goals as goal

pub returns-then-is_switchless : goal.returns-then-is_switchless
returns-then-is_switchless g c = record {
  answers = switchless_step c.args.choice c.args.replay.now (g.B.Bay.past c.args.bay.now) c.requires.replay (sym c.is_switchless.ensures ∙ c.if-is_switchless.true);
}

pub returns : goal.returns
returns g c =
    let before = g.B.Bay.past c.args.bay.now in
    record {
      answers = subst (λ past. AnswersStep (step.Cut c.args.choice) c.args.replay.now c.bare_line.new.replay before past c.bare_line.result) (sym c.lay_bare.ensures.bay)
          (cut_line_step c.args.choice c.args.replay.now c.lay_bare.new.replay c.bare_line.new.replay before c.bare_line.result c.requires.replay
          (sym c.is_switchless.ensures ∙ c.if-is_switchless.false) c.lay_bare.ensures.laid c.bare_line.ensures.session c.bare_line.ensures.bare);
    }
