use Rattle.std.proofs.Common.{ap, sym, subst, refl, ◌∙◌}
use Rattle.cache_model.proofs.Found.{no_truth}
use Rattle.cache_answers.specs.declared.answers.SwitchOrder.TheVariants as order
use Rattle.cache_replay.specs.declared.bare_lines.BareOrder.TheVariants as bare
use Rattle.cache_replay.specs.Deals.{AnswersStep}
use Rattle.cache_replay.specs.Switching.{step_of_order}
use Rattle.cache_replay.proofs.BareLines.{bare_is_alone, bare_step, same_slots}
use Rattle.cache_replay.proofs.Dispatch.{line_step, moment_step, needs_no_switch, needs_session, of_no_switch, silent_line, works_on}
use Rattle.cache_replay.proofs.SwitchLines.{order_on, switch_beside}
use Rattle.cache_replay.proofs.stepping.step.Goals as goal

pub returns-in_default : goal.returns-in_default
returns-in_default g c =
    let needs = needs_session c.args.step (λ name a b d e f h i j is. c.in_default.not-Format name a b d e f h i j is) (λ at is. c.in_default.not-Now at is) in
    let other = needs_no_switch c.args.step (λ nth is. c.in_default.not-Fail nth is) (λ calls is. c.in_default.not-StopAfter calls is) (λ place byte is. c.in_default.not-Flip place byte is)
    (λ choice is. c.in_default.not-Cut choice is) in
    let line = c.in_session.ensures.line in
    record {
      answers = line_step c.args.step c.args.replay.now (record c.args.replay.now { session = c.in_session.new.session }) c.requires.replay (works_on c.args.step needs other) refl line.device
          (g.B.Bay.past c.args.bay.now) c.in_session.result (λ of_device. of_no_switch c.args.step other of_device) line (silent_line c.in_session.result c.args.step c.in_session.new.session.part needs other);
    }

pub returns-in-Now : goal.returns-in-Now
returns-in-Now g c = record {
  answers = moment_step c.in-Now.moment c.args.step c.args.replay.now (record c.args.replay.now { session = c.now_line.new.session }) c.now_line.result (g.B.Bay.past c.args.bay.now) c.in-Now.is
      c.requires.replay c.now_line.ensures.session c.now_line.ensures.moves c.now_line.ensures.answer c.now_line.ensures.part refl c.now_line.ensures.names;
}

pub returns-in-Some : goal.returns-in-Some
returns-in-Some g c =
    let past = g.B.Bay.past c.args.bay.now in
    let old = c.args.replay.now in
    let new = c.bare_line.new.replay in
    let told = bare.Fail c.in-Fail.nth in
    let none = bare_is_alone old c.in-Some.field-0 c.requires.replay c.in-Some.is in
    record {
      answers = subst (λ s. AnswersStep s old new past past c.bare_line.result) (sym c.in-Fail.is)
          (bare_step told old new none (ap (λ s. s.part) c.bare_line.ensures.session ∙ none) (same_slots old new c.requires.replay none c.bare_line.ensures.session)
          (ap (λ s. s.actors.names) c.bare_line.ensures.session) (ap (λ s. s.now) c.bare_line.ensures.session) past c.bare_line.result c.bare_line.ensures.bare);
    }

pub returns-in-None : goal.returns-in-None
returns-in-None g c =
    let past = g.B.Bay.past c.args.bay.now in
    let old = c.args.replay.now in
    let new = record old { session = c.switch_line.new.session } in
    let asked = order.Fail c.in-Fail.nth in
    let line = c.switch_line.ensures.line in
    record {
      answers = subst (λ s. AnswersStep s old new past past c.switch_line.result) (sym c.in-Fail.is)
          (line_step (step_of_order asked) old new c.requires.replay (order_on asked) refl line.device past c.switch_line.result (λ of_device. c.in-None.is)
          line (switch_beside asked new.session.part c.switch_line.result c.switch_line.ensures.switch));
    }

pub returns-in-Some-bare : goal.returns-in-Some-bare
returns-in-Some-bare g c =
    let past = g.B.Bay.past c.args.bay.now in
    let old = c.args.replay.now in
    let new = c.bare_line-in-Some-bare.new.replay in
    let told = bare.StopAfter c.in-StopAfter.calls in
    let none = bare_is_alone old c.in-Some-bare.field-0 c.requires.replay c.in-Some-bare.is in
    record {
      answers = subst (λ s. AnswersStep s old new past past c.bare_line-in-Some-bare.result) (sym c.in-StopAfter.is)
          (bare_step told old new none (ap (λ s. s.part) c.bare_line-in-Some-bare.ensures.session ∙ none) (same_slots old new c.requires.replay none c.bare_line-in-Some-bare.ensures.session)
          (ap (λ s. s.actors.names) c.bare_line-in-Some-bare.ensures.session) (ap (λ s. s.now) c.bare_line-in-Some-bare.ensures.session) past c.bare_line-in-Some-bare.result c.bare_line-in-Some-bare.ensures.bare);
    }

pub returns-in-None-bare : goal.returns-in-None-bare
returns-in-None-bare g c =
    let past = g.B.Bay.past c.args.bay.now in
    let old = c.args.replay.now in
    let new = record old { session = c.switch_line-in-None-bare.new.session } in
    let asked = order.StopAfter c.in-StopAfter.calls in
    let line = c.switch_line-in-None-bare.ensures.line in
    record {
      answers = subst (λ s. AnswersStep s old new past past c.switch_line-in-None-bare.result) (sym c.in-StopAfter.is)
          (line_step (step_of_order asked) old new c.requires.replay (order_on asked) refl line.device past c.switch_line-in-None-bare.result (λ of_device. c.in-None-bare.is)
          line (switch_beside asked new.session.part c.switch_line-in-None-bare.result c.switch_line-in-None-bare.ensures.switch));
    }

pub returns-in-Flip : goal.returns-in-Flip
returns-in-Flip g c =
    let past = g.B.Bay.past c.args.bay.now in
    let old = c.args.replay.now in
    let new = record old { session = c.switch_line-in-Flip.new.session } in
    let asked = order.Flip c.in-Flip.place c.in-Flip.byte in
    let line = c.switch_line-in-Flip.ensures.line in
    record {
      answers = subst (λ s. AnswersStep s old new past past c.switch_line-in-Flip.result) (sym c.in-Flip.is)
          (line_step (step_of_order asked) old new c.requires.replay (order_on asked) refl line.device past c.switch_line-in-Flip.result (λ of_device. no_truth (sym of_device))
          line (switch_beside asked new.session.part c.switch_line-in-Flip.result c.switch_line-in-Flip.ensures.switch));
    }
