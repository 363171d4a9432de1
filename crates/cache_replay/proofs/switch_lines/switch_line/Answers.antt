use Rattle.cache_replay.proofs.SwitchLines.{order_line, order_switch}
use Rattle.cache_replay.proofs.switch_lines.switch_line.Goals as goal

pub returns-in-Some-clause-line : goal.returns-in-Some-clause-line
returns-in-Some-clause-line g c =
    order_line c.args.session.now c.in-Some.part c.tell.new.part c.in-Some.is c.requires.session c.args.order
    (g.met.S.Calls.at_rest _ c.tell.ensures.order.keeps.holds_then) c.tell.result c.tell.ensures.order
