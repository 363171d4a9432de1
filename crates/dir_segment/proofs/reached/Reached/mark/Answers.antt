use Rattle.std.proofs.Common.{◌≡◌, ◌<◌, List, Bool, true, false, length, get_or, sym, subst, arith, length-set}
use Rattle.dir_segment.proofs.Marking.{marked_le, marked_set}
use Rattle.dir_segment.proofs.reached.Reached.mark.Goals as goal

pub overflow_add-self : goal.overflow_add-self
overflow_add-self c = omega (arith, c.self.invariant, marked_le c.self.inside.marks.items)

pub invariant_of-self : goal.invariant_of-self
invariant_of-self c =
    let marks : List Bool = c.self.inside.marks.items in
    let within : c.args.slot < length marks = subst (λ (q : List Bool). c.args.slot < length q) (sym c.self.view_is) c.requires.within in
    let none : false ≡ get_or marks c.args.slot false = subst (λ (t : Bool). t ≡ get_or marks c.args.slot t) c.if-not-index.true c.index.ensures in
    (omega (arith, c.self.invariant, marked_set marks c.args.slot within (sym none)), omega (arith, c.self.invariant, length-set marks c.args.slot true))
