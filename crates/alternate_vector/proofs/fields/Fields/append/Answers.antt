use Rattle.std.proofs.Common.{◌≡◌, ◌<◌, ap, sym, subst, ◌∙◌, arith, length}
use Rattle.std.proofs.lemmas.List.{length-map}
use Rattle.alternate_vector.specs.Field.{AreFields, made_field, with_field}
use Rattle.alternate_vector.specs.Lines.{fields_of}
use Rattle.alternate_vector.proofs.Order.{placed, fields_with, some_line}
use Rattle.alternate_vector.proofs.fields.Fields.append.Goals as goal

is_with : (c : goal.In_ok-insert) → fields_of c.insert.new.self.items ≡ with_field (fields_of c.self.inside.lines.items) (made_field c.args.name.now c.args.value.now)
is_with c =
    let lines = c.self.inside.lines.items in
    let place = (rw (c.deref.ensures.value, c.as_bytes.ensures.value) at c.place_of-at.ensures.place) c.self.invariant.rising in
    let within = rw c.deref.ensures.value at c.place_of-at.ensures.within in
    ap fields_of c.in_ok-insert.ensures.items
    ∙ placed lines c.place_of-at.result c.in_ok-line.line some_line (λ k l. place.0 k some_line (omega arith) l) (λ l. place.1 c.place_of-at.result some_line (omega arith) l) within
    ∙ ap (with_field (fields_of lines)) c.in_ok-line.ensures.ok

pub invariant_of-self-2 : goal.invariant_of-self-2
invariant_of-self-2 c =
    let lines = c.self.inside.lines.items in
    let count : length (fields_of lines) ≡ length lines = simp length-map in
    let same = ap length c.deref.ensures.value in
    let few : length (fields_of lines) < 128 = omega (arith, count, same, c.deref.ensures.len, c.len.ensures, c.self.invariant.few, c.if-len-eq-MAX_LINES.false) in
    subst AreFields (sym (is_with c)) (fields_with (fields_of lines) (made_field c.args.name.now c.args.value.now) c.self.invariant few c.in_ok-line.ensures.kept)

pub returns-clause-ok : goal.returns-clause-ok
returns-clause-ok c = is_with c ∙ ap (λ fields. with_field fields (made_field c.args.name.now c.args.value.now)) c.self.view_is
