use Rattle.std.proofs.Common.{◌≡◌, ◌∷◌, ◌++◌, ◌<◌, true, false, length, sym, ap, ◌∙◌, arith}
use Rattle.std.specs.List.{list_any}
use Rattle.cache_model.specs.declared.findings.FoundRow.{FoundRow}
use Rattle.reopening.specs.Later.{latest, replaces}
use Rattle.reopening.proofs.Turns.{first_out, latest_keeps, latest_drops}
use Rattle.reopening.proofs.later.latest.Goals as goal

pub loop-ahead-preserved-in-Continue-1 : goal.loop-ahead-preserved-in-Continue-1
loop-ahead-preserved-in-Continue-1 c =
    let x = c.remove-first.result in
    let ahead = c.loop-ahead.ahead.items in
    let rest = c.remove-first.new.self.items in
    let some : 0 < length ahead = grind (arith, c.is_empty.ensures, c.loop-ahead-test.ensures) in
    let is : ahead ≡ x ∷ rest = first_out ahead x some c.remove-first.ensures.value ∙ ap (λ l. x ∷ l) (sym c.remove-first.ensures.items) in
    let flag : c.is_replaced.result ≡ false = grind (arith, c.if-not-is_replaced.ensures) in
    let none : list_any (λ (y : FoundRow). replaces y.id x.id) rest ≡ false =
    ap (list_any (λ (y : FoundRow). replaces y.id x.id)) (sym c.deref.ensures.value) ∙ (sym c.is_replaced.ensures ∙ flag) in
    ap (λ l. l ++ latest rest) c.in_ok-push.ensures ∙ latest_keeps c.loop-ahead.kept.items ahead c.args.all.items x rest is none c.loop-ahead.invariant

pub loop-ahead-preserved-else-not-is_replaced : goal.loop-ahead-preserved-else-not-is_replaced
loop-ahead-preserved-else-not-is_replaced c =
    let x = c.remove-first.result in
    let ahead = c.loop-ahead.ahead.items in
    let rest = c.remove-first.new.self.items in
    let some : 0 < length ahead = grind (arith, c.is_empty.ensures, c.loop-ahead-test.ensures) in
    let is : ahead ≡ x ∷ rest = first_out ahead x some c.remove-first.ensures.value ∙ ap (λ l. x ∷ l) (sym c.remove-first.ensures.items) in
    let flag : c.is_replaced.result ≡ true = grind (arith, c.if-not-is_replaced.ensures) in
    let one : list_any (λ (y : FoundRow). replaces y.id x.id) rest ≡ true =
    ap (list_any (λ (y : FoundRow). replaces y.id x.id)) (sym c.deref.ensures.value) ∙ (sym c.is_replaced.ensures ∙ flag) in
    latest_drops c.loop-ahead.kept.items ahead c.args.all.items x rest is one c.loop-ahead.invariant

pub loop-ahead-preserved : goal.loop-ahead-preserved
loop-ahead-preserved c =
    let x = c.remove-first.result in
    let ahead = c.loop-ahead.ahead.items in
    let rest = c.remove-first.new.self.items in
    let some : 0 < length ahead = grind (arith, c.is_empty.ensures, c.loop-ahead-test.ensures) in
    let is : ahead ≡ x ∷ rest = first_out ahead x some c.remove-first.ensures.value ∙ ap (λ l. x ∷ l) (sym c.remove-first.ensures.items) in
    let flag : c.is_replaced.result ≡ true = grind (arith, c.if-not-is_replaced.ensures) in
    let one : list_any (λ (y : FoundRow). replaces y.id x.id) rest ≡ true =
    ap (list_any (λ (y : FoundRow). replaces y.id x.id)) (sym c.deref.ensures.value) ∙ (sym c.is_replaced.ensures ∙ flag) in
    latest_drops c.loop-ahead.kept.items ahead c.args.all.items x rest is one c.loop-ahead.invariant
