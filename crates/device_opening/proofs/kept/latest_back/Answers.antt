use Rattle.std.proofs.Common.{◌≡◌, true, false, [], ◌∷◌, refl, sym, append-nil, ◌∙◌, arith}
use Rattle.device_opening.proofs.Keeping.{none_latest, one_dropped, one_further, one_kept}
use Rattle.device_opening.proofs.kept.latest_back.Goals as goal

pub loop-row-init : goal.loop-row-init
loop-row-init c = ([], sym (append-nil c.args.all.items), c.new-names.ensures, c.new-kept.ensures.items ∙ none_latest)

pub loop-row-preserved-in-Continue-branch-2 : goal.loop-row-preserved-in-Continue-branch-2
loop-row-preserved-in-Continue-branch-2 c =
    let now = c.loop-row.invariant in
    let row = c.in-Some.row in
    let flag : c.replace-replaced.result ≡ false = grind (arith, c.if-not-replaced.ensures) in (
      row ∷ now.0,
      one_further c.loop-row.left.items c.pop.new.self.items now.0 c.args.all.items row now.1 c.in-Some.ensures.items,
      c.in_ok-note.ensures row now.0 refl now.2,
      c.in_ok-push.ensures.items ∙ one_kept row now.0 c.loop-row.kept.items now.3 (sym (c.replace-replaced.ensures now.0 now.2) ∙ flag),
    )

pub loop-row-preserved-else-not-replaced : goal.loop-row-preserved-else-not-replaced
loop-row-preserved-else-not-replaced c =
    let now = c.loop-row.invariant in
    let row = c.in-Some.row in
    let flag : c.replace-replaced.result ≡ true = grind (arith, c.if-not-replaced.ensures) in (
      row ∷ now.0,
      one_further c.loop-row.left.items c.pop.new.self.items now.0 c.args.all.items row now.1 c.in-Some.ensures.items,
      c.in_ok-note.ensures row now.0 refl now.2,
      one_dropped row now.0 c.loop-row.kept.items now.3 (sym (c.replace-replaced.ensures now.0 now.2) ∙ flag),
    )

pub loop-row-preserved : goal.loop-row-preserved
loop-row-preserved c =
    let now = c.loop-row.invariant in
    let row = c.in-Some.row in
    let flag : c.replace-replaced.result ≡ true = grind (arith, c.if-not-replaced.ensures) in (
      row ∷ now.0,
      one_further c.loop-row.left.items c.pop.new.self.items now.0 c.args.all.items row now.1 c.in-Some.ensures.items,
      c.in_ok-note.ensures row now.0 refl now.2,
      one_dropped row now.0 c.loop-row.kept.items now.3 (sym (c.replace-replaced.ensures now.0 now.2) ∙ flag),
    )
