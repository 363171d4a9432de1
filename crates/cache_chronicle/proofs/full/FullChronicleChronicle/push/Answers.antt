use Rattle.std.proofs.Common.{◌≡◌, List, [], ◌∷◌, ◌++◌, length, length-append, ap, sym, subst, arith}
use Rattle.cache_model.specs.declared.record.Rec.{Rec}
use Rattle.cache_model.specs.State.{State, nothing_yet, after_all, state_after}
use Rattle.cache_model.proofs.Steps.{after_all-append}
use Rattle.cache_chronicle.specs.Indexed.{HasTables}
use Rattle.cache_chronicle.proofs.full.FullChronicleChronicle.push.Goals as goal

pub invariant_of-self : goal.invariant_of-self
invariant_of-self c =
    let before : List Rec = c.self.inside.records.list in
    let s : State = after_all nothing_yet before in
    let behind : after_all nothing_yet (before ++ c.args.rec ∷ []) ≡ state_after s c.args.rec = after_all-append nothing_yet before (c.args.rec ∷ []) in
    let noted : c.note-2.new.self.list ≡ before ++ c.args.rec ∷ [] = c.note-2.ensures in
    record {
      tables = subst (λ (recs : List Rec). HasTables c.note.new.self (after_all nothing_yet recs)) (sym noted)
          (subst (HasTables c.note.new.self) (sym behind) (c.note.ensures.has s c.self.invariant.tables));
      count = omega (arith, ap length noted, length-append before (c.args.rec ∷ []), c.self.invariant.count);
    }
