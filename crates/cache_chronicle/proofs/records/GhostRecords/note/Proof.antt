-- `note` has an empty body: the borrow is opened, and closed at the longer list. Ghost data has no
-- statement that would set it, so the step is written by hand.
use Rattle.std.proofs.Common.{[], ◌∷◌, ◌++◌, refl}
use Rattle.std.proofs.raw_atomic.Walks.{proved}
use base.Fml.{ftrue, flft}
use base.Logic.{id⊢}
use contract.Running.{tables}
use mir.Syntax.{named}
use mir.Val.{vunit}
use types.Kit.{‵, ◌⊛◌, ◌$◌, ◌∵◌, !, qed, done, move, keep, use1, split, join, fsplit3, feq_i, suffices, frame, group}
use types.Run.{enter, of_opd, unit_lit, returns}
use types.ByLocal.{alloc_all, pass_all, free_all, look_at, sets}
use denote.Exit.{yes}
use denote.Ref.{MutRef, mut_vals, mut_Tells, ShrRef, shr_vals, shr_Tells}
use denote.Signature.{plain}
use denote.Steps.{opens, closes}
use denote.Triple.Walked.{says, Stays, stay_ref, stay_none_ref, walk_of, Goes-ref, Goes-none_ref, ends_at}
use Rattle.cache_model.specs.contracts.record.Rec.{the_row as R}
use Rattle.cache_chronicle.specs.contracts.records.GhostRecords.{the_row as T}
use Rattle.cache_chronicle.specs.contracts.records.GhostRecords.note as f
use Rattle.cache_chronicle.proofs.records.GhostRecords.note.Statement.{statement}
use Rattle.cache_chronicle.proofs.records.GhostRecords.note.Code as code

abbrev stayed : Stays f.ended.signature.params f.ended.kept
stayed = (stay_ref (0 ∷ []) tt (plain (λ _. T)), (stay_none_ref (1 ∷ []) tt (plain (λ _. R)) yes, tt))

pub note_spec : {M : Type 1} → statement M
note_spec 𝓤 𝓛 𝓜 𝓡 wired =
    let c = f.clauses 𝓛 𝓜.mem 𝓡.returns in let W = walk_of 𝓛 f.ended stayed c in let 𝓣 = tables 𝓤 𝓛.H 𝓜 𝓡 𝓡.env in
    proved 𝓛 f.ended stayed c 𝓜 𝓡 (Goes-ref 𝓛 2 0 tt (plain (λ _. T)), (Goes-none_ref 𝓛 2 (1 ∷ []) tt (plain (λ _. R)) yes, tt))
    f.Key.name code.function (code.unfolded 𝓤 𝓛.H 𝓜 𝓡 wired)
    (λ κs. (mut_vals, (shr_vals, tt))) (λ κs. (mut_Tells (named 0) κs.0 T, (shr_Tells (named 1) κs.1.0 R, tt))) (λ κs qs bounds a _ are.
    let b = a.0.ref_ptr.0 in let o = a.0.ref_ptr.1 in let h = a.0.now in let rec = a.1.0 in
    let longer = record h { list = h.list ++ rec.now ∷ [] } in
    let y : W.Ghost = ((κs, qs, bounds, a, (mut_vals a.0, (shr_vals rec, tt))), tt) in
    qed 𝓛 (((‵ (flft κs.0 qs.0) ⊛ ‵ (flft κs.1.0 qs.1.0) ⊛ ‵ ftrue) ⊛ ‵ ((MutRef (named 0) κs.0 T).own_val a.0 (mut_vals a.0)) ⊛ ‵ ((ShrRef (named 1) κs.1.0 R).own_val rec (shr_vals rec)) ⊛ ‵ ftrue) ∷ ‵ ftrue ∷ []) ∵
    split ! $ split ! $ move ! (2 ∷ []) $ split ! $ keep ! (0 ∷ 2 ∷ 1 ∷ 3 ∷ []) $
    enter ! _ _ _ _ _ $ alloc_all ! (λ l. pass_all ! refl ((tt, tt), ((tt, tt), tt)) $
    -- [the list; its token; the record; the record's token]
    fsplit3 ! $ move ! (1 ∷ 2 ∷ 3 ∷ []) $ opens ! tt T {h = h} b o (λ us.
    sets ! (of_opd ! (unit_lit !)) refl (tt, tt) $
    move ! (1 ∷ []) $ use1 𝓛 (‵ (T.own_val longer us)) (id⊢ 𝓤 _) $ move ! (1 ∷ 0 ∷ []) $ closes ! tt T longer us b o $
    returns ! (look_at ! 0 refl) $ free_all ! refl $
    suffices ! _ (ends_at 𝓛 f.ended stayed c y vunit tt (longer, (tt, tt)) (tt, (tt, tt))) $ says ! refl $
    move ! (2 ∷ 5 ∷ []) $ join ! $ frame ! $ move ! (2 ∷ 0 ∷ 1 ∷ []) $ group ! 3 $ join ! $ frame ! $
    feq_i ! _ (vunit ∷ []) _ refl $ done !)))
