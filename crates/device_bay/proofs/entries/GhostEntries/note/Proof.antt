-- `note` has an empty body: the borrow is opened, and closed at the longer list. Ghost data has no
-- statement that would set it, so the step is written by hand.
use Rattle.std.proofs.Common.{ℕ, List, [], ◌∷◌, None, refl, MutBor, ◌<◌, ◌^◌, length}
use seplogic.Ra.Ura.{Ura}
use mir.Syntax.{Fn, Args, a_type, named}
use mir.Val.{Val, vunit, vptr}
use mir.MapTy.{inst_fn}
use base.Logic.{SProp, ent, sep, emp, via, fst∗, id⊢}
use base.Fml.{GName, Lft, Share, Fml, ftrue, flft, fobs, fbor}
use prog.Memory.{Memory}
use prog.Routine.{Routine}
use prog.Wp.{Calls, Loops, WpFn, Tables}
use types.Logic.{Logic}
use contract.Lifetimes.{AllOutlive}
use contract.Monad.{Fun}
use contract.Running.{tables, tables_of}
use types.Kit.{‵, ◌⊛◌, ◌$◌, ◌∵◌, !, qed, by, move, keep, drop, use1, split, join, fsplit, fsplit3, fjoin, fjoin3, feq_i, suffices, frame, done}
use types.Run.{unit_lit, of_opd, returns, enter}
use types.SemTy.{Body}
use types.ByLocal.{alloc_all, pass_all, free_all, look_at, sets}
use sound.WpLaws.{WpFn-mono}
use denote.RattleType.{RattleType, owns}
use denote.Memory.{mem}
use denote.Param.{param, layouts}
use denote.Ref.{Bor, MutRef, mut_vals, mut_Tells}
use denote.Builtin.{u8, u64}
use denote.Exit.{yes}
use denote.Slice.{ShrSlice, slice_val, shr_slice_vals, shr_slice_Tells}
use denote.Signature.{plain}
use denote.Steps.{opens, closes}
use denote.Triple.Entry.{on_entry}
use denote.Triple.Clauses.{Clauses, Ended, closing}
use denote.Triple.Spec.{Meets, triple_of}
use denote.Triple.Table.{entered}
use denote.Triple.Walked.{says, Stays, stay_ref, stay_none_slice, walk_of, AllGo, Goes-ref, Goes-none_slice, Walks, ends_at, walked, walk_Meets}
use Rattle.device_bay.specs.Entry.{entry_of}
use Rattle.device_bay.specs.contracts.entries.GhostEntries as Entries
use Rattle.device_bay.specs.contracts.entries.GhostEntries.note as F
use Rattle.device_bay.specs.contracts.entries.GhostEntries.note.Key.{name as #self}
use Rattle.device_bay.proofs.entries.GhostEntries.note.Statement as stated
use Rattle.device_bay.proofs.entries.GhostEntries.note.Code as code

module _ (D : RattleType) where
  abbrev args : Args
  args = layouts (a_type ∷ []) (D, tt)

  abbrev function : Fn
  function = inst_fn args code.function

  abbrev ended : Ended
  ended = F.ended D

  abbrev self : RattleType
  self = Entries.the_row (param 0 D)

  abbrev Arg : Type 0
  Arg = MutBor self.Denot × (Bor (List ℕ) × (Bor (List ℕ) × Unit {0}))

  abbrev stayed : Stays ended.signature.params ended.kept
  stayed = (stay_ref (0 ∷ []) tt (plain (λ _. self)), (stay_none_slice (1 ∷ []) tt (plain (λ _. u64)) yes, (stay_none_slice (2 ∷ []) tt (plain (λ _. u8)) yes, tt)))

  module _ {M : Type 1} {𝓤 : Ura M} (𝓛 : Logic 𝓤) (at_mem : Memory → SProp 𝓤) (run : Routine → Fun 𝓤) where
    open 𝓛 use {H, A}

    abbrev held : Clauses 𝓤 ended
    held = F.clauses D 𝓛 at_mem run

    module _ (κ κ' κ'' τ : Lft) (q q' q'' r : Share) (b o : ℕ) (γ : GName) (h : self.Denot) (k s : Bor (List ℕ)) (lives : AllOutlive ended.signature.lifetimes ended.signature.outlives (κ, (κ', (κ'', (τ, tt))))) where
      abbrev x : Arg
      x = (record { ref_ptr = (b, o); ghost_name = γ; now = h }, (k, (s, tt)))

      abbrev h' : self.Denot
      h' = record { of = h.of; entries = entry_of k.now s.now None ∷ h.entries }

      abbrev at : List Val × (List Val × (List Val × Unit {0}))
      at = (vptr b o ∷ [], (slice_val k.ref_ptr (length k.now) ∷ [], (slice_val s.ref_ptr (length s.now) ∷ [], tt)))

      abbrev rest : Fml
      rest = owns (ShrSlice (named 1) κ' u64 ∷ ShrSlice (named 2) κ'' u8 ∷ []) x.1 at.1

      abbrev Post : Val → SProp 𝓤
      Post = (walk_of 𝓛 ended stayed held).post (((κ, (κ', (κ'', (τ, tt)))), (q, (q', (q'', (r, tt)))), lives, x, at), tt)

      exits : ent 𝓤 (sep 𝓤 (A.obs γ (self.coded.code h')) (sep 𝓤 (A.bor κ (Body (mem self) b o γ)) (sep 𝓤 (A.lft κ q) (sep 𝓤 (types.Logic.sem 𝓛 rest) (sep 𝓤 (A.lft κ' q') (sep 𝓤 (A.lft κ'' q'') (sep 𝓤 (A.lft τ r) (emp 𝓤)))))))) (Post vunit)
      exits =
          qed 𝓛 (‵ (fobs γ (self.coded.code h')) ∷ ‵ (fbor κ (Body (mem self) b o γ)) ∷ ‵ (flft κ q) ∷ ‵ rest ∷ (‵ (flft κ' q') ⊛ (‵ (flft κ'' q'') ⊛ (‵ (flft τ r) ⊛ ‵ ftrue))) ∷ []) ∵
          suffices ! _ (ends_at 𝓛 ended stayed held (((κ, (κ', (κ'', (τ, tt)))), (q, (q', (q'', (r, tt)))), lives, x, at), tt) vunit tt (h', (tt, (tt, tt))) (tt, (tt, (tt, tt)))) $ says ! refl $ move ! (2 ∷ 4 ∷ []) $ join ! $
          frame ! $ feq_i ! (List Val) (vptr b o ∷ []) (vptr b o ∷ []) refl $ fjoin3 ! $ fjoin ! $
          feq_i ! (List Val) (vunit ∷ []) (vunit ∷ []) refl $ move ! (1 ∷ 0 ∷ []) $ done !

      module _ (C : Calls 𝓤 H) (Λ : Loops 𝓤 H) where
        walk : length k.now < 2 ^ 64 → length s.now < 2 ^ 64 → ent 𝓤 (on_entry 𝓛 ended.signature (κ, (κ', (κ'', (τ, tt)))) (q, (q', (q'', (r, tt)))) x at) (WpFn 𝓤 H C Λ function (vptr b o ∷ slice_val k.ref_ptr (length k.now) ∷ slice_val s.ref_ptr (length s.now) ∷ []) Post)
        walk fk fs =
            qed 𝓛 ((‵ (flft κ q) ⊛ (‵ (flft κ' q') ⊛ (‵ (flft κ'' q'') ⊛ (‵ (flft τ r) ⊛ ‵ ftrue)))) ∷ ‵ (owns (MutRef (named 0) κ self ∷ ShrSlice (named 1) κ' u64 ∷ ShrSlice (named 2) κ'' u8 ∷ []) x at) ∷ []) ∵ split ! $ move ! (2 ∷ []) $ fsplit ! $ fsplit3 ! $ drop ! $ move ! (0 ∷ 1 ∷ 3 ∷ []) $
            enter ! C Λ function (vptr b o ∷ slice_val k.ref_ptr (length k.now) ∷ slice_val s.ref_ptr (length s.now) ∷ []) _ $
            alloc_all ! (λ l. pass_all ! refl ((tt, tt), ((tt, (tt, (record { fits = fk }, tt))), ((tt, (tt, (record { fits = fs }, tt))), tt))) $
            move ! (0 ∷ 1 ∷ 2 ∷ []) $ opens ! tt self {h = h} b o (λ vs.
            sets ! (of_opd ! (unit_lit !)) refl (tt, tt) $
            move ! (1 ∷ []) $ use1 𝓛 (‵ (self.own_val h' vs)) (id⊢ 𝓤 _) $ move ! (1 ∷ 0 ∷ []) $ closes ! tt self h' vs b o $
            returns ! (look_at ! 0 refl) $ free_all ! refl $
            keep ! (0 ∷ 1 ∷ 2 ∷ 3 ∷ 4 ∷ []) $ by ! exits))

    walks : (C : Calls 𝓤 H) (Λ : Loops 𝓤 H) → Walks 𝓛 ended stayed (WpFn 𝓤 H C Λ function) held
    walks C Λ = walked 𝓛 ended stayed held (WpFn 𝓤 H C Λ function) (λ κs. (mut_vals, (shr_slice_vals, (shr_slice_vals, tt)))) (λ κs. (mut_Tells (named 0) κs.0 self, (shr_slice_Tells (named 1) κs.1.0 u64, (shr_slice_Tells (named 2) κs.1.1.0 u8, tt))))
        (λ κs qs bounds a g are. via 𝓤 _ (fst∗ 𝓤 _ ((held κs a).requires g)) (walk κs.0 κs.1.0 κs.1.1.0 κs.1.1.1.0 qs.0 qs.1.0 qs.1.1.0 qs.1.1.1.0 a.0.ref_ptr.0 a.0.ref_ptr.1 a.0.ghost_name a.0.now a.1.0 a.1.1.0 bounds C Λ are.1.0.0.1.0 are.1.1.0.0.1.0))

    goes : AllGo 𝓛 4 ended.signature.params ended.kept stayed
    goes = (Goes-ref 𝓛 4 0 tt (plain (λ _. self)), (Goes-none_slice 𝓛 4 (1 ∷ []) tt (plain (λ _. u64)) yes, (Goes-none_slice 𝓛 4 (2 ∷ []) tt (plain (λ _. u8)) yes, tt)))

    meets : (𝓣 : Tables 𝓤 H) → Meets 𝓛 ended.signature (WpFn 𝓤 H 𝓣.C 𝓣.Λ function) (closing 𝓛 ended held)
    meets 𝓣 = walk_Meets 𝓛 ended stayed goes held (WpFn 𝓤 H 𝓣.C 𝓣.Λ function) (WpFn-mono 𝓤 H 𝓛.laws 𝓣 function) (walks 𝓣.C 𝓣.Λ)

pub note_spec : {M : Type 1} → stated.statement M
unfolding tables_of
note_spec 𝓤 𝓛 𝓜 𝓡 wired D LD =
    let 𝓣 : Tables 𝓤 𝓛.H = tables_of 𝓤 𝓛.H 𝓜 (tables 𝓤 𝓛.H 𝓜 𝓡 𝓡.env) in
    entered 𝓤 𝓛.H (triple_of 𝓛 (ended D).signature (closing 𝓛 (ended D) (held D 𝓛 𝓜.mem 𝓡.returns))) 𝓣.C 𝓣.Λ (#self (args D)) (function D)
    (code.unfolded 𝓤 𝓛.H 𝓜 𝓡 wired (D, tt)) (meets D 𝓛 𝓜.mem 𝓡.returns 𝓣)
