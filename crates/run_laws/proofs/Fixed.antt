-- What the source gave fixes what the sink took, or both runs displaced a piece.
use Rattle.std.proofs.Common.{◌≡◌, ℕ, List, [], ◌∷◌, ◌++◌, ◌⊎◌, inl, inr, true, false, refl, sym, ◌∙◌, subst, arith}
use Rattle.std.specs.Prelude.{All}
use Rattle.std.specs.List.{AllByRecursion}
use Rattle.std.proofs.lemmas.List.{append_cancel_left}
use Rattle.std.proofs.lemmas.List.Elements.{All-cons, All-nil}
use Rattle.logged_disk.specs.Device.{DeviceState as Device, TellsAll}
use Rattle.cache_model.specs.declared.record.Rec.TheVariants as rec
use Rattle.cache_model.specs.Permit.{IsAmong}
use Rattle.cache_model.proofs.Found.{no_truth}
use Rattle.cache_model.proofs.Steps.{all_parts}
use Rattle.script_run.specs.Run.{Harm, fresh}
use Rattle.script_run.specs.Turn.{Turn}
use Rattle.script_run.specs.Behind.{harms_of}
use Rattle.script_run.specs.Takes.{run_after}
use Rattle.script_run.specs.Ledger.{AreReached, IsLeftAlone}
use Rattle.script_run.proofs.Listed.{is_among}
use Rattle.script_laws.specs.Parting.{DisplacesPiece}
use Rattle.script_laws.specs.TurnTroubles.{FaultlessTurns, TellNoFault, tells_fault}
use Rattle.script_laws.proofs.Among.{among_right}
use Rattle.run_promise.specs.declared.status.Status.TheVariants as status
use Rattle.headline.specs.Account.{AllTell, IsConcluded, RunLogs}
use Rattle.run_promise.specs.Top.{AreSteadyBySwitch, ComeBackSteady, IsSteady}
use Rattle.headline.specs.Fixed.{AreAlone, AreSteady, AreSwitched, BothDisplaced, SwitchesDiffer, GiveSame, HasDisplaced, HasHistory, SwitchedRunsAreSteady, TakeSame}
use Rattle.headline.specs.Parting.{ComesToLine, MeetsRefusal, RunsAgreeBeforeTrouble, each_displaces, one_has_no_switch, one_refuses, other_refuses}

-- ---- steady devices

all_tell : (ds : List Device) → AllByRecursion IsSteady ds → AllByRecursion TellsAll ds
all_tell [] s = tt
all_tell (d ∷ ds) s = (s.0.tells, all_tell ds s.1)

steady_tell : (l : RunLogs) → AreSteady l → AllTell l
steady_tell l steady = λ ds returned. all_tell ds (steady ds returned)

-- of devices that have a switch it is the clause that says so
switched_are_steady : (ds : List Device) → AreSteadyBySwitch ds → AllByRecursion (λ (d : Device). d.has_switch ≡ true) ds → AllByRecursion (λ (d : Device). IsLeftAlone d.past) ds
    → AllByRecursion IsSteady ds
switched_are_steady [] steady has alone = tt
switched_are_steady (d ∷ ds) steady has alone = (steady.0 has.0 alone.0, switched_are_steady ds steady.1 has.1 alone.1)

module _ (l : RunLogs) (back : ComeBackSteady l.before.returned l.now.returned) (has : AreSwitched l) (alone : AreAlone l) where
  all_steady : AreSteady l
  all_steady ds returned =
      let same : back.devices ≡ ds = append_cancel_left l.before.returned back.devices ds (sym back.returned ∙ returned) in
      subst (AllByRecursion IsSteady) same (switched_are_steady back.devices back.steady (has back.devices back.returned) (alone back.devices back.returned))

pub switched_runs_are_steady : SwitchedRunsAreSteady
switched_runs_are_steady l back has alone = (all_steady l back has alone, steady_tell l (all_steady l back has alone))

none_faulted : (hs : List Harm) (ds : List Device) → AreReached hs ds → AllByRecursion IsSteady ds
    → All (λ (harm : Harm). harm.fault ≡ 0) hs
none_faulted [] ds r s = All-nil (λ harm. harm.fault ≡ 0)
none_faulted (h ∷ hs) [] r s = absurd r
none_faulted (h ∷ hs) (d ∷ ds) r s = All-cons (λ harm. harm.fault ≡ 0) h hs (omega (arith, r.0.counted, s.0.unfaulted)) (none_faulted hs ds r.1 s.1)

-- ---- a run in which a line met trouble

module _ (faultless : FaultlessTurns) (l : RunLogs) (steady : AreSteady l) (before : List (List ℕ)) (bytes : List ℕ) (after : List (List ℕ))
    (r : ComesToLine l before bytes after) where
  -- no call was refused
  none_refused : MeetsRefusal r.did.turn → ⊥
  none_refused refuses =
      let h : HasHistory l (before ++ bytes ∷ after) = r.history in
      let back = h.back.back in
      let none : AllByRecursion (λ (turn : Turn). TellNoFault turn.added) h.turns =
      faultless fresh (before ++ bytes ∷ after) h.turns h.legal
      (none_faulted (harms_of (run_after fresh (before ++ bytes ∷ after) h.turns)) back.devices back.reached (steady back.devices back.returned)) in
      let here : TellNoFault r.did.turn.added =
      (all_parts (λ (turn : Turn). TellNoFault turn.added) r.did.earlier (r.did.turn ∷ r.did.later) (subst (AllByRecursion (λ (turn : Turn). TellNoFault turn.added)) r.did.turns_are none)).1.0 in
      no_truth (is_among (λ x. tells_fault x ≡ false) (rec.Fault refuses.count) r.did.turn.added here refuses.recorded)

  displaced : DisplacesPiece r.did.turn → HasDisplaced l (before ++ bytes ∷ after)
  displaced displaces = record {
    history = r.history;
    turn = r.did.turn;
    among = subst (IsAmong r.did.turn) (sym r.did.turns_are) (among_right r.did.turn r.did.earlier (r.did.turn ∷ r.did.later) (inl refl));
    displaces = displaces;
  }

pub source_fixes_sink : (agree : RunsAgreeBeforeTrouble) (faultless : FaultlessTurns) (l m : RunLogs) → IsConcluded l status.Done
    → IsConcluded m status.Done
    → (same : GiveSame l m) → AreSteady l → AreSteady m → TakeSame l m ⊎ BothDisplaced l m same ⊎ SwitchesDiffer l m same
source_fixes_sink agree faultless l m c d same steady steady_too = elim (agree l m c d same (steady_tell l steady) (steady_tell m steady_too)) [
  | inl alike ↦ inl alike
  | inr p ↦ elim p.trouble [
    | one_refuses refuses ↦ absurd (none_refused faultless l steady p.before p.bytes p.after p.one refuses)
    | other_refuses refuses ↦ absurd (none_refused faultless m steady_too p.before p.bytes p.after p.other refuses)
    | one_has_no_switch apart ↦ inr (inr (record {
      before = p.before;
      bytes = p.bytes;
      after = p.after;
      taken = p.taken;
      one = p.one.history;
      other = p.other.history;
      did = p.one.did;
      did_too = p.other.did;
      apart = apart;
    }))
    | each_displaces displaces displaces_too ↦ inr (inl (record {
      lines = p.before ++ p.bytes ∷ p.after;
      taken = p.taken;
      one = displaced faultless l steady p.before p.bytes p.after p.one displaces;
      other = displaced faultless m steady_too p.before p.bytes p.after p.other displaces_too;
    }))
  ]
]
