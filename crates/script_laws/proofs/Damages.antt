-- Damage that is answered was told of a piece.
use Rattle.std.proofs.Common.{◌≡◌, List, [], ◌∷◌, Bool, true, refl, sym, ◌∙◌, ap, subst, inl, inr}
use Rattle.std.specs.Prelude.{Option, Some}
use Rattle.std.specs.List.{AllByRecursion, list_any}
use Rattle.std.proofs.lemmas.Bool.{or_right}
use Rattle.tape_base.specs.declared.pieces.PieceId.{PieceId}
use Rattle.cache_model.specs.declared.cause.Cause.{Cause}
use Rattle.cache_model.specs.declared.cause.Cause.TheVariants as cause
use Rattle.cache_model.specs.declared.record.Rec.{Rec}
use Rattle.cache_model.specs.declared.record.Rec.TheVariants as rec
use Rattle.cache_model.specs.State.{State, after_all, state_after}
use Rattle.cache_model.specs.Permit.{Intent, IsAmong, Permit, Reason}
use Rattle.cache_model.specs.Legal.{IsStep}
use Rattle.cache_model.proofs.Found.{no_truth, none_is}
use Rattle.cache_model.specs.Damage.{tells_damage, has_damage, is_damage}
use Rattle.script_grammar.specs.declared.step.Step.{Step}
use Rattle.script_run.specs.Run.{Run}
use Rattle.script_run.specs.Turn.{Turn}
use Rattle.script_run.specs.Answers.{session_said}
use Rattle.script_run.specs.Takes.{SessionTakes}
use Rattle.script_laws.specs.Causes
use Rattle.script_laws.specs.Causes.{IsTraced, cause_answered, cause_given, is_standing}
use Rattle.script_laws.proofs.Groups.{IsKept}
use Rattle.script_laws.proofs.Walking.{walked}
use Rattle.script_laws.proofs.Said.{answers_are_traced}

-- ---- damage that was told stays told

damage_kept : (p : Permit) (s : State) (r : Rec) → IsKept p r → has_damage s ≡ true → has_damage (state_after s r) ≡ true
damage_kept p s (rec.Formatted geometry) k h = absurd k
damage_kept p s (rec.Opened geometry serial cursor floor next_put clean list) k h = absurd k
damage_kept p s (rec.Damaged piece place kept found) k h = refl
damage_kept p s _ k h = h

damages_kept : (p : Permit) (s : State) (recs : List Rec) → AllByRecursion (IsKept p) recs → has_damage s ≡ true → has_damage (after_all s recs) ≡ true
damages_kept p s [] k h = h
damages_kept p s (r ∷ recs) k h = damages_kept p (state_after s r) recs k.1 (damage_kept p s r k.0 h)

pub damage_stays : (p : Permit) (s : State) (intents : List Intent) (added : List Rec) (refused : Option Reason) → IsStep p s intents added refused
    → has_damage s ≡ true → has_damage (after_all s added) ≡ true
damage_stays p s intents added refused h damaged = damages_kept p s added (walked h.grows).kept damaged

-- ---- where it comes from

abbrev is_damaged : PieceId × Cause → Bool
is_damaged lost = is_damage lost.1

lost_damaged : (piece : PieceId) (why : Cause) (losses : List (PieceId × Cause)) → is_damage why ≡ true → IsAmong (piece, why) losses → list_any is_damaged losses ≡ true
lost_damaged piece why [] damage h = absurd h
lost_damaged piece why (lost ∷ losses) damage h = elim h [
  | inl same ↦ subst (λ (x : PieceId × Cause). list_any is_damaged (x ∷ losses) ≡ true) same (rw damage refl)
  | inr later ↦ or_right (is_damage lost.1) (list_any is_damaged losses) (lost_damaged piece why losses damage later)
]

-- damage does not stand by itself
not_standing : {X : Type 0} (why : Cause) → is_damage why ≡ true → is_standing why ≡ true → X
not_standing (cause.Damaged place kept found) damage e = no_truth (sym e)
not_standing (cause.DeviceFault count) damage e = no_truth (sym e)
not_standing (cause.Displaced segment live) damage e = no_truth (sym e)
not_standing _ damage e = no_truth (sym damage)

-- the record that stands for damage tells it
damage_given : (r : Rec) (why : Cause) → is_damage why ≡ true → cause_given r ≡ Some why → tells_damage r ≡ true
damage_given (rec.Damaged piece place kept found) why damage h = refl
damage_given (rec.Displaced piece segment live) why damage h = let same : cause.Displaced segment live ≡ why = cc in no_truth (sym (ap is_damage same ∙ damage))
damage_given (rec.Fault count) why damage h = let same : cause.DeviceFault count ≡ why = cc in no_truth (sym (ap is_damage same ∙ damage))
damage_given _ why damage h = none_is h

told_by : (s : State) (r : Rec) → tells_damage r ≡ true → has_damage (state_after s r) ≡ true
told_by s (rec.Damaged piece place kept found) h = refl
told_by s _ h = no_truth (sym h)

pub told_among : (p : Permit) (s : State) (recs : List Rec) (r : Rec) → AllByRecursion (IsKept p) recs → IsAmong r recs → tells_damage r ≡ true → has_damage (after_all s recs) ≡ true
told_among p s [] r k h told = absurd h
told_among p s (first ∷ recs) r k h told = elim h [
  | inl same ↦ damages_kept p (state_after s first) recs k.1 (told_by s first (subst (λ x. tells_damage x ≡ true) same told))
  | inr later ↦ told_among p (state_after s first) recs r k.1 later told
]

damage_traced : (p : Permit) (s : State) (added : List Rec) (why : Cause) → AllByRecursion (IsKept p) added → is_damage why ≡ true → IsTraced s added why → has_damage (after_all s added) ≡ true
damage_traced p s added why k damage (Causes.IsTraced.stands e) = not_standing why damage e
damage_traced p s added why k damage (Causes.IsTraced.lost piece h) = damages_kept p s added k (lost_damaged piece why s.lost damage h)
damage_traced p s added why k damage (Causes.IsTraced.recorded g) = told_among p s added g.r k g.among (damage_given g.r why damage g.gives)

pub damage_is_recorded : (run : Run) (s : State) (turn : Turn) (step : Step) (why : Cause) → SessionTakes run s turn step
    → cause_answered (session_said run s (after_all s turn.added) turn step) ≡ Some why → is_damage why ≡ true
    → has_damage (after_all s turn.added) ≡ true
damage_is_recorded run s turn step why takes answered damage =
    damage_traced turn.device s turn.added why (walked takes.legal.grows).kept damage (answers_are_traced run s turn step why takes answered)
