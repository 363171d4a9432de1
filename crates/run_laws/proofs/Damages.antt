-- Damage that a line answers was given by the device of its session.
use Rattle.std.proofs.Common.{◌≡◌, ℕ, ◌+◌, List, [], ◌∷◌, ◌++◌, length, refl, sym, ◌∙◌, ap, subst, arith, length-append, append_assoc, append-nil, inl, inr, false}
use Rattle.std.specs.Prelude.{◌≢◌, Option, Some, option_map, unwrap_or}
use Rattle.tape_base.specs.declared.digests.Digest.{Digest}
use Rattle.tape_base.specs.declared.pieces.PieceId.{PieceId}
use Rattle.logged_disk.specs.Device.{DeviceState as Device}
use Rattle.cache_model.specs.declared.cause.Cause.{Cause}
use Rattle.cache_model.specs.declared.cause.Cause.TheVariants as cause
use Rattle.cache_model.specs.declared.record.Rec.{Rec}
use Rattle.cache_model.specs.declared.record.Rec.TheVariants as rec
use Rattle.cache_model.specs.State.{State, after_all}
use Rattle.cache_model.specs.Damage.{is_damage}
use Rattle.cache_model.specs.Permit.{IsAmong}
use Rattle.cache_model.proofs.Found.{no_truth, none_is}
use Rattle.script_grammar.specs.declared.line.LineAnswer.{LineAnswer}
use Rattle.script_grammar.specs.declared.line.LineAnswer.TheVariants as line
use Rattle.script_grammar.specs.declared.answer.StepAnswer.{StepAnswer}
use Rattle.script_grammar.specs.declared.step.Step.{Step}
use Rattle.script_grammar.specs.Grammar.{reading_of}
use Rattle.device_log.specs.Calls.{Call}
use Rattle.script_run.specs.Run.{Harm, Run, at_hand, fresh}
use Rattle.script_run.specs.Turn.{Turn, calls_in}
use Rattle.script_run.specs.Behind.{after_line, harm_in, harm_of, harms_of}
use Rattle.script_run.specs.Takes.{run_after}
use Rattle.script_run.specs.Laws.{NoneIsUnlike, ReadsKeep}
use Rattle.script_run.proofs.Listed.{is_among}
use Rattle.script_laws.specs.Causes
use Rattle.script_laws.specs.Causes.{AnswersAreTraced, IsTraced, cause_answered, cause_given}
use Rattle.script_laws.specs.Damages.{DamageStays}
use Rattle.script_laws.specs.Runs.{answers_damage}
use Rattle.line_laws.specs.Along.{AreOfSession, KeepsSession}
use Rattle.line_laws.specs.Laws.{DamageIsGiven, IsOfOtherBytes, LegalIsKept}
use Rattle.headline.specs.Account.{Account, IsDeviceBehind, RunLogs, begun_in, sessions_begun}
use Rattle.headline.specs.Causes.{DamageWasGiven, WasGiven, WasKept}
use Rattle.account_laws.proofs.Along.{AreSeen, IsSeen, device_seen, reading_seen, run_length, run_seen}
use Rattle.run_laws.proofs.Brought.{kept_before}
use Rattle.account_laws.proofs.Lost.{LossAlong, damaged_by, loss_is_told}
use Rattle.account_laws.proofs.Places.{Found, OnSession, kind_of, told_line}
use Rattle.account_laws.proofs.Troubles.{answer_is, come, did_before, line_seen, seen_behind}

-- what a switch was told stands behind the calls of its step
behind_told : (later told made older : List Call) → later ++ ((told ++ made) ++ older) ≡ (later ++ told) ++ (made ++ older)
behind_told later told made older = ap (λ calls. later ++ calls) (append_assoc told made older) ∙ sym (append_assoc later told (made ++ older))

-- ---- lines of one session begin none

begun_none : (l : LineAnswer) → KeepsSession l → begun_in l ≡ 0
begun_none (line.Step s) keeps = rw keeps refl
begun_none line.Nothing keeps = refl
begun_none (line.Bad fault) keeps = refl

begun_before : (lines since : List (List ℕ)) → AreOfSession since → sessions_begun (lines ++ since) ≡ sessions_begun lines
begun_before [] [] same = refl
begun_before [] (bytes ∷ since) same = omega (arith, begun_none (reading_of bytes) same.0, begun_before [] since same.1)
begun_before (bytes ∷ lines) since same = omega (arith, begun_before lines since same)

-- ---- the record of damage

damage_record : (place : ℕ) (kept found : Digest) (r : Rec) → cause_given r ≡ Some (cause.Damaged place kept found) → (piece : PieceId) × (r ≡ rec.Damaged piece place kept found)
damage_record place kept found (rec.Damaged piece at k f) h = (piece, cc)
damage_record place kept found (rec.Displaced piece segment live) h = absurd cc
damage_record place kept found (rec.Fault count) h = absurd cc
damage_record place kept found _ h = none_is h

-- what holds of each line, and along lines
pub record OfDamage : Type 0 where
  pub traced : AnswersAreTraced
  pub given : DamageIsGiven
  pub stays : DamageStays
  pub legal : LegalIsKept
  pub unlike : NoneIsUnlike
  pub keep : ReadsKeep

-- the device gave such bytes, where a piece had been placed, or copied, with the digest that was kept
abbrev WasBacked : List Turn → List (List ℕ) → Device → ℕ → Digest → Digest → Type 0
WasBacked turns lines device place kept found =
    (given : WasGiven turns lines device place found) × (kept ≢ found)
    × WasKept given.earlier given.did.earlier given.did.turn place kept found

module _ (laws : OfDamage) (l : RunLogs) (a : Account l) (lines : List (List ℕ)) (asks : Step) (said : StepAnswer) (device : Device)
    (which : IsDeviceBehind l lines device)
    (f : Found fresh a.turns lines asks said (run_after fresh a.told a.turns)) (on : OnSession (run_after fresh lines f.earlier) f.turn (run_after fresh lines f.earlier).state asks)
    (piece : PieceId) (place : ℕ) (kept found : Digest) where
  -- the line itself told it
  by_line : IsAmong (rec.Damaged piece place kept found) f.turn.added → WasBacked a.turns lines device place kept found
  by_line among =
      let told = is_among (IsOfOtherBytes f.turn.device on.s) (rec.Damaged piece place kept found) f.turn.added
      (laws.given lines f.earlier on.s f.turn asks f.legal on.state on.takes) among in
      let seen = line_seen l a lines asks said f laws.stays device which on in (
        record {
          earlier = lines;
          since = [];
          are = sym (append-nil lines);
          same_session = tt;
          did = did_before l a lines asks said f;
          made = record {
            newer = seen.calls.later ++ f.turn.told;
            is = seen.calls.is ∙ behind_told seen.calls.later f.turn.told f.turn.device.events (run_after fresh lines f.earlier).calls;
          };
          s = on.s;
          session = on.state;
          given = told.0;
        },
        told.1,
        kept_before lines f.earlier on.s f.legal on.state laws.legal laws.unlike laws.keep f.turn asks on.takes piece place kept
            found among,
      )

  -- or an earlier one of the session did
  module _ (t : LossAlong (piece, cause.Damaged place kept found) fresh lines f.earlier) where
    abbrev Then : Run
    Then = run_after fresh t.before t.earlier

    abbrev Harmed : Harm
    Harmed = harm_in (calls_in t.turn ++ Then.calls) (after_all t.made.s t.turn.added)

    begun : sessions_begun t.before ≡ length Then.ended + 1
    begun =
        let all : length (harms_of Then) ≡ length (harms_of fresh) + sessions_begun t.before = run_length t.before t.earlier fresh t.legal in
        let here : length (harms_of Then) ≡ length (Then.ended ++ harm_in Then.calls t.made.s ∷ []) = ap (λ (o : Option State). length (Then.ended ++ harm_of Then.calls (at_hand o Then.last))) t.made.state in
        omega (arith, all, here, length-append Then.ended (harm_in Then.calls t.made.s ∷ []))

    same_device : IsDeviceBehind l t.before device
    same_device = record {
      earlier = which.earlier;
      later = which.later;
      returned = which.returned;
      which = sym (ap sessions_begun t.lines_are ∙ begun_before t.before (t.bytes ∷ t.later) t.same_session) ∙ which.which;
    }

    seen : IsSeen Harmed device
    seen =
        let ds = (come l a lines asks said f).devices in
        let before : AreSeen (harms_of (run_after fresh lines f.earlier)) ds =
        reading_seen laws.stays ds (run_after fresh lines f.earlier) f.turn (line.Step asks) f.takes
        (seen_behind l a lines asks said f laws.stays) in
        let behind : AreSeen (harms_of (after_line Then t.turn t.bytes)) ds =
        run_seen laws.stays ds t.later t.rest (after_line Then t.turn t.bytes) t.goes
        (subst (λ (run : Run). AreSeen (harms_of run) ds) t.ends before) in
        device_seen l (sessions_begun t.before) device Then.ended Harmed ds (come l a lines asks said f).returned (subst (λ (hs : List Harm). AreSeen hs ds) (ap harms_of t.made.next) behind) same_device begun

    by_earlier : WasBacked a.turns lines device place kept found
    by_earlier =
        let among : IsAmong (rec.Damaged piece place kept found) t.turn.added =
        subst (λ (r : Rec). IsAmong r t.turn.added) (damaged_by t.made.told piece place kept found t.made.tells) t.made.among in
        let told = is_among (IsOfOtherBytes t.turn.device t.made.s) (rec.Damaged piece place kept found) t.turn.added
        (laws.given t.before t.earlier t.made.s t.turn t.made.asks t.legal t.made.state t.made.takes) among in (
          record {
            earlier = t.before;
            since = t.bytes ∷ t.later;
            are = t.lines_are;
            same_session = t.same_session;
            did = record {
              earlier = t.earlier;
              turn = t.turn;
              later = t.rest ++ f.turn ∷ f.later;
              turns_are = f.turns_are ∙ (ap (λ (xs : List Turn). xs ++ f.turn ∷ f.later) t.turns_are ∙ append_assoc t.earlier (t.turn ∷ t.rest) (f.turn ∷ f.later));
              legal = t.legal;
            };
            made = record {
              newer = seen.calls.later ++ t.turn.told;
              is = seen.calls.is ∙ behind_told seen.calls.later t.turn.told t.turn.device.events (run_after fresh t.before t.earlier).calls;
            };
            s = t.made.s;
            session = t.made.state;
            given = told.0;
          },
          told.1,
          kept_before t.before t.earlier t.made.s t.legal t.made.state laws.legal laws.unlike laws.keep t.turn t.made.asks
              t.made.takes piece place kept found among,
        )

  by_lost : IsAmong (piece, cause.Damaged place kept found) on.s.lost → WasBacked a.turns lines device place kept found
  by_lost h = by_earlier (loss_is_told (piece, cause.Damaged place kept found) lines f.earlier on.s f.legal on.state h)

module _ (laws : OfDamage) (l : RunLogs) (a : Account l) (lines : List (List ℕ)) (asks : Step) (said : StepAnswer) (place : ℕ)
    (kept found : Digest) (device : Device) (which : IsDeviceBehind l lines device)
    (f : Found fresh a.turns lines asks said (run_after fresh a.told a.turns)) (on : OnSession (run_after fresh lines f.earlier) f.turn (run_after fresh lines f.earlier).state asks) where
  by_trace : IsTraced on.s f.turn.added (cause.Damaged place kept found) → WasBacked a.turns lines device place kept found
  by_trace (Causes.IsTraced.stands e) = no_truth (sym e)
  by_trace (Causes.IsTraced.lost piece h) = by_lost laws l a lines asks said device which f on piece place kept found h
  by_trace (Causes.IsTraced.recorded g) =
      let r = damage_record place kept found g.r g.gives in
      by_line laws l a lines asks said device which f on r.0 place kept found (subst (λ (x : Rec). IsAmong x f.turn.added) r.1 g.among)

pub damage_was_given : (laws : OfDamage) → DamageWasGiven
damage_was_given laws l a lines asks said place kept found device at names which =
    let f = told_line l a lines asks said at in
    let run : Run = run_after fresh lines f.earlier in
    elim (kind_of run f.turn asks f.takes) [
      | inl on ↦ by_trace laws l a lines asks said place kept found device which f on
          (laws.traced run on.s f.turn asks (cause.Damaged place kept found) on.takes
          (ap cause_answered (sym (answer_is l a lines asks said f on)) ∙ names))
      | inr other ↦ elim other [
        | inl on ↦ no_truth (sym (ap (λ (o : Option Cause). unwrap_or (option_map is_damage o) false) names) ∙ ap answers_damage (f.is ∙ on.said))
        | inr u ↦ no_truth (sym (ap (λ (o : Option Cause). unwrap_or (option_map is_damage o) false) names) ∙ (ap answers_damage f.is ∙ u.no_damage))
      ]
    ]
