-- Where the pieces that were lost went, record by record.
use Rattle.std.proofs.Common.{◌≡◌, List, [], ◌∷◌, ◌++◌, refl, sym, ap, inl, inr, ◌⊎◌}
use Rattle.std.specs.Prelude.{Some}
use Rattle.tape_base.specs.declared.pieces.PieceId.{PieceId}
use Rattle.cache_model.specs.declared.cause.Cause.{Cause}
use Rattle.cache_model.specs.declared.record.Rec.{Rec}
use Rattle.cache_model.specs.declared.record.Rec.TheVariants as rec
use Rattle.cache_model.specs.State.{State, after_all, state_after}
use Rattle.cache_model.specs.Permit.{IsAmong}
use Rattle.script_laws.specs.Causes
use Rattle.script_laws.specs.Causes.{IsGivenBy, IsTraced, cause_given}
use Rattle.script_laws.proofs.Among.{among_left, among_right}

-- ---- where a loss comes from

loss_by : (s : State) (r : Rec) (piece : PieceId) (why : Cause) → IsAmong (piece, why) (state_after s r).lost → IsAmong (piece, why) s.lost ⊎ (cause_given r ≡ Some why)
loss_by s (rec.Formatted geometry) piece why h = absurd h
loss_by s (rec.Opened geometry serial cursor floor next_put clean list) piece why h = absurd h
loss_by s (rec.Displaced id segment live) piece why h = elim h [ inl same ↦ inr (ap (λ (x : PieceId × Cause). Some x.1) (sym same)) | inr before ↦ inl before ]
loss_by s (rec.Damaged id place kept found) piece why h = elim h [ inl same ↦ inr (ap (λ (x : PieceId × Cause). Some x.1) (sym same)) | inr before ↦ inl before ]
loss_by s _ piece why h = inl h

given_by : (r : Rec) (recs : List Rec) (why : Cause) → cause_given r ≡ Some why → IsGivenBy (r ∷ recs) why
given_by r recs why e = record { r = r; among = inl refl; gives = e }

given_later : (r : Rec) (recs : List Rec) (why : Cause) → IsGivenBy recs why → IsGivenBy (r ∷ recs) why
given_later r recs why g = record { r = g.r; among = inr g.among; gives = g.gives }

losses_from : (s : State) (recs : List Rec) (piece : PieceId) (why : Cause) → IsAmong (piece, why) (after_all s recs).lost → IsAmong (piece, why) s.lost ⊎ IsGivenBy recs why
losses_from s [] piece why h = inl h
losses_from s (r ∷ recs) piece why h = elim (losses_from (state_after s r) recs piece why h) [
  | inl there ↦ elim (loss_by s r piece why there) [ inl before ↦ inl before | inr gives ↦ inr (given_by r recs why gives) ]
  | inr given ↦ inr (given_later r recs why given)
]

-- ---- traces among more records

pub given_left : (a b : List Rec) (why : Cause) → IsGivenBy a why → IsGivenBy (a ++ b) why
given_left a b why g = record { r = g.r; among = among_left g.r a b g.among; gives = g.gives }

pub given_right : (a b : List Rec) (why : Cause) → IsGivenBy b why → IsGivenBy (a ++ b) why
given_right a b why g = record { r = g.r; among = among_right g.r a b g.among; gives = g.gives }

pub traced_left : (s : State) (a b : List Rec) (why : Cause) → IsTraced s a why → IsTraced s (a ++ b) why
traced_left s a b why (Causes.IsTraced.stands e) = Causes.IsTraced.stands e
traced_left s a b why (Causes.IsTraced.lost piece h) = Causes.IsTraced.lost piece h
traced_left s a b why (Causes.IsTraced.recorded g) = Causes.IsTraced.recorded (given_left a b why g)

pub traced_right : (s : State) (a b : List Rec) (why : Cause) → IsTraced (after_all s a) b why → IsTraced s (a ++ b) why
traced_right s a b why (Causes.IsTraced.stands e) = Causes.IsTraced.stands e
traced_right s a b why (Causes.IsTraced.lost piece h) = elim (losses_from s a piece why h) [
  | inl before ↦ Causes.IsTraced.lost piece before
  | inr given ↦ Causes.IsTraced.recorded (given_left a b why given)
]
traced_right s a b why (Causes.IsTraced.recorded g) = Causes.IsTraced.recorded (given_right a b why g)
