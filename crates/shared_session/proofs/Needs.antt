-- Steps that work on a session need one.
use Rattle.std.proofs.Common.{◌≡◌, ℕ, Bool, true, false, cond, List, refl, subst}
use Rattle.device_log.specs.declared.choice.CutChoice.{CutChoice}
use Rattle.script_grammar.specs.declared.step.Step.{Step}
use Rattle.script_grammar.specs.declared.step.Step.TheVariants as step
use Rattle.script_run.specs.Switch.{is_of_switch}
use Rattle.run_promise.specs.Needs.{NeedsSession}
use Rattle.shared_session.specs.Steps.{is_on_session}

no_lie : {Y : Type 0} → false ≡ true → Y
no_lie e = absurd (subst (λ (b : Bool). cond b ⊥ (Unit {0})) e tt)

pub needs_of : (s : Step) → is_on_session s ≡ true → NeedsSession s
needs_of (step.Format name segments buckets content agg reach fragment generation alternates) e = no_lie e
needs_of (step.Now at) e = no_lie e
needs_of (step.Fail nth) e = no_lie e
needs_of (step.StopAfter calls) e = no_lie e
needs_of (step.Flip place byte) e = no_lie e
needs_of (step.Cut choice) e = no_lie e
needs_of _ e = tt

-- and are not for its device's switch
pub not_of_switch : (s : Step) → is_on_session s ≡ true → is_of_switch s ≡ false
not_of_switch (step.Fail nth) e = no_lie e
not_of_switch (step.StopAfter calls) e = no_lie e
not_of_switch (step.Flip place byte) e = no_lie e
not_of_switch (step.Cut choice) e = no_lie e
not_of_switch _ e = refl

pub is_on : (s : Step) → ((name : List ℕ) (segments buckets content agg reach fragment generation alternates : ℕ)
    → s ≡ step.Format name segments buckets content agg reach fragment generation alternates → ⊥) → ((at : ℕ) → s ≡ step.Now at → ⊥)
    → ((nth : ℕ) → s ≡ step.Fail nth → ⊥) → ((calls : ℕ) → s ≡ step.StopAfter calls → ⊥) → ((place byte : ℕ) → s ≡ step.Flip place byte → ⊥)
    → ((choice : CutChoice) → s ≡ step.Cut choice → ⊥) → is_on_session s ≡ true
is_on (step.Format name segments buckets content agg reach fragment generation alternates) h k f c b p =
    absurd (h name segments buckets content agg reach fragment generation alternates refl)
is_on (step.Now at) h k f c b p = absurd (k at refl)
is_on (step.Fail nth) h k f c b p = absurd (f nth refl)
is_on (step.StopAfter calls) h k f c b p = absurd (c calls refl)
is_on (step.Flip place byte) h k f c b p = absurd (b place byte refl)
is_on (step.Cut choice) h k f c b p = absurd (p choice refl)
is_on _ h k f c b p = refl
