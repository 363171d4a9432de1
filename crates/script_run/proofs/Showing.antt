-- Two documents of one SHA-256 are shown alike by streams of the same bytes.
use Rattle.std.proofs.Common.{◌≡◌, ℕ, List, [], ◌∷◌, refl, sym, ◌∙◌, ap, Bool, true, false}
use Rattle.std.specs.Prelude.{if◌then◌else◌, ◌==◌}
use Rattle.cache_model.specs.State.{State, after_all}
use Rattle.cache_model.specs.declared.record.Rec.{Rec}
use Rattle.cache_model.specs.Pair.{IsPairNext, ShowsFrom}
use Rattle.cache_model.specs.Permit.{Permit, Intent, Work}
use Rattle.step_laws.proofs.Pairs.{also_shows}
use Rattle.script_run.specs.Run.{Stream, with_value}
use Rattle.script_run.proofs.Saying.{Kind, SameBytes}
use Rattle.script_run.proofs.Values.{value_by}

pub shown_as : (kind : Kind) (p : Permit) (a b : ℕ → Stream) (s : State) (w : Work) (added : List Rec) → SameBytes a b → ShowsFrom (kind.documents a) p s w added → ShowsFrom (kind.documents b) p s w added
shown_as kind p a b s w added same v = also_shows (kind.documents a) (kind.documents b) (kind.alike a b same) p s w added v

-- where nothing was placed as a document no pair is shown
none_next : (p : Permit) (s : State) (intents : List Intent) → IsPairNext (λ t row document. ⊥) p s intents → ⊥
none_next p s [] pair = pair
none_next p s (i ∷ intents) pair = pair.pair.placed

pub none_shown : (p : Permit) (s : State) (w : Work) (added : List Rec) → ShowsFrom (λ t row document. ⊥) p s w added → ⊥
none_shown p s w added v = none_next p (after_all s v.before) v.left.intents v.pair

-- ---- where one writer is told otherwise

pub same_with : (a : ℕ → Stream) (put : ℕ) (x : Stream) → x.bytes ≡ (a put).bytes → SameBytes (with_value a put x) a
same_with a put x same m = value_by (λ (y : Stream). y.bytes ≡ (a m).bytes) x (a m) m put (λ e. same ∙ ap (λ k. (a k).bytes) (sym e)) (λ other. refl)

both_by : (x y z : Stream) (b : Bool) → x.bytes ≡ y.bytes → (if b then x else z).bytes ≡ (if b then y else z).bytes
both_by x y z true same = same
both_by x y z false same = refl

pub same_instead : (a : ℕ → Stream) (put : ℕ) (x y : Stream) → x.bytes ≡ y.bytes → SameBytes (with_value a put x) (with_value a put y)
same_instead a put x y same m = both_by x y (a m) (m == put) same
