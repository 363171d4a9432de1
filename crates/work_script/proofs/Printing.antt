-- The lines of turns go out one behind the other.
use Rattle.std.proofs.Common.{◌≡◌, ℕ, suc, ◌+◌, List, [], ◌∷◌, ◌++◌, length, Err, refl, sym, ◌∙◌, ap, subst, arith, append_assoc, append-nil, length-append}
use Rattle.device_log.specs.Streams.{SinkWrite}
use Rattle.run_promise.specs.Story.{SendsFront, SinkTook}
use Rattle.run_script.specs.declared.run.Ending.{Ending}
use Rattle.run_script.specs.declared.run.Ending.TheVariants as ending
use Rattle.run_script.proofs.Halts.{Took-nothing, Took-trans, Took-kept, front_more}
use Rattle.work_script.specs.Turns.{WorkTurn, turn_text, turn_texts}
use Rattle.work_script.specs.Printing.{PrintsTurns, WritesText}

texts_more : (n : ℕ) (turns : List WorkTurn) (t : WorkTurn) → turn_texts n (turns ++ t ∷ []) ≡ turn_texts n turns ++ turn_text (n + length turns) t
texts_more n [] t = let same : n ≡ n + 0 = omega arith in append-nil (turn_text n t) ∙ ap (λ (m : ℕ). turn_text m t) same
texts_more n (u ∷ turns) t =
    let same : n + 1 + length turns ≡ n + suc (length turns) = omega arith in
    ap (λ l. turn_text n u ++ l) (texts_more (n + 1) turns t ∙ ap (λ (m : ℕ). turn_texts (n + 1) turns ++ turn_text m t) same)
    ∙ sym (append_assoc (turn_text n u) (turn_texts (n + 1) turns) (turn_text (n + suc (length turns)) t))

-- so many of them went out, and these are left
pub record Printed (old now : List SinkWrite) (turns left : List WorkTurn) (count : ℕ) : Type 0 where
  pub earlier : List WorkTurn
  pub is : turns ≡ earlier ++ left
  pub counted : count ≡ length earlier
  pub sent : SinkTook old now (turn_texts 1 earlier)

module _ (old now new : List SinkWrite) (turns left : List WorkTurn) (t : WorkTurn) (count : ℕ) (p : Printed old now turns (t ∷ left) count) where
  same_text : turn_text (count + 1) t ≡ turn_text (1 + length p.earlier) t
  same_text = let same : count + 1 ≡ 1 + length p.earlier = omega (arith, p.counted) in ap (λ (m : ℕ). turn_text m t) same

  pub printed_more : SinkTook now new (turn_text (count + 1) t) → Printed old new turns left (count + 1)
  printed_more took = record {
    earlier = p.earlier ++ t ∷ [];
    is = p.is ∙ sym (append_assoc p.earlier (t ∷ []) left);
    counted = omega (arith, p.counted, length-append p.earlier (t ∷ []));
    sent = subst (λ l. SinkTook old new l) (ap (λ l. turn_texts 1 p.earlier ++ l) same_text ∙ sym (texts_more 1 p.earlier t)) (Took-trans old now new (turn_texts 1 p.earlier) (turn_text (count + 1) t) p.sent took);
  }

  pub printed_ends : (T : Type 0) (e : Ending) → WritesText {T = T} now new (turn_text (count + 1) t) (Err e) → PrintsTurns {T = T} old new turns (Err e)
  printed_ends T ending.Done w = absurd w
  printed_ends T (ending.Stopped why) w = absurd w
  printed_ends T ending.WriteFault w = record {
    earlier = p.earlier;
    turn = t;
    later = left;
    is = p.is;
    cut = let same : count + 1 ≡ length p.earlier + 1 = omega (arith, p.counted) in
        front_more old now new (turn_texts 1 p.earlier) (turn_text (length p.earlier + 1) t) p.sent (subst (λ (m : ℕ). SendsFront now new [] (turn_text m t)) same w);
  }
  printed_ends T ending.OutOfMemory w = record { earlier = p.earlier; turn = t; later = left; is = p.is; sent = Took-kept old now new (turn_texts 1 p.earlier) p.sent w }

pub printed_none : (old : List SinkWrite) (turns : List WorkTurn) → Printed old old turns turns 0
printed_none old turns = record { earlier = []; is = refl; counted = refl; sent = Took-nothing old }

pub printed_all : (old now : List SinkWrite) (turns : List WorkTurn) (count : ℕ) → Printed old now turns [] count → SinkTook old now (turn_texts 1 turns)
printed_all old now turns count p = subst (λ (l : List WorkTurn). SinkTook old now (turn_texts 1 l)) (sym (p.is ∙ append-nil p.earlier)) p.sent
