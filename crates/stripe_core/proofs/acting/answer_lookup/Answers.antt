use Rattle.std.proofs.Common.{sym, ◌∙◌, subst}
use Rattle.cache_model.specs.declared.record.Rec.TheVariants as rec
use Rattle.cache_model.specs.State.{state_after}
use Rattle.stripe_actors.specs.Actors.{AreActors}
use Rattle.stripe_actors.proofs.Telling.{writing_is_open}
use Rattle.stripe_answers.specs.Acts.{IsFollowable}
use Rattle.piece_answers.proofs.Results.{if_ok_map}
use Rattle.stripe_core.proofs.acting.answer_lookup.Goals as goal

pub returns-in-Hit-clause-keeps : goal.returns-in-Hit-clause-keeps
returns-in-Hit-clause-keeps c =
    if_ok_map c.open_reader.result _ _
    (λ reader o s who key request f a.
    subst (λ answer. AreActors (state_after s (rec.ReadOpened reader who key request answer)) c.open_reader.new.self) (sym c.in-Hit.is) (o.hit who key request s a))
    c.open_reader.ensures.ok

pub returns-in-Follow-clause-keeps : goal.returns-in-Follow-clause-keeps
returns-in-Follow-clause-keeps c =
    if_ok_map c.open_reader-in-Follow.result _ _
    (λ reader o s who key request f a.
    subst (λ answer. AreActors (state_after s (rec.ReadOpened reader who key request answer)) c.open_reader-in-Follow.new.self) (sym c.in-Follow.is)
    (o.follow (writing_is_open s c.args.actors.now a c.in-Follow.put ∙ subst (IsFollowable s) c.in-Follow.is f) who key request s a))
    c.open_reader-in-Follow.ensures.ok

pub returns-in-Miss-clause-keeps : goal.returns-in-Miss-clause-keeps
returns-in-Miss-clause-keeps c = λ s who key request f a.
    subst (λ answer. AreActors (state_after s (rec.ReadOpened c.miss.result who key request answer)) c.miss.new.self) (sym c.in-Miss.is) (c.miss.ensures.misses.missed who key request c.in-Miss.field-0 s a)
