-- When a put can be opened, as the records say it.
use Rattle.std.proofs.Common.{◌≡◌, ◌+◌, ◌<◌, ◌≤◌, length, ap, ◌∙◌, arith}
use Rattle.std.specs.Prelude.{List}
use Rattle.open_directory.specs.declared.kept.Writer.{Writer}
use Rattle.cache_model.specs.State.{State}
use Rattle.cache_model.specs.Legal.{open_writers}
use Rattle.cache_model.specs.Room.{limit}
use Rattle.stripe_actors.specs.Actors.{ActorsSeen, AreActors}
use Rattle.stripe_actors.specs.Calls.{HasPutNumber, IsExhausted}
use Rattle.stripe_actors.proofs.Rows.{length-writers}

pub writers_counted : (s : State) (a : ActorsSeen) → AreActors s a → length a.held.writers ≡ open_writers s
writers_counted s a h = ap (λ (ws : List Writer). length ws) h.writers ∙ length-writers s.puts

-- what the actors count is what the state says
counted_now : (s : State) (now here : ActorsSeen) → here ≡ now → AreActors s now → length here.held.writers ≡ open_writers s
counted_now s now here e h = ap (λ (a : ActorsSeen). length a.held.writers) e ∙ writers_counted s now h

next_now : (s : State) (now here : ActorsSeen) → here ≡ now → AreActors s now → here.next_put ≡ s.next_put
next_now s now here e h = ap (λ (a : ActorsSeen). a.next_put) e ∙ h.next_put

pub many_writers : (s : State) (now here : ActorsSeen) → here ≡ now → AreActors s now → length here.held.writers ≡ 64 → 64 ≤ open_writers s
many_writers s now here e h all = let counted : length here.held.writers ≡ open_writers s = counted_now s now here e h in omega arith

pub has_number : (s : State) (now here : ActorsSeen) → here ≡ now → AreActors s now → length here.held.writers < 64 → here.next_put + 1 < limit → HasPutNumber s
has_number s now here e h few below =
    let counted : length here.held.writers ≡ open_writers s = counted_now s now here e h in
    let next : here.next_put ≡ s.next_put = next_now s now here e h in
    record { few = omega arith; below = omega arith }

pub is_exhausted : (s : State) (now here : ActorsSeen) → here ≡ now → AreActors s now → length here.held.writers < 64 → limit ≤ here.next_put + 1 → IsExhausted s (here.next_put + 1)
is_exhausted s now here e h few above =
    let counted : length here.held.writers ≡ open_writers s = counted_now s now here e h in
    let next : here.next_put ≡ s.next_put = next_now s now here e h in
    record { few = omega arith; above = above; next = omega arith }
