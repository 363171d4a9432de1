-- Records that leave the puts as they were.
use Rattle.std.proofs.Common.{◌≡◌, List, [], ◌∷◌, refl, ◌∙◌}
use Rattle.cache_model.specs.declared.record.Rec.{Rec}
use Rattle.cache_model.specs.declared.record.Rec.TheVariants as rec
use Rattle.cache_model.specs.State.{State, after_all, state_after}
use Rattle.cache_model.specs.Subjects.{IsOfFlush}
use Rattle.piece_answers.specs.Flush.{AreOfFlush}

-- the geometry and the puts are the same
pub record SamePuts (s t : State) : Type 0 where
  pub geometry : t.geometry ≡ s.geometry
  pub pending : t.pending ≡ s.pending
  pub puts : t.puts ≡ s.puts
  pub next_put : t.next_put ≡ s.next_put

puts_after : (s : State) (r : Rec) → IsOfFlush r → SamePuts s (state_after s r)
puts_after s (rec.Began cursor floor) h = record { geometry = refl; pending = refl; puts = refl; next_put = refl }
puts_after s (rec.Moved piece from place digest) h = record { geometry = refl; pending = refl; puts = refl; next_put = refl }
puts_after s (rec.Unsaved piece place fault) h = record { geometry = refl; pending = refl; puts = refl; next_put = refl }
puts_after s (rec.Damaged piece place kept found) h = record { geometry = refl; pending = refl; puts = refl; next_put = refl }
puts_after s (rec.Fault count) h = record { geometry = refl; pending = refl; puts = refl; next_put = refl }
puts_after s _ h = absurd h

-- a flush leaves them
pub same_puts : (s : State) (recs : List Rec) → AreOfFlush recs → SamePuts s (after_all s recs)
same_puts s [] all = record { geometry = refl; pending = refl; puts = refl; next_put = refl }
same_puts s (r ∷ recs) all =
    let first : SamePuts s (state_after s r) = puts_after s r all.0 in
    let rest : SamePuts (state_after s r) (after_all (state_after s r) recs) = same_puts (state_after s r) recs all.1 in
    record { geometry = rest.geometry ∙ first.geometry; pending = rest.pending ∙ first.pending; puts = rest.puts ∙ first.puts; next_put = rest.next_put ∙ first.next_put }
