-- The reads and writes of calls, and of more calls behind them.
use Rattle.std.proofs.Common.{◌≡◌, List, [], ◌∷◌, ◌++◌, sym, ◌∙◌, ap, append_assoc, append-nil, refl}
use Rattle.std.specs.Prelude.{◌||◌}
use Rattle.device_log.specs.Streams.{SourceRead, GaveBytes, CameToEnd, RefusedRead, SinkWrite, TookBytes, RefusedWrite, given_by, has_ended, taken_by}

pub given_more : (newer older : List SourceRead) → given_by (newer ++ older) ≡ given_by older ++ given_by newer
unfolding given_by
given_more [] older = sym (append-nil (given_by older))
given_more (GaveBytes bytes ∷ newer) older = ap (λ l. l ++ bytes) (given_more newer older) ∙ append_assoc (given_by older) (given_by newer) bytes
given_more (CameToEnd ∷ newer) older = given_more newer older
given_more (RefusedRead count ∷ newer) older = given_more newer older

pub ended_more : (newer older : List SourceRead) → has_ended (newer ++ older) ≡ (has_ended newer || has_ended older)
unfolding has_ended
ended_more [] older = refl
ended_more (GaveBytes bytes ∷ newer) older = ended_more newer older
ended_more (CameToEnd ∷ newer) older = refl
ended_more (RefusedRead count ∷ newer) older = ended_more newer older

pub taken_more : (newer older : List SinkWrite) → taken_by (newer ++ older) ≡ taken_by older ++ taken_by newer
unfolding taken_by
taken_more [] older = sym (append-nil (taken_by older))
taken_more (TookBytes bytes ∷ newer) older = ap (λ l. l ++ bytes) (taken_more newer older) ∙ append_assoc (taken_by older) (taken_by newer) bytes
taken_more (RefusedWrite front count ∷ newer) older = ap (λ l. l ++ front) (taken_more newer older) ∙ append_assoc (taken_by older) (taken_by newer) front
