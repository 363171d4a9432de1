-- Where memory is wanting.
use Rattle.std.proofs.Common.{◌≡◌}
use Rattle.std.specs.Prelude.{Result, Ok, Err, IfOk, OnErr}

-- nothing is asked of what was not answered
pub nothing_answered : {X E : Type 0} (result : Result X E) (P : X → Type 0) (e : E) → result ≡ Err e → IfOk result P
nothing_answered (Ok x) P e wanting = cc
nothing_answered (Err d) P e wanting = tt

-- what holds anyway holds there
pub holds_anyway : {X E : Type 0} (result : Result X E) (P : Type 0) → P → OnErr result P
holds_anyway (Ok x) P h = tt
holds_anyway (Err e) P h = h
