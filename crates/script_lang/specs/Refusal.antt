-- What a call that may want memory reads, against what stands there.
use Rattle.std.specs.Prelude.{◌≡◌, ⊤, Result, Ok, Err, MatchResult}
use Rattle.script_grammar.specs.declared.line.BadLine.{BadLine}
use Rattle.script_lang.specs.declared.tokens.Refusal.{Refusal}
use Rattle.script_lang.specs.declared.tokens.Refusal.TheVariants.{Bad, Memory}

-- a fault is the one that stands there; nothing is said of want of memory
abbrev pub IsFaultOf : {A : Type 0} → Result A BadLine → Refusal → Type 0
IsFaultOf want (Bad fault) = want ≡ Err fault
IsFaultOf want (Memory error) = ⊤

-- the value is the one that stands there, and so is the fault
abbrev pub ReadsValue : {A : Type 0} → Result A BadLine → Result A Refusal → Type 0
ReadsValue want result = MatchResult result (λ value. want ≡ Ok value) (IsFaultOf want)

-- what a call made in place is what stands there, and so is the fault
abbrev pub AddsValue : {A : Type 0} → Result A BadLine → Result Unit Refusal → A → Type 0
AddsValue want result new = MatchResult result (λ done. want ≡ Ok new) (IsFaultOf want)

-- what stands next was taken, with what is left behind it, and so is the fault
abbrev pub TakesValue : {A B : Type 0} → Result (A × B) BadLine → Result A Refusal → B → Type 0
TakesValue want result left = MatchResult result (λ value. want ≡ Ok (value, left)) (IsFaultOf want)
