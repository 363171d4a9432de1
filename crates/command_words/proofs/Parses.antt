-- What a parse says of the words, by its two clauses.
use Rattle.std.proofs.Common.{◌≡◌, ◌∙◌, ◌⊎◌, true, refl, sym, ap, subst, List, [], ◌∷◌, Option, Some, None, Result, Ok, Err, MatchResult, IfOk, inl, inr}
use Rattle.std.specs.Prelude.{if◌then◌else◌}
use Rattle.clap.specs.Words.{App, FailsBy, HasKind, HasMatchesOf, Kinds, Row, Text, fault_of, is_simple_and_free, kind_of, subcommand_of, subcommand_rows_of}
use Rattle.clap.specs.declared.parser.matches.ArgMatches.{ArgMatches}
use Rattle.clap.specs.declared.error.Error.{Error}
use Rattle.clap.specs.declared.error.kind.ErrorKind.TheVariants.{OutOfMemory}
use Rattle.command_words.specs.Line.{is_taken, command_app, told_by_clap}

abbrev pub Told : List Text → Result ArgMatches Error → Type 0
Told words r = MatchResult r (λ m. Some (subcommand_rows_of m) ≡ told_by_clap words) (λ e. (kind_of e ≡ OutOfMemory) ⊎ (None ≡ told_by_clap words))

abbrev told_by : Kinds → Option (Text × List Row) → Option (Option (Text × List Row))
told_by kinds sub = if is_taken kinds then Some sub else None

refused : (kinds : Kinds) (sub : Option (Text × List Row)) (e : Error) → HasKind kinds e → (kind_of e ≡ OutOfMemory) ⊎ (None ≡ told_by kinds sub)
refused kinds sub e (inl memory) = inl memory
refused [] sub e (inr among) = absurd among
refused (k ∷ ks) sub e (inr among) = let none : None ≡ told_by (k ∷ ks) sub = refl in inr none

by_line : (words : List Text) (r : Result ArgMatches Error) → IfOk r (HasMatchesOf command_app words) → FailsBy (fault_of command_app words) r → Told words r
by_line words (Ok m) matches fails = ap Some (matches refl).1 ∙ sym (ap (λ k. told_by k (subcommand_of command_app words)) fails)
by_line words (Err e) matches fails = refused (fault_of command_app words) (subcommand_of command_app words) e fails

pub parsed : (app : App) → app ≡ command_app → (words : List Text) (r : Result ArgMatches Error) → IfOk r (HasMatchesOf app words)
    → (is_simple_and_free app ≡ true → FailsBy (fault_of app words) r) → Told words r
parsed app is words r matches kinds =
    by_line words r (subst (λ (a : App). IfOk r (HasMatchesOf a words)) is matches)
    (subst (λ (a : App). is_simple_and_free a ≡ true → FailsBy (fault_of a words) r) is kinds refl)

-- a refusal that is not want of memory is one of the words
pub told_none : (words : List Text) (e : Error) → Told words (Err e) → (kind_of e ≡ OutOfMemory → ⊥) → None ≡ told_by_clap words
told_none words e (inl memory) other = absurd (other memory)
told_none words e (inr none) other = none
