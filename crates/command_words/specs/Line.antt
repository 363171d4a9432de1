-- The commands as `clap` is told them, and what its matches ask for.
use Rattle.std.specs.Prelude.{Bool, true, false, if◌then◌else◌, List, [], ◌∷◌, codes, Option, Some, None, option_and_then}
use Rattle.clap.specs.Walk.{Row, Rule, Text, first_of}
use Rattle.clap.specs.Simple.{App, Shape, new_app, new_rule, on_top, subcommand_of, with_rule, with_subcommand}
use Rattle.clap.specs.Kinds.{Kinds}
use Rattle.clap.specs.Faults.{fault_of}
use Rattle.command_words.specs.Words.{CommandVerb, Wish, replay, replays, command_verb, wish_of_one}

-- a parameter that has to be given
abbrev pub given : Text → Rule
given id = record (new_rule id) { required = true }

-- a command that takes one parameter
abbrev pub one_app : Text → App
one_app verb = with_rule (new_app verb) (given (codes "parameter"))

-- no help of clap's own, and the first word is a command's
abbrev pub settings : Shape → Shape
settings s = record s {
  no_binary_name = true;
  disable_help_flag = true;
  disable_help_subcommand = true;
  subcommand_required = true;
}

abbrev pub bare_app : App
bare_app = on_top settings (new_app (codes "cache_tool"))

abbrev pub with_command : App → App → App
with_command above command = with_subcommand above command.top

-- all commands
abbrev pub command_app : App
command_app = with_command (with_command (with_command (with_command bare_app (new_app (codes "replay"))) (one_app (codes "work"))) (one_app (codes "inspect"))) (one_app (codes "check"))

-- no kind of fault
abbrev pub is_taken : Kinds → Bool
is_taken [] = true
is_taken (k ∷ ks) = false

-- what `clap` makes of the words, where it refuses none
abbrev pub told_by_clap : List Text → Option (Option (Text × List Row))
told_by_clap words = if is_taken (fault_of command_app words) then Some (subcommand_of command_app words) else None

-- the parameter that these matches have
abbrev pub parameter_among : List Row → Option Text
parameter_among rows = first_of (codes "parameter") rows

-- what a command with these matches asks for
abbrev pub wish_with : CommandVerb → List Row → Option Wish
wish_with replays rows = Some replay
wish_with verb rows = option_and_then (wish_of_one verb) (parameter_among rows)

abbrev pub wish_in : Text × List Row → Option Wish
wish_in p = option_and_then (λ verb. wish_with verb p.1) (command_verb p.0)

abbrev pub wish_among : Option (Text × List Row) → Option Wish
wish_among o = option_and_then wish_in o
