-- Which words are a command, and what it asks for.
use Rattle.std.specs.Prelude.{◌==◌, ◌||◌, ◌-◌, ◌≤◌, nat_lt, ℕ, Bool, false, if◌then◌else◌, List, [], ◌∷◌, codes, Option, Some, None, map, option_map, option_and_then, string_bytes, ⊤}
use Rattle.std.specs.declared.string.String.{String}
use Rattle.std.specs.Str.{bytes_eq}
use Rattle.command_words.specs.declared.command.Command.{Command}
use Rattle.command_words.specs.declared.command.Command.TheVariants as command

-- What a command line asks for. Words and names are their bytes.
pub data Wish : Type 0 where
  help : Wish
  version : Wish
  replay : Wish
  work : (workers : ℕ) → Wish
  inspect : (name : List ℕ) → Wish
  check : (name : List ℕ) → Wish

abbrev pub wish_of : Command → Wish
wish_of command.Help = help
wish_of command.Version = version
wish_of command.Replay = replay
wish_of (command.Work workers) = work workers
wish_of (command.Inspect name) = inspect name.now
wish_of (command.Check name) = check name.now

-- no more workers than there may be
abbrev pub HasFewWorkers : Command → Type 0
HasFewWorkers (command.Work workers) = workers ≤ 16
HasFewWorkers _ = ⊤

-- ---- the parameters behind a command's word

-- the word is `--`
abbrev pub is_dashes : List ℕ → Bool
is_dashes w = bytes_eq w (codes "--")

-- the word begins with `-` (45) and is not `-` alone
abbrev pub is_flag : List ℕ → Bool
is_flag [] = false
is_flag (c ∷ []) = false
is_flag (c ∷ d ∷ rest) = c == 45

-- The first `--` is passed over. A word before it that is a flag is no parameter; behind it each word is one as it stands.
abbrev pub params : List (List ℕ) → Option (List (List ℕ))
params [] = Some []
params (w ∷ ws) = if is_dashes w then Some ws else (if is_flag w then None else option_map (λ ps. w ∷ ps) (params ws))

-- ---- commands

pub data CommandVerb : Type 0 where
  replays : CommandVerb
  works : CommandVerb
  inspects : CommandVerb
  checks : CommandVerb

abbrev pub command_verb : List ℕ → Option CommandVerb
command_verb w = if bytes_eq w (codes "replay") then Some replays
    else (if bytes_eq w (codes "work") then Some works
    else (if bytes_eq w (codes "inspect") then Some inspects
    else (if bytes_eq w (codes "check") then Some checks
    else None)))

-- the name of a device: any word but the empty one
abbrev pub name_in : List ℕ → Option (List ℕ)
name_in [] = None
name_in (c ∷ cs) = Some (c ∷ cs)

-- how many workers: 1 to 16, in digits, with no sign and no zero before them
abbrev pub workers_in : List ℕ → Option ℕ
workers_in (c ∷ []) = if nat_lt c 49 || nat_lt 57 c then None else Some (c - 48)
workers_in (c ∷ d ∷ []) = if nat_lt d 48 || nat_lt 54 d then None else (if c == 49 then Some (d - 38) else None)
workers_in _ = None

-- what a command of one parameter asks for
abbrev pub wish_of_one : CommandVerb → List ℕ → Option Wish
wish_of_one replays p = None
wish_of_one works p = option_map (λ n. work n) (workers_in p)
wish_of_one inspects p = option_map (λ n. inspect n) (name_in p)
wish_of_one checks p = option_map (λ n. check n) (name_in p)

-- what a command asks for with these parameters
abbrev pub wish_by : CommandVerb → List (List ℕ) → Option Wish
wish_by replays [] = Some replay
wish_by verb (p ∷ []) = wish_of_one verb p
wish_by verb ps = None

-- a command's word stands first, its parameters behind it
abbrev pub command_of : List (List ℕ) → Option Wish
command_of [] = None
command_of (w ∷ ws) = option_and_then (λ verb. option_and_then (wish_by verb) (params ws)) (command_verb w)

-- ---- flags that stand alone

abbrev pub flag_wish : List ℕ → Option Wish
flag_wish w = if bytes_eq w (codes "--help") || bytes_eq w (codes "-h") then Some help
    else (if bytes_eq w (codes "--version") || bytes_eq w (codes "-V") then Some version else None)

abbrev pub lone_wish : List (List ℕ) → Option Wish
lone_wish [] = None
lone_wish (w ∷ []) = flag_wish w
lone_wish (w ∷ v ∷ ws) = None

abbrev pub first_wish : Option Wish → Option Wish → Option Wish
first_wish (Some wish) next = Some wish
first_wish None next = next

-- what the words ask for, where they are a command
abbrev pub asked_of : List (List ℕ) → Option Wish
asked_of ws = first_wish (lone_wish ws) (command_of ws)

-- what these texts ask for
abbrev pub asked_in_words : {A : Type 0} → List (String A) → Option Wish
asked_in_words words = asked_of (map string_bytes words)

-- memory may be wanted to read words that ask for this: a flag that stands alone takes none
abbrev pub MayWantMemory : Option Wish → Type 0
MayWantMemory (Some help) = ⊥
MayWantMemory (Some version) = ⊥
MayWantMemory _ = ⊤
