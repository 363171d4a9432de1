-- The first word of a line, which says what kind of step it is.
use Rattle.std.specs.Prelude.{ℕ, Bool, nat_eq, if◌then◌else◌, List, codes, Option, Some, None}
use lib.Pointwise.{pointwise}
use Rattle.script_grammar.specs.declared.verb.Verb.{Verb}
use Rattle.script_grammar.specs.declared.verb.Verb.TheVariants as verb

-- byte by byte and to the same length: case counts
abbrev pub same_word : List ℕ → List ℕ → Bool
same_word a b = pointwise nat_eq a b

-- the verb that a word is
unfoldable pub verb_of : List ℕ → Option Verb
verb_of word =
    if same_word word (codes "format") then Some verb.Format
    else if same_word word (codes "put") then Some verb.Put
    else if same_word word (codes "get") then Some verb.Get
    else if same_word word (codes "open-write") then Some verb.OpenWrite
    else if same_word word (codes "data") then Some verb.Data
    else if same_word word (codes "close") then Some verb.Close
    else if same_word word (codes "abort") then Some verb.Abort
    else if same_word word (codes "open-read") then Some verb.OpenRead
    else if same_word word (codes "next") then Some verb.Next
    else if same_word word (codes "done") then Some verb.Done
    else if same_word word (codes "remove") then Some verb.Remove
    else if same_word word (codes "flush") then Some verb.Flush
    else if same_word word (codes "now") then Some verb.Now
    else if same_word word (codes "fail") then Some verb.Fail
    else if same_word word (codes "stop-after") then Some verb.StopAfter
    else if same_word word (codes "flip") then Some verb.Flip
    else if same_word word (codes "cut") then Some verb.Cut
    else None
