-- What the matches of a subcommand say of its name and of its rows, together.
use Rattle.std.proofs.Common.{◌≡◌, ap₂, refl, List, Option, Some, None}
use Rattle.std.specs.Prelude.{option_map}
use Rattle.clap.specs.Words.{Row, Text}

pub paired : {X : Type 0} (f : X → Text × List Row) (s : Option X) (t : Text) (rows : List Row)
    → Some t ≡ option_map (λ x. (f x).0) s → Some rows ≡ option_map (λ p. p.1) (option_map f s) → Some (t, rows) ≡ option_map f s
paired f None t rows name is = cc
paired f (Some x) t rows name is =
    let first : t ≡ (f x).0 = cc in
    let rest : rows ≡ (f x).1 = cc in
    ap₂ (λ (a : Text) (b : List Row). Some (a, b)) first rest

pub unpaired : {X Y Z : Type 0} (f : X → Y) (g : X → Z) (s : Option X) → None ≡ option_map g s → None ≡ option_map f s
unpaired f g None e = refl
unpaired f g (Some x) e = cc
