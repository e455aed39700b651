-- What a content must be for its bytes to be a file that is accepted.
use Rattle.std.specs.Prelude.{ℕ, ◌≤◌, ◌<◌, ◌≡◌, List, [], ◌∷◌, length}
use Rattle.format.specs.Keys.{order}
use Rattle.format.specs.Content.{Pair, Map, Content, bytes}
use Rattle.format.specs.Reading.{limit, FieldRule, Version, two}
use Rattle.format.specs.Answers.{passed}
use Rattle.std.specs.declared.cmp.Ordering.TheVariants.{Less}
use Rattle.format.proofs.Numbers.{All}
use Rattle.format.proofs.Compact.{Spells}

-- a pair's lengths are spelled by their bytes, and its key is not empty
pub record Framed (p : Pair) : Type 0 where
  pub klen : Spells p.klen (length p.key)
  pub vlen : Spells p.vlen (length p.value)
  pub some : 0 < length p.key

-- the keys of pairs behind the key `last` strictly rise
abbrev pub Rises : List ℕ → List Pair → Type 0
Rises last [] = Unit {0}
Rises last (p ∷ ps) = (order last p.key ≡ Less) × Rises p.key ps

-- the keys of each map strictly rise
pub record RisesFile (c : Content) : Type 0 where
  pub global : Rises [] c.global.pairs
  pub ins : All (λ (m : Map). Rises [] m.pairs) c.ins
  pub outs : All (λ (m : Map). Rises [] m.pairs) c.outs

-- a pair keeps a field rule
abbrev pub Keeps : FieldRule → Pair → Type 0
Keeps ρ p = ρ p.key p.value ≡ passed

-- pairs behind the key `last` in a map of field rule ρ: framed, rising, each keeping its rule
pub record Fine (ρ : FieldRule) (last : List ℕ) (ps : List Pair) : Type 0 where
  pub framed : All Framed ps
  pub rises : Rises last ps
  pub keeps : All (Keeps ρ) ps

-- a map of field rule ρ: fine pairs, and an end that spells 0
pub record FineMap (ρ : FieldRule) (m : Map) : Type 0 where
  pub pairs : Fine ρ [] m.pairs
  pub end : Spells m.end 0

-- a file of a version: fine maps as many as it counts, the version's early and late rules kept, not too long
pub record FineOf (v : Version) (c : Content) : Type 0 where
  pub global : FineMap v.global c.global
  pub ins : All (FineMap v.input) c.ins
  pub outs : All (FineMap v.output) c.outs
  pub rule : v.early c.global.pairs ≡ passed
  pub ins# : length c.ins ≡ v.inputs c.global.pairs
  pub outs# : length c.outs ≡ v.outputs c.global.pairs
  pub late : v.late c.global.pairs c.outs ≡ passed
  pub short : length (bytes c) ≤ limit

-- a file of version 2
abbrev pub FineFile : Content → Type 0
FineFile c = FineOf two c
