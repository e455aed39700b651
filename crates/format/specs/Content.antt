-- What a file holds: a parse tree that keeps each pair's spelling, so that it has bytes; and finding a key in a map.
use Rattle.std.specs.Prelude.{ℕ, ◌%◌, Bool, true, false, not, ◌&&◌, ◌||◌, List, [], ◌∷◌, ◌++◌, eqb, Ok, Err, Some, None}
use Rattle.format.specs.Tests.{pick}
use Rattle.format.specs.Numbers.{le, signed}
use Rattle.format.specs.Compact.{size}
use Rattle.format.specs.Keys.{key_of, same}
use Rattle.format.specs.Rules.{and_then}
use Rattle.format.specs.declared.PsbtError.TheVariants.{MissingCounts, NotAllowed, MissingOutputScript, InvalidSilentPayment}
use Rattle.format.specs.Answers.{passed, Maybe, Ruled, Size}
use Rattle.format.specs.declared.Psbt.{Psbt}

-- a pair as the file spells it: the key length's bytes, the key, the value length's bytes, the value
pub record Pair : Type 0 where
  pub klen : List ℕ
  pub key : List ℕ
  pub vlen : List ℕ
  pub value : List ℕ

-- a map: its pairs and the bytes of its end
pub record Map : Type 0 where
  pub pairs : List Pair
  pub end : List ℕ

-- a file: the global map, the inputs, the outputs
pub record Content : Type 0 where
  pub global : Map
  pub ins : List Map
  pub outs : List Map

-- its maps in file order
unfoldable pub maps_of : Content → List Map
maps_of c = c.global ∷ (c.ins ++ c.outs)

-- the first five bytes of every file
abbrev pub magic : List ℕ
magic = 0x70 ∷ 0x73 ∷ 0x62 ∷ 0x74 ∷ 0xff ∷ []

-- the bytes of a pair, of pairs, of a map and of maps, each followed by r
unfoldable pub pair_bytes : Pair → List ℕ → List ℕ
pair_bytes p r = p.klen ++ (p.key ++ (p.vlen ++ (p.value ++ r)))

-- the bytes of pairs, then r
unfoldable pub pairs_bytes : List Pair → List ℕ → List ℕ
pairs_bytes [] r = r
pairs_bytes (p ∷ ps) r = pair_bytes p (pairs_bytes ps r)

-- the bytes of a map, its end behind its pairs, then r
unfoldable pub map_bytes : Map → List ℕ → List ℕ
map_bytes m r = pairs_bytes m.pairs (m.end ++ r)

-- the bytes of maps, then r
unfoldable pub maps_bytes : List Map → List ℕ → List ℕ
maps_bytes [] r = r
maps_bytes (m ∷ ms) r = map_bytes m (maps_bytes ms r)

-- the bytes of a file
unfoldable pub bytes : Content → List ℕ
bytes c = magic ++ map_bytes c.global (maps_bytes c.ins (maps_bytes c.outs []))

-- the value of a key in a map, or that there is none
pub data Found : Type 0 where
  absent : Found
  found : List ℕ → Found

-- the value of the pair that has the key
unfoldable pub find : List ℕ → List Pair → Found
find key [] = absent
find key (p ∷ ps) = pick (same key p.key) (found p.value) (find key ps)

-- the value of a type with no key data
unfoldable pub field : ℕ → List Pair → Found
field t ps = find (key_of t []) ps

-- there is such a value
unfoldable pub present : Found → Bool
present absent = false
present (found v) = true

-- the number that a value spells, absent 0
unfoldable pub number : Found → ℕ
number absent = 0
number (found v) = le v

-- the number that a value spells, if there is one
unfoldable pub maybe : Found → Maybe
maybe absent = None
maybe (found v) = Some (le v)

-- the count that a count field says, absent 0
unfoldable pub size_value : Size → ℕ
size_value (Err e) = 0
size_value (Ok r) = r.value

-- the count that a count field's value says
unfoldable pub counted : Found → ℕ
counted absent = 0
counted (found v) = size_value (size v)

-- what is reported of the global map: tx version 02 (signed), fallback 03, modifiable 06, the counts 04 and 05
unfoldable pub psbt_of : List Pair → Psbt
psbt_of g = record {
  tx_version = signed (number (field 0x02 g));
  fallback_locktime = maybe (field 0x03 g);
  tx_modifiable = maybe (field 0x06 g);
  inputs = counted (field 0x04 g);
  outputs = counted (field 0x05 g);
}

-- after the global map: 02, 04, 05 and fb are there, and then the version is 2
unfoldable pub global_rule : List Pair → Ruled
global_rule g =
    pick (present (field 0x02 g) && (present (field 0x04 g) && (present (field 0x05 g) && present (field 0xfb g))))
    (pick (eqb (number (field 0xfb g)) 2) passed (Err NotAllowed))
    (Err MissingCounts)

-- any of the two low flags of the modifiable byte is set
unfoldable pub modifiable : Found → Bool
modifiable f = not (eqb (number f % 4) 0)

-- the rule of an output: script 04 or code 09; not both while the transaction is modifiable; a label 0a only with a code
unfoldable pub output_by : Bool → Bool → Bool → Bool → Ruled
output_by flags script code label =
    pick (script || code)
    (pick (script && (code && flags)) (Err InvalidSilentPayment)
    (pick (label && not code) (Err InvalidSilentPayment) passed))
    (Err MissingOutputScript)

-- the rule of an output, by what its pairs have
unfoldable pub output_rule : Bool → List Pair → Ruled
output_rule flags o = output_by flags (present (field 0x04 o)) (present (field 0x09 o)) (present (field 0x0a o))

-- output by output, the first breach deciding
unfoldable pub outputs_rule : Bool → List Map → Ruled
outputs_rule flags [] = passed
outputs_rule flags (m ∷ ms) = and_then (output_rule flags m.pairs) (outputs_rule flags ms)
