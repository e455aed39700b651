-- Kinds of map, listed types, and the field rule of a pair.
use Rattle.std.specs.Prelude.{ℕ, zero, suc, ◌%◌, Bool, true, false, not, ◌&&◌, ◌||◌, List, [], ◌∷◌, length, leb, eqb, Ok, Err}
use Rattle.format.specs.Tests.{pick}
use Rattle.format.specs.Compact.{count}
use Rattle.format.specs.Keys.{type_of, data_of}
use Rattle.format.specs.declared.MapKind.{MapKind}
use Rattle.format.specs.declared.MapKind.TheVariants.{Global, Input, Output, Other}
use Rattle.format.specs.declared.PsbtError.TheVariants.{BadValue, NotAllowed}
use Rattle.format.specs.Answers.{passed, Ruled, Size}
use Rattle.format.specs.declared.SizedType.{SizedType}

-- the kinds of map
abbrev pub GLOBAL : ℕ
GLOBAL = 0

-- a map of an input
abbrev pub INPUT : ℕ
INPUT = 1

-- a map of an output
abbrev pub OUTPUT : ℕ
OUTPUT = 2

-- a map of any other kind, which no file has
abbrev pub OTHER : ℕ
OTHER = 3

-- the number of a kind that the code names
abbrev pub kind_of : MapKind → ℕ
kind_of Global = GLOBAL
kind_of Input = INPUT
kind_of Output = OUTPUT
kind_of Other = OTHER

-- the number of a kind, by a byte: from 3 on all are one
unfoldable pub kind_number : ℕ → ℕ
kind_number b = pick (leb OTHER b) OTHER b

-- types from one up to another
pub record Span : Type 0 where
  pub from : ℕ
  pub to : ℕ

-- the types from a to b
unfoldable pub span : ℕ → ℕ → Span
span a b = record { from = a; to = b }

-- a type is in one of some spans
unfoldable pub within : List Span → ℕ → Bool
within [] t = false
within (s ∷ ss) t = (leb s.from t && leb t s.to) || within ss t

-- the listed types of a kind of map
unfoldable pub listed_types : ℕ → List Span
listed_types zero = span 0x00 0x08 ∷ span 0xfb 0xfc ∷ []
listed_types (suc zero) = span 0x00 0x18 ∷ span 0x1a 0x20 ∷ span 0xfc 0xfc ∷ []
listed_types (suc (suc k)) = span 0x00 0x0a ∷ span 0x35 0x35 ∷ span 0xfc 0xfc ∷ []

-- the key's type is listed for maps of kind k
unfoldable pub listed : ℕ → List ℕ → Bool
listed k key = within (listed_types k) (type_of key)

-- a row whose sizes are asked whatever the key data: kind, type, key data length, value length
abbrev pub sized : MapKind → ℕ → ℕ → ℕ → SizedType
sized k t n m = record { kind = k; tag = t; dlen = n; vlen = m; bare = false }

-- a row whose value length is asked only of a key without data
abbrev pub bare : MapKind → ℕ → ℕ → SizedType
bare k t m = record { kind = k; tag = t; dlen = 0; vlen = m; bare = true }

-- marks a value that is a key origin: a fingerprint and the steps of a path, 4 bytes each
abbrev pub origin : ℕ
origin = 0

-- the sized types
abbrev pub sized_types : List SizedType
sized_types =
    sized Global 0x07 33 33
    ∷ sized Global 0x08 33 64
    ∷ sized Input 0x1d 33 33
    ∷ sized Input 0x1e 33 64
    ∷ sized Input 0x20 0 32
    ∷ sized Input 0x1f 33 origin
    ∷ sized Output 0x09 0 66
    ∷ sized Output 0x0a 0 4
    ∷ bare Global 0x02 4
    ∷ bare Global 0x03 4
    ∷ bare Global 0xfb 4
    ∷ bare Global 0x06 1
    ∷ bare Input 0x03 4
    ∷ bare Input 0x0f 4
    ∷ bare Input 0x10 4
    ∷ bare Input 0x11 4
    ∷ bare Input 0x12 4
    ∷ bare Input 0x0e 32
    ∷ bare Output 0x03 8
    ∷ []

-- a value of m bytes has the length that a row asks: that very one, or an origin's, at least 4 and a multiple of 4
unfoldable pub value_fits : ℕ → ℕ → Bool
value_fits w m = pick (eqb w origin) (leb 4 m && eqb (m % 4) 0) (eqb m w)

-- a row is about type t in maps of kind k
unfoldable pub is_row : SizedType → ℕ → ℕ → Bool
is_row r k t = eqb (kind_of r.kind) k && eqb r.tag t

-- what a row says of n bytes of key data and a value of m bytes
unfoldable pub row_rule : SizedType → ℕ → ℕ → Ruled
row_rule r n m =
    pick (r.bare && not (eqb n 0)) passed
    (pick (eqb n r.dlen && value_fits r.vlen m) passed (Err BadValue))

-- what the first row about a type says; a type with no row is free
unfoldable pub sizes_in : List SizedType → ℕ → ℕ → ℕ → ℕ → Ruled
sizes_in [] k t n m = passed
sizes_in (r ∷ rs) k t n m = pick (is_row r k t) (row_rule r n m) (sizes_in rs k t n m)

-- the rule of sizes: kind of map, type, key data length, value length
unfoldable pub sizes : ℕ → ℕ → ℕ → ℕ → Ruled
sizes k t n m = sizes_in sized_types k t n m

-- a count field's value is a count
unfoldable pub count_rule : Size → Ruled
count_rule (Ok r) = passed
count_rule (Err e) = Err e

-- what is asked of a global key without data besides sizes: 00 is not allowed, 04 and 05 are counts
unfoldable pub bare_rule : ℕ → List ℕ → Ruled
bare_rule t v = pick (eqb t 0x00) (Err NotAllowed) (pick (eqb t 0x04 || eqb t 0x05) (count_rule (count v)) passed)

-- one rule and then another
unfoldable pub and_then : Ruled → Ruled → Ruled
and_then (Ok u) r = r
and_then (Err e) r = Err e

-- the field rule of a pair in a map of kind k
unfoldable pub rule : ℕ → List ℕ → List ℕ → Ruled
rule k key v =
    and_then (sizes k (type_of key) (length (data_of key)) (length v))
    (pick (eqb k GLOBAL && eqb (length (data_of key)) 0) (bare_rule (type_of key) v) passed)
