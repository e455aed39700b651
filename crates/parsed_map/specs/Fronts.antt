-- The item at the front of some bytes by numbers, as the code answers it: places counted from the front, and lengths.
use Rattle.std.specs.Prelude.{ℕ, ◌+◌, ◌≤◌, ◌<◌, List, length, take, drop, leb, eqb, Ok, Err}
use Rattle.format.specs.Tests.{pick}
use Rattle.format.specs.Compact.{size}
use Rattle.format.specs.Keys.{order}
use Rattle.format.specs.Rules.{rule}
use Rattle.format.specs.declared.PsbtError.TheVariants.{UnexpectedEof, DuplicateKey, UnsortedKeys}
use Rattle.std.specs.declared.cmp.Ordering.{Ordering}
use Rattle.format.specs.declared.PairEntry.{PairEntry}
use Rattle.format.specs.Answers.{Answer, passed, Ruled, Size}
use Rattle.std.specs.declared.cmp.Ordering.TheVariants.{Less, Equal, Greater}
use Rattle.parsed_map.specs.declared.Head.{Head}
use Rattle.parsed_map.specs.declared.Head.TheVariants as H
use Rattle.parsed_map.specs.declared.Item.{Item}
use Rattle.parsed_map.specs.declared.Item.TheVariants as I

-- what stands where a key may begin, or the refusal
abbrev pub HeadRead : Type 0
HeadRead = Answer Head

-- what stands where a pair may begin, or the refusal
abbrev pub ItemRead : Type 0
ItemRead = Answer Item

-- a pair with a key of l bytes at a and a value of v bytes at b
abbrev pub entry_at : ℕ → ℕ → ℕ → ℕ → PairEntry
entry_at a l b v = record { key = a; klen = l; value = b; vlen = v }

-- the key in front of s, by its length: 0 ends the map
unfoldable pub head_by : List ℕ → Size → HeadRead
head_by s (Err e) = Err e
head_by s (Ok r) = pick (eqb r.value 0) (Ok (H.Over r.used)) (pick (leb r.value (length (drop r.used s))) (Ok (H.Key r.used r.value)) (Err UnexpectedEof))

-- the key in front of s
unfoldable pub head_of : List ℕ → HeadRead
head_of s = head_by s (size s)

-- by the order of the last key to this one
unfoldable pub order_rule : Ordering → Ruled
order_rule Less = passed
order_rule Equal = Err DuplicateKey
order_rule Greater = Err UnsortedKeys

-- n bytes have a key of l bytes at a
pub record KeyIn (n a l : ℕ) : Type 0 where
  pub some : 0 < l
  pub inside : a + l ≤ n

-- a pair, by its field rule
unfoldable pub ruled_at : ℕ → ℕ → ℕ → ℕ → Ruled → ItemRead
ruled_at a l b v (Ok u) = Ok (I.One (entry_at a l b v))
ruled_at a l b v (Err e) = Err e

-- behind a key of l bytes at a, by the value's length
unfoldable pub value_by : ℕ → List ℕ → ℕ → ℕ → Size → ItemRead
value_by k s a l (Err e) = Err e
value_by k s a l (Ok r) =
    pick (leb r.value (length (drop (a + l + r.used) s)))
    (ruled_at a l (a + l + r.used) r.value (rule k (take l (drop a s)) (take r.value (drop (a + l + r.used) s))))
    (Err UnexpectedEof)

-- behind a key of l bytes at a
unfoldable pub value_of : ℕ → List ℕ → ℕ → ℕ → ItemRead
value_of k s a l = value_by k s a l (size (drop (a + l) s))

-- a key of l bytes at a, by whether it comes after the last one
unfoldable pub risen_at : ℕ → List ℕ → ℕ → ℕ → Ruled → ItemRead
risen_at k s a l (Ok u) = value_of k s a l
risen_at k s a l (Err e) = Err e

-- by the key
unfoldable pub item_at : ℕ → List ℕ → List ℕ → HeadRead → ItemRead
item_at k last s (Err e) = Err e
item_at k last s (Ok (H.Over u)) = Ok (I.Over u)
item_at k last s (Ok (H.Key a l)) = risen_at k s a l (order_rule (order last (take l (drop a s))))

-- the item in front of s, in a map of kind k whose last key is `last` (empty before its first)
unfoldable pub item_of : ℕ → List ℕ → List ℕ → ItemRead
item_of k last s = item_at k last s (head_of s)
