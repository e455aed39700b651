-- What the numbers of an item show in the bytes that they count in.
use Rattle.std.specs.Prelude.{ℕ, ◌+◌, ◌-◌, ◌≤◌, ◌<◌, List, take, drop, Ok, Err}
use Rattle.format.specs.Content.{Pair}
use Rattle.format.specs.Reading as R
use Rattle.parsed_map.specs.Fronts.{ItemRead}
use Rattle.parsed_map.specs.declared.Item.TheVariants as I

-- the pair with a key of l bytes at a and a value of v bytes at b; both lengths stand right before
unfoldable pub pair_at : List ℕ → ℕ → ℕ → ℕ → ℕ → Pair
pair_at s a l b v = record {
  klen = take a s;
  key = take l (drop a s);
  vlen = take (b - (a + l)) (drop (a + l) s);
  value = take v (drop b s);
}

-- the item of the format's reading
unfoldable pub shown : List ℕ → ItemRead → R.Item
shown s (Err e) = R.stop e
shown s (Ok (I.Over u)) = R.over (take u s) (drop u s)
shown s (Ok (I.One e)) = R.one (pair_at s e.key e.klen e.value e.vlen) (drop (e.value + e.vlen) s)

-- such a pair lies in n bytes, and takes some
pub record OneIn (n a l b v : ℕ) : Type 0 where
  pub some : 0 < l
  pub ends : a + l ≤ b
  pub inside : b + v ≤ n
  pub moves : 0 < b + v
