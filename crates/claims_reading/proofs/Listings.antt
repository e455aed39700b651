-- A listing by place and count is the pairs of its type, since keys rise.
use mathlib.Core.Path.{◌≡◌, refl, sym, ap}
use mathlib.Core.List.{List, [], ◌∷◌, map}
use mathlib.Core.Bool.{and-true}
use Prim.Native.Nat.{ℕ}
use native.Mathlib.Omega.{arith}
use lib.Dec.{eqb}
use lib.ListN.{length, take, drop}
use Rattle.format.specs.Tests.{keep_if, only}
use Rattle.format.specs.Keys.{type_of, key_of, order}
use Rattle.format.specs.Content.{Pair}
use Rattle.format.specs.Entries.{shown}
use Rattle.format.specs.Tables.{holds, held}
use Rattle.format.specs.Lookups.{listing, before, list}
use Rattle.format.specs.declared.Psbt.{Psbt}
use Rattle.format.specs.declared.PairEntry.{PairEntry}
use Rattle.format.specs.declared.Listed.{Listed}
use Rattle.format.specs.Answers.{pairs_at}
use Rattle.std.specs.declared.cmp.Ordering.TheVariants.{Less}
use Rattle.std.specs.Prelude.{Ok}
use Rattle.claims_reading.specs.Fine.{Rises}
use Rattle.claims_reading.proofs.Prefixes.{begins, listed, beneath, listed_is}
use Rattle.claims_reading.proofs.Shown.{held_shows}

-- a key that stands behind another has type t exactly if it begins with the bare key of t
type_begins : (t : ℕ) (last key : List ℕ) → order last key ≡ Less → eqb (type_of key) t ≡ begins (key_of t []) key
unfolding type_of begins key_of order
type_begins t [] [] h = let z : ◌≡◌ {A = ℕ} 0 1 = cc in absurd (omega arith)
type_begins t (y ∷ last) [] h = let z : ◌≡◌ {A = ℕ} 0 1 = cc in absurd (omega arith)
type_begins t last (x ∷ d) h = sym (and-true (eqb x t))

-- so the pairs of a type are those whose keys begin with it
listing_begins : (t : ℕ) (last : List ℕ) (ps : List Pair) → Rises last ps → listing t ps ≡ listed (key_of t []) ps
unfolding listing listed only
listing_begins t last [] r = refl
listing_begins t last (p ∷ ps) r =
    rw (type_begins t last p.key r.0) (ap (keep_if (begins (key_of t []) p.key) p) (listing_begins t p.key ps r.1))

pub listing_is : (t : ℕ) (last : List ℕ) (ps : List Pair) → Rises last ps → take (length (listing t ps)) (drop (before t ps) ps) ≡ listing t ps
unfolding before beneath
listing_is t last ps r = rw (listing_begins t last ps r) (listed_is (key_of t []) last ps r)

-- so in any tables a listing answers the place and the count of the pairs of its type
pub list_is : (f P M : List ℕ) (s : Psbt) (m t i n : ℕ) (es : List PairEntry) → held f P M s m ≡ holds es → list f t (holds es) ≡ Ok (pairs_at i n)
    → take n (drop i (map (shown f) es)) ≡ listing t (map (shown f) es)
unfolding list
list_is f P M s m t i n es h q =
    let e : pairs_at (before t (map (shown f) es)) (length (listing t (map (shown f) es))) ≡ pairs_at i n = cc in
    let a : before t (map (shown f) es) ≡ i = ap (λ (l : Listed). l.first) e in
    let b : length (listing t (map (shown f) es)) ≡ n = ap (λ (l : Listed). l.count) e in
    rw (← a, ← b) (listing_is t [] (map (shown f) es) (held_shows f P M s m es h).1)
