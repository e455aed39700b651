-- Keys that begin with the same bytes stand together among rising keys, right behind those below these bytes.
use Rattle.std.specs.Ordering.{is_lt}
use mathlib.Core.Path.{◌≡◌, refl, sym, ◌∙◌, ap}
use mathlib.Core.List.{List, [], ◌∷◌}
use mathlib.Core.Bool.{Bool, true, false, ◌&&◌}
use Prim.Native.Nat.{ℕ}
use native.Mathlib.Omega.{arith}
use borrow.Author.Tests.{lt-ltb, le-ltb, eq-eqb, eqb-true}
use lib.Dec.{eqb}
use lib.ListN.{length, take, drop}
use Rattle.format.specs.Tests.{keep_if, only}
use Rattle.format.specs.Keys.{order, below}
use Rattle.format.specs.Content.{Pair}
use Rattle.std.specs.declared.cmp.Ordering.TheVariants.{Less}
use Rattle.format.proofs.Tests.{never_true, and_left, and_right, clash, no_by}
use Rattle.format.proofs.Keys.{rises_by, order_trans, below_is}
use Rattle.claims_reading.specs.Fine.{Rises}

-- a key begins with the bytes q
unfoldable pub begins : List ℕ → List ℕ → Bool
begins [] key = true
begins (x ∷ q) [] = false
begins (x ∷ q) (y ∷ key) = eqb y x && begins q key

-- a key that begins with q isn't below it
begins_above : (q a : List ℕ) → begins q a ≡ true → below a q ≡ false
unfolding begins below order
begins_above [] [] h = refl
begins_above [] (y ∷ a) h = refl
begins_above (x ∷ q) [] h = never_true h
begins_above (x ∷ q) (y ∷ a) h =
    let e : y ≡ x = eqb-true y x (and_left (eqb y x) (begins q a) h) in
    rw (le-ltb y x (omega arith), le-ltb x y (omega arith)) (begins_above q a (and_right (eqb y x) (begins q a) h))

-- between q and a key that begins with q all keys do
between : (q a b : List ℕ) → below a q ≡ false → order a b ≡ Less → begins q b ≡ true → begins q a ≡ true
unfolding begins below order
between [] a b n o h = refl
between (x ∷ q) [] b n o h = never_true (sym n)
between (x ∷ q) (y ∷ a) [] n o h = never_true h
between (x ∷ q) (y ∷ a) (z ∷ b) n o h =
    let e : z ≡ x = eqb-true z x (and_left (eqb z x) (begins q b) h) in
    rises_by y z a b o
    (λ l. never_true (rw (lt-ltb y x (omega arith)) at (sym n)))
    (λ l p. rw (eq-eqb y x (l ∙ e))
    (between q a b (rw (le-ltb y x (omega arith), le-ltb x y (omega arith)) at n) p (and_right (eqb z x) (begins q b) h)))

-- behind a key that isn't below q none is
still_above : (q a b : List ℕ) → below a q ≡ false → order a b ≡ Less → below b q ≡ false
unfolding below
still_above q a b n o =
    no_by (is_lt (order b q)) (λ e. clash (is_lt (order a q)) (ap is_lt (order_trans a b q o (below_is b q e))) n)

module _ (q : List ℕ) where
  -- those that begin with q
  unfoldable pub listed : List Pair → List Pair
  listed ps = only (λ p. begins q p.key) ps

  -- how many stand below it
  unfoldable pub beneath : List Pair → ℕ
  beneath ps = length (only (λ p. below p.key q) ps)

  none_beneath : (last : List ℕ) (ps : List Pair) → below last q ≡ false → Rises last ps → beneath ps ≡ 0
  unfolding beneath only
  none_beneath last [] n r = refl
  none_beneath last (p ∷ ps) n r = let m = still_above q last p.key n r.0 in rw m (none_beneath p.key ps m r.1)

  none_listed : (last : List ℕ) (ps : List Pair) → below last q ≡ false → begins q last ≡ false → Rises last ps → listed ps ≡ []
  unfolding listed only
  none_listed last [] n b r = refl
  none_listed last (p ∷ ps) n b r =
      let c : begins q p.key ≡ false = no_by (begins q p.key) (λ h. clash (begins q last) (between q last p.key n r.0 h) b) in
      rw c (none_listed p.key ps (still_above q last p.key n r.0) c r.1)

  -- where none is below q, those that begin with it stand at the front
  at_front : (p : Pair) (ps : List Pair) → below p.key q ≡ false → Rises p.key ps → take (length (listed ps)) ps ≡ listed ps
      → (t : Bool) → begins q p.key ≡ t → take (length (keep_if t p (listed ps))) (p ∷ ps) ≡ keep_if t p (listed ps)
  at_front p ps n r i true e = ap (λ (x : List Pair). p ∷ x) i
  at_front p ps n r i false e = rw (none_listed p.key ps n e r)

  front_listed : (last : List ℕ) (ps : List Pair) → below last q ≡ false → Rises last ps → take (length (listed ps)) ps ≡ listed ps
  unfolding listed only
  front_listed last [] n r = refl
  front_listed last (p ∷ ps) n r =
      let m = still_above q last p.key n r.0 in
      at_front p ps m r.1 (front_listed p.key ps m r.1) (begins q p.key) refl

  -- place and count give exactly those that begin with q
  pub listed_is : (last : List ℕ) (ps : List Pair) → Rises last ps → take (length (listed ps)) (drop (beneath ps) ps) ≡ listed ps
  unfolding listed beneath only
  listed_is last [] r = refl
  listed_is last (p ∷ ps) r = by (listed_is p.key ps r.1) (below p.key q) refl
    where
      by : take (length (listed ps)) (drop (beneath ps) ps) ≡ listed ps → (t : Bool) → below p.key q ≡ t
          → take (length (keep_if (begins q p.key) p (listed ps))) (drop (length (keep_if t p (only (λ p. below p.key q) ps))) (p ∷ ps))
          ≡ keep_if (begins q p.key) p (listed ps)
      by i true e = rw (no_by (begins q p.key) (λ h. clash (below p.key q) e (begins_above q p.key h))) i
      by i false e =
          let z : length (only (λ (p : Pair). below p.key q) ps) ≡ 0 = none_beneath p.key ps e r.1 in
          rw z (at_front p ps e r.1 (front_listed p.key ps e r.1) (begins q p.key) refl)
