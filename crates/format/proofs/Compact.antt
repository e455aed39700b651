-- Laws of compact sizes: only the bytes used matter, they spell the number by themselves, the shortest spelling is read back, and which refusals there are.
use mathlib.Core.Path.{◌≡◌, ◌∙◌, ap}
use mathlib.Core.List.{List, [], ◌∷◌, ◌++◌}
use Prim.Native.Nat.{ℕ, suc, ◌^◌, ◌≤◌, ◌<◌}
use native.Mathlib.Omega.{arith}
use borrow.Author.Tests.{ltb-true, leb-true, le-leb}
use lib.Dec.{leb, ltb, eqb}
use lib.ListN.{length, take, length-append}
use lib.Seq.{take_all, length-take-le, take-append-le}
use Rattle.format.specs.Numbers.{le, bytes_of}
use Rattle.format.specs.Compact.{long, size_by, size, shortest, count_by_def, count}
use Rattle.format.specs.declared.PsbtError.{PsbtError}
use Rattle.format.specs.declared.CompactSize.{CompactSize}
use Rattle.format.specs.declared.PsbtError.TheVariants.{UnexpectedEof, InvalidCompactSize}
use Rattle.format.specs.Answers.{spelt, Size}
use Rattle.std.specs.Prelude.{Ok, Err}
use Rattle.format.proofs.Tests.{pick_by, pick_two}
use Rattle.format.proofs.Numbers.{length_bytes_of, le_bytes_of}

-- a is one compact size of value n, whole
abbrev pub Spells : List ℕ → ℕ → Type 0
Spells a n = size a ≡ Ok (spelt n (length a))

-- what is read doesn't depend on what follows
abbrev Keeps : Size → Size → Type 0
Keeps x y = (n u : ℕ) → x ≡ Ok (spelt n u) → y ≡ Ok (spelt n u)

long_more : (w : ℕ) (s r : List ℕ) → Keeps (long w s) (long w (s ++ r))
unfolding long
long_more w s r =
    pick_by (λ (o : Size). Keeps o (long w (s ++ r))) (leb w (length s)) _ _
    (λ q.
    let h : w ≤ length s = leb-true w (length s) q in
    let k : w ≤ length (s ++ r) = rw length-append (omega arith) in
    λ n u e. rw (le-leb w (length (s ++ r)) k, take-append-le w s r h) e)
    (λ q n u (e : (Err UnexpectedEof) ≡ Ok (spelt n u)). let z : ◌≡◌ {A = ℕ} 0 1 = cc in absurd (omega (arith, z)))

pub size_more : (s r : List ℕ) → Keeps (size s) (size (s ++ r))
unfolding size size_by
size_more [] r = λ n u e. let z : ◌≡◌ {A = ℕ} 0 1 = cc in absurd (omega arith)
size_more (b ∷ s) r =
    pick_two Keeps (ltb b 0xfd) _ _ _ _ (λ n u e. e)
    (pick_two Keeps (eqb b 0xfd) _ _ _ _ (long_more 2 s r)
    (pick_two Keeps (eqb b 0xfe) _ _ _ _ (long_more 4 s r) (long_more 8 s r)))

-- the bytes used are a compact size by themselves, at least one of them
abbrev Own : List ℕ → Size → Type 0
Own s o = (n u : ℕ) → o ≡ Ok (spelt n u) → (0 < u) × (u ≤ length s) × Spells (take u s) n

own : (b : ℕ) (r : List ℕ) (n w : ℕ) → w ≤ length r → size_by b (take w r) ≡ Ok (spelt n (suc w)) → Own (b ∷ r) (Ok (spelt n (suc w)))
unfolding size
own b r n w h e m u f =
    let z : spelt n (suc w) ≡ spelt m u = cc in
    let x : n ≡ m = ap (λ (s : CompactSize). s.value) z in
    let y : suc w ≡ u = ap (λ (s : CompactSize). s.used) z in
    rw (← y, ← x, length-take-le w r h) (omega arith, omega arith, e)

long_own : (b : ℕ) (r : List ℕ) (w : ℕ) → ((q : List ℕ) → size_by b q ≡ long w q) → Own (b ∷ r) (long w r)
unfolding long
long_own b r w is =
    pick_by (Own (b ∷ r)) (leb w (length r)) _ _
    (λ q. let h : w ≤ length r = leb-true w (length r) q in
    own b r (le (take w r)) w h (is (take w r) ∙
    rw (length-take-le w r h, le-leb w w (omega arith), take_all w (take w r) (rw (length-take-le w r h) (omega arith)))))
    (λ q n u e. let z : ◌≡◌ {A = ℕ} 0 1 = cc in absurd (omega arith))

pub size_own : (s : List ℕ) → Own s (size s)
unfolding size size_by
size_own [] = λ n u e. let z : ◌≡◌ {A = ℕ} 0 1 = cc in absurd (omega arith)
size_own (b ∷ r) =
    pick_by (Own (b ∷ r)) (ltb b 0xfd) _ _ (λ q. own b r b 0 (omega arith) (rw q))
    (λ q. pick_by (Own (b ∷ r)) (eqb b 0xfd) _ _ (λ t. long_own b r 2 (λ x. rw (q, t)))
    (λ t. pick_by (Own (b ∷ r)) (eqb b 0xfe) _ _ (λ v. long_own b r 4 (λ x. rw (q, t, v))) (λ v. long_own b r 8 (λ x. rw (q, t, v)))))

-- a number of w bytes is read back from them
long_back : (w n : ℕ) → n < 256 ^ w → long w (bytes_of w n) ≡ Ok (spelt n (suc (length (bytes_of w n))))
unfolding long
long_back w n h =
    let l : length (bytes_of w n) ≡ w = length_bytes_of w n in
    rw (
      le-leb w (length (bytes_of w n)) (omega arith),
      take_all w (bytes_of w n) (omega arith),
      le_bytes_of w n h,
      l,
    )

-- the shortest spelling spells its number
pub shortest_spells : (n : ℕ) → n < 2 ^ 64 → Spells (shortest n) n
unfolding shortest size size_by
shortest_spells n h =
    pick_by (λ (s : List ℕ). Spells s n) (ltb n 0xfd) _ _ (λ q. rw q)
    (λ q. pick_by (λ (s : List ℕ). Spells s n) (ltb n 0x1_0000) _ _ (λ t. long_back 2 n (omega (arith, ltb-true n 0x1_0000 t)))
    (λ t. pick_by (λ (s : List ℕ). Spells s n) (ltb n 0x1_0000_0000) _ _
    (λ v. long_back 4 n (omega (arith, ltb-true n 0x1_0000_0000 v))) (λ v. long_back 8 n h)))

-- and is read back with what follows it left
pub size_shortest : (n : ℕ) (r : List ℕ) → n < 2 ^ 64 → size (shortest n ++ r) ≡ Ok (spelt n (length (shortest n)))
size_shortest n r h = size_more (shortest n) r n (length (shortest n)) (shortest_spells n h)

-- P of the refusal, where a compact size is refused
abbrev pub RefusedBy : (PsbtError → Type 0) → Size → Type 0
RefusedBy P (Err e) = P e
RefusedBy P (Ok r) = Unit {0}

-- what holds of 2 and of 3 holds of every refusal of a compact size, at the front of bytes or as a count's value
module _ (P : PsbtError → Type 0) (eof : P UnexpectedEof) (wrong : P InvalidCompactSize) where
  long_refused : (w : ℕ) (r : List ℕ) → RefusedBy P (long w r)
  unfolding long
  long_refused w r = pick_by (RefusedBy P) (leb w (length r)) _ _ (λ q. tt) (λ q. eof)

  pub size_refused : (s : List ℕ) → RefusedBy P (size s)
  unfolding size size_by
  size_refused [] = eof
  size_refused (b ∷ r) =
      pick_by (RefusedBy P) (ltb b 0xfd) _ _ (λ q. tt)
      (λ q. pick_by (RefusedBy P) (eqb b 0xfd) _ _ (λ t. long_refused 2 r)
      (λ t. pick_by (RefusedBy P) (eqb b 0xfe) _ _ (λ v. long_refused 4 r) (λ v. long_refused 8 r)))

  by_refused : (m : ℕ) (y : Size) → RefusedBy P y → RefusedBy P (count_by_def m y)
  unfolding count_by_def
  by_refused m (Ok r) h = pick_by (RefusedBy P) (eqb m r.used) _ _ (λ q. tt) (λ q. wrong)
  by_refused m (Err e) h = pick_by (RefusedBy P) (leb m 1) _ _ (λ q. h) (λ q. wrong)

  pub count_refused : (v : List ℕ) → RefusedBy P (count v)
  unfolding count
  count_refused v = by_refused (length v) (size v) (size_refused v)
