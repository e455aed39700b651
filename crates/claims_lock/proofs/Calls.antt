-- The lock that the call writes honours every input reported.
use mathlib.Core.Path.{◌≡◌, refl, subst, ap}
use mathlib.Core.List.{List, [], ◌∷◌, ◌++◌, map}
use Prim.Native.Nat.{ℕ, zero, suc, ◌+◌, ◌^◌, ◌<◌}
use native.Mathlib.Omega.{arith}
use borrow.Author.Tests.{eqb-true}
use lib.Dec.{leb, eqb}
use lib.ListN.{length, take, drop, take-append-drop}
use lib.Seq.{take-append_seam}
use Rattle.format.specs.Numbers.{le}
use Rattle.format.specs.Keys.{same, key_of}
use Rattle.format.specs.Content.{Pair, Found, absent, found, find, field}
use Rattle.format.specs.Entries.{value_in_def, shown}
use Rattle.format.specs.Tables.{Held, no, holds, held, View, hides, shows, view_of, view, Gathered, unfit, gathered, gather_by, gather, maps_reported}
use Rattle.format.specs.Locks.{Sized, sized_to, In, in_of}
use Rattle.format.specs.Scripts.{Out, reports, reported_by, reported}
use Rattle.format.specs.Transaction.{Tx, refuses, writes, table_fits, set_so_far, transaction, tx_reported, TxOut, tx_out, written, unsigned_tx_def}
use Rattle.format.specs.declared.PairEntry.{PairEntry}
use Rattle.format.specs.declared.Psbt.{Psbt}
use Rattle.format.specs.declared.State.{State}
use Rattle.format.specs.declared.Written.{Written}
use Rattle.format.specs.Answers.{wrote_tx}
use Rattle.std.specs.Prelude.{true, Ok}
use Rattle.format.proofs.Tests.{pick_by}
use Rattle.format.proofs.Numbers.{All, Byte, le_below, all_split}
use Rattle.claims_lock.specs.Honours.{Spells, Meets, Honours, lock_in, TimesFit, ByteValues, ShowsBytes}
use Rattle.claims_lock.proofs.Ends.{never_writes}
use Rattle.claims_lock.proofs.Honours.{meets, honours}

all_parts : {A : Type 0} (P : A → Type 0) (n : ℕ) (xs : List A) → All P xs → All P (take n xs) × All P (drop n xs)
all_parts P n xs h = all_split P (take n xs) (drop n xs) (rw (take-append-drop n xs) h)

-- a time of four bytes fits
abbrev ValueBytes : Found → Type 0
ValueBytes absent = Unit {0}
ValueBytes (found v) = All Byte v

find_bytes : (key : List ℕ) (ps : List Pair) → ByteValues ps → ValueBytes (find key ps)
unfolding find
find_bytes key [] h = tt
find_bytes key (p ∷ ps) h = pick_by ValueBytes (same key p.key) _ _ (λ q. h.0) (λ q. find_bytes key ps h.1)

sized_fits : (f : Found) → ValueBytes f → (n : ℕ) → Spells (sized_to 4 f) n → n < 2 ^ 32
unfolding sized_to
sized_fits absent h n = λ e. absurd e
sized_fits (found v) h n =
    pick_by (λ (x : Sized). Spells x n → n < 2 ^ 32) (eqb (length v) 4) _ _
    (λ q e. let l : le v < 256 ^ 4 = subst (λ (w : ℕ). le v < 256 ^ w) (eqb-true (length v) 4 q) (le_below v h) in omega arith)
    (λ q e. absurd e)

-- so do those of all inputs reported
all_map : {A B : Type 0} (P : A → Type 0) (Q : B → Type 0) (f : A → B) → ((x : A) → P x → Q (f x)) → (xs : List A) → All P xs → All Q (map f xs)
all_map P Q f k [] h = tt
all_map P Q f k (x ∷ xs) h = (k x h.0, all_map P Q f k xs h.1)

gather_by_lem : (w : View) (g : Gathered) (l : List (List Pair))
    → gather_by w g ≡ gathered l → (ps : List Pair) × (r : List (List Pair)) × (w ≡ shows ps) × (g ≡ gathered r) × (ps ∷ r ≡ l)
unfolding gather_by
gather_by_lem (hides e) g l q = let z : ◌≡◌ {A = ℕ} 0 1 = cc in absurd (omega arith)
gather_by_lem (shows ps) (unfit e) l q = let z : ◌≡◌ {A = ℕ} 0 1 = cc in absurd (omega arith)
gather_by_lem (shows ps) (gathered r) l q = (ps, r, refl, refl, (cc))

gather_all : (v : ℕ → View) (P : List Pair → Type 0) → ((m : ℕ) (ps : List Pair) → v m ≡ shows ps → P ps)
    → (i n : ℕ) (l : List (List Pair)) → gather v i n ≡ gathered l → All P l
unfolding gather
gather_all v P h i zero l q = let e : [] ≡ l = cc in subst (All P) e tt
gather_all v P h i (suc n) l q =
    let r = gather_by_lem (v i) (gather v (i + 1) n) l q in
    subst (All P) r.4 (h i r.0 r.2, gather_all v P h (i + 1) n r.1 r.3)

module _ (v : ℕ → View) (s : Psbt) (ins : List In) (outs : List Out) (bytes : ShowsBytes v) where
  fit_by_lem : (n : ℕ) (g : Gathered) → gather v 0 (maps_reported s) ≡ g → reported_by n g ≡ reports ins outs → TimesFit ins
  unfolding reported_by in_of field
  fit_by_lem n (unfit e) q r = let z : ◌≡◌ {A = ℕ} 0 1 = cc in absurd (omega arith)
  fit_by_lem n (gathered l) q r =
      let e : map in_of (take n (drop 1 l)) ≡ ins = cc in
      let h : All ByteValues l = gather_all v ByteValues bytes 0 (maps_reported s) l q in
      subst TimesFit e
      (all_map ByteValues _ in_of (λ ps b. sized_fits (find (key_of 0x11 []) ps) (find_bytes (key_of 0x11 []) ps b)) (take n (drop 1 l))
      (all_parts ByteValues n (drop 1 l) (all_parts ByteValues 1 l h).1).0)

  times_fit : reported v s ≡ reports ins outs → TimesFit ins
  unfolding reported
  times_fit r = fit_by_lem s.inputs (gather v 0 (maps_reported s)) refl r

-- what the tables of a file of bytes show
shown_bytes : (f : List ℕ) (es : List PairEntry) → All Byte f → ByteValues (map (shown f) es)
unfolding shown value_in_def
shown_bytes f [] h = tt
shown_bytes f (e ∷ es) h =
    ((all_parts Byte e.vlen (drop e.value f) (all_parts Byte e.value f h).1).0, shown_bytes f es h)

view_bytes_by : (f : List ℕ) (x : Held) (ps : List Pair) → All Byte f → view_of f x ≡ shows ps → ByteValues ps
unfolding view_of
view_bytes_by f (no e) ps h q = let z : ◌≡◌ {A = ℕ} 0 1 = cc in absurd (omega arith)
view_bytes_by f (holds es) ps h q = let e : map (shown f) es ≡ ps = cc in subst ByteValues e (shown_bytes f es h)

pub view_bytes : (f P M : List ℕ) (s : Psbt) → All Byte f → ShowsBytes (view f P M s)
unfolding view
view_bytes f P M s h m ps q = view_bytes_by f (held f P M s m) ps h q

-- a call that writes wrote the transaction's bytes
pub written_is : (t t' : State) (B B' : List ℕ) (n : ℕ) (x : Tx) → written t B x ≡ tx_out (Ok (wrote_tx n t')) B' → x ≡ writes (take n B')
unfolding written
written_is t t' B B' n (refuses e) = λ q. let z : ◌≡◌ {A = ℕ} 0 1 = cc in absurd (omega arith)
written_is t t' B B' n (writes x) =
    pick_by (λ (o : TxOut). o ≡ tx_out (Ok (wrote_tx n t')) B' → writes x ≡ writes (take n B')) (leb (length x) (length B)) _ _
    (λ p q.
    let w : wrote_tx (length x) (record { set = t.set; written = true }) ≡ wrote_tx n t' = cc in
    let l : length x ≡ n = ap (λ (v : Written). v.len) w in
    let e : x ++ drop (length x) B ≡ B' = cc in
    rw (← l, ← e, take-append_seam x (drop (length x) B)))
    (λ p q. let z : ◌≡◌ {A = ℕ} 0 1 = cc in absurd (omega arith))

module _ (v : ℕ → View) (s : Psbt) (t : State) (T B : List ℕ) (ins : List In) (outs : List Out) (r : reported v s ≡ reports ins outs) (bytes : ShowsBytes v)
    (n : ℕ) (t' : State) (B' : List ℕ) (call : unsigned_tx_def v s t T B ≡ tx_out (Ok (wrote_tx n t')) B') where
  call_writes : transaction s ins outs (set_so_far t T) ≡ writes (take n B')
  unfolding unsigned_tx_def tx_reported
  call_writes =
      pick_by (λ (x : Tx). x ≡ writes (take n B') → transaction s ins outs (set_so_far t T) ≡ writes (take n B'))
      (table_fits t outs T) _ _ (λ p q. q) (λ p q. never_writes q)
      (written_is t t' B B' n (tx_reported s t T (reports ins outs)) (rw r at call))

  pub call_meets : All (Meets (lock_in (take n B'))) ins
  call_meets = meets s ins outs (set_so_far t T) (take n B') (times_fit v s ins outs bytes r) call_writes

  pub call_honours : All (Honours (lock_in (take n B'))) ins
  call_honours = honours s ins outs (set_so_far t T) (take n B') (times_fit v s ins outs bytes r) call_writes

-- the same of a file of bytes, whatever its tables hold
pub file_honours : (f P M : List ℕ) (s : Psbt) (t : State) (T B : List ℕ) (ins : List In) (outs : List Out)
    → All Byte f → reported (view f P M s) s ≡ reports ins outs
    → (n : ℕ) (t' : State) (B' : List ℕ) → unsigned_tx_def (view f P M s) s t T B ≡ tx_out (Ok (wrote_tx n t')) B' → All (Honours (lock_in (take n B'))) ins
file_honours f P M s t T B ins outs h r n t' B' call = call_honours (view f P M s) s t T B ins outs r (view_bytes f P M s h) n t' B' call
