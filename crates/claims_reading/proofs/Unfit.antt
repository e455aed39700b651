-- Where a reported map is unfit, what decides the lock, the transaction and the setter are refused with 24, and lent memory stays as it was.
use mathlib.Core.Path.{◌≡◌, refl, sym, ◌∙◌, ap}
use mathlib.Core.List.{List, [], ◌∷◌}
use Prim.Native.Nat.{ℕ, zero, suc, ◌+◌, ◌<◌}
use native.Mathlib.Omega.{arith}
use borrow.Author.Tests.{lt-ltb}
use lib.Dec.{leb, ltb}
use lib.ListN.{length, drop}
use Rattle.format.specs.Entries.{pair_entries, map_entries}
use Rattle.format.specs.Tables.{fit, Held, no, holds, fitted, held_by_def, maps_reported, held, View, hides}
use Rattle.format.specs.Tables.{shows, view_of, view, Gathered, unfit, gathered, gather_by, gather}
use Rattle.format.specs.Scripts.{Reported, unfit_map, reported_by, reported, Given, set_out_def, set_by, set_scripts}
use Rattle.format.specs.Transaction.{tx_reported, tx_out, written, unsigned_tx_def, lock_by, lock_decided}
use Rattle.format.specs.Told.{told_lock, told_left, told_set, told_set_out, told_tx, told_tx_out}
use Rattle.format.specs.declared.PsbtError.{PsbtError}
use Rattle.format.specs.declared.PsbtError.TheVariants.{BadIndex}
use Rattle.format.specs.declared.Psbt.{Psbt}
use Rattle.format.specs.declared.PairEntry.{PairEntry}
use Rattle.format.specs.declared.MapEntry.{MapEntry}
use Rattle.format.specs.declared.State.{State}
use Rattle.format.specs.Answers.{Decided, ScriptsSet, UnsignedTx}
use Rattle.std.specs.Prelude.{Err}
use Rattle.format.specs.declared.Lock.TheVariants as L
use Rattle.format.proofs.Tests.{pick_by, pick_yes}
use Rattle.format.proofs.Told.{lock_one, set_out_one, tx_out_one}

-- a map that is reported is refused with no other number
fitted_bad : (f : List ℕ) (es : List PairEntry) (e : PsbtError) → fitted f es ≡ no e → e ≡ BadIndex
unfolding fitted
fitted_bad f es e = pick_by (λ (h : Held). h ≡ no e → e ≡ BadIndex) (fit f [] es) _ _ (λ t q. let z : ◌≡◌ {A = ℕ} 0 1 = cc in absurd (omega arith)) (λ t q. cc)

held_bad : (f : List ℕ) (es : List PairEntry) (ms : List MapEntry) (e : PsbtError) → held_by_def f es ms ≡ no e → e ≡ BadIndex
unfolding held_by_def
held_bad f es [] e = λ q. cc
held_bad f es (m ∷ ms) e = pick_by (λ (h : Held). h ≡ no e → e ≡ BadIndex) (leb (m.first + m.count) (length es)) _ _ (λ t. fitted_bad f _ e) (λ t q. cc)

-- maps are gathered unless one of them is hidden
module _ (v : ℕ → View) where
  abbrev Hidden : ℕ → ℕ → PsbtError → Type 0
  Hidden i n e = (j : ℕ) × (j < n) × (v (i + j) ≡ hides e)

  found_by : (i n : ℕ) (e : PsbtError) (w : View) → v i ≡ w → (g : Gathered) → (g ≡ unfit e → Hidden (i + 1) n e) → gather_by w g ≡ unfit e → Hidden i (suc n) e
  unfolding gather_by
  found_by i n e (hides d) a g k q =
      let z : hides d ≡ hides e = cc in
      let l : i + 0 ≡ i = omega arith in
      (0, omega arith, rw l (a ∙ z))
  found_by i n e (shows ps) a (unfit d) k q =
      let r = k q in
      let l : i + suc r.0 ≡ i + 1 + r.0 = omega arith in
      (suc r.0, omega (arith, r.1), rw l r.2)
  found_by i n e (shows ps) a (gathered l) k q = let z : ◌≡◌ {A = ℕ} 0 1 = cc in absurd (omega arith)

  hidden_found : (i n : ℕ) (e : PsbtError) → gather v i n ≡ unfit e → Hidden i n e
  unfolding gather
  hidden_found i zero e q = let z : ◌≡◌ {A = ℕ} 0 1 = cc in absurd (omega arith)
  hidden_found i (suc n) e q = found_by i n e (v i) refl (gather v (i + 1) n) (hidden_found (i + 1) n e) q

  behind_any : (w : View) (g : Gathered) → ((e : PsbtError) × (g ≡ unfit e)) → (e : PsbtError) × (gather_by w g ≡ unfit e)
  unfolding gather_by
  behind_any (hides e) g r = (e, refl)
  behind_any (shows ps) g r = (r.0, ap (gather_by (shows ps)) r.1)

  hidden_unfit : (i n j : ℕ) (d : PsbtError) → j < n → v (i + j) ≡ hides d → (e : PsbtError) × (gather v i n ≡ unfit e)
  unfolding gather gather_by
  hidden_unfit i zero j d l h = absurd (omega arith)
  hidden_unfit i (suc n) zero d l h = let z : i + 0 ≡ i = omega arith in (d, ap (λ (w : View). gather_by w (gather v (i + 1) n)) (rw z at h))
  hidden_unfit i (suc n) (suc j) d l h =
      let z : i + suc j ≡ i + 1 + j = omega arith in
      behind_any (v i) (gather v (i + 1) n) (hidden_unfit (i + 1) n j d (omega arith) (rw z at h))

reported_unfit : (n : ℕ) (g : Gathered) (e : PsbtError) → reported_by n g ≡ unfit_map e → g ≡ unfit e
unfolding reported_by
reported_unfit n (unfit d) e q = cc
reported_unfit n (gathered l) e q = let z : ◌≡◌ {A = ℕ} 0 1 = cc in absurd (omega arith)

view_hides : (f : List ℕ) (h : Held) (e : PsbtError) → view_of f h ≡ hides e → h ≡ no e
unfolding view_of
view_hides f (no d) e q = cc
view_hides f (holds es) e q = let z : ◌≡◌ {A = ℕ} 0 1 = cc in absurd (omega arith)

-- of any file, tables and report
module _ (f P M : List ℕ) (s : Psbt) where
  no_is : (m : ℕ) (e : PsbtError) → m < maps_reported s → held f P M s m ≡ no e → e ≡ BadIndex
  unfolding held
  no_is m e l q = held_bad f (pair_entries P) (drop m (map_entries M)) e (sym (pick_yes (ltb m (maps_reported s)) _ _ (lt-ltb m (maps_reported s) l)) ∙ q)

  -- if not all maps that are reported are fit, the refusal is 24, and it is that of one of them
  pub unfit_found : (e : PsbtError) → reported (view f P M s) s ≡ unfit_map e
      → (e ≡ BadIndex) × ((m : ℕ) × (m < maps_reported s) × (held f P M s m ≡ no BadIndex))
  unfolding reported view
  unfit_found e q =
      let r = hidden_found (view f P M s) 0 (maps_reported s) e (reported_unfit s.inputs (gather (view f P M s) 0 (maps_reported s)) e q) in
      let z : 0 + r.0 ≡ r.0 = omega arith in
      let h : held f P M s r.0 ≡ no e = view_hides f (held f P M s r.0) e (rw z at r.2) in
      let b : e ≡ BadIndex = no_is r.0 e r.1 h in
      (b, (r.0, r.1, h ∙ ap no b))

  -- a map that is reported and not held
  module _ (m : ℕ) (e : PsbtError) (l : m < maps_reported s) (h : held f P M s m ≡ no e) where
    pub unfit_reported : reported (view f P M s) s ≡ unfit_map BadIndex
    unfolding reported reported_by view view_of
    unfit_reported =
        let z : 0 + m ≡ m = omega arith in
        let r = hidden_unfit (view f P M s) 0 (maps_reported s) m e l (rw z (ap (view_of f) h)) in
        let q : reported (view f P M s) s ≡ unfit_map r.0 = ap (reported_by s.inputs) r.1 in
        q ∙ ap unfit_map (unfit_found r.0 q).0

    -- any outcome that meets the promise of `lock_decided` is 24
    pub lock_unfit : (r : Decided) → told_lock r ≡ told_lock (lock_decided (view f P M s) s) → r ≡ Err BadIndex
    unfolding lock_decided lock_by
    lock_unfit r q = lock_one r (lock_decided (view f P M s) s) q ∙ ap (lock_by s) unfit_reported

    -- any outcome that meets the promise of `unsigned_tx` is 24, and the buffer is as it was
    pub tx_unfit : (t : State) (T B : List ℕ) (r : UnsignedTx) (B' : List ℕ) → told_left (told_tx r) B' ≡ told_tx_out (unsigned_tx_def (view f P M s) s t T B)
        → (r ≡ Err BadIndex) × (B' ≡ B)
    unfolding told_tx_out unsigned_tx_def tx_reported written
    tx_unfit t T B r B' q =
        let o : tx_out r B' ≡ tx_out (Err BadIndex) B =
        tx_out_one (tx_out r B') (unsigned_tx_def (view f P M s) s t T B) q ∙ ap (λ (x : Reported). written t B (tx_reported s t T x)) unfit_reported in
        ((cc), (cc))

    -- any outcome that meets a setter's promise is 24, and the script table is as it was
    pub set_unfit : (g : Given) (buffer : List ℕ) (t : State) (T : List ℕ) (r : ScriptsSet) (T' : List ℕ)
        → told_left (told_set r) T' ≡ told_set_out (set_scripts (view f P M s) s g buffer t T) → (r ≡ Err BadIndex) × (T' ≡ T)
    unfolding told_set_out set_scripts set_by
    set_unfit g buffer t T r T' q =
        let o : set_out_def r T' ≡ set_out_def (Err BadIndex) T =
        set_out_one (set_out_def r T') (set_scripts (view f P M s) s g buffer t T) q ∙ ap (set_by buffer t T g) unfit_reported in
        ((cc), (cc))
