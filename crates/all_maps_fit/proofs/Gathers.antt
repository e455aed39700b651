-- Laws of all reported maps: the walk that asks whether each is fit, and what follows where all are.
use mathlib.Core.Path.{◌≡◌, refl, sym, ◌∙◌, ap, ap₂}
use mathlib.Core.Bool.{Bool, true, false}
use mathlib.Core.List.{List, [], map}
use Prim.Native.Nat.{ℕ, zero, suc, ◌+◌, ◌-◌, ◌≤◌, ◌<◌}
use native.Mathlib.Omega.{arith}
use borrow.Author.Tests.{le-leb, lt-ltb, ltb-true, ltb-false, leb-true}
use lib.Dec.{leb, ltb}
use lib.ListN.{take, drop}
use Rattle.format.specs.Content.{Pair}
use Rattle.format.specs.Tables.{fit, maps_reported, View, hides, shows, view_of, view, Gathered, unfit, gathered, gather_by, gather}
use Rattle.format.specs.Locks.{in_of}
use Rattle.format.specs.Scripts.{out_of, unfit_map, reports, reported_by, reported}
use Rattle.format.specs.declared.PsbtError.{PsbtError}
use Rattle.format.specs.declared.PsbtError.TheVariants.{BadIndex}
use Rattle.format.specs.declared.MapEntry.{MapEntry}
use Rattle.format.specs.declared.Psbt.{Psbt}
use Rattle.format.specs.Answers.{passed, Ruled}
use Rattle.std.specs.Prelude.{Ok, Err}
use Rattle.format.proofs.Tests.{pick_by}
use Rattle.entries.specs.Words.{pair_count, map_count, map_at}
use Rattle.fitness.specs.Fits.{entries_of, held_of, fit_entry, not_listed, fit_at, Fit}
use Rattle.fitness.proofs.Maps.{map_missing, map_there, map_held}
use Rattle.all_maps_fit.specs.Alls.{ruled_by, Usable, Whole, AllFit, pairs_of, in_at, out_at, from, ins_of, outs_of}
use Rattle.all_maps_fit.proofs.Runs.{from_take, from_drop, from_map, from_shift}

-- a walk whose map shows its pairs goes on as it is
shows_on : (ps : List Pair) (g : Gathered) → ruled_by (gather_by (shows ps) g) ≡ ruled_by g
unfolding ruled_by gather_by
shows_on ps (unfit e) = refl
shows_on ps (gathered l) = refl

-- a reported map that is not refused is whole
never : (e : PsbtError) (m : MapEntry) → {A : Type 0} → Err e ≡ Ok m → A
never e m q = let z : ◌≡◌ {A = ℕ} 0 1 = cc in absurd (omega arith)

entry_usable : (f P : List ℕ) (m x : MapEntry) → fit_entry f P m ≡ Ok x → Usable f P m
unfolding fit_entry
entry_usable f P m x =
    pick_by (λ (r : Fit). r ≡ Ok x → Usable f P m) (leb (m.first + m.count) (pair_count P)) _ _
    (λ q. pick_by (λ (r : Fit). r ≡ Ok x → Usable f P m) (fit f [] (entries_of P m)) _ _
    (λ w k. record { within = leb-true (m.first + m.count) (pair_count P) q; fits = w }) (λ w k. never BadIndex x k))
    (λ q k. never BadIndex x k)

module _ (f P M : List ℕ) (s : Psbt) (m : ℕ) (l : m < maps_reported s) where
  pub at_whole : (x : MapEntry) → fit_at f P M s m ≡ Ok x → Whole f P M m
  unfolding not_listed
  at_whole x e = by (ltb m (map_count M)) refl
    where
      by : (b : Bool) → ltb m (map_count M) ≡ b → Whole f P M m
      by false q =
          never BadIndex x (map_missing f P M s m true (sym (lt-ltb m (maps_reported s) l)) (map_count M)
          refl (ltb-false m (map_count M) q) (Err BadIndex) refl ∙ e)
      by true q =
          let k : m < map_count M = ltb-true m (map_count M) q in
          record {
            listed = k;
            usable =
                entry_usable f P (map_at M m) x
                (map_there f P M s m true (sym (lt-ltb m (maps_reported s) l)) (map_count M)
                refl refl k (map_at M m) refl (fit_entry f P (map_at M m)) refl ∙ e);
          }

  whole_at : Whole f P M m → view f P M s m ≡ shows (pairs_of f P M m)
  unfolding view view_of pairs_of held_of fit_entry
  whole_at w = ap (view_of f) (sym (map_held f P M s m (Ok (map_at M m))
      (map_there f P M s m true (sym (lt-ltb m (maps_reported s) l)) (map_count M) refl refl w.listed (map_at M m) refl (Ok (map_at M m))
      (sym (rw (le-leb ((map_at M m).first + (map_at M m).count) (pair_count P) w.usable.within, w.usable.fits))))))

-- what the maps from number m on say is what all say
pub record Going (f P M : List ℕ) (s : Psbt) (m : ℕ) : Type 0 where
  pub listed : m ≤ map_count M
  pub is : ruled_by (gather (view f P M s) m (maps_reported s - m)) ≡ ruled_by (gather (view f P M s) 0 (maps_reported s))

pub all_first : (f P M : List ℕ) (s : Psbt) → Going f P M s 0
all_first f P M s = record { listed = omega arith; is = let q : maps_reported s - 0 ≡ maps_reported s = omega arith in rw q }

module _ (f P M : List ℕ) (s : Psbt) (m : ℕ) (k : Going f P M s m) where
  pub all_passed : maps_reported s ≤ m → passed ≡ ruled_by (gather (view f P M s) 0 (maps_reported s))
  unfolding gather ruled_by
  all_passed q =
      let n : maps_reported s - m ≡ 0 = omega arith in
      sym (ap (λ (n : ℕ). ruled_by (gather (view f P M s) m n)) n) ∙ k.is

  module _ (more : m < maps_reported s) (r : Fit) (at : r ≡ fit_at f P M s m) where
    turn : ruled_by (gather_by (view f P M s m) (gather (view f P M s) (m + 1) (maps_reported s - (m + 1))))
        ≡ ruled_by (gather (view f P M s) 0 (maps_reported s))
    unfolding gather
    turn =
        let n : suc (maps_reported s - (m + 1)) ≡ maps_reported s - m = omega (arith, more) in
        ap (λ (n : ℕ). ruled_by (gather (view f P M s) m n)) n ∙ k.is

    pub all_stop : (e : PsbtError) → r ≡ Err e → Err e ≡ ruled_by (gather (view f P M s) 0 (maps_reported s))
    unfolding gather_by ruled_by view view_of held_of
    all_stop e w =
        let h : view f P M s m ≡ hides e = ap (view_of f) (sym (map_held f P M s m r at) ∙ ap (held_of P) w) in
        sym (ap (λ (v : View). ruled_by (gather_by v (gather (view f P M s) (m + 1) (maps_reported s - (m + 1))))) h) ∙ turn

    pub all_more : (x : MapEntry) → r ≡ Ok x → Going f P M s (m + 1)
    all_more x w =
        let here : Whole f P M m = at_whole f P M s m more x (sym at ∙ w) in
        record {
          listed = omega (arith, here.listed);
          is =
              sym (shows_on (pairs_of f P M m) (gather (view f P M s) (m + 1) (maps_reported s - (m + 1))))
              ∙ rw (← whole_at f P M s m more here) turn;
        }

-- where the maps from number i on pass, none of them hides
pass_both : (y : View) (g : Gathered) → ruled_by (gather_by y g) ≡ passed → (ruled_by g ≡ passed) × ((e : PsbtError) → y ≡ hides e → ⊥)
unfolding ruled_by gather_by
pass_both (hides e) g h = let z : ◌≡◌ {A = ℕ} 0 1 = cc in absurd (omega arith)
pass_both (shows ps) g h = (sym (shows_on ps g) ∙ h, λ e q. let z : ◌≡◌ {A = ℕ} 0 1 = cc in omega arith)

pass_shows : (v : ℕ → View) (i n m : ℕ) → ruled_by (gather v i n) ≡ passed → i ≤ m → m < i + n → (e : PsbtError) → v m ≡ hides e → ⊥
unfolding gather
pass_shows v i zero m h a b e q = omega arith
pass_shows v i (suc n) m h a b e q =
    let k : (ruled_by (gather v (i + 1) n) ≡ passed) × ((x : PsbtError) → v i ≡ hides x → ⊥) = pass_both (v i) (gather v (i + 1) n) h in
    by (ltb i m) refl (λ l. pass_shows v (i + 1) n m k.0 (omega arith) (omega arith) e q) (λ l. k.1 e (ap v l ∙ q))
  where
    by : (t : Bool) → ltb i m ≡ t → (i < m → ⊥) → (i ≡ m → ⊥) → ⊥
    by true w x y = x (ltb-true i m w)
    by false w x y = y (omega (arith, ltb-false i m w))

module _ (f P M : List ℕ) (s : Psbt) (r : Ruled) (is : r ≡ ruled_by (gather (view f P M s) 0 (maps_reported s))) where
  pub all_are : r ≡ passed → AllFit f P M s
  unfolding view view_of held_of
  all_are q = record { all = λ m l. by m l (fit_at f P M s m) refl }
    where
      by : (m : ℕ) → m < maps_reported s → (x : Fit) → fit_at f P M s m ≡ x → Whole f P M m
      by m l (Err e) w =
          absurd (pass_shows (view f P M s) 0 (maps_reported s) m (sym is ∙ q) (omega arith) (omega arith) e
          (ap (view_of f) (sym (map_held f P M s m (fit_at f P M s m) refl) ∙ ap (held_of P) w)))
      by m l (Ok x) w = at_whole f P M s m l x w

  pub all_not : (e : PsbtError) → r ≡ Err e → unfit_map e ≡ reported (view f P M s) s
  unfolding reported ruled_by reported_by
  all_not e q = by (gather (view f P M s) 0 (maps_reported s)) (sym is ∙ q)
    where
      by : (g : Gathered) → ruled_by g ≡ Err e → unfit_map e ≡ reported_by s.inputs g
      by (unfit x) w = let k : x ≡ e = cc in rw k
      by (gathered l) w = let z : ◌≡◌ {A = ℕ} 0 1 = cc in absurd (omega arith)

-- where each map shows its pairs, they are gathered
gather_is : (v : ℕ → View) (p : ℕ → List Pair) (i n : ℕ) → ((m : ℕ) → i ≤ m → m < i + n → v m ≡ shows (p m)) → gather v i n ≡ gathered (from p i n)
unfolding gather gather_by from
gather_is v p i zero h = refl
gather_is v p i (suc n) h = rw (h i (omega arith) (omega arith), gather_is v p (i + 1) n (λ m a b. h m (omega arith) (omega arith)))

-- what callers learn where all maps are fit
module _ (f P M : List ℕ) (s : Psbt) (k : AllFit f P M s) where
  gathers : gather (view f P M s) 0 (maps_reported s) ≡ gathered (from (pairs_of f P M) 0 (maps_reported s))
  gathers = gather_is (view f P M s) (pairs_of f P M) 0 (maps_reported s) (λ m a b. whole_at f P M s m (omega arith) (k.all m (omega arith)))

  ins_are : map in_of (take s.inputs (drop 1 (from (pairs_of f P M) 0 (maps_reported s)))) ≡ ins_of f P M s
  unfolding ins_of in_at maps_reported
  ins_are =
      ap (λ (l : List (List Pair)). map in_of (take s.inputs l)) (from_drop (pairs_of f P M) 1 0 (maps_reported s))
      ∙ ap (map in_of) (from_take (pairs_of f P M) s.inputs 1 (1 + (s.inputs + s.outputs) - 1) (omega arith))
      ∙ from_map (pairs_of f P M) in_of 1 s.inputs
      ∙ from_shift (λ j. in_of (pairs_of f P M j)) 1 0 s.inputs

  outs_are : map out_of (drop (1 + s.inputs) (from (pairs_of f P M) 0 (maps_reported s))) ≡ outs_of f P M s
  unfolding outs_of out_at maps_reported
  outs_are =
      let a : 0 + (1 + s.inputs) ≡ 1 + s.inputs + 0 = omega arith in
      let b : 1 + (s.inputs + s.outputs) - (1 + s.inputs) ≡ s.outputs = omega arith in
      ap (map out_of) (from_drop (pairs_of f P M) (1 + s.inputs) 0 (maps_reported s) ∙ ap₂ (from (pairs_of f P M)) a b)
      ∙ from_map (pairs_of f P M) out_of (1 + s.inputs + 0) s.outputs
      ∙ from_shift (λ j. out_of (pairs_of f P M j)) (1 + s.inputs) 0 s.outputs

  pub all_reported : reports (ins_of f P M s) (outs_of f P M s) ≡ reported (view f P M s) s
  unfolding reported reported_by
  all_reported = sym (ap (reported_by s.inputs) gathers ∙ ap₂ reports ins_are outs_are)

  pub maps_few : 1 + s.inputs + s.outputs ≤ map_count M
  unfolding maps_reported
  maps_few = omega (arith, (k.all (s.inputs + s.outputs) (omega arith)).listed)

  module _ (i : ℕ) (h : i < s.inputs) where
    pub input_listed : 1 + i < map_count M
    input_listed = omega (arith, maps_few)

    pub input_whole : Whole f P M (1 + i)
    unfolding maps_reported
    input_whole = k.all (1 + i) (omega arith)

    pub input_usable : (m : MapEntry) → m ≡ map_at M (1 + i) → Usable f P m
    input_usable m e = rw e input_whole.usable

  module _ (i : ℕ) (h : i < s.outputs) where
    pub output_listed : 1 + s.inputs + i < map_count M
    output_listed = omega (arith, maps_few)

    pub output_whole : Whole f P M (1 + s.inputs + i)
    unfolding maps_reported
    output_whole = k.all (1 + s.inputs + i) (omega arith)

    pub output_usable : (m : MapEntry) → m ≡ map_at M (1 + s.inputs + i) → Usable f P m
    output_usable m e = rw e output_whole.usable

-- what a walk over inputs or outputs asks of the next map
pub ruleset input_maps = (input_listed, input_usable)

pub ruleset output_maps_lem = (output_listed, output_usable)
