-- Laws of the walks: the lines that are left, put from here, give the whole.
use mathlib.Core.Path.{◌≡◌, refl, sym, ◌∙◌, ap}
use mathlib.Core.Bool.{Bool, true, false}
use mathlib.Core.List.{List, [], ◌∷◌, map}
use Prim.Native.Nat.{ℕ, suc, ◌+◌, ◌-◌, ◌≤◌, ◌<◌}
use native.Mathlib.Omega.{arith}
use borrow.Author.Tests.{ltb-true, ltb-false}
use lib.Dec.{ltb}
use lib.ListN.{length, drop, length-map, length-drop}
use lib.Seq.{length-take-le}
use Rattle.format.specs.Entries.{pair_entries, map_entries, shown}
use Rattle.format.specs.Tables.{maps_reported, View, view_of, view}
use Rattle.format.specs.Tests.{pick}
use Rattle.format.specs.declared.PsbtError.{PsbtError}
use Rattle.format.specs.declared.PsbtError.TheVariants.{OutOfRange}
use Rattle.format.specs.declared.PairEntry.{PairEntry}
use Rattle.format.specs.declared.MapEntry.{MapEntry}
use Rattle.format.specs.declared.Psbt.{Psbt}
use Rattle.entries.specs.Words.{pair_count, map_count}
use Rattle.fitness.specs.Fits.{run, entries_of, held_of, fit_by, fit_at, Fit}
use Rattle.std.specs.Prelude.{Ok, Err}
use Rattle.fitness.proofs.Maps.{map_held, map_sound}
use Rattle.all_maps_fit.proofs.Gathers.{at_whole}
use Rattle.text.specs.Spots.{Spot, lay}
use Rattle.text.proofs.Lays.{lay_then}
use Rattle.dump_text.specs.Lines.{map_line, pair_line, pairs_text, map_text, map_then, maps_text}

-- the lines of the pairs left, put from here, give those of all
module _ (s t : Spot) (f : List ℕ) (left all : List PairEntry) (k : lay t (pairs_text (map (shown f) left)) ≡ lay s (pairs_text (map (shown f) all))) where
  pub pairs_done : left ≡ [] → t ≡ lay s (pairs_text (map (shown f) all))
  unfolding pairs_text lay
  pairs_done q = sym (ap (λ (es : List PairEntry). lay t (pairs_text (map (shown f) es))) q) ∙ k

  pub pairs_more : (e : PairEntry) (rest : List PairEntry) → left ≡ e ∷ rest → (u : Spot) → u ≡ lay t (pair_line (shown f e))
      → lay u (pairs_text (map (shown f) rest)) ≡ lay s (pairs_text (map (shown f) all))
  unfolding pairs_text
  pairs_more e rest is u g = lay_then _ _ _ _ _ g refl ∙ sym (ap (λ (es : List PairEntry). lay t (pairs_text (map (shown f) es))) is) ∙ k

-- a map's line and its pairs' lines
counts : (f P : List ℕ) (e : MapEntry) → e.first + e.count ≤ pair_count P → length (map (shown f) (entries_of P e)) ≡ e.count
unfolding entries_of run pair_count
counts f P e h =
    length-map (entries_of P e) (shown f)
    ∙ length-take-le e.count (drop e.first (pair_entries P)) (rw (length-drop e.first (pair_entries P)) (omega arith))

pub map_text_lem : (s t u : Spot) (f P : List ℕ) (m : ℕ) (e : MapEntry) → e.first + e.count ≤ pair_count P
    → t ≡ lay s (map_line m e.count) → u ≡ lay t (pairs_text (map (shown f) (entries_of P e))) → u ≡ lay s (map_text m (map (shown f) (entries_of P e)))
unfolding map_text
map_text_lem s t u f P m e h a b = lay_then _ _ _ _ _ (a ∙ ap (λ (n : ℕ). lay s (map_line m n)) (sym (counts f P e h))) b

-- a map that is handed back is reported
reported_if : (f P M : List ℕ) (s : Psbt) (m : ℕ) (x : MapEntry) → fit_at f P M s m ≡ Ok x → m < maps_reported s
unfolding fit_at
reported_if f P M s m x = by (ltb m (maps_reported s)) refl
  where
    by : (b : Bool) → ltb m (maps_reported s) ≡ b → pick b (fit_by f P (drop m (map_entries M))) (Err OutOfRange) ≡ Ok x → m < maps_reported s
    by true q w = ltb-true m (maps_reported s) q
    by false q w = let z : ◌≡◌ {A = ℕ} 0 1 = cc in absurd (omega arith)

-- the lines of the maps from number m on
abbrev pub lines_from : List ℕ → List ℕ → List ℕ → Psbt → ℕ → List ℕ
lines_from f P M s m = maps_text (view f P M s) m (maps_reported s - m)

-- the lines of the maps from number m on, put from here, where the fitness of map m is r
abbrev laid : Spot → List ℕ → List ℕ → List ℕ → Psbt → ℕ → Fit → Spot
laid t f P M s m r = lay t (map_then m (view_of f (held_of P r)) (lines_from f P M s (m + 1)))

-- those lines, put from here, give those of all
module _ (a t : Spot) (f P M : List ℕ) (s : Psbt) (m : ℕ) (k : lay t (lines_from f P M s m) ≡ lay a (maps_text (view f P M s) 0 (maps_reported s))) where
  maps_over : maps_reported s ≤ m → t ≡ lay a (maps_text (view f P M s) 0 (maps_reported s))
  unfolding maps_text lay
  maps_over h =
      let n : maps_reported s - m ≡ 0 = omega arith in
      sym (ap (λ (n : ℕ). lay t (maps_text (view f P M s) m n)) n) ∙ k

  module _ (r : Fit) (on : r ≡ fit_at f P M s m) where
    turn : m < maps_reported s → laid t f P M s m r ≡ lay a (maps_text (view f P M s) 0 (maps_reported s))
    unfolding maps_text view
    turn h =
        let n : suc (maps_reported s - (m + 1)) ≡ maps_reported s - m = omega arith in
        ap (λ (v : View). lay t (map_then m v (lines_from f P M s (m + 1)))) (ap (view_of f) (map_held f P M s m r on))
        ∙ ap (λ (n : ℕ). lay t (maps_text (view f P M s) m n)) n ∙ k

    -- a map that is refused is not reported, or it ends the lines
    pub maps_stop : (e : PsbtError) → r ≡ Err e → t ≡ lay a (maps_text (view f P M s) 0 (maps_reported s))
    unfolding map_then view_of held_of lay
    maps_stop e w = by (ltb m (maps_reported s)) refl
      where
        by : (b : Bool) → ltb m (maps_reported s) ≡ b → t ≡ lay a (maps_text (view f P M s) 0 (maps_reported s))
        by true q = sym (ap (laid t f P M s m) w) ∙ turn (ltb-true m (maps_reported s) q)
        by false q = maps_over (ltb-false m (maps_reported s) q)

    module _ (x : MapEntry) (w : r ≡ Ok x) where
      pub maps_within : x.first + x.count ≤ pair_count P
      maps_within = (map_sound f P M s m r on).within.inside x w

      pub maps_more : (u : Spot) → u ≡ lay t (map_text m (map (shown f) (entries_of P x)))
          → lay u (lines_from f P M s (m + 1)) ≡ lay a (maps_text (view f P M s) 0 (maps_reported s))
      unfolding map_then view_of held_of
      maps_more u g = lay_then _ _ _ _ _ g refl ∙ sym (ap (laid t f P M s m) w) ∙ turn (reported_if f P M s m x (sym on ∙ w))

  -- no map is listed from number m on, so the next is refused
  pub maps_end : map_count M ≤ m → t ≡ lay a (maps_text (view f P M s) 0 (maps_reported s))
  maps_end h = by (fit_at f P M s m) refl
    where
      by : (r : Fit) → r ≡ fit_at f P M s m → t ≡ lay a (maps_text (view f P M s) 0 (maps_reported s))
      by (Err e) on = maps_stop (Err e) on e refl
      by (Ok x) on = absurd (omega (arith, (at_whole f P M s m (reported_if f P M s m x (sym on)) x (sym on)).listed))

pub ruleset all_maps = (maps_stop, maps_within, maps_more, maps_end)
