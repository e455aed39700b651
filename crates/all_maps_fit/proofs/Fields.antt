-- Laws of the fields of a fit map: where they stand, what stands there, and that it lies in the file.
use mathlib.Core.Path.{◌≡◌, refl, sym, ◌∙◌, ap}
use mathlib.Core.Bool.{Bool, true, false}
use mathlib.Core.List.{List, [], ◌∷◌, map}
use Prim.Native.Nat.{ℕ, ◌+◌, ◌≤◌}
use native.Mathlib.Omega.{arith}
use borrow.Author.Tests.{eq-eqb, ne_eqb, eqb-true}
use lib.Dec.{eqb}
use lib.ListN.{length, take, drop, length-take, length-drop}
use Rattle.format.specs.Keys.{key_of, same}
use Rattle.format.specs.Content.{Found, found, find, field}
use Rattle.format.specs.Entries.{key_in_def, value_in_def, shown}
use Rattle.format.specs.Lookups.{place}
use Rattle.format.specs.Locks.{is, sized_to}
use Rattle.format.specs.Scripts.{out_of}
use Rattle.format.specs.declared.PairEntry.{PairEntry}
use Rattle.format.specs.declared.MapEntry.{MapEntry}
use Rattle.format.specs.declared.Psbt.{Psbt}
use Rattle.format.specs.declared.Part.{Part}
use Rattle.format.specs.Answers.{part_at, Looked}
use Rattle.std.specs.Prelude.{Ok, Err, Some, None}
use Rattle.format.proofs.Tests.{pick_ap}
use Rattle.entries.specs.Words.{pair_count, map_at}
use Rattle.fitness.specs.Fits.{entries_of}
use Rattle.lookup.specs.Finds.{Lies}
use Rattle.lookup.proofs.Finds.{place_in}
use Rattle.all_maps_fit.specs.Alls.{Usable, pairs_of, out_at}
use Rattle.all_maps_fit.specs.Places.{found_at, field_at, sized_at, found_in_def, sized_in, FoundAt}
use Rattle.all_maps_fit.specs.declared.SizedAt.{SizedAt}
use Rattle.all_maps_fit.specs.declared.SizedAt.TheVariants as S

pub usable_within : (f P : List ℕ) (m : MapEntry) → Usable f P m → m.first + m.count ≤ pair_count P
usable_within f P m u = u.within

-- a field's place is where its key was found
pub field_place : (f P : List ℕ) (t : ℕ) (m : MapEntry) (x : FoundAt) → Ok x ≡ place f (key_of t []) (entries_of P m) → x ≡ field_at f P t m
unfolding field_at found_at
field_place f P t m x e = ap found_at e

-- a field of w bytes
module _ (w : ℕ) (x : FoundAt) where
  pub sized_missing : x ≡ None → S.Missing ≡ sized_at w x
  unfolding sized_at
  sized_missing e = rw e

  module _ (p : Part) (e : x ≡ Some p) where
    pub sized_right : p.len ≡ w → S.At p.start ≡ sized_at w x
    unfolding sized_at
    sized_right h = rw (e, eq-eqb p.len w h)

    pub sized_wrong : (p.len ≡ w → ⊥) → S.Misfit ≡ sized_at w x
    unfolding sized_at
    sized_wrong h = rw (e, ne_eqb p.len w h)

pub ruleset sizes = (sized_missing, sized_right, sized_wrong)

-- what stands where a key was found
place_shows : (f key : List ℕ) (es : List PairEntry) → found_in_def f (found_at (place f key es)) ≡ find key (map (shown f) es)
unfolding place find shown value_in_def found_at found_in_def
place_shows f key [] = refl
place_shows f key (e ∷ es) =
    pick_ap (λ (o : Looked). found_in_def f (found_at o)) (same key (key_in_def f e)) (Ok (Some (part_at e.value e.vlen))) (place f key es)
    ∙ rw (place_shows f key es)

sized_shows : (w : ℕ) (f : List ℕ) (o : Looked) → Lies f o → sized_in w f (sized_at w (found_at o)) ≡ sized_to w (found_in_def f (found_at o))
unfolding sized_in sized_at sized_to found_at found_in_def
sized_shows w f (Err e) h = refl
sized_shows w f (Ok None) h = refl
sized_shows w f (Ok (Some p)) h =
    let l : length (take p.len (drop p.start f)) ≡ p.len = rw (length-take, length-drop) (omega (arith, h.inside p refl)) in
    by l (eqb p.len w) refl
  where
    by : length (take p.len (drop p.start f)) ≡ p.len → (b : Bool) → eqb p.len w ≡ b
        → sized_in w f (sized_at w (Some p)) ≡ sized_to w (found (take p.len (drop p.start f)))
    by l true q = rw (l, q) (ap (λ (k : ℕ). is (take k (drop p.start f))) (sym (eqb-true p.len w q)))
    by l false q = rw (l, q)

pub sized_is : (f P : List ℕ) (m : MapEntry) (t w : ℕ) (x : FoundAt) (r : SizedAt) → Usable f P m → x ≡ field_at f P t m → r ≡ sized_at w x
    → sized_in w f r ≡ sized_to w (field t (map (shown f) (entries_of P m)))
unfolding field_at field
sized_is f P m t w x r u ex er =
    ap (sized_in w f) (er ∙ ap (sized_at w) ex)
    ∙ sized_shows w f (place f (key_of t []) (entries_of P m)) (place_in f (key_of t []) [] (entries_of P m) u.fits)
    ∙ ap (sized_to w) (place_shows f (key_of t []) (entries_of P m))

pub ruleset sized_fields = (usable_within, sized_is)

-- what callers learn of a field of any length
pub found_shows : (f P : List ℕ) (t : ℕ) (m : MapEntry) (x : FoundAt) → x ≡ field_at f P t m → found_in_def f x ≡ field t (map (shown f) (entries_of P m))
unfolding field_at field
found_shows f P t m x e = ap (found_in_def f) e ∙ place_shows f (key_of t []) (entries_of P m)

-- the script of an output
pub out_script : (f P M : List ℕ) (s : Psbt) (i : ℕ) (m : MapEntry) → m ≡ map_at M (1 + s.inputs + i) → (x : Found)
    → x ≡ field 0x04 (map (shown f) (entries_of P m)) → x ≡ (out_at f P M s i).script
unfolding out_at out_of pairs_of
out_script f P M s i m e x q = rw e at q
