-- Laws of finding the fields of an input in one walk over its pairs: each is the field that a walk for itself finds.
use mathlib.Core.Path.{◌≡◌, refl, sym, ◌∙◌, ap}
use mathlib.Core.Bool.{Bool, true, false}
use mathlib.Core.List.{List, [], ◌∷◌, map}
use Prim.Native.Nat.{ℕ}
use lib.Dec.{eqb}
use lib.ListN.{length}
use Rattle.format.specs.Tests.{pick}
use Rattle.format.specs.Keys.{key_of, same}
use Rattle.format.specs.Content.{field}
use Rattle.format.specs.Entries.{key_in_def, shown}
use Rattle.format.specs.Lookups.{place}
use Rattle.format.specs.Locks.{sized_to, in_of}
use Rattle.format.specs.declared.PairEntry.{PairEntry}
use Rattle.format.specs.declared.MapEntry.{MapEntry}
use Rattle.format.specs.declared.Part.{Part}
use Rattle.format.specs.Answers.{part_at}
use Rattle.std.specs.Prelude.{Ok, Some}
use Rattle.keys.proofs.Bare.{bare_not}
use Rattle.fitness.specs.Fits.{entries_of}
use Rattle.all_maps_fit.specs.Alls.{Usable}
use Rattle.all_maps_fit.specs.Places.{found_at, field_at, sized_at, sized_in, noted_at, field_noted, field_from, no_input, note_input, input_from, input_in}
use Rattle.all_maps_fit.specs.declared.SizedAt.{SizedAt}
use Rattle.all_maps_fit.specs.declared.SizedAt.TheVariants as S
use Rattle.all_maps_fit.specs.declared.InputAt.{InputAt}
use Rattle.all_maps_fit.proofs.Fields.{sized_is}

-- a field after a pair, each way
module _ (old : SizedAt) (own : Bool) (w : ℕ) (e : PairEntry) where
  pub noted_own : old ≡ S.Missing → own ≡ true → (r : SizedAt) → r ≡ sized_at w (Some (part_at e.value e.vlen)) → r ≡ noted_at old own w e
  unfolding noted_at
  noted_own h k r q = q ∙ sym (rw (h, k))

  pub noted_other : old ≡ S.Missing → own ≡ false → old ≡ noted_at old own w e
  unfolding noted_at
  noted_other h k = rw (h, k)

  pub noted_misfit : old ≡ S.Misfit → old ≡ noted_at old own w e
  unfolding noted_at
  noted_misfit h = rw h

  pub noted_there_lem : (s : ℕ) → old ≡ S.At s → old ≡ noted_at old own w e
  unfolding noted_at
  noted_there_lem s h = rw h

pub ruleset noteds = (noted_own, noted_other, noted_misfit, noted_there_lem)

-- all fields after a pair
not_noted : (old : SizedAt) (own : Bool) (w : ℕ) (e : PairEntry) → own ≡ false → noted_at old own w e ≡ old
unfolding noted_at
not_noted S.Missing own w e h = rw h
not_noted S.Misfit own w e h = refl
not_noted (S.At s) own w e h = refl

module _ (f : List ℕ) (a : InputAt) (e : PairEntry) (k : List ℕ) (is : k ≡ key_in_def f e) where
  other : (t w : ℕ) (old : SizedAt) → (length k ≡ 1 → ⊥) → field_noted f t w old e ≡ old
  unfolding field_noted
  other t w old h = not_noted old _ w e (ap (same (key_of t [])) (sym is) ∙ sym (bare_not k t h))

  pub input_other : (length k ≡ 1 → ⊥) → a ≡ note_input f a e
  unfolding note_input
  input_other h = sym (λ j. record {
    txid = other 0x0e 32 a.txid h j;
    index = other 0x0f 4 a.index h j;
    sequence = other 0x10 4 a.sequence h j;
    time = other 0x11 4 a.time h j;
    height = other 0x12 4 a.height h j;
  })

  noted_is : (t w : ℕ) (b : Bool) (old r : SizedAt) → b ≡ same (key_of t []) k → r ≡ noted_at old b w e → r ≡ field_noted f t w old e
  unfolding field_noted
  noted_is t w b old r p q = q ∙ ap (λ (x : Bool). noted_at old x w e) (p ∙ ap (same (key_of t [])) is)

  pub input_noted : (b c d g h : Bool) (v w x y z : SizedAt)
      → b ≡ same (key_of 0x0e []) k → v ≡ noted_at a.txid b 32 e → c ≡ same (key_of 0x0f []) k → w ≡ noted_at a.index c 4 e
      → d ≡ same (key_of 0x10 []) k → x ≡ noted_at a.sequence d 4 e → g ≡ same (key_of 0x11 []) k → y ≡ noted_at a.time g 4 e
      → h ≡ same (key_of 0x12 []) k → z ≡ noted_at a.height h 4 e
      → record { txid = v; index = w; sequence = x; time = y; height = z } ≡ note_input f a e
  unfolding note_input
  input_noted b c d g h v w x y z pb qv pc qw pd qx pg qy ph qz = λ j. record {
    txid = noted_is 0x0e 32 b a.txid v pb qv j;
    index = noted_is 0x0f 4 c a.index w pc qw j;
    sequence = noted_is 0x10 4 d a.sequence x pd qx j;
    time = noted_is 0x11 4 g a.time y pg qy j;
    height = noted_is 0x12 4 h a.height z ph qz j;
  }

pub ruleset notes = (input_other, input_noted)

-- after all pairs a field is where its own walk finds it
module _ (f : List ℕ) (t w : ℕ) where
  field_stays : (x : SizedAt) (es : List PairEntry) → ((e : PairEntry) → field_noted f t w x e ≡ x) → field_from f t w x es ≡ x
  unfolding field_from
  field_stays x [] h = refl
  field_stays x (e ∷ es) h = ap (λ (y : SizedAt). field_from f t w y es) (h e) ∙ field_stays x es h

  sized_stays : (p : Part) (es : List PairEntry) → field_from f t w (sized_at w (Some p)) es ≡ sized_at w (Some p)
  unfolding sized_at field_noted noted_at
  sized_stays p es = by (eqb p.len w)
    where
      by : (b : Bool) → field_from f t w (pick b (S.At p.start) S.Misfit) es ≡ pick b (S.At p.start) S.Misfit
      by true = field_stays (S.At p.start) es (λ e. refl)
      by false = field_stays S.Misfit es (λ e. refl)

  field_walked : (es : List PairEntry) → field_from f t w S.Missing es ≡ sized_at w (found_at (place f (key_of t []) es))
  unfolding field_from field_noted noted_at place found_at sized_at
  field_walked [] = refl
  field_walked (e ∷ es) = by (field_walked es) (same (key_of t []) (key_in_def f e))
    where
      by : field_from f t w S.Missing es ≡ sized_at w (found_at (place f (key_of t []) es)) → (b : Bool)
          → field_from f t w (pick b (sized_at w (Some (part_at e.value e.vlen))) S.Missing) es
          ≡ sized_at w (found_at (pick b (Ok (Some (part_at e.value e.vlen))) (place f (key_of t []) es)))
      by h true = sized_stays (part_at e.value e.vlen) es
      by h false = h

  field_shown : (P : List ℕ) (m : MapEntry) → Usable f P m
      → sized_in w f (field_from f t w S.Missing (entries_of P m)) ≡ sized_to w (field t (map (shown f) (entries_of P m)))
  unfolding field_at
  field_shown P m u = sized_is f P m t w (field_at f P t m) _ u refl (field_walked (entries_of P m))

-- all fields, one by one
fields_from : (f : List ℕ) (a : InputAt) (es : List PairEntry) → input_from f a es ≡ record {
  txid = field_from f 0x0e 32 a.txid es;
  index = field_from f 0x0f 4 a.index es;
  sequence = field_from f 0x10 4 a.sequence es;
  time = field_from f 0x11 4 a.time es;
  height = field_from f 0x12 4 a.height es;
}
unfolding input_from field_from note_input
fields_from f a [] = refl
fields_from f a (e ∷ es) = fields_from f (note_input f a e) es

inputs_shown : (f P : List ℕ) (m : MapEntry) → Usable f P m → input_in f (input_from f no_input (entries_of P m)) ≡ in_of (map (shown f) (entries_of P m))
unfolding input_in in_of
inputs_shown f P m u = ap (input_in f) (fields_from f no_input (entries_of P m)) ∙ (λ j. record {
  txid = field_shown f 0x0e 32 P m u j;
  index = field_shown f 0x0f 4 P m u j;
  sequence = field_shown f 0x10 4 P m u j;
  time = field_shown f 0x11 4 P m u j;
  height = field_shown f 0x12 4 P m u j;
})

-- the fields after the pairs left are those after all
pub note_done : (f P : List ℕ) (m : MapEntry) (a : InputAt) (left : List PairEntry) → input_from f a left ≡ input_from f no_input (entries_of P m)
    → left ≡ [] → Usable f P m
    → input_in f a ≡ in_of (map (shown f) (entries_of P m))
unfolding input_from
note_done f P m a left k q u = ap (input_in f) (sym (ap (input_from f a) q) ∙ k) ∙ inputs_shown f P m u

pub note_more : (f : List ℕ) (a b all : InputAt) (left rest : List PairEntry) (e : PairEntry) → input_from f a left ≡ all → left ≡ e ∷ rest
    → b ≡ note_input f a e
    → input_from f b rest ≡ all
unfolding input_from
note_more f a b all left rest e k q r = ap (λ (x : InputAt). input_from f x rest) r ∙ sym (ap (input_from f a) q) ∙ k
