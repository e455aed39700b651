-- Everything that is decided and answered depends on the listed pairs alone.
use mathlib.Core.Path.{◌≡◌, refl, sym, ◌∙◌, ap, ap₂}
use mathlib.Core.List.{List, [], ◌∷◌, ◌++◌, map}
use mathlib.Core.Bool.{Bool, true, false}
use Prim.Native.Nat.{ℕ, zero, suc}
use borrow.Author.Tests.{eqb-true}
use lib.Dec.{eqb}
use Rattle.format.specs.Tests.{pick, keep_if, only}
use Rattle.format.specs.Keys.{type_of, key_of, same}
use Rattle.format.specs.Rules.{GLOBAL, INPUT, OUTPUT, span, within, listed_types, listed}
use Rattle.format.specs.Content.{Pair, Map, Content, maps_of, Found, found, find, field, psbt_of, global_rule, output_rule, outputs_rule}
use Rattle.format.specs.Tables.{View, shows}
use Rattle.format.specs.Lookups.{Length, listing}
use Rattle.format.specs.Locks.{In, in_of, decide}
use Rattle.format.specs.Scripts.{Out, out_of, set_given}
use Rattle.format.specs.Transaction.{transaction}
use Rattle.format.specs.declared.PsbtError.TheVariants.{BadValue}
use Rattle.format.specs.declared.Psbt.{Psbt}
use Rattle.format.proofs.Tests.{clash, no_by}
use Rattle.format.proofs.Keys.{same_is}
use Rattle.claims_reading.specs.Shown.{bare, view_by}
use Rattle.claims_calls.specs.Answers.{refuses, of_length_in, look_in_def, list_in}
use Rattle.claims_calls.specs.Newer.{strike, strike_map, struck, listed_in, kinds, asks, report_of, ins_of, outs_of, Alike}

-- the value of a key of a listed type
find_at : (k : ℕ) (key : List ℕ) (p : Pair) (ps qs : List Pair) (t : Bool) → listed k p.key ≡ t → listed k key ≡ true
    → find key qs ≡ find key ps → find key (keep_if t p qs) ≡ find key (p ∷ ps)
unfolding find
find_at k key p ps qs true e l h = ap (pick (same key p.key) (found p.value)) h
find_at k key p ps qs false e l h =
    rw (no_by (same key p.key) (λ q. clash (listed k key) l (ap (listed k) (same_is _ _ q) ∙ e))) h

find_strike : (k : ℕ) (key : List ℕ) (ps : List Pair) → listed k key ≡ true → find key (strike k ps) ≡ find key ps
unfolding strike only
find_strike k key [] l = refl
find_strike k key (p ∷ ps) l = find_at k key p ps (strike k ps) (listed k p.key) refl l (find_strike k key ps l)

pub field_strike : (k t : ℕ) (ps : List Pair) → listed k (key_of t []) ≡ true → field t (strike k ps) ≡ field t ps
unfolding field
field_strike k t ps l = find_strike k (key_of t []) ps l

-- the pairs of a listed type
listing_at : (k t : ℕ) (p : Pair) (ps qs : List Pair) (b : Bool) → listed k p.key ≡ b → listed k (key_of t []) ≡ true
    → listing t qs ≡ listing t ps → listing t (keep_if b p qs) ≡ listing t (p ∷ ps)
unfolding listing only listed type_of key_of
listing_at k t p ps qs true e l h = ap (keep_if (eqb (type_of p.key) t) p) h
listing_at k t p ps qs false e l h =
    rw (no_by (eqb (type_of p.key) t) (λ q. clash (within (listed_types k) t) l (ap (within (listed_types k)) (sym (eqb-true _ _ q)) ∙ e))) h

listing_strike : (k t : ℕ) (ps : List Pair) → listed k (key_of t []) ≡ true → listing t (strike k ps) ≡ listing t ps
unfolding strike only
listing_strike k t [] l = refl
listing_strike k t (p ∷ ps) l = listing_at k t p ps (strike k ps) (listed k p.key) refl l (listing_strike k t ps l)

-- so a map's answers
pub look_strike : (k : ℕ) (key : List ℕ) → listed k key ≡ true
    → (ok : Bool) (l : Length) (ps : List Pair) → look_in_def ok l key (shows (strike k ps)) ≡ look_in_def ok l key (shows ps)
unfolding look_in_def
look_strike k key a ok l ps = ap (λ (x : Found). pick ok (of_length_in l x) (refuses BadValue)) (find_strike k key ps a)

pub list_strike : (k t : ℕ) → listed k (key_of t []) ≡ true → (ps : List Pair) → list_in t (shows (strike k ps)) ≡ list_in t (shows ps)
unfolding list_in
list_strike k t a ps = ap shows (listing_strike k t ps a)

-- the rules after a map
pub global_strike : (g : List Pair) → global_rule (strike GLOBAL g) ≡ global_rule g
unfolding global_rule listed type_of key_of within listed_types span
global_strike g =
    rw (field_strike GLOBAL 0x02 g refl, field_strike GLOBAL 0x04 g refl, field_strike GLOBAL 0x05 g refl, field_strike GLOBAL 0xfb g refl)

output_strike : (flags : Bool) (o : List Pair) → output_rule flags (strike OUTPUT o) ≡ output_rule flags o
unfolding output_rule listed type_of key_of within listed_types span
output_strike flags o = rw (field_strike OUTPUT 0x04 o refl, field_strike OUTPUT 0x09 o refl, field_strike OUTPUT 0x0a o refl)

pub outputs_strike : (flags : Bool) (ms : List Map) → outputs_rule flags (map (strike_map OUTPUT) ms) ≡ outputs_rule flags ms
unfolding outputs_rule strike_map
outputs_strike flags [] = refl
outputs_strike flags (m ∷ ms) = rw (output_strike flags m.pairs, outputs_strike flags ms)

-- what is gathered from a map
report_strike : (c : Content) → report_of (struck c) ≡ report_of c
unfolding report_of struck strike_map psbt_of listed type_of key_of within listed_types span
report_strike c =
    let g = c.global.pairs in
    rw (
      field_strike GLOBAL 0x02 g refl,
      field_strike GLOBAL 0x03 g refl,
      field_strike GLOBAL 0x06 g refl,
      field_strike GLOBAL 0x04 g refl,
      field_strike GLOBAL 0x05 g refl,
    )

in_strike : (m : Map) → in_of (strike_map INPUT m).pairs ≡ in_of m.pairs
unfolding in_of strike_map listed type_of key_of within listed_types span
in_strike m =
    let ps = m.pairs in
    rw (
      field_strike INPUT 0x0e ps refl,
      field_strike INPUT 0x0f ps refl,
      field_strike INPUT 0x10 ps refl,
      field_strike INPUT 0x11 ps refl,
      field_strike INPUT 0x12 ps refl,
    )

pub out_strike : (ps : List Pair) → out_of (strike OUTPUT ps) ≡ out_of ps
unfolding out_of listed type_of key_of within listed_types span
out_strike ps = rw (field_strike OUTPUT 0x03 ps refl, field_strike OUTPUT 0x04 ps refl)

-- a function that doesn't tell images from what they are of
map_same : {A B : Type 0} (g : A → B) (f : A → A) → ((x : A) → g (f x) ≡ g x) → (xs : List A) → map g (map f xs) ≡ map g xs
map_same g f h [] = refl
map_same {A} {B} g f h (x ∷ xs) = ap₂ {C = List B} (λ y ys. y ∷ ys) (h x) (map_same g f h xs)

ins_strike : (c : Content) → ins_of (struck c) ≡ ins_of c
unfolding ins_of struck
ins_strike c = map_same (λ (m : Map). in_of m.pairs) (strike_map INPUT) in_strike c.ins

outs_strike : (c : Content) → outs_of (struck c) ≡ outs_of c
unfolding outs_of struck strike_map
outs_strike c = map_same (λ (m : Map). out_of m.pairs) (strike_map OUTPUT) (λ m. out_strike m.pairs) c.outs

kinds_strike : (c : Content) → kinds (struck c) ≡ kinds c
unfolding kinds struck
kinds_strike c =
    rw (map_same (λ (m : Map). INPUT) (strike_map INPUT) (λ m. refl) c.ins, map_same (λ (m : Map). OUTPUT) (strike_map OUTPUT) (λ m. refl) c.outs)

-- striking asks nothing of the spelling
bare_keep : (t : Bool) (p : Pair) (ps : List Pair) → map bare (keep_if t p ps) ≡ keep_if t (bare p) (map bare ps)
bare_keep true p ps = refl
bare_keep false p ps = refl

bare_strike : (k : ℕ) (ps : List Pair) → map bare (strike k ps) ≡ strike k (map bare ps)
unfolding strike only bare
bare_strike k [] = refl
bare_strike k (p ∷ ps) = bare_keep (listed k p.key) p (strike k ps) ∙ ap (keep_if (listed k p.key) (bare p)) (bare_strike k ps)

-- what is struck has nothing left to strike
keep_again : (k : ℕ) (t : Bool) (p : Pair) (qs : List Pair) → listed k p.key ≡ t → strike k qs ≡ qs → strike k (keep_if t p qs) ≡ keep_if t p qs
unfolding strike only
keep_again k true p qs e h = rw e (ap (λ (l : List Pair). p ∷ l) h)
keep_again k false p qs e h = h

strike_again : (k : ℕ) (ps : List Pair) → strike k (strike k ps) ≡ strike k ps
unfolding strike only
strike_again k [] = refl
strike_again k (p ∷ ps) = keep_again k (listed k p.key) p (strike k ps) refl (strike_again k ps)

struck_again : (c : Content) → struck (struck c) ≡ struck c
unfolding struck strike_map
struck_again c = λ i. record {
  global = again GLOBAL c.global i;
  ins = map_same (strike_map INPUT) (strike_map INPUT) (again INPUT) c.ins i;
  outs = map_same (strike_map OUTPUT) (strike_map OUTPUT) (again OUTPUT) c.outs i;
}
  where
    again : (k : ℕ) (m : Map) → strike_map k (strike_map k m) ≡ strike_map k m
    again k m = λ i. record { pairs = strike_again k m.pairs i; end = m.end }

-- maps of one kind, struck, show what is listed
pub view_struck : (k : ℕ) (ms : List Map) (i : ℕ) → view_by i (map (strike_map k) ms) ≡ listed_in k (view_by i ms)
unfolding view_by strike_map listed_in
view_struck k [] i = refl
view_struck k (x ∷ ms) zero = ap shows (bare_strike k x.pairs)
view_struck k (x ∷ ms) (suc i) = view_struck k ms i

-- by a map's number: what a map answers by its listed pairs alone
module _ {A : Type 0} (g : View → A) (key : List ℕ) (h : (k : ℕ) (ps : List Pair) → listed k key ≡ true → g (shows (strike k ps)) ≡ g (shows ps)) where
  shown_strike : (k : ℕ) (ps : List Pair) → listed k key ≡ true → g (shows (map bare (strike k ps))) ≡ g (shows (map bare ps))
  shown_strike k ps l = ap (λ (qs : List Pair). g (shows qs)) (bare_strike k ps) ∙ h k (map bare ps) l

  last_strike : (k : ℕ) (ms : List Map) (m : ℕ) → asks m (map (λ (x : Map). k) ms) key ≡ true → g (view_by m (map (strike_map k) ms)) ≡ g (view_by m ms)
  unfolding asks view_by strike_map
  last_strike k [] m l = refl
  last_strike k (x ∷ ms) zero l = shown_strike k x.pairs l
  last_strike k (x ∷ ms) (suc m) l = last_strike k ms m l

  maps_strike : (ms ns : List Map) (m : ℕ) → asks m (map (λ (x : Map). INPUT) ms ++ map (λ (x : Map). OUTPUT) ns) key ≡ true
      → g (view_by m (map (strike_map INPUT) ms ++ map (strike_map OUTPUT) ns)) ≡ g (view_by m (ms ++ ns))
  unfolding asks view_by strike_map
  maps_strike [] ns m l = last_strike OUTPUT ns m l
  maps_strike (x ∷ ms) ns zero l = shown_strike INPUT x.pairs l
  maps_strike (x ∷ ms) ns (suc m) l = maps_strike ms ns m l

  view_strike : (c : Content) (m : ℕ) → asks m (kinds c) key ≡ true → g (view_by m (maps_of (struck c))) ≡ g (view_by m (maps_of c))
  unfolding asks view_by strike_map struck maps_of kinds
  view_strike c zero l = shown_strike GLOBAL c.global.pairs l
  view_strike c (suc m) l = maps_strike c.ins c.outs m l

-- alike by what lock, scripts and transaction are made of
pub alike_of : (c d : Content) → struck c ≡ struck d → report_of c ≡ report_of d → kinds c ≡ kinds d
    → ((m : ℕ) (key : List ℕ) → asks m (kinds c) key ≡ true
    → (ok : Bool) (l : Length) → look_in_def ok l key (view_by m (maps_of c)) ≡ look_in_def ok l key (view_by m (maps_of d)))
    → ((m t : ℕ) → asks m (kinds c) (key_of t []) ≡ true → list_in t (view_by m (maps_of c)) ≡ list_in t (view_by m (maps_of d)))
    → ins_of c ≡ ins_of d → outs_of c ≡ outs_of d → Alike c d
alike_of c d e r k v l i o = record {
  same_listed = e;
  same_report = r;
  same_kinds = k;
  same_lookups = v;
  same_lists = l;
  same_ins = i;
  same_outs = o;
  same_lock = ap₂ (λ (s : Psbt) (xs : List In). decide s.fallback_locktime xs) r i;
  same_scripts = λ buffer t T g. ap (λ (ys : List Out). set_given ys buffer t T g) o;
  same_transaction = λ T j. transaction (r j) (i j) (o j) T;
}

-- a content answers as its listed pairs alone
pub alike_struck : (c : Content) → Alike (struck c) c
alike_struck c =
    alike_of (struck c) c (struck_again c) (report_strike c) (kinds_strike c)
    (λ m key l ok n. view_strike (look_in_def ok n key) key (λ k ps a. look_strike k key a ok n ps) c m
    (ap (λ (ks : List ℕ). asks m ks key) (sym (kinds_strike c)) ∙ l))
    (λ m t l. view_strike (list_in t) (key_of t []) (λ k ps a. list_strike k t a ps) c m
    (ap (λ (ks : List ℕ). asks m ks (key_of t [])) (sym (kinds_strike c)) ∙ l))
    (ins_strike c) (outs_strike c)
