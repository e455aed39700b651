-- One law for every call: two maps that show the same pairs of listed types answer it alike.
use mathlib.Core.Path.{◌≡◌, refl, sym, ◌∙◌, ap}
use mathlib.Core.List.{List, [], map}
use mathlib.Core.Bool.{Bool, true}
use Prim.Native.Nat.{ℕ}
use Rattle.format.specs.Keys.{type_of, key_of}
use Rattle.format.specs.Rules.{OUTPUT, span, within, listed_types, listed}
use Rattle.format.specs.Content.{Pair, Map}
use Rattle.format.specs.Tables.{Held, View, hides, shows, view_of}
use Rattle.format.specs.Lookups.{Length, exactly, asked}
use Rattle.format.specs.Fields.{number_field}
use Rattle.format.specs.declared.State.{State}
use Rattle.claims_reading.specs.Shown.{view_by}
use Rattle.claims_calls.specs.Answers.{Answer, look_in_def, number_in, script_in, list_in}
use Rattle.claims_calls.specs.Newer.{strike, strike_map, listed_in}
use Rattle.claims_calls.specs.Calls.{bytes_by, pairs_by}
use Rattle.claims_calls.proofs.Shapes.{Sound, By, asked_by, number_by, list_by}
use Rattle.claims_calls.proofs.Strikes.{field_strike, look_strike, list_strike, out_strike, view_struck}

-- two maps of kind k show the same pairs of listed types
pub record Agree (k : ℕ) (f : List ℕ) (x : Held) (g : List ℕ) (y : Held) : Type 0 where
  pub left : Sound f x
  pub right : Sound g y
  pub same : listed_in k (view_of f x) ≡ listed_in k (view_of g y)

-- as map number i of maps that are the same when struck
pub agree_by : (k : ℕ) (ms ns : List Map) → map (strike_map k) ms ≡ map (strike_map k) ns → (i : ℕ)
    → {f : List ℕ} {x : Held} → Sound f x → view_of f x ≡ view_by i ms → {g : List ℕ} {y : Held} → Sound g y → view_of g y ≡ view_by i ns → Agree k f x g y
agree_by k ms ns e i l p r q = record {
  left = l;
  right = r;
  same = ap (listed_in k) p ∙ sym (view_struck k ms i) ∙ ap (view_by i) e ∙ view_struck k ns i ∙ sym (ap (listed_in k) q);
}

-- an answer that goes by the pairs of listed types
abbrev Goes : {A : Type 0} → ℕ → (View → A) → Type 0
Goes k F = (ps : List Pair) → F (shows (strike k ps)) ≡ F (shows ps)

goes_listed : {A : Type 0} (k : ℕ) (F : View → A) → Goes k F → (v : View) → F (listed_in k v) ≡ F v
unfolding listed_in
goes_listed k F h (hides e) = refl
goes_listed k F h (shows ps) = h ps

pub script_goes : (t : State) (T : List ℕ) (n : ℕ) → Goes OUTPUT (script_in t T n)
unfolding script_in listed type_of key_of within listed_types span
script_goes t T n ps = rw (out_strike ps, field_strike OUTPUT 0x04 ps refl)

module _ {k : ℕ} {f : List ℕ} {x : Held} {g : List ℕ} {y : Held} (a : Agree k f x g y) where
  -- the law
  pub call_alike : {A : Type 0} (call : List ℕ → Held → A) (F : View → A) → By call F → Goes k F → call f x ≡ call g y
  call_alike call F is h = is f x a.left ∙ sym (goes_listed k F h (view_of f x)) ∙ ap F a.same ∙ goes_listed k F h (view_of g y) ∙ sym (is g y a.right)

  -- what is made of a lookup's answer; a lookup, a number, a listing
  pub look_alike : {A : Type 0} (call : List ℕ → Held → A) (F : Answer (List ℕ) → A) (ok : Bool) (l : Length) (key : List ℕ)
      → By call (λ v. F (look_in_def ok l key v))
      → listed k key ≡ true → call f x ≡ call g y
  look_alike call F ok l key is h = call_alike call (λ v. F (look_in_def ok l key v)) is (λ ps. ap F (look_strike k key h ok l ps))

  pub bytes_alike : (ok : Bool) (l : Length) (key : List ℕ)
      → listed k key ≡ true → bytes_by (λ z h. asked ok l z key h) f x ≡ bytes_by (λ z h. asked ok l z key h) g y
  bytes_alike ok l key = look_alike _ (λ z. z) ok l key (asked_by ok l key)

  pub number_alike : (t w : ℕ) → listed k (key_of t []) ≡ true → number_field t w f x ≡ number_field t w g y
  number_alike t w = look_alike _ number_in true (exactly w) (key_of t []) (number_by t w)

  pub pairs_alike : (t : ℕ) → listed k (key_of t []) ≡ true → pairs_by t f x ≡ pairs_by t g y
  pairs_alike t h = call_alike _ (list_in t) (list_by t) (list_strike k t h)
