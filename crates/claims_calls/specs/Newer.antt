-- Pairs of types that are not listed: added to a file, struck from a file; and what two contents answer alike.
use Rattle.std.specs.Prelude.{ℕ, zero, suc, ◌≡◌, List, [], ◌∷◌, ◌++◌, map, Bool, true, false}
use Rattle.format.specs.Tests.{only}
use Rattle.format.specs.Keys.{key_of}
use Rattle.format.specs.Rules.{GLOBAL, INPUT, OUTPUT, listed}
use Rattle.format.specs.Content.{Pair, Map, Content, maps_of, psbt_of}
use Rattle.format.specs.Tables.{View, hides, shows}
use Rattle.format.specs.Lookups.{Length}
use Rattle.format.specs.Locks.{In, in_of, decide}
use Rattle.format.specs.Scripts.{Out, out_of, Given, set_given}
use Rattle.format.specs.Transaction.{transaction}
use Rattle.format.specs.declared.Psbt.{Psbt}
use Rattle.format.specs.declared.State.{State}
use Rattle.claims_reading.specs.Fine.{Framed}
use Rattle.claims_reading.specs.Shown.{view_by}
use Rattle.claims_calls.specs.Answers.{look_in_def, list_in}

-- qs is ps with framed pairs added whose types are not listed for maps of kind k
pub data Added (k : ℕ) : List Pair → List Pair → Type 0 where
  nil : Added k [] []
  keep : (p : Pair) (ps qs : List Pair) → Added k ps qs → Added k (p ∷ ps) (p ∷ qs)
  add : (p : Pair) (ps qs : List Pair) → Framed p → listed k p.key ≡ false → Added k ps qs → Added k ps (p ∷ qs)

-- the map n is the map m with such pairs added, and its end is spelled alike
pub record AddedMap (k : ℕ) (m n : Map) : Type 0 where
  pub pairs : Added k m.pairs n.pairs
  pub end : m.end ≡ n.end

-- as many maps, each with such pairs added
pub data AddedMaps (k : ℕ) : List Map → List Map → Type 0 where
  nils : AddedMaps k [] []
  maps : (m n : Map) (ms ns : List Map) → AddedMap k m n → AddedMaps k ms ns → AddedMaps k (m ∷ ms) (n ∷ ns)

-- d is c with such pairs added, each in a map of its kind
pub record AddedFile (c d : Content) : Type 0 where
  pub global : AddedMap GLOBAL c.global d.global
  pub ins : AddedMaps INPUT c.ins d.ins
  pub outs : AddedMaps OUTPUT c.outs d.outs

-- the pairs whose types are listed for maps of kind k
unfoldable pub strike : ℕ → List Pair → List Pair
strike k ps = only (λ p. listed k p.key) ps

-- what a map of kind k shows of listed types
unfoldable pub listed_in : ℕ → View → View
listed_in k (hides e) = hides e
listed_in k (shows ps) = shows (strike k ps)

-- a map with these pairs alone
unfoldable pub strike_map : ℕ → Map → Map
strike_map k m = record { pairs = strike k m.pairs; end = m.end }

-- a content with these pairs alone
unfoldable pub struck : Content → Content
struck c = record { global = strike_map GLOBAL c.global; ins = map (strike_map INPUT) c.ins; outs = map (strike_map OUTPUT) c.outs }

-- the kinds of a content's maps, in file order
unfoldable pub kinds : Content → List ℕ
kinds c = GLOBAL ∷ (map (λ (m : Map). INPUT) c.ins ++ map (λ (m : Map). OUTPUT) c.outs)

-- the key's type is listed for map number m of such kinds; past the last map any key will do
unfoldable pub asks : ℕ → List ℕ → List ℕ → Bool
asks m [] key = true
asks zero (k ∷ ks) key = listed k key
asks (suc m) (k ∷ ks) key = asks m ks key

-- what is reported of a content
unfoldable pub report_of : Content → Psbt
report_of c = psbt_of c.global.pairs

-- what a transaction takes from its inputs
unfoldable pub ins_of : Content → List In
ins_of c = map (λ (m : Map). in_of m.pairs) c.ins

-- what a transaction takes from its outputs
unfoldable pub outs_of : Content → List Out
outs_of c = map (λ (m : Map). out_of m.pairs) c.outs

-- whoever knows the listed types alone is answered the same of both: listed pairs, report, maps, lookups, listings, lock, scripts and transaction
pub record Alike (c d : Content) : Type 0 where
  pub same_listed : struck c ≡ struck d
  pub same_report : report_of c ≡ report_of d
  pub same_kinds : kinds c ≡ kinds d
  pub same_lookups : (m : ℕ) (key : List ℕ) → asks m (kinds c) key ≡ true
      → (ok : Bool) (l : Length) → look_in_def ok l key (view_by m (maps_of c)) ≡ look_in_def ok l key (view_by m (maps_of d))
  pub same_lists : (m t : ℕ) → asks m (kinds c) (key_of t []) ≡ true → list_in t (view_by m (maps_of c)) ≡ list_in t (view_by m (maps_of d))
  pub same_ins : ins_of c ≡ ins_of d
  pub same_outs : outs_of c ≡ outs_of d
  pub same_lock : decide (report_of c).fallback_locktime (ins_of c) ≡ decide (report_of d).fallback_locktime (ins_of d)
  pub same_scripts : (buffer : List ℕ) (t : State) (T : List ℕ) (g : Given) → set_given (outs_of c) buffer t T g ≡ set_given (outs_of d) buffer t T g
  pub same_transaction : (T : List ℕ) → transaction (report_of c) (ins_of c) (outs_of c) T ≡ transaction (report_of d) (ins_of d) (outs_of d) T
