-- Laws of surveying inputs, one for each way through the functions.
use mathlib.Core.Path.{◌≡◌, refl, sym, ◌∙◌, ap}
use mathlib.Core.Bool.{Bool, true, false, ◌&&◌, and-true, and_assoc}
use mathlib.Core.List.{List}
use Prim.Native.Nat.{ℕ, ◌+◌, ◌-◌, ◌≤◌, ◌<◌}
use Rattle.format.specs.Tests.{every}
use Rattle.format.specs.Locks.{In, in_of}
use Rattle.format.specs.Transaction.{or_final}
use Rattle.format.specs.declared.MapEntry.{MapEntry}
use Rattle.format.specs.declared.Psbt.{Psbt}
use Rattle.entries.specs.Words.{map_at}
use Rattle.all_maps_fit.specs.Alls.{in_at, from, ins_of}
use Rattle.all_maps_fit.specs.Places.{sized_in, input_in}
use Rattle.all_maps_fit.specs.declared.SizedAt.{SizedAt}
use Rattle.all_maps_fit.specs.declared.SizedAt.TheVariants as S
use Rattle.all_maps_fit.specs.declared.InputAt.{InputAt}
use Rattle.all_maps_fit.proofs.Runs.{rest_none, rest_one, rest_all}
use Rattle.lock.specs.Asks.{seen_in, no_asks}
use Rattle.lock.specs.declared.Asks.{Asks}
use Rattle.lock.proofs.Wishes.{shown_at}
use Rattle.lock.proofs.Locks.{Walking, walk_first, walk_done, walk_more}
use Rattle.tx_size.specs.Lengths.{is_there}
use Rattle.tx_size.specs.Places.{pairs_in, there_at}
use Rattle.tx_size.proofs.Outputs.{there_in}
use Rattle.tx_bytes.specs.Bytes.{input_ok_def}
use Rattle.unsigned_tx.specs.Surveys.{allowed_at, ok_at, survey_of}

-- a field that may be absent, by the case that it is
allowed_in : (w : ℕ) (f : List ℕ) (x : SizedAt) → is_there (or_final (sized_in w f x)) ≡ allowed_at x
unfolding is_there sized_in allowed_at or_final
allowed_in w f S.Missing = refl
allowed_in w f S.Misfit = refl
allowed_in w f (S.At s) = refl

-- an input has what a transaction needs, by the places of its fields
module _ (x : InputAt) (a : Bool) (ea : a ≡ there_at x.txid) where
  pub ok_no_txid : a ≡ false → a ≡ ok_at x
  unfolding ok_at
  ok_no_txid h = h ∙ rw (sym ea ∙ h)

  module _ (h : a ≡ true) (b : Bool) (eb : b ≡ there_at x.index) where
    pub ok_no_index : b ≡ false → b ≡ ok_at x
    unfolding ok_at
    ok_no_index k = k ∙ rw (sym ea ∙ h, sym eb ∙ k)

    pub ok_sequence : b ≡ true → (r : Bool) → r ≡ allowed_at x.sequence → r ≡ ok_at x
    unfolding ok_at
    ok_sequence k r er = er ∙ sym (rw (sym ea ∙ h, sym eb ∙ k))

pub ruleset oks = (ok_no_txid, ok_no_index, ok_sequence)

ok_in : (f : List ℕ) (x : InputAt) → ok_at x ≡ input_ok_def (input_in f x)
unfolding ok_at input_ok_def input_in
ok_in f x = sym (rw (there_in 32 f x.txid, there_in 4 f x.index, allowed_in 4 f x.sequence))

-- what is known of the inputs before number i, with those from i on, is what is known of all
pub record Surveying (f P M : List ℕ) (s : Psbt) (a : Asks) (ok : Bool) (i : ℕ) : Type 0 where
  pub asked : Walking f P M s a i
  pub judged : (ok && every input_ok_def (from (in_at f P M) i (s.inputs - i))) ≡ every input_ok_def (ins_of f P M s)

pub survey_first : (f P M : List ℕ) (s : Psbt) (a : Asks) → a ≡ no_asks → Surveying f P M s a true 0
unfolding ins_of
survey_first f P M s a e = record { asked = walk_first f P M s a e; judged = ap (every input_ok_def) (rest_all (in_at f P M) s.inputs) }

module _ (f P M : List ℕ) (s : Psbt) (a : Asks) (ok : Bool) (i : ℕ) (k : Surveying f P M s a ok i) where
  pub survey_done : s.inputs ≤ i → record { asks = a; ok = ok } ≡ survey_of (ins_of f P M s)
  unfolding survey_of every
  survey_done h =
      let o : ok ≡ every input_ok_def (ins_of f P M s)
      = sym (ap (λ (l : List In). ok && every input_ok_def l) (rest_none (in_at f P M) i s.inputs h) ∙ and-true ok) ∙ k.judged in
      let w = walk_done f P M s a i k.asked h in
      λ j. record { asks = w j; ok = o j }

  pub survey_more : i < s.inputs → (m : MapEntry) → m ≡ map_at M (1 + i) → (x : InputAt) → input_in f x ≡ in_of (pairs_in f P m) → (b : Asks) (c : Bool)
      → b ≡ seen_in a i (input_in f x) → c ≡ (ok && ok_at x) → Surveying f P M s b c (i + 1)
  unfolding every
  survey_more h m e x q b c eb ec =
      let g = shown_at f P M i m e x q in
      record {
        asked = walk_more f P M s a i k.asked h b (eb ∙ ap (seen_in a i) g);
        judged = rw (ec, ok_in f x, g)
            (and_assoc ok _ _ ∙ sym (ap (λ (l : List In). ok && every input_ok_def l) (rest_one (in_at f P M) i s.inputs h)) ∙ k.judged);
      }

pub ruleset surveys = (survey_first, survey_done, survey_more)
