-- Laws of answers as words: each case of an answer, with the words that the code puts, is what is told of it.
use mathlib.Core.Path.{◌≡◌, refl, sym, ◌∙◌, ap}
use mathlib.Core.List.{List, [], ◌∷◌}
use Prim.Native.Nat.{ℕ}
use mir.Syntax.{w32}
use mir.Val.{SFits, to_z, of_z}
use mir.Facts.{to_z-of_z}
use Rattle.format.specs.Refusals.{number_of}
use Rattle.format.specs.Numbers.{unsigned}
use Rattle.format.specs.Told.{Told, told, maybe_value, told_looked, told_numbered, told_listing, told_nth, told_utxo, told_lock, told_script, told_set, told_tx}
use Rattle.format.specs.Told.{told_parsed}
use Rattle.format.specs.declared.PsbtError.{PsbtError}
use Rattle.format.specs.declared.PairEntry.{PairEntry}
use Rattle.format.specs.declared.State.{State}
use Rattle.format.specs.declared.Psbt.{Psbt}
use Rattle.format.specs.declared.Part.{Part}
use Rattle.format.specs.declared.Listed.{Listed}
use Rattle.format.specs.declared.WitnessUtxo.{WitnessUtxo}
use Rattle.format.specs.Answers.{Answer, Decided}
use Rattle.std.specs.Prelude.{Ok, Err, Some, None, Option}
use Rattle.format.specs.declared.Lock.{Lock}
use Rattle.format.specs.declared.Written.{Written}
use Rattle.format.specs.declared.ScriptPlace.{ScriptPlace}
use Rattle.format.specs.declared.ScriptPlace.TheVariants as O
use Rattle.format.specs.declared.Parsed.{Parsed}
use Rattle.format.specs.declared.Parsed.TheVariants as P
use Rattle.export_words.specs.Words.{Export, word, words_of, words_told, number_told, answered_with, answered}
use Rattle.export_words.specs.Puts.{Puts}

-- of a refusal
pub refusal_lem : (A : List ℕ) (x : Export) (e : PsbtError) (n : ℕ) → n ≡ number_of e → x ≡ answered_with A n (0 ∷ 0 ∷ 0 ∷ 0 ∷ 0 ∷ 0 ∷ 0 ∷ 0 ∷ [])
    → x ≡ answered A (told (number_of e) [])
unfolding answered words_of
refusal_lem A x e n k h = h ∙ rw k

pub ruleset refusals = (refusal_lem)

-- what is told, by its number and its words
pub answered_by : (A : List ℕ) (t : Told) → answered_with A (number_told t) (words_told t) ≡ answered A t
unfolding answered number_told words_told
answered_by A (told n vs) = refl

-- an answer that is put by the words of its value is what is told of it
pub put_told : {T : Type 0} (t : Answer T → Told) (o : Answer T) (W : T → List ℕ → Type 0) (A : List ℕ) (x : Export)
    → ((e : PsbtError) → told (number_of e) [] ≡ t (Err e)) → ((v : T) → number_told (t (Ok v)) ≡ 0)
    → ((v : T) (w : List ℕ) → W v w → w ≡ words_told (t (Ok v))) → Puts o W A x → x ≡ answered A (t o)
put_told t (Ok v) W A x p n q h = h.2 ∙ rw (q v h.0 h.1, ← n v) (answered_by A (t (Ok v)))
put_told t (Err e) W A x p n q h = h ∙ ap (answered A) (p e)

-- of a value nothing is refused
pub looked_number : (v : Option Part) → number_told (told_looked (Ok v)) ≡ 0
unfolding told_looked number_told
looked_number None = refl
looked_number (Some p) = refl

pub numbered_number : (v : Option ℕ) → number_told (told_numbered (Ok v)) ≡ 0
unfolding told_numbered number_told
numbered_number None = refl
numbered_number (Some n) = refl

pub listing_number : (v : Listed) → number_told (told_listing (Ok v)) ≡ 0
unfolding told_listing number_told
listing_number l = refl

pub nth_number : (v : PairEntry) → number_told (told_nth (Ok v)) ≡ 0
unfolding told_nth number_told
nth_number e = refl

pub utxo_number : (v : Option WitnessUtxo) → number_told (told_utxo (Ok v)) ≡ 0
unfolding told_utxo number_told
utxo_number None = refl
utxo_number (Some u) = refl

pub script_number : (v : Option ScriptPlace) → number_told (told_script (Ok v)) ≡ 0
unfolding told_script number_told
script_number None = refl
script_number (Some (O.InFile s n)) = refl
script_number (Some (O.InTable s n)) = refl

pub set_number : (v : State) → number_told (told_set (Ok v)) ≡ 0
unfolding told_set number_told
set_number t = refl

pub tx_number : (v : Written) → number_told (told_tx (Ok v)) ≡ 0
unfolding told_tx number_told
tx_number w = refl

-- of Lock
module _ (A : List ℕ) (o : Decided) (x : Export) where
  pub lock_refused : (e : PsbtError) → o ≡ Err e → x ≡ answered A (told (number_of e) []) → x ≡ answered A (told_lock o)
  unfolding told_lock
  lock_refused e q h = h ∙ sym (rw q)

  pub lock_decided : (l : Lock) (n : ℕ) (w : List ℕ) → n ≡ number_told (told_lock (Ok l)) → w ≡ words_told (told_lock (Ok l))
      → o ≡ Ok l → x ≡ answered_with A n w → x ≡ answered A (told_lock o)
  lock_decided l n w p r q h = h ∙ rw (p, r, q) (answered_by A (told_lock (Ok l)))

pub ruleset locks = (lock_refused, lock_decided)

-- of Parsed
pub parsed_report : (A : List ℕ) (x : Export) (s : Psbt) (p m v a b : ℕ) → SFits w32 s.tx_version → v ≡ unsigned (to_z w32 (of_z w32 s.tx_version))
    → a ≡ word (maybe_value s.fallback_locktime) → b ≡ word (maybe_value s.tx_modifiable)
    → x ≡ answered_with A 0 (7 ∷ v ∷ a ∷ b ∷ s.inputs ∷ s.outputs ∷ p ∷ m ∷ []) → x ≡ answered A (told_parsed (P.Accepted s p m))
unfolding answered told_parsed words_of word unsigned
parsed_report A x s p m v a b f k l j h = let e : v ≡ unsigned s.tx_version = k ∙ ap unsigned (to_z-of_z f) in h ∙ sym (rw (← e, ← l, ← j))

module _ (A : List ℕ) (o : Parsed) (x : Export) where
  pub parsed_accepted : (s : Psbt) (p m : ℕ) → o ≡ P.Accepted s p m → x ≡ answered A (told_parsed (P.Accepted s p m)) → x ≡ answered A (told_parsed o)
  parsed_accepted s p m q h = h ∙ sym (rw q)

  pub parsed_refused : (e : PsbtError) (p m n : ℕ) → n ≡ number_of e
      → o ≡ P.Refused e p m → x ≡ answered_with A n (2 ∷ p ∷ m ∷ 0 ∷ 0 ∷ 0 ∷ 0 ∷ 0 ∷ []) → x ≡ answered A (told_parsed o)
  unfolding answered told_parsed words_of word unsigned
  parsed_refused e p m n k q h = h ∙ sym (rw (q, ← k))

pub ruleset parseds = (parsed_report, parsed_accepted, parsed_refused)
