-- A law of one outcome for each kind of answer: what is told of it tells it apart, and lent memory with it.
use mathlib.Core.Path.{◌≡◌, sym, ◌∙◌}
use mathlib.Core.List.{List}
use Prim.Native.Nat.{ℕ}
use Rattle.format.specs.Outcomes.{One, OneWith, OneWithBoth}
use Rattle.format.specs.Parse.{ParseOut}
use Rattle.format.specs.Parse as R
use Rattle.format.specs.Scripts.{SetOut, set_out_def}
use Rattle.format.specs.Told.{Told, told_left, told_listing, told_lock, told_looked, told_nth, told_numbered, told_parse, told_parsed}
use Rattle.format.specs.Told.{told_script, told_set, told_set_out, told_tx, told_tx_out, told_utxo, told_with}
use Rattle.format.specs.Transaction.{TxOut, tx_out}
use Rattle.format.specs.Answers.{Decided, Listing, Looked, Nth, Numbered, OutputScript, Utxo}
use Rattle.format.proofs.Told.{looked_one, numbered_one, listing_one, nth_one, utxo_one, lock_one, script_one, parse_out_one, set_out_one, tx_out_one}

pub one_looked : (d : Told) → One (λ (r : Looked). told_looked r ≡ d)
one_looked d a b p q = looked_one a b (p ∙ sym q)

pub one_numbered : (d : Told) → One (λ (r : Numbered). told_numbered r ≡ d)
one_numbered d a b p q = numbered_one a b (p ∙ sym q)

pub one_listing : (d : Told) → One (λ (r : Listing). told_listing r ≡ d)
one_listing d a b p q = listing_one a b (p ∙ sym q)

pub one_nth : (d : Told) → One (λ (r : Nth). told_nth r ≡ d)
one_nth d a b p q = nth_one a b (p ∙ sym q)

pub one_utxo : (d : Told) → One (λ (r : Utxo). told_utxo r ≡ d)
one_utxo d a b p q = utxo_one a b (p ∙ sym q)

pub one_lock : (d : Told) → One (λ (r : Decided). told_lock r ≡ d)
one_lock d a b p q = lock_one a b (p ∙ sym q)

pub one_script : (d : Told) → One (λ (r : OutputScript). told_script r ≡ d)
one_script d a b p q = script_one a b (p ∙ sym q)

pub one_part : (d : List ℕ) → One (λ r. r ≡ d)
one_part d a b p q = p ∙ sym q

pub one_set : (d : SetOut) → OneWith (λ r T. told_left (told_set r) T ≡ told_set_out d)
unfolding told_set_out
one_set d a b S T p q = let e : set_out_def a S ≡ set_out_def b T = set_out_one (set_out_def a S) (set_out_def b T) (p ∙ sym q) in ((cc), (cc))

pub one_tx : (d : TxOut) → OneWith (λ r B. told_left (told_tx r) B ≡ told_tx_out d)
unfolding told_tx_out
one_tx d a b B C p q = let e : tx_out a B ≡ tx_out b C = tx_out_one (tx_out a B) (tx_out b C) (p ∙ sym q) in ((cc), (cc))

pub one_parsed : (d : ParseOut) → OneWithBoth (λ r P M. told_with (told_parsed r) P M ≡ told_parse d)
unfolding told_parse
one_parsed d a b P Q M N p q = let e : R.out a P M ≡ R.out b Q N = parse_out_one (R.out a P M) (R.out b Q N) (p ∙ sym q) in ((cc), (cc), (cc))
