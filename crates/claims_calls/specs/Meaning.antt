-- What an answer means that meets a call's promise: in each, r is any such answer.
use Rattle.std.specs.Prelude.{ℕ, ◌≡◌, Bool, true, List, []}
use Rattle.format.specs.Keys.{key_of}
use Rattle.format.specs.Content.{Content, maps_of}
use Rattle.format.specs.Tables.{Held, held, held_input, held_output, View}
use Rattle.format.specs.Lookups.{Length, any_length, exactly, asked, list}
use Rattle.format.specs.Fields.{number_field, participant_count, participant, get_witness_utxo}
use Rattle.format.specs.Transaction.{output_script_def}
use Rattle.format.specs.Told.{told_looked, told_numbered, told_listing, told_utxo, told_script}
use Rattle.format.specs.declared.Psbt.{Psbt}
use Rattle.format.specs.declared.State.{State}
use Rattle.format.specs.Answers.{Listing, Looked, Numbered, OutputScript, Utxo}
use Rattle.claims_reading.specs.Shown.{view_by}
use Rattle.claims_calls.specs.Answers.{answer_at, look_in_def, number_in, count_in, participant_in, utxo_at, utxo_in, script_at, script_in, list_at, list_in}

-- calls on the map h of the file f answer by what v shows: `get`, the fields by place, silent payments, MuSig2 and participants are `asked`
pub record Means (f : List ℕ) (h : Held) (v : View) : Type 0 where
  pub field : (ok : Bool) (l : Length) (key : List ℕ) (r : Looked) → told_looked r ≡ told_looked (asked ok l f key h) → answer_at f r ≡ look_in_def ok l key v
  pub number : (t w : ℕ) (r : Numbered) → told_numbered r ≡ told_numbered (number_field t w f h) → r ≡ number_in (look_in_def true (exactly w) (key_of t []) v)
  pub listing : (t : ℕ) (r : Listing) → told_listing r ≡ told_listing (list f t h) → list_at f r h ≡ list_in t v
  pub count : (ok : Bool) (l : Length) (key : List ℕ) (r : Numbered)
      → told_numbered r ≡ told_numbered (participant_count (asked ok l f key h)) → r ≡ count_in (look_in_def ok l key v)
  pub member : (n : ℕ) (ok : Bool) (l : Length) (key : List ℕ) (r : Looked)
      → told_looked r ≡ told_looked (participant n (asked ok l f key h)) → answer_at f r ≡ participant_in n (look_in_def ok l key v)
  pub utxo : (r : Utxo) → told_utxo r ≡ told_utxo (get_witness_utxo f h) → utxo_at f r ≡ utxo_in (look_in_def true any_length (key_of 0x01 []) v)
  pub script : (t : State) (T : List ℕ) (n : ℕ) (r : OutputScript) → told_script r ≡ told_script (output_script_def f t T n h)
      → script_at f r ≡ script_in t T n v

-- over the tables P and M and the report s, calls on the file f answer by the content c: map number n is its map n, input number i its input i,
-- output number i its output i; beyond them 14
pub record ByContent (f P M : List ℕ) (s : Psbt) (c : Content) : Type 0 where
  pub maps : (n : ℕ) → Means f (held f P M s n) (view_by n (maps_of c))
  pub inputs : (i : ℕ) → Means f (held_input f P M s i) (view_by i c.ins)
  pub outputs : (i : ℕ) → Means f (held_output f P M s i) (view_by i c.outs)
