-- What lookups and listings mean after a parse that accepts: over the tables that it left, each answers by the file's content.
use mathlib.Core.Path.{◌≡◌, refl, sym, ◌∙◌, ap, subst}
use mathlib.Core.List.{List}
use mathlib.Core.Bool.{Bool, true}
use Prim.Native.Nat.{ℕ}
use lib.ListN.{length}
use Rattle.format.specs.Keys.{key_of}
use Rattle.format.specs.Content.{Content, maps_of, psbt_of}
use Rattle.format.specs.Reading.{accepted, reading}
use Rattle.format.specs.Parse.{parsed}
use Rattle.format.specs.Tables.{Held, held, View, view_of, view}
use Rattle.format.specs.Lookups.{Length, any_length, asked, look, list}
use Rattle.format.specs.Told.{told_with, told_parsed, told_parse, told_looked, told_listing}
use Rattle.format.specs.declared.Psbt.{Psbt}
use Rattle.format.specs.declared.Parsed.TheVariants.{Accepted}
use Rattle.format.specs.Answers.{Listing, Looked}
use Rattle.format.proofs.Told.{looked_one, numbered_one, listing_one, utxo_one, script_one}
use Rattle.claims_reading.specs.Shown.{view_by, Accepts}
use Rattle.claims_reading.proofs.Files.{reading_is}
use Rattle.claims_reading.proofs.Promised.{promised_accepts}
use Rattle.claims_reading.proofs.Shown.{accepted_shows}
use Rattle.claims_calls.specs.Answers.{answer_at, look_in_def, utxo_at, script_at, list_at, list_in}
use Rattle.claims_calls.specs.Meaning.{Means, ByContent}
use Rattle.claims_calls.proofs.Shapes.{Sound, held_sound, input_sound, output_sound, asked_by, number_by}
use Rattle.claims_calls.proofs.Shapes.{count_by, participant_by, utxo_by_lem, script_by_lem, list_by}
use Rattle.claims_calls.proofs.Views.{input_shows, output_shows}

-- a sound map answers by what it shows
means : (f : List ℕ) (h : Held) (v : View) → Sound f h → view_of f h ≡ v → Means f h v
means f h v s e = subst (Means f h) e (record {
  field = λ ok l key r q. ap (answer_at f) (looked_one r _ q) ∙ asked_by ok l key f h s;
  number = λ t w r q. numbered_one r _ q ∙ number_by t w f h s;
  listing = λ t r q. ap (λ (x : Listing). list_at f x h) (listing_one r _ q) ∙ list_by t f h s;
  count = λ ok l key r q. numbered_one r _ q ∙ count_by ok l key f h s;
  member = λ n ok l key r q. ap (answer_at f) (looked_one r _ q) ∙ participant_by ok l key n f h s;
  utxo = λ r q. ap (utxo_at f) (utxo_one r _ q) ∙ utxo_by_lem f h s;
  script = λ t T n r q. ap (script_at f) (script_one r _ q) ∙ script_by_lem t T n f h s;
})

-- a file with content c, and an outcome that meets the promise of `parse` and accepts
module _ (f P M : List ℕ) (c : Content) (reads : reading f ≡ accepted c) (s : Psbt) (p m : ℕ) (P' M' : List ℕ)
    (parses : told_with (told_parsed (Accepted s p m)) P' M' ≡ told_parse (parsed f P M)) where
  accepts : Accepts f P M s p m P' M'
  accepts = promised_accepts f P M s p m P' M' parses

  content_is : accepts.content ≡ c
  content_is =
      let same : accepted accepts.content ≡ accepted c = sym accepts.reads ∙ reads in
      cc

  shown : (n : ℕ) → view_of f (held f P' M' s n) ≡ view_by n (maps_of c)
  unfolding view
  shown n = accepted_shows f P M s p m P' M' accepts n ∙ ap (λ (x : Content). view_by n (maps_of x)) content_is

  report_is : s ≡ psbt_of c.global.pairs
  report_is = accepts.reports ∙ ap (λ (x : Content). psbt_of x.global.pairs) content_is

  ins_count : s.inputs ≡ length c.ins
  unfolding psbt_of
  ins_count = ap (λ (x : Psbt). x.inputs) report_is ∙ sym (reading_is f c reads).1.ins#

  outs_count : s.outputs ≡ length c.outs
  unfolding psbt_of
  outs_count = ap (λ (x : Psbt). x.outputs) report_is ∙ sym (reading_is f c reads).1.outs#

  -- over the tables left, every lookup and listing answers by the content
  pub calls_mean : ByContent f P' M' s c
  calls_mean = record {
    maps = λ n. means f _ _ (held_sound f P' M' s n) (shown n);
    inputs = λ i. means f _ _ (input_sound f P' M' s i) (input_shows f P' M' s c shown ins_count outs_count i);
    outputs = λ i. means f _ _ (output_sound f P' M' s i) (output_shows f P' M' s c shown ins_count outs_count i);
  }

  -- any typed lookup, in map number n: of the content's pairs the value found, that there is none, or the refusal
  pub field_means : (n : ℕ) (ok : Bool) (l : Length) (key : List ℕ)
      → answer_at f (asked ok l f key (held f P' M' s n)) ≡ look_in_def ok l key (view_by n (maps_of c))
  field_means n ok l key = (calls_mean.maps n).field ok l key _ refl

  -- an answer that meets the promise of `get`: the bytes that it names are the value of that key in the content
  pub lookup_means : (n t : ℕ) (d : List ℕ) (r : Looked)
      → told_looked r ≡ told_looked (look f t d (held f P' M' s n)) → answer_at f r ≡ look_in_def true any_length (key_of t d) (view_by n (maps_of c))
  unfolding look
  lookup_means n t d = (calls_mean.maps n).field true any_length (key_of t d)

  -- an answer that meets the promise of `list`: the pairs that it names are the content's pairs of that type, in order
  pub listing_means : (n t : ℕ) (r : Listing) → told_listing r ≡ told_listing (list f t (held f P' M' s n))
      → list_at f r (held f P' M' s n) ≡ list_in t (view_by n (maps_of c))
  listing_means n t = (calls_mean.maps n).listing t
