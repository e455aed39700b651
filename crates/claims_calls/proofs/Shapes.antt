-- Each shape of call answers by what its map shows, whatever the tables.
use mathlib.Core.Path.{◌≡◌, refl, sym, ◌∙◌, ap, ap₂}
use mathlib.Core.List.{List, [], ◌∷◌, map}
use mathlib.Core.Bool.{Bool, true, false, ◌&&◌}
use Prim.Native.Nat.{ℕ, zero, suc, ◌+◌, ◌*◌, ◌/◌, ◌≤◌, ◌<◌}
use native.Mathlib.Omega.{arith}
use borrow.Author.Tests.{leb-true, ltb-true, ltb-false, eqb-true}
use lib.Dec.{leb, ltb, eqb}
use lib.ListN.{length, take, drop, get_or, length-take, length-drop}
use lib.Seq.{drop-drop, take-take}
use Rattle.format.specs.Tests.{pick, every}
use Rattle.format.specs.Numbers.{le}
use Rattle.format.specs.Keys.{key_of, same}
use Rattle.format.specs.Content.{Pair, found, find, field}
use Rattle.format.specs.Entries.{key_in_def, value_in_def, shown}
use Rattle.format.specs.Tables.{in_file, Held, no, holds, held, held_input, held_output, View, shows, view_of}
use Rattle.format.specs.Lookups.{place, Length, any_length, exactly, length_fits, of_length_def, asked, part, number_at, list, nth_of, nth}
use Rattle.format.specs.Fields.{part_field_def, number_field, witness_utxo_def, participant_count, participant, utxo_of, utxo_by, get_witness_utxo, utxo_part}
use Rattle.format.specs.Scripts.{out_of, script_entry}
use Rattle.format.specs.Transaction.{table_fits, script_place, output_script_def, script_part}
use Rattle.format.specs.declared.PsbtError.TheVariants.{BadValue, OutOfRange, BadIndex}
use Rattle.format.specs.declared.Psbt.{Psbt}
use Rattle.format.specs.declared.State.{State}
use Rattle.format.specs.declared.PairEntry.{PairEntry}
use Rattle.format.specs.Answers.{part_at, pairs_at, Looked, OutputScript, Utxo}
use Rattle.std.specs.Prelude.{Ok, Err, Some, None}
use Rattle.format.specs.declared.ScriptPlace.TheVariants as O
use Rattle.format.proofs.Tests.{pick_by, pick_ap, and_left, and_right}
use Rattle.claims_reading.specs.Fine.{Rises}
use Rattle.claims_reading.proofs.Shown.{held_shows}
use Rattle.claims_reading.proofs.Listings.{listing_is}
use Rattle.claims_calls.specs.Answers as S
use Rattle.claims_calls.specs.Answers.{Answer, refuses, lacks, gives, answer_at, of_length_in, look_in_def, number_in, count_in, participant_in, utxo_at}
use Rattle.claims_calls.specs.Answers.{utxo_in, Script, script_at, script_found, script_in, list_at, list_in, nth_at, nth_of_listing, pair_of, nth_in_def}

-- the test of an arm may be used in it
arm : {A : Type 0} (t : Bool) (x y z : A) → (t ≡ true → x ≡ y) → pick t x z ≡ pick t y z
arm true x y z h = h refl
arm false x y z h = refl

-- the entries of an asked map lie in the file, and the keys that they show rise
abbrev pub Sound : List ℕ → Held → Type 0
Sound f (no e) = Unit {0}
Sound f (holds es) = (every (in_file f) es ≡ true) × Rises [] (map (shown f) es)

pub held_sound : (f P M : List ℕ) (s : Psbt) (m : ℕ) → Sound f (held f P M s m)
held_sound f P M s m = by (held f P M s m) refl
  where
    by : (h : Held) → held f P M s m ≡ h → Sound f h
    by (no e) q = tt
    by (holds es) q = held_shows f P M s m es q

pub input_sound : (f P M : List ℕ) (s : Psbt) (i : ℕ) → Sound f (held_input f P M s i)
unfolding held_input
input_sound f P M s i = pick_by (Sound f) (ltb i s.inputs) _ _ (λ q. held_sound f P M s (1 + i)) (λ q. tt)

pub output_sound : (f P M : List ℕ) (s : Psbt) (i : ℕ) → Sound f (held_output f P M s i)
unfolding held_output
output_sound f P M s i = pick_by (Sound f) (ltb i s.outputs) _ _ (λ q. held_sound f P M s (1 + (s.inputs + i))) (λ q. tt)

-- a place lies in the file
abbrev Lies : List ℕ → Looked → Type 0
Lies f (Err e) = Unit {0}
Lies f (Ok None) = Unit {0}
Lies f (Ok (Some p)) = p.start + p.len ≤ length f

value_lies : (f : List ℕ) (e : PairEntry) → in_file f e ≡ true → Lies f (Ok (Some (part_at e.value e.vlen)))
unfolding in_file
value_lies f e h = leb-true _ _ (and_left (leb (e.value + e.vlen) (length f))
    (ltb 0 e.klen) (and_right (leb (e.key + e.klen) (length f)) (leb (e.value + e.vlen) (length f) && ltb 0 e.klen) h))

-- so it has as many bytes as it says
as_long : (f : List ℕ) (s n : ℕ) → s + n ≤ length f → length (take n (drop s f)) ≡ n
as_long f s n l = rw (length-take, length-drop) (omega arith)

-- a lookup by place answers what is shown
place_lies : (f key : List ℕ) (es : List PairEntry) → every (in_file f) es ≡ true → Lies f (place f key es)
unfolding place every
place_lies f key [] h = tt
place_lies f key (e ∷ es) h =
    pick_by (Lies f) (same key (key_in_def f e)) _ _
    (λ q. value_lies f e (and_left (in_file f e) (every (in_file f) es) h))
    (λ q. place_lies f key es (and_right (in_file f e) (every (in_file f) es) h))

value_is : (f : List ℕ) (l : Length) (e : PairEntry) → in_file f e ≡ true
    → answer_at f (of_length_def l (Ok (Some (part_at e.value e.vlen)))) ≡ of_length_in l (found (value_in_def f e))
unfolding answer_at of_length_def of_length_in value_in_def
value_is f l e h = rw (as_long f e.value e.vlen (value_lies f e h))
    (pick_ap (answer_at f) (length_fits l e.vlen) (Ok (Some (part_at e.value e.vlen))) (Err BadValue))

place_is : (f : List ℕ) (l : Length) (key : List ℕ) (es : List PairEntry) → every (in_file f) es ≡ true
    → answer_at f (of_length_def l (place f key es)) ≡ of_length_in l (find key (map (shown f) es))
unfolding place find shown every answer_at of_length_def of_length_in
place_is f l key [] h = refl
place_is f l key (e ∷ es) h =
    let t = same key (key_in_def f e) in
    pick_ap (λ y. answer_at f (of_length_def l y)) t _ _
    ∙ ap₂ (pick t) (value_is f l e (and_left (in_file f e) (every (in_file f) es) h)) (place_is f l key es (and_right (in_file f e) (every (in_file f) es) h))
    ∙ sym (pick_ap (of_length_in l) t _ _)

-- readings of a place go by the bytes that stand there
take_inside : (k m n : ℕ) (l : List ℕ) → k + m ≤ n → take m (drop k (take n l)) ≡ take m (drop k l)
take_inside zero m n l h = take-take m n l (omega arith)
take_inside (suc k) m zero l h = absurd (omega arith)
take_inside (suc k) m (suc n) [] h = refl
take_inside (suc k) m (suc n) (x ∷ l) h = take_inside k m n l (omega arith)

bytes_inside : (f : List ℕ) (s n k m : ℕ) → k + m ≤ n → take m (drop (s + k) f) ≡ take m (drop k (take n (drop s f)))
bytes_inside f s n k m h = ap (take m) (sym (drop-drop k s f)) ∙ sym (take_inside k m n (drop s f) h)

number_in_lem : (f : List ℕ) (y : Looked) → number_at f y ≡ number_in (answer_at f y)
unfolding number_at number_in answer_at
number_in_lem f (Err e) = refl
number_in_lem f (Ok None) = refl
number_in_lem f (Ok (Some p)) = refl

count_in_lem : (f : List ℕ) (y : Looked) → Lies f y → participant_count y ≡ count_in (answer_at f y)
unfolding participant_count count_in answer_at
count_in_lem f (Err e) h = refl
count_in_lem f (Ok None) h = refl
count_in_lem f (Ok (Some p)) h = rw (as_long f p.start p.len h)

participant_in_lem : (f : List ℕ) (i : ℕ) (y : Looked) → Lies f y → answer_at f (participant i y) ≡ participant_in i (answer_at f y)
unfolding participant participant_in answer_at
participant_in_lem f i (Err e) h = refl
participant_in_lem f i (Ok None) h = refl
participant_in_lem f i (Ok (Some p)) h =
    rw (as_long f p.start p.len h)
    (pick_ap (answer_at f) (ltb i (p.len / 33)) _ _
    ∙ arm (ltb i (p.len / 33)) _ _ _ (λ q. let l : i < p.len / 33 = ltb-true i (p.len / 33) q in ap gives
    (bytes_inside f p.start p.len (33 * i) 33 (omega arith))))

utxo_of_lem : (f : List ℕ) (s n : ℕ) → utxo_at f (utxo_of s (take n (drop s f))) ≡ utxo_at (take n (drop s f)) (utxo_of 0 (take n (drop s f)))
unfolding utxo_at utxo_of
utxo_of_lem f s n =
    let v = take n (drop s f) in
    let t = leb 9 (length v) && (leb (get_or v 8 0) 0xfc && eqb (length v) (9 + get_or v 8 0)) in
    pick_ap (utxo_at f) t _ _
    ∙ arm t _ _ _ (λ q. ap (λ (x : List ℕ). gives (le (take 8 v), x)) (bytes_inside f s n 9 (get_or v 8 0) (within q)))
    ∙ sym (pick_ap (utxo_at v) t _ _)
  where
    within : (leb 9 (length (take n (drop s f))) && (leb (get_or (take n (drop s f)) 8 0) 0xfc
        && eqb (length (take n (drop s f))) (9 + get_or (take n (drop s f)) 8 0))) ≡ true → 9 + get_or (take n (drop s f)) 8 0 ≤ n
    within q =
        let v : List ℕ = take n (drop s f) in
        let e : length v ≡ 9 + get_or v 8 0 =
        eqb-true _ _ (and_right (leb (get_or v 8 0) 0xfc) (eqb (length v) (9 + get_or v 8 0)) (and_right (leb 9 (length v)) _ q)) in
        omega (arith, length-take n (drop s f))

utxo_in_lem : (f : List ℕ) (y : Looked) → utxo_at f (utxo_by f y) ≡ utxo_in (answer_at f y)
unfolding utxo_by utxo_in utxo_at answer_at
utxo_in_lem f (Err e) = refl
utxo_in_lem f (Ok None) = refl
utxo_in_lem f (Ok (Some p)) = utxo_of_lem f p.start p.len

-- a script where it was found
script_in_lem : (f key : List ℕ) (t : State) (i : ℕ) (es : List PairEntry)
    → script_at f (script_place t i (place f key es)) ≡ script_found t i (find key (map (shown f) es))
unfolding script_at script_place script_found place find shown value_in_def
script_in_lem f key t i [] = pick_ap (script_at f) t.set _ _
script_in_lem f key t i (e ∷ es) =
    let b = same key (key_in_def f e) in
    pick_ap (λ y. script_at f (script_place t i y)) b _ _
    ∙ ap (pick b (gives (S.in_file (value_in_def f e)))) (script_in_lem f key t i es) ∙ sym (pick_ap (script_found t i) b _ _)

-- pairs by their numbers
nth_of_lem : (f : List ℕ) (j : ℕ) (es : List PairEntry) → nth_at f (nth_of j es) ≡ pair_of j (map (shown f) es)
unfolding nth_at nth_of pair_of
nth_of_lem f j [] = refl
nth_of_lem f zero (e ∷ es) = refl
nth_of_lem f (suc j) (e ∷ es) = nth_of_lem f j es

pair_drop : (i j : ℕ) (ps : List Pair) → pair_of (i + j) ps ≡ pair_of j (drop i ps)
unfolding pair_of
pair_drop zero j ps = let n : 0 + j ≡ j = omega arith in rw n
pair_drop (suc i) j [] = refl
pair_drop (suc i) j (p ∷ ps) = let n : suc i + j ≡ suc (i + j) = omega arith in rw n (pair_drop i j ps)

pair_past : (j : ℕ) (ps : List Pair) → length ps ≤ j → refuses OutOfRange ≡ pair_of j ps
unfolding pair_of
pair_past j [] h = refl
pair_past zero (p ∷ ps) h = absurd (omega arith)
pair_past (suc j) (p ∷ ps) h = pair_past j ps (omega arith)

pair_front : (n j : ℕ) (ps : List Pair) → j < n → pair_of j ps ≡ pair_of j (take n ps)
unfolding pair_of
pair_front zero j ps h = absurd (omega arith)
pair_front (suc n) j [] h = refl
pair_front (suc n) zero (p ∷ ps) h = refl
pair_front (suc n) (suc j) (p ∷ ps) h = pair_front n j ps (omega arith)

pair_take : (n j : ℕ) (ps : List Pair) → pick (ltb j n) (pair_of j ps) (refuses OutOfRange) ≡ pair_of j (take n ps)
pair_take n j ps =
    pick_by (λ (x : Answer Pair). x ≡ pair_of j (take n ps)) (ltb j n) _ _
    (λ q. pair_front n j ps (ltb-true j n q)) (λ q. pair_past j (take n ps) (short (ltb-false j n q)))
  where
    short : n ≤ j → length (take n ps) ≤ j
    short h = omega (arith, length-take n ps)

nth_in : (f : List ℕ) (j i n : ℕ) (es : List PairEntry) → nth_of_listing f j (Ok (pairs_at i n)) (holds es)
    ≡ nth_in_def j (list_at f (Ok (pairs_at i n)) (holds es))
unfolding nth_of_listing nth_in_def list_at nth
nth_in f j i n es =
    ap (λ (x : Answer Pair). pick (ltb j n) x (refuses OutOfRange)) (nth_of_lem f (i + j) es ∙ pair_drop i j (map (shown f) es))
    ∙ pair_take n j (drop i (map (shown f) es))

-- the part that is handed back: empty for absence and refusal
unfoldable pub part_in_def : {A : Type 0} → (A → List ℕ) → Answer A → List ℕ
part_in_def k (refuses e) = []
part_in_def k lacks = []
part_in_def k (gives x) = k x

pub part_in : (f : List ℕ) (y : Looked) → part f y ≡ part_in_def (λ v. v) (answer_at f y)
unfolding part part_in_def answer_at
part_in f (Err e) = refl
part_in f (Ok None) = refl
part_in f (Ok (Some p)) = refl

utxo_part_lem : (f : List ℕ) (y : Utxo) → utxo_part f y ≡ part_in_def (λ x. x.1) (utxo_at f y)
unfolding utxo_part part_in_def utxo_at
utxo_part_lem f (Err e) = refl
utxo_part_lem f (Ok None) = refl
utxo_part_lem f (Ok (Some u)) = refl

-- a script's bytes, with the script table T
unfoldable pub bytes_with : List ℕ → Script → List ℕ
bytes_with T (S.in_file v) = v
bytes_with T (S.in_table s n) = take n (drop s T)

script_part_lem : (f T : List ℕ) (y : OutputScript) → script_part f T y ≡ part_in_def (bytes_with T) (script_at f y)
unfolding script_part part_in_def script_at bytes_with
script_part_lem f T (Err e) = refl
script_part_lem f T (Ok None) = refl
script_part_lem f T (Ok (Some (O.InFile s n))) = refl
script_part_lem f T (Ok (Some (O.InTable s n))) = refl

-- a call answers by what its map shows
abbrev pub By : {A : Type 0} → (List ℕ → Held → A) → (View → A) → Type 0
By call answer = (f : List ℕ) (h : Held) → Sound f h → call f h ≡ answer (view_of f h)

pub asked_by : (ok : Bool) (l : Length) (key : List ℕ) → By (λ f h. answer_at f (asked ok l f key h)) (look_in_def ok l key)
unfolding asked look_in_def view_of answer_at
asked_by ok l key f (no e) s = refl
asked_by ok l key f (holds es) s = pick_ap (answer_at f) ok _ _ ∙ ap (λ (x : Answer (List ℕ)). pick ok x (refuses BadValue)) (place_is f l key es s.0)

asked_lies : (ok : Bool) (l : Length) (key f : List ℕ) (h : Held) → Sound f h → Lies f (asked ok l f key h)
unfolding asked of_length_def
asked_lies ok l key f (no e) s = tt
asked_lies ok l key f (holds es) s = pick_by (Lies f) ok _ _ (λ q. of_length (place f key es) (place_lies f key es s.0)) (λ q. tt)
  where
    of_length : (y : Looked) → Lies f y → Lies f (of_length_def l y)
    of_length (Err e) w = tt
    of_length (Ok None) w = tt
    of_length (Ok (Some p)) w = pick_by (Lies f) (length_fits l p.len) _ _ (λ q. w) (λ q. tt)

pub number_by : (t w : ℕ) → By (number_field t w) (λ v. number_in (look_in_def true (exactly w) (key_of t []) v))
unfolding number_field part_field_def
number_by t w f h s = number_in_lem f _ ∙ ap number_in (asked_by true (exactly w) (key_of t []) f h s)

module _ (ok : Bool) (l : Length) (key : List ℕ) where
  pub count_by : By (λ f h. participant_count (asked ok l f key h)) (λ v. count_in (look_in_def ok l key v))
  count_by f h s = count_in_lem f _ (asked_lies ok l key f h s) ∙ ap count_in (asked_by ok l key f h s)

  pub participant_by : (n : ℕ) → By (λ f h. answer_at f (participant n (asked ok l f key h))) (λ v. participant_in n (look_in_def ok l key v))
  participant_by n f h s = participant_in_lem f n _ (asked_lies ok l key f h s) ∙ ap (participant_in n) (asked_by ok l key f h s)

  pub part_by : By (λ f h. part f (asked ok l f key h)) (λ v. part_in_def (λ x. x) (look_in_def ok l key v))
  part_by f h s = part_in f _ ∙ ap (part_in_def (λ x. x)) (asked_by ok l key f h s)

pub utxo_by_lem : By (λ f h. utxo_at f (get_witness_utxo f h)) (λ v. utxo_in (look_in_def true any_length (key_of 0x01 []) v))
unfolding get_witness_utxo witness_utxo_def part_field_def
utxo_by_lem f h s = utxo_in_lem f _ ∙ ap utxo_in (asked_by true any_length (key_of 0x01 []) f h s)

pub utxo_part_by : By (λ f h. utxo_part f (get_witness_utxo f h)) (λ v. part_in_def (λ x. x.1) (utxo_in (look_in_def true any_length (key_of 0x01 []) v)))
utxo_part_by f h s = utxo_part_lem f _ ∙ ap (part_in_def (λ x. x.1)) (utxo_by_lem f h s)

pub script_by_lem : (t : State) (T : List ℕ) (n : ℕ) → By (λ f h. script_at f (output_script_def f t T n h)) (script_in t T n)
unfolding output_script_def script_in view_of script_at field
script_by_lem t T n f (no e) s = refl
script_by_lem t T n f (holds es) s =
    let b = table_fits t (out_of (map (shown f) es) ∷ []) (drop (n * script_entry) T) in
    pick_ap (script_at f) b (script_place t n (place f (key_of 0x04 []) es)) (Err BadIndex)
    ∙ ap (λ (x : Answer Script). pick b x (refuses BadIndex)) (script_in_lem f (key_of 0x04 []) t n es)

pub script_part_by : (t : State) (T : List ℕ) (n : ℕ)
    → By (λ f h. script_part f T (output_script_def f t T n h)) (λ v. part_in_def (bytes_with T) (script_in t T n v))
script_part_by t T n f h s = script_part_lem f T _ ∙ ap (part_in_def (bytes_with T)) (script_by_lem t T n f h s)

pub list_by : (t : ℕ) → By (λ f h. list_at f (list f t h) h) (list_in t)
unfolding list list_at list_in view_of
list_by t f (no e) s = refl
list_by t f (holds es) s = ap shows (listing_is t [] (map (shown f) es) s.1)

pub nth_by_lem : (t j : ℕ) → By (λ f h. nth_of_listing f j (list f t h) h) (λ v. nth_in_def j (list_in t v))
unfolding list nth_of_listing nth_in_def list_in view_of
nth_by_lem t j f (no e) s = refl
nth_by_lem t j f (holds es) s = nth_in f j _ _ es ∙ ap (nth_in_def j) (list_by t f (holds es) s)
