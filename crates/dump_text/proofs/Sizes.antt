-- Every dump fits the room that the program has for it.
use mathlib.Core.Path.{◌≡◌, refl, ap}
use mathlib.Core.List.{List, [], ◌∷◌, ◌++◌, append-nil}
use Prim.Native.Nat.{ℕ, suc, ◌+◌, ◌*◌, ◌≤◌, ◌<◌}
use native.Mathlib.Omega.{arith}
use borrow.Author.Tests.{leb-true, ltb-false}
use lib.Dec.{leb, ltb}
use lib.ListN.{length, drop, length-append}
use lib.Seq.{take-append_seam}
use Rattle.format.specs.Keys.{data_of}
use Rattle.format.specs.Content.{Pair, Map, Content, maps_of, pair_bytes, pairs_bytes, map_bytes, maps_bytes, bytes, psbt_of}
use Rattle.format.specs.Reading.{FieldRule, two, accepted, reading}
use Rattle.format.specs.Entries.{pair_words, map_words}
use Rattle.format.specs.Parse.{ParseOut, out, parsed}
use Rattle.format.specs.Transaction.{Tx, refuses, writes, TxOut, written, tx_reported, unsigned_tx_def}
use Rattle.format.specs.Scripts.{reported}
use Rattle.format.specs.Refusals.{number_of}
use Rattle.format.specs.declared.PsbtError.{PsbtError}
use Rattle.format.specs.declared.PsbtError.TheVariants.{TooLong, NoRoom}
use Rattle.format.specs.declared.Psbt.{Psbt}
use Rattle.format.specs.declared.State.{State}
use Rattle.format.specs.declared.Parsed.TheVariants.{Accepted, Refused}
use Rattle.format.proofs.Tests.{pick_by}
use Rattle.format.proofs.Numbers.{All}
use Rattle.claims_reading.specs.Fine.{Framed, FineMap}
use Rattle.claims_reading.specs.Shown.{view_by, pairs_in}
use Rattle.claims_reading.proofs.Files.{reading_is}
use Rattle.claims_reading.proofs.Parsed.{accepted_is}
use Rattle.rooms.specs.Limits.{longest, most_pairs, most_maps}
use Rattle.rooms.specs.Rooms.{fresh}
use Rattle.rooms.proofs.Taken.{room_taken}
use Rattle.rooms.proofs.Zeros.{zeros_long}
use Rattle.text.specs.Say.{newline}
use Rattle.text.specs.Spelled.{hex_byte, hex_or_dash}
use Rattle.text.proofs.Sizes.{hex_most, decimal_most, decimal_few, signed_most}
use Rattle.dump_text.specs.Lines.{refused_line, version_text, counts_text, head_line, map_line, key_text, pair_text}
use Rattle.dump_text.specs.Lines.{pair_line, pairs_text, map_text, unsigned_text, unsigned_line}
use Rattle.dump_text.specs.Dump.{tx_line, parsed_text, dump_in, longest_dump, dump}
use Rattle.dump_text.specs.Contents.{map_lines, content_text}
use Rattle.dump_text.proofs.Contents.{dump_accepted}

-- a pair's line: two digits for each byte of its key and its value, and five more
data_length : (k : List ℕ) → 0 < length k → length (data_of k) + 1 ≡ length k
unfolding data_of
data_length [] h = absurd (omega arith)
data_length (b ∷ k) h = omega arith

pair_most : (p : Pair) → 0 < length p.key → length (pair_line p) ≤ 2 * (length p.key + length p.value) + 5
unfolding pair_line pair_text key_text hex_byte
pair_most p h = simp length-append (omega (arith, hex_most (data_of p.key), hex_most p.value, data_length p.key h))

pair_bytes_lem : (p : Pair) (r : List ℕ) → length p.key + length p.value + length r ≤ length (pair_bytes p r)
unfolding pair_bytes
pair_bytes_lem p r = simp length-append (omega arith)

pairs_most : (ps : List Pair) (r : List ℕ) → All Framed ps → length (pairs_text ps) + 2 * length r ≤ 2 * length (pairs_bytes ps r) + 5 * length ps
unfolding pairs_text pairs_bytes
pairs_most [] r h = omega arith
pairs_most (p ∷ ps) r h = simp length-append (omega (arith, pair_most p h.0.some, pair_bytes_lem p (pairs_bytes ps r), pairs_most ps r h.1))

-- a map's first line: three digits for its number, four for how many pairs it has
map_line_lem : (m n : ℕ) → m < 1000 → n < 10000 → length (map_line m n) ≤ 19
unfolding map_line
map_line_lem m n h l = simp length-append (omega (arith, decimal_few 2 m h, decimal_few 3 n l))

map_most : (m : ℕ) (x : Map) (r : List ℕ) → m < 1000 → length x.pairs < 10000 → All Framed x.pairs
    → length (map_text m x.pairs) + 2 * length r ≤ 2 * length (map_bytes x r) + 5 * length x.pairs + 19
unfolding map_text map_bytes
map_most m x r h l F =
    let e : length r ≤ length (x.end ++ r) = simp length-append (omega arith) in
    simp length-append (omega (arith, map_line_lem m (length x.pairs) h l, pairs_most x.pairs (x.end ++ r) F))

-- the lines of maps in front of further maps
maps_most : (ρ : FieldRule) (ms ns : List Map) (m : ℕ) (r : List ℕ) → All (FineMap ρ) ms → m + length ms ≤ 1000 → pairs_in (ms ++ ns) < 10000
    → length (map_lines m (ms ++ ns)) + 2 * length r + 5 * pairs_in ns
    ≤ 2 * length (maps_bytes ms r) + 5 * pairs_in (ms ++ ns) + 19 * length ms + length (map_lines (m + length ms) ns)
unfolding map_lines maps_bytes pairs_in
maps_most ρ [] ns m r h l k = let q : m + 0 ≡ m = omega arith in rw q (omega arith)
maps_most ρ (x ∷ ms) ns m r h l k =
    let q : m + suc (length ms) ≡ m + 1 + length ms = omega arith in
    let i = maps_most ρ ms ns (m + 1) r h.1 (omega arith) (omega arith) in
    let j = map_most m x (maps_bytes ms r) (omega arith) (omega arith) h.0.pairs.framed in
    rw q (simp length-append (omega (arith, i, j)))

-- the lines of all maps of a file
pairs_behind : (ms ns : List Map) → pairs_in ns ≤ pairs_in (ms ++ ns)
unfolding pairs_in
pairs_behind [] ns = omega arith
pairs_behind (x ∷ ms) ns = omega (arith, pairs_behind ms ns)

all_maps : (f : List ℕ) (c : Content) → reading f ≡ accepted c → pairs_in (maps_of c) ≤ most_pairs → length (maps_of c) ≤ most_maps
    → length (map_lines 0 (maps_of c)) ≤ 2 * length f + 9984
unfolding maps_of bytes maps_bytes pairs_in map_lines
all_maps f c e p m =
    let i = reading_is f c e in
    let n : length (c.ins ++ c.outs) ≡ length c.ins + length c.outs = length-append c.ins c.outs in
    let g = maps_most two.global (c.global ∷ []) (c.ins ++ c.outs) 0 (maps_bytes c.ins (maps_bytes c.outs [])) (i.1.global, tt) (omega arith)
    (omega arith) in
    let a = maps_most two.input c.ins c.outs 1 (maps_bytes c.outs []) i.1.ins (omega arith) (omega arith) in
    let o = rw (append-nil c.outs) at (maps_most two.output c.outs [] (1 + length c.ins) [] i.1.outs (omega arith)) in
    let l = ap length i.0 in
    omega (arith, g, a, o (omega (arith, pairs_behind c.ins c.outs)), l)

-- the other lines
refused_most : (e : PsbtError) → length (refused_line e) ≤ 29
unfolding refused_line
refused_most e = simp length-append (omega (arith, decimal_most (number_of e)))

head_most : (s : Psbt) → length (head_line s) ≤ 89
unfolding head_line version_text counts_text
head_most s = simp length-append (omega (arith, signed_most s.tx_version, decimal_most s.inputs, decimal_most s.outputs))

tx_most : (t : State) (B : List ℕ) (x : Tx) → length (tx_line (written t B x)) ≤ 2 * length B + 38
unfolding tx_line written unsigned_line unsigned_text
tx_most t B (refuses e) = omega (arith, refused_most e)
tx_most t B (writes x) =
    pick_by (λ (o : TxOut). length (tx_line o) ≤ 2 * length B + 38) (leb (length x) (length B)) _ _
    (λ h. rw (take-append_seam x (drop (length x) B)) (omega (arith, length-append (hex_or_dash x) newline, hex_most x, leb-true (length x) (length B) h)))
    (λ h. omega (arith, refused_most NoRoom))

-- the text of a file, in rooms of at most the program's
content_most : (f : List ℕ) (c : Content) (B : List ℕ) → reading f ≡ accepted c → pairs_in (maps_of c) ≤ most_pairs → length (maps_of c) ≤ most_maps
    → length (content_text c B) ≤ 2 * length f + 2 * length B + 10111
unfolding content_text unsigned_tx_def
content_most f c B e p m =
    simp length-append (omega (
      arith,
      all_maps f c e p m,
      head_most (psbt_of c.global.pairs),
      tx_most fresh B
          (tx_reported (psbt_of c.global.pairs) fresh [] (reported (λ n. view_by n (maps_of c)) (psbt_of c.global.pairs))),
    ))

in_most : (P M B f : List ℕ) → length P ≤ most_pairs * pair_words → length M ≤ most_maps * map_words → length B ≤ longest → length f ≤ longest
    → length (dump_in P M B f) ≤ longest_dump
unfolding dump_in parsed_text
in_most P M B f hp hm hb hf = by (parsed f P M) refl
  where
    by : (o : ParseOut) → parsed f P M ≡ o → length (parsed_text B f (parsed f P M)) ≤ longest_dump
    by (out (Refused e p m) P' M') q = rw q (omega (arith, refused_most e))
    by (out (Accepted s p m) P' M') q =
        let a = accepted_is f P M s p m P' M' q in
        let r = room_taken f P M s p m P' M' q a in
        rw (dump_accepted f a.content P M B a.reads r)
        (omega (arith, content_most f a.content B a.reads (omega (arith, r.pairs)) (omega (arith, r.maps))))

-- so of every file
pub dump_fits : (f : List ℕ) → length (dump f) ≤ longest_dump
unfolding dump
dump_fits f =
    pick_by (λ (l : List ℕ). length l ≤ longest_dump) (ltb longest (length f)) _ _
    (λ h. omega (arith, refused_most TooLong))
    (λ h. in_most _ _ _ f (omega (arith, zeros_long (most_pairs * pair_words))) (omega (arith, zeros_long (most_maps * map_words)))
    (omega (arith, zeros_long longest)) (ltb-false longest (length f) h))
