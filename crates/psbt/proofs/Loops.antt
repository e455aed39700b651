-- The two loops of `read_maps`: their invariants, each turn and each way out, on plain values.
-- F is the file, P₀ and M₀ the tables at entry, P and M as they are; w is what is carried, at the place in the file, p and m count pairs and maps,
-- la and le are the last key's ends. A 1 marks what a value was where the inner loop began.
use mathlib.Core.Path.{◌≡◌, refl, sym, ◌∙◌, ap, ap₂, subst}
use mathlib.Core.List.{List, [], ◌∷◌}
use mathlib.Core.Bool.{Bool, true, false, not}
use Prim.Native.Nat.{ℕ, zero, suc, ◌+◌, ◌-◌, ◌*◌, ◌^◌, ◌≤◌, ◌<◌}
use native.Mathlib.Nat.{add-sub_cancel_left}
use native.Mathlib.Omega.{arith}
use borrow.Author.Tests.{not-true, not-false, leb-true, lt-ltb, le-ltb}
use lib.Dec.{ltb, leb-suc-suc}
use lib.ListN.{length, take, drop, length-drop}
use lib.Seq.{drop-drop}
use mir.Syntax.{w64}
use mir.Val.{Fits}
use Rattle.format.specs.Tests.{pick}
use Rattle.format.specs.Rules.{kind_of}
use Rattle.format.specs.Entries.{pair_words, map_words, has_room_def, put_pair, put_map}
use Rattle.format.specs.Parse.{ParseOut, out}
use Rattle.format.specs.declared.PsbtError.{PsbtError}
use Rattle.format.specs.declared.PsbtError.TheVariants.{PairsFull, MapsFull}
use Rattle.format.specs.declared.PairEntry.{PairEntry}
use Rattle.format.specs.declared.Psbt.{Psbt}
use Rattle.format.specs.declared.Parsed.TheVariants as A
use Rattle.wire.proofs.Sizes.{part_rest}
use Rattle.parsed_map.specs.Fronts.{item_of, ItemRead}
use Rattle.parsed_map.specs.Shown.{pair_at, shown}
use Rattle.std.specs.Prelude.{Ok, Err}
use Rattle.parsed_map.specs.declared.Item.TheVariants as I
use Rattle.parsed_map.proofs.Items.{over_in, over_length, one_in, width_is, entry_is}
use Rattle.parsed_map.proofs.Twins.{twin}
use Rattle.entries.specs.Words.{PairFits, MapFits}
use Rattle.format.proofs.Entries.{length_put_pair, length_put_map}
use Rattle.known_so_far.specs.SoFar.{note, at_first, after, After}
use Rattle.psbt.specs.Leans.{begins, cut_lean, left, go_on, walk_turn_def, walk, maps_read}
use Rattle.psbt.specs.Steps.{Places, InLimit, step_by, step_at}
use Rattle.known_so_far.specs.declared.Known.{Known}
use Rattle.parsed_map.specs.declared.Item.TheVariants.{Over, One}
use Rattle.known_so_far.specs.declared.Next.TheVariants as N
use Rattle.psbt.proofs.Leans.{walk_turn}
use Rattle.psbt.proofs.Steps.{limit_fits}

-- the bytes from la up to le: the last key, or a value
abbrev pub between : List ℕ → ℕ → ℕ → List ℕ
between F la le = take (le - la) (drop la F)

-- what is left to give, between two maps and inside one that began at pair i
abbrev pub at_map : List ℕ → List ℕ → List ℕ → Known → ℕ → ℕ → ℕ → ParseOut
at_map F P M w at p m = cut_lean at p m p P M (begins (walk w [] (drop at F)))

abbrev pub in_map_def : List ℕ → List ℕ → List ℕ → ℕ → Known → ℕ → ℕ → ℕ → ℕ → ℕ → ParseOut
in_map_def F P M m w at p la le i = cut_lean at p m i P M (walk w (between F la le) (drop at F))

-- what is carried on behind the pair of an entry
abbrev pub noted_at : List ℕ → Known → PairEntry → Known
noted_at F w e = note (between F e.key (e.key + e.klen)) (between F e.value (e.value + e.vlen)) w

-- by a step
unfoldable pub step_cut : List ℕ → List ℕ → List ℕ → ℕ → Known → ℕ → ℕ → ItemRead → ParseOut
step_cut F P M m w p i (Err e) = out (A.Refused e p m) P M
step_cut F P M m w p i (Ok (Over to)) =
    cut_lean to p (m + 1) p P (put_map M m (record { first = i; count = p - i })) (go_on walk (drop to F) (after w (left (drop to F))))
step_cut F P M m w p i (Ok (One e)) =
    pick (has_room_def pair_words p P) (in_map_def F (put_pair P p e) M m (noted_at F w e) (e.value + e.vlen) (p + 1) e.key (e.key + e.klen) i)
    (out (A.Refused PairsFull p m) P M)

-- a step is what the walk does
module _ (F P M : List ℕ) (m : ℕ) (w : Known) (at p i : ℕ) (last : List ℕ) where
  by_item : (z : ItemRead) → z ≡ item_of (kind_of w.kind) last (drop at F)
      → cut_lean at p m i P M (walk_turn_def walk w (shown (drop at F) z)) ≡ step_cut F P M m w p i (step_by at z)
  unfolding walk_turn_def shown step_by step_cut cut_lean
  by_item (Err e) h = refl
  by_item (Ok (I.Over u)) h =
      ap₂ (λ (n : ℕ) (t : List ℕ). cut_lean (at + n) p (m + 1) p P (put_map M m (record { first = i; count = p - i })) (go_on walk t (after w (left t))))
      (over_length (kind_of w.kind) last (drop at F) (Ok (I.Over u)) h u refl) (drop-drop u at F)
  by_item (Ok (I.One e)) h =
      let n = one_in (kind_of w.kind) last (drop at F) (Ok (I.One e)) h e refl in
      let s : at + (e.value + e.vlen) ≡ at + e.value + e.vlen = omega arith in
      ap (λ (x : ParseOut). pick (has_room_def pair_words p P) x (out (A.Refused PairsFull p m) P M))
      (rw (
        width_is (drop at F) e.key e.klen e.value e.vlen n,
        entry_is (drop at F) e.key e.klen e.value e.vlen n at,
        drop-drop (e.value + e.vlen) at F,
        s,
        add-sub_cancel_left (at + e.key) e.klen,
        add-sub_cancel_left (at + e.value) e.vlen,
        ← drop-drop e.key at F,
        ← drop-drop e.value at F,
      ) (unfold pair_at in refl))

  pub turned : cut_lean at p m i P M (walk w last (drop at F)) ≡ step_cut F P M m w p i (step_at (drop at F) last at (kind_of w.kind))
  unfolding step_at
  turned =
      ap (cut_lean at p m i P M) (walk_turn w last (drop at F) ∙ ap (walk_turn_def walk w) (sym (twin (kind_of w.kind) last (drop at F))))
      ∙ by_item (item_of (kind_of w.kind) last (drop at F)) refl

pub record AtMaps (F P₀ M₀ P M : List ℕ) (w : Known) (at p m : ℕ) : Type 0 where
  pub at≤ : at ≤ length F
  pub p≤ : p ≤ at
  pub m2 : m * 2 ≤ length M
  pub P= : length P ≡ length P₀
  pub M= : length M ≡ length M₀
  pub is : at_map F P M w at p m ≡ maps_read F P₀ M₀

pub record InMap (F P₁ M : List ℕ) (w₁ : Known) (at₁ p₁ m i la₁ le₁ : ℕ) (P : List ℕ) (w : Known) (at p la le : ℕ) : Type 0 where
  pub at≤ : at ≤ length F
  pub la≤ : la ≤ le
  pub le≤ : le ≤ length F
  pub p≤ : p ≤ at
  pub i≤ : i ≤ p
  pub at₁≤ : at₁ ≤ at
  pub P= : length P ≡ length P₁
  pub is : in_map_def F P M m w at p la le i ≡ in_map_def F P₁ M m w₁ at₁ p₁ la₁ le₁ i

pub maps_first : (F P M : List ℕ) (w : Known) → InLimit (length F) → w ≡ at_first → AtMaps F P M P M w 5 0 0
unfolding maps_read
maps_first F P M w l e = record {
  at≤ = l.magic;
  p≤ = omega arith;
  m2 = omega arith;
  P= = refl;
  M= = refl;
  is = ap (λ (x : Known). at_map F P M x 5 0 0) e;
}

-- room that is tested
room_no : (b t : Bool) → b ≡ t → not b ≡ true → t ≡ false
room_no b t e h = sym e ∙ not-true b h

room_yes : (b t : Bool) → b ≡ t → not b ≡ false → t ≡ true
room_yes b t e h = sym e ∙ not-false b h

module _ (F P₀ M₀ P M : List ℕ) (w : Known) (at p m : ℕ) (j : AtMaps F P₀ M₀ P M w at p m) where
  pub loop_first : InMap F P M w at p m p at at P w at p at at
  loop_first = record { at≤ = j.at≤; la≤ = omega arith; le≤ = j.at≤; p≤ = j.p≤; i≤ = omega arith; at₁≤ = omega arith; P= = refl; is = refl }

  module _ (b : Bool) (e : b ≡ has_room_def map_words m M) where
    pub exit_23 : not b ≡ true → out (A.Refused MapsFull p m) P M ≡ maps_read F P₀ M₀
    unfolding cut_lean
    exit_23 h = sym (sym j.is ∙ rw (room_no b (has_room_def map_words m M) e h))

    pub enter : not b ≡ false → in_map_def F P M m w at p at at p ≡ maps_read F P₀ M₀
    unfolding cut_lean
    enter h =
        let z : at - at ≡ 0 = omega arith in
        ap (λ (n : ℕ). cut_lean at p m p P M (walk w (take n (drop at F)) (drop at F))) z
        ∙ sym (sym j.is ∙ rw (room_yes b (has_room_def map_words m M) e h))

-- where a step ends
pub record OneAt (F : List ℕ) (at : ℕ) (e : PairEntry) : Type 0 where
  pub key : e.key + e.klen ≤ e.value
  pub value : e.value + e.vlen ≤ length F
  pub moves : at < e.value + e.vlen

abbrev StepIn : List ℕ → ℕ → ItemRead → Type 0
StepIn F at (Err e) = Unit {0}
StepIn F at (Ok (Over to)) = (at < to) × (to ≤ length F)
StepIn F at (Ok (One e)) = OneAt F at e

by_in : (F : List ℕ) (at k : ℕ) (last : List ℕ) → at ≤ length F → (z : ItemRead) → z ≡ item_of k last (drop at F) → StepIn F at (step_by at z)
unfolding step_by
by_in F at k last h (Err e) q = tt
by_in F at k last h (Ok (I.Over u)) q =
    let x = over_in k last (drop at F) (Ok (I.Over u)) q u refl in
    let e : length (drop at F) ≡ length F - at = length-drop at F in
    (omega (arith, x.0), omega (arith, x.1))
by_in F at k last h (Ok (I.One e)) q =
    let x = one_in k last (drop at F) (Ok (I.One e)) q e refl in
    let e : length (drop at F) ≡ length F - at = length-drop at F in
    record { key = omega (arith, x.ends); value = omega (arith, x.inside); moves = omega (arith, x.moves) }

step_in : (F : List ℕ) (at k : ℕ) (last : List ℕ) → at ≤ length F → StepIn F at (step_at (drop at F) last at k)
unfolding step_at
step_in F at k last h = by_in F at k last h (item_of k last (drop at F)) refl

-- bytes are left behind a place
left_is : (F : List ℕ) (to : ℕ) → ltb to (length F) ≡ left (drop to F)
unfolding left
left_is [] zero = refl
left_is [] (suc to) = le-ltb (suc to) 0 (omega arith)
left_is (x ∷ F) zero = lt-ltb 0 (suc (length F)) (omega arith)
left_is (x ∷ F) (suc to) = leb-suc-suc (suc to) (length F) ∙ left_is F to

-- the numbers of a file are within the limit
pub rest_places : (F : List ℕ) (at : ℕ) → InLimit (length F) → at ≤ length F → Places (length (take (length F - at) (drop at F))) at
rest_places F at l h =
    let e : length (take (length F - at) (drop at F)) ≡ length F - at = ap length (part_rest at F) ∙ length-drop at F in
    record { within = omega (arith, l.short) }

module _ (F P₁ M : List ℕ) (w₁ : Known) (at₁ p₁ m : ℕ) (P : List ℕ) (w : Known) (at p la le : ℕ) (i : InMap F P₁ M w₁ at₁ p₁ m p₁ at₁ at₁ P w at p la le)
    (o : ItemRead) (is : o ≡ step_at (take (length F - at) (drop at F)) (take (le - la) (drop la F)) at (kind_of w.kind)) where
  here : (y : ItemRead) → o ≡ y → in_map_def F P M m w at p la le p₁ ≡ step_cut F P M m w p p₁ y
  here y e =
      turned F P M m w at p p₁ (between F la le)
      ∙ ap (step_cut F P M m w p p₁) (ap (λ (s : List ℕ). step_at s (between F la le) at (kind_of w.kind)) (sym (part_rest at F)) ∙ sym is ∙ e)

  in_file_lem : (y : ItemRead) → o ≡ y → StepIn F at y
  in_file_lem y e =
      subst (StepIn F at) (ap (λ (s : List ℕ). step_at s (between F la le) at (kind_of w.kind)) (sym (part_rest at F))
      ∙ sym is ∙ e) (step_in F at (kind_of w.kind) (between F la le) i.at≤)

  pub over_less : (to : ℕ) → o ≡ Ok (Over to) → length F - to < length F - at₁
  over_less to e = omega (arith, in_file_lem (Ok (Over to)) e, i.at₁≤)

  module _ (e : PairEntry) (h : o ≡ Ok (One e)) where
    bounds : OneAt F at e
    bounds = in_file_lem (Ok (One e)) h

    pub one_key_in : e.key + e.klen ≤ length F
    one_key_in = omega (arith, bounds.key, bounds.value)

    pub one_value_in : e.value + e.vlen ≤ length F
    one_value_in = bounds.value

    module _ (l : InLimit (length F)) where
      pub one_key : Fits w64 (e.key + e.klen)
      one_key = record { fits = omega (arith, bounds.key, bounds.value, l.short, limit_fits) }

      pub one_value : Fits w64 (e.value + e.vlen)
      one_value = record { fits = omega (arith, bounds.value, l.short, limit_fits) }

      pub one_writes : (b : Bool) → b ≡ has_room_def pair_words p P → not b ≡ false → PairFits P p e
      unfolding has_room_def
      one_writes b r n = record {
        room = leb-true (p * pair_words + pair_words) (length P) (room_yes b (has_room_def pair_words p P) r n);
        key< = omega (arith, bounds.key, bounds.value, l.short, limit_fits);
        klen< = omega (arith, bounds.key, bounds.value, l.short, limit_fits);
        value< = omega (arith, bounds.value, l.short, limit_fits);
        vlen< = omega (arith, bounds.value, l.short, limit_fits);
      }

    pub one_less : length F - (e.value + e.vlen) < length F - at
    one_less = omega (arith, bounds.value, bounds.moves)

    pub one_again : (b : Bool) → b ≡ has_room_def pair_words p P → not b ≡ false → (P' : List ℕ) → P' ≡ put_pair P p e → (v : Known) → v ≡ noted_at F w e
        → InMap F P₁ M w₁ at₁ p₁ m p₁ at₁ at₁ P' v (e.value + e.vlen) (p + 1) e.key (e.key + e.klen)
    unfolding step_cut
    one_again b r n P' q v x =
        let long : length P' ≡ length P = ap length q ∙ length_put_pair P p e in
        record {
          at≤ = bounds.value;
          la≤ = omega arith;
          le≤ = omega (arith, bounds.key, bounds.value);
          p≤ = omega (arith, i.p≤, bounds.moves);
          i≤ = omega (arith, i.i≤);
          at₁≤ = omega (arith, i.at₁≤, bounds.moves);
          P= = long ∙ i.P=;
          is = rw (q, x) (sym (here (Ok (One e)) h ∙ rw (room_yes b (has_room_def pair_words p P) r n)) ∙ i.is);
        }

  module _ (P₀ M₀ : List ℕ) (j : AtMaps F P₀ M₀ P₁ M w₁ at₁ p₁ m) (b : Bool) (t : b ≡ has_room_def map_words m M) (n : not b ≡ false) where
    so : in_map_def F P M m w at p la le p₁ ≡ maps_read F P₀ M₀
    so = i.is ∙ enter F P₀ M₀ P₁ M w₁ at₁ p₁ m j b t n

    pub exit_stop : (e : PsbtError) → o ≡ Err e → out (A.Refused e p m) P M ≡ maps_read F P₀ M₀
    unfolding step_cut
    exit_stop e q = sym (here (Err e) q) ∙ so

    pub exit_22 : (e : PairEntry) → o ≡ Ok (One e) → (c : Bool) → c ≡ has_room_def pair_words p P → not c ≡ true
        → out (A.Refused PairsFull p m) P M ≡ maps_read F P₀ M₀
    unfolding step_cut
    exit_22 e q c r k = sym (here (Ok (One e)) q ∙ rw (room_no c (has_room_def pair_words p P) r k)) ∙ so

    pub map_writes : InLimit (length F) → MapFits M m (record { first = p₁; count = p - p₁ })
    unfolding has_room_def
    map_writes l = record {
      room = leb-true (m * map_words + map_words) (length M) (room_yes b (has_room_def map_words m M) t n);
      first< = omega (arith, i.i≤, i.p≤, i.at≤, l.short, limit_fits);
      count< = omega (arith, i.p≤, i.at≤, l.short, limit_fits);
    }

    pub map_more : length M < 2 ^ 64 → Fits w64 (m + 1)
    unfolding has_room_def
    map_more l = record { fits = omega (arith, leb-true (m * map_words + map_words) (length M) (room_yes b (has_room_def map_words m M) t n)) }

    module _ (to : ℕ) (q : o ≡ Ok (Over to)) (M' : List ℕ) (u : M' ≡ put_map M m (record { first = p₁; count = p - p₁ }))
        (x : After) (it : x ≡ after w (ltb to (length F))) where
      behind : (y : After) → x ≡ y → cut_lean to p (m + 1) p P M' (go_on walk (drop to F) y) ≡ maps_read F P₀ M₀
      unfolding step_cut
      behind y e =
          rw (u, ← (sym it ∙ e), left_is F to) (sym (here (Ok (Over to)) q) ∙ so)

      pub exit_after : (e : PsbtError) → x ≡ Err e → out (A.Refused e p (m + 1)) P M' ≡ maps_read F P₀ M₀
      unfolding cut_lean go_on
      exit_after e z = behind (Err e) z

      pub exit_done : (s : Psbt) → x ≡ Ok (N.Done s) → out (A.Accepted s p (m + 1)) P M' ≡ maps_read F P₀ M₀
      unfolding cut_lean go_on
      exit_done s z = behind (Ok (N.Done s)) z

      pub maps_next : (v : Known) → x ≡ Ok (N.Map v) → AtMaps F P₀ M₀ P M' v to p (m + 1)
      unfolding go_on has_room_def
      maps_next v z =
          let long : length M' ≡ length M = ap length u ∙ length_put_map M m (record { first = p₁; count = p - p₁ }) in
          let y = in_file_lem (Ok (Over to)) q in
          record {
            at≤ = y.1;
            p≤ = omega (arith, i.p≤, y.0);
            m2 = omega (arith, leb-true (m * map_words + map_words) (length M) (room_yes b (has_room_def map_words m M) t n));
            P= = i.P= ∙ j.P=;
            M= = long ∙ j.M=;
            is = behind (Ok (N.Map v)) z;
          }

pub ruleset loops = (
  maps_first,
  loop_first,
  exit_23,
  rest_places,
  over_less,
  exit_stop,
  map_more,
)
