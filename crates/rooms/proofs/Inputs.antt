-- What reads have put at the front of a room: all that the input had, as far as there is room. What writes have taken of a text: its front.
use Rattle.std.proofs.Common.{◌≡◌, ℕ, ◌+◌, ◌-◌, ◌<◌, ◌≤◌, List, ◌++◌, arith, length, take, drop, sym, ap, ◌∙◌, subst, length-take-le, length-drop, inl, inr}
use Rattle.std.proofs.lemmas.Bool.{cases_lt}
use Rattle.std.proofs.lemmas.List.{append-nil, take_all, take-append-le, drop-drop}
use Rattle.std.proofs.Math.Seq.{take-append-add, take-add}
use Rattle.std.specs.Prelude.{Option, None, Some, IfSome, Result, Ok, Err, OnOk, OnErr}
use Rattle.std.specs.Io.KnownBytes.{Consumes, IsAtEnd, Appends}
use Rattle.std.proofs.KnownBytes.{Consumes-trans, Appends-trans}
use borrow.Rule.Slice.PartMut.{put_mid, post_of}

-- what stands at the front of a room, and n bytes more that were put behind it
front_more : (a k n : ℕ) (xs ys : List ℕ) → a ≤ length xs → n ≤ length ys → take (a + n) (put_mid a k xs ys) ≡ take a xs ++ take n ys
front_more a k n xs ys within fits =
    ap (λ m. take (m + n) (put_mid a k xs ys)) (sym (length-take-le a xs within))
    ∙ take-append-add (take a xs) (ys ++ post_of a k xs) n
    ∙ ap (λ l. take a xs ++ l) (take-append-le n ys (post_of a k xs) fits)

-- a read more: u, v and w are what the reader has left before the first, before this one and after it
pub read_more : (u v w : Option (List ℕ)) (a n : ℕ) (room part : List ℕ) → a ≤ length room → n ≤ length part
    → Consumes u v (take a room) → Consumes v w (take n part)
    → Consumes u w (take (a + n) (put_mid a (length room - a) room part))
read_more u v w a n room part within fits before here =
    subst (Consumes u w) (sym (front_more a (length room - a) n room part within fits)) (Consumes-trans _ _ _ _ _ before here)

-- n bytes that the input had first, and no more are left where there is room for more: these are the input, as far as there is room
pub input_is : (u v : Option (List ℕ)) (n : ℕ) (room : List ℕ) → n ≤ length room → Consumes u v (take n room) → (n < length room → IsAtEnd v)
    → IfSome u (λ f. take n room ≡ take (length room) f)
input_is None v n room within reads ends = tt
input_is (Some xs) None n room within reads ends = absurd reads
input_is (Some xs) (Some ys) n room within reads ends =
    let had : length (take n room) ≡ n = length-take-le n room within in
    elim (cases_lt n (length room)) [
      | inl less ↦
          sym (ap (take (length room)) (reads ∙ ap (λ l. take n room ++ l) (ends less) ∙ append-nil (take n room))
          ∙ take_all (length room) (take n room) (omega (arith, had)))
      | inr full ↦
          sym (ap (take (length room)) reads
          ∙ take-append-le (length room) (take n room) ys (omega (arith, had))
          ∙ take_all (length room) (take n room) (omega (arith, had)))
    ]

-- a text of these bytes that was written whole is the text of the input, as far as there is room
pub text_written : {A B : Type 0} (r : Result A B) (u w w' : Option (List ℕ)) (text : List ℕ → List ℕ) (m : ℕ) (room read out : List ℕ) → m ≡ length room
    → IfSome u (λ f. read ≡ take (length room) f) → out ≡ text read → OnOk r (Appends w w' out) → OnOk r (IfSome u (λ f. Appends w w' (text (take m f))))
text_written (Err e) u w w' text m room read out long is whole wrote = tt
text_written (Ok a) None w w' text m room read out long is whole wrote = tt
text_written (Ok a) (Some f) w w' text m room read out long is whole wrote =
    subst (Appends w w') (whole ∙ ap text (is ∙ ap (λ (n : ℕ). take n f) (sym long))) wrote

-- what a writer took of a text is its front, and the rest is what stands behind it: u and v are what the writer holds before and after
pub record Writing (u v : Option (List ℕ)) (text rest : List ℕ) : Type 0 where
  pub done : ℕ
  pub within : done ≤ length text
  pub rest_is : rest ≡ drop done text
  pub wrote : Appends u v (take done text)

-- a write more, of n bytes: w is what the writer holds after it
module _ (u v w : Option (List ℕ)) (text rest : List ℕ) (k : Writing u v text rest) where
  pub write_more : (n : ℕ) → n ≤ length rest → Appends v w (take n rest) → Writing u w text (take (length rest - n) (drop n rest))
  write_more n fits here =
      let left : length rest ≡ length text - k.done = ap length k.rest_is ∙ length-drop k.done text in
      record {
        done = k.done + n;
        within = omega (arith, k.within, left);
        rest_is = take_all (length rest - n) (drop n rest) (omega (arith, length-drop n rest)) ∙ ap (drop n) k.rest_is ∙ drop-drop n k.done text;
        wrote = subst (Appends u w) (ap (λ l. take k.done text ++ take n l) k.rest_is ∙ sym (take-add k.done n text)) (Appends-trans _ _ _ _ _ k.wrote here);
      }

-- a front of such a text that was written is a front of the text of the input
pub front_written : {A B : Type 0} (r : Result A B) (u w w' : Option (List ℕ)) (text : List ℕ → List ℕ) (m : ℕ) (room read out : List ℕ) → m ≡ length room
    → IfSome u (λ f. read ≡ take (length room) f) → out ≡ text read → OnErr r ((n : ℕ) × Appends w w' (take n out))
    → OnErr r (IfSome u (λ f. (n : ℕ) × Appends w w' (take n (text (take m f)))))
front_written (Ok a) u w w' text m room read out long is whole wrote = tt
front_written (Err e) None w w' text m room read out long is whole wrote = tt
front_written (Err e) (Some f) w w' text m room read out long is whole wrote =
    (wrote.0, subst (λ (t : List ℕ). Appends w w' (take wrote.0 t)) (whole ∙ ap text (is ∙ ap (λ (n : ℕ). take n f) (sym long))) wrote.1)
