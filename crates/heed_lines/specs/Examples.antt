-- What the definitions say, computed.
use Rattle.std.specs.Prelude.{ℕ, ◌≡◌, refl, List, [], ◌∷◌, map, true, false, length, get_or, Ok, Err, Some, None}
use Rattle.format.specs.Locks.{lock_of}
use Rattle.format.specs.declared.PsbtError.TheVariants.{BadValue, BadIndex}
use Rattle.format.specs.Answers.{Numbered}
use Rattle.format.specs.declared.Lock.TheVariants as L
use Rattle.text.specs.Say.{say}
use Rattle.text.specs.Spelled.{digit, decimal_in, decimal}
use Rattle.heed_lines.specs.declared.Heed.{Heed}
use Rattle.heed_lines.specs.declared.Heed.TheVariants.{Ignored, By}
use Rattle.heed_lines.specs.Heeds.{is_final, heed_from, heed_text, number_decided, heed_line}

-- sequences: absent, ffffffff, fffffffe, 0, one that couldn't be read
pub final_example : map is_final (Ok None ∷ Ok (Some 0xffff_ffff) ∷ Ok (Some 0xffff_fffe) ∷ Ok (Some 0) ∷ Err BadValue ∷ [])
    ≡ true ∷ true ∷ false ∷ false ∷ true ∷ []
unfolding is_final
final_example = refl

-- what the network makes of a lock of inputs with these sequences
unfoldable pub heeds : List Numbered → Heed
heeds qs = heed_from (λ i. get_or qs i (Ok None)) 0 (length qs)

-- one input: absent, ffffffff, fffffffe, 0
pub one_example : map heeds ((Ok None ∷ []) ∷ (Ok (Some 0xffff_ffff) ∷ []) ∷ (Ok (Some 0xffff_fffe) ∷ []) ∷ (Ok (Some 0) ∷ []) ∷ [])
    ≡ Ignored ∷ Ignored ∷ By 0 ∷ By 0 ∷ []
unfolding is_final heed_from heeds
one_example = refl

-- no input; the first of two, the second of two, both, neither
pub two_example :
    map heeds
    ([] ∷ (Ok (Some 5) ∷ Ok None ∷ []) ∷ (Ok (Some 0xffff_ffff) ∷ Ok (Some 0xffff_fffe) ∷ []) ∷ (Ok (Some 0) ∷ Ok (Some 1) ∷ []) ∷
    (Ok None ∷ Ok (Some 0xffff_ffff) ∷ []) ∷ [])
    ≡ Ignored ∷ By 0 ∷ By 1 ∷ By 0 ∷ Ignored ∷ []
unfolding is_final heed_from heeds
two_example = refl

-- the line where every input is final
abbrev pub ignores : List ℕ
ignores = say "the network ignores this lock, the transaction may be spent at once: no input has a sequence below ffffffff\n"

-- the line where input 1 is the first that isn't
abbrev pub heeds_by1 : List ℕ
heeds_by1 = say "the network heeds this lock: input 1 has a sequence below ffffffff\n"

-- each kind of lock, ignored
pub ignored_example : map (λ l. heed_line l Ignored) (Ok (L.Height 800_000 0) ∷ Ok (L.Time 1_893_456_000 0) ∷ Ok (L.Fallback 1) ∷ [])
    ≡ ignores ∷ ignores ∷ ignores ∷ []
unfolding lock_of heed_text number_decided heed_line
ignored_example = refl

-- each kind of lock, heeded
pub heeded_example : map (λ l. heed_line l (By 1)) (Ok (L.Height 800_000 0) ∷ Ok (L.Time 1_893_456_000 0) ∷ Ok (L.Fallback 1) ∷ [])
    ≡ heeds_by1 ∷ heeds_by1 ∷ heeds_by1 ∷ []
unfolding lock_of digit decimal_in decimal heed_text number_decided heed_line
heeded_example = refl

-- lock 0, and each lock that is refused: no line
pub none_example :
    map (λ l. heed_line l Ignored)
    (Ok (L.Fallback 0) ∷ Ok (L.Height 0 0) ∷ Err BadIndex ∷ Ok (L.BothKinds 0 1) ∷ Ok (L.HeightTooGreat 500_000_000 0)
    ∷ Ok (L.TimeTooSmall 86_400 0) ∷ Ok (L.Malformed 0) ∷ [])
    ≡ [] ∷ [] ∷ [] ∷ [] ∷ [] ∷ [] ∷ [] ∷ []
unfolding lock_of heed_text number_decided heed_line
none_example = refl
