-- What `?` hands on: the refusal that the call gave.
use mathlib.Core.Path.{◌≡◌, ◌∙◌, ap}
use Rattle.std.specs.Prelude.{Err, IsErrAnd}
use Rattle.std.proofs.lemmas.Result.{err_from_is_err_and}
use Rattle.format.specs.declared.PsbtError.{PsbtError}
use Rattle.format.specs.Answers.{Answer}

-- what is returned at a `?` is the refusal
pub hands_on : {A : Type 0} (r : Answer A) (e : PsbtError) → IsErrAnd r (λ x. x ≡ e) → r ≡ Err e
hands_on r e h = let p = err_from_is_err_and r h in p.1 ∙ ap (λ (x : PsbtError). Err x) p.2

-- what is returned at a `?` is the answer w, where that is the same refusal
pub handed_on : {A : Type 0} (r w : Answer A) (e : PsbtError) → IsErrAnd r (λ x. x ≡ e) → Err e ≡ w → r ≡ w
handed_on r w e h q = hands_on r e h ∙ q
