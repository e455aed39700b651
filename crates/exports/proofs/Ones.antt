-- Laws of one outcome for exported calls: number, answer and lent memory are told apart.
use mathlib.Core.Path.{◌≡◌, sym, ◌∙◌}
use Rattle.format.specs.Outcomes.{OneWith, OneWithBoth, OneWithThree}
use Rattle.export_words.specs.Words.{Export, exported, ExportWith, leaves, ExportWithBoth, leaves_both}

pub one_asked : (d : Export) → OneWith (λ r A. exported r A ≡ d)
one_asked d a b A B p q = let e : exported a A ≡ exported b B = p ∙ sym q in ((cc), (cc))

-- with a buffer
pub one_out : (d : ExportWith) → OneWithBoth (λ r C A. leaves (exported r A) C ≡ d)
one_out d a b C D A B p q = let e : leaves (exported a A) C ≡ leaves (exported b B) D = p ∙ sym q in ((cc), (cc), (cc))

-- with two tables
pub one_parse : (d : ExportWithBoth) → OneWithThree (λ r P M A. leaves_both (exported r A) P M ≡ d)
one_parse d a b P Q M N A B p q = let e : leaves_both (exported a A) P M ≡ leaves_both (exported b B) Q N = p ∙ sym q in ((cc), (cc), (cc), (cc))
