-- `export_words::put_listing` meets its contract: the words of its value are put.
use Rattle.std.proofs.Common.{refl}
use Rattle.format.specs.Told.{told_listing}
use Rattle.export_words.proofs.Answers.{put_told, listing_number}
use Rattle.export_words.proofs.put_listing.Goals as goal

pub returns : goal.returns
unfolding told_listing
returns c = put_told told_listing _ _ _ _ (λ e. refl) listing_number (λ v w h. h) c.put_answer.ensures
