-- A file's length: any of 1,048,576 bytes is read, any of one byte more is refused 21. No example of a megabyte computes, so these speak of its length.
use Rattle.std.specs.Prelude.{ℕ, ◌≡◌, refl, false, List, length, take}
use Rattle.format.specs.Keys.{same}
use Rattle.format.specs.Content.{magic}
use Rattle.format.specs.Reading.{limit, events_of, events}
use Rattle.format.specs.Parse.{parsed, cut}
use Rattle.format.specs.Told.{told_parsed, told_with, told_parse}
use Rattle.format.specs.Refusals.{number_of}
use Rattle.format.specs.Computed.{refused_with}

-- the limit as a number
pub limit_is : limit ≡ 1_048_576
unfolding limit
limit_is = refl

-- one byte more: 21, whatever the file and the room, and both tables stay
pub one_byte_more : (f P M : List ℕ) → length f ≡ 1_048_577 → told_parse (parsed f P M) ≡ told_with (refused_with 21 0 0) P M
unfolding limit events_of events parsed cut told_parse told_parsed number_of
one_byte_more f P M h = rw (h)

-- a file of the limit's length is read: with another beginning it is refused 1
pub the_limit_itself : (f P M : List ℕ) → length f ≡ 1_048_576 → same (take 5 f) magic ≡ false → told_parse (parsed f P M) ≡ told_with (refused_with 1 0 0) P M
unfolding limit events_of events parsed cut told_parse told_parsed number_of
the_limit_itself f P M h g = rw (h, g)
