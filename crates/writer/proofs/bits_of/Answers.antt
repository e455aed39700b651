-- `writer::bits_of` meets its contract.
use Rattle.writer.proofs.Bits.{negative, positive}
use Rattle.writer.proofs.bits_of.Goals as goal

pub returns-then-v-lt0 : goal.returns-then-v-lt0
returns-then-v-lt0 c = negative c.args.v c.ranges.v c.if-v-lt0.true

pub returns-else-v-lt0 : goal.returns-else-v-lt0
returns-else-v-lt0 c = positive c.args.v c.ranges.v c.if-v-lt0.false
