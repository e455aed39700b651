-- `export_words::word_of` meets its contract: each case has its law.
use Rattle.std.proofs.Common.{rules}
use Rattle.export_words.proofs.Words.{word_is}
use Rattle.export_words.proofs.word_of.Goals as goal

pub returns : goal.returns
returns c = word_is c.args.m _ _ c.map_or.ensures (λ n h. search (rules, h))
