-- `export_words::report_of` meets its contract.
use Rattle.std.proofs.Common.{rules}
use Rattle.format.proofs.Tests.{tests}
use Rattle.export_words.specs.Words.{report_in}
use Rattle.export_words.proofs.report_of.Goals as goal

pub returns-then-is_report : goal.returns-then-is_report
unfolding report_in
returns-then-is_report c = search (rules, tests)

pub returns-else-is_report : goal.returns-else-is_report
unfolding report_in
returns-else-is_report c = search (rules, tests)
