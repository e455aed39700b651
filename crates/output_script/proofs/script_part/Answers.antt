-- `output_script::script_part` meets its contract: of a place that is named, its kind is told by three matches, one inside the other.
use Rattle.std.proofs.Common.{rules}
use Rattle.output_script.proofs.Scripts.{script_parts}
use Rattle.output_script.proofs.script_part.Goals.{in-Err-1, in-Ok+in-None-1}
use Rattle.output_script.proofs.script_part.Goals as goal

pub returns-in-Ok-Some-InFile : goal.returns-in-Ok-Some-InFile
returns-in-Ok-Some-InFile c =
    let p = rw c.in-Ok-Some-InFile.is at c.in-Ok-Some-InFile.field-0-is in
    let q = rw (c.in-Ok-Some-InFile.is, p) at c.in-Ok-Some-InFile.field-0-0-is in
    search (rules, script_parts, rw (p, q) at c.in-Ok-Some-InFile.is)

pub returns-in-Ok-Some-InTable : goal.returns-in-Ok-Some-InTable
returns-in-Ok-Some-InTable c =
    let p = rw c.in-Ok-Some-InTable.is at c.in-Ok-Some-InTable.field-0-is in
    let q = rw (c.in-Ok-Some-InTable.is, p) at c.in-Ok-Some-InTable.field-0-0-is in
    search (rules, script_parts, rw (p, q) at c.in-Ok-Some-InTable.is)

pub returns-in-Err : goal.returns-in-Err
returns-in-Err c = elim c.in-Err-1.branch [ in-Err-1 w ↦ search (rules, script_parts) | in-Ok+in-None-1 w ↦ search (rules, script_parts) ]
