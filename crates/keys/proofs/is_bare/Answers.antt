-- `keys::is_bare` meets its contract: each way through it has its law.
use Rattle.keys.proofs.Bare.{bare_one, bare_other}
use Rattle.keys.proofs.is_bare.Goals as goal

pub returns-then-key-eq1 : goal.returns-then-key-eq1
returns-then-key-eq1 c = bare_one _ _ c.if-key-eq1.true

pub returns-else-key-eq1 : goal.returns-else-key-eq1
returns-else-key-eq1 c = bare_other _ _ c.if-key-eq1.false
