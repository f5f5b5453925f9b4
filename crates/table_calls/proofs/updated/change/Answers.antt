-- Insertion or removal asks what the kind says.
use Rattle.table_calls.proofs.updated.change.Goals as goal

pub insert-requires : goal.insert-requires
insert-requires c = rw c.in-Insert.is at c.requires

pub remove-requires : goal.remove-requires
remove-requires c = rw c.in-Remove.is at c.requires
