-- A record is judged by what it holds. Assumes nothing.
use Rattle.sheets.proofs.records.Records.check_item.Goals as goal

pub returns-in-Leaf : goal.returns-in-Leaf
returns-in-Leaf g c = λ L types. rw c.in-Leaf.is (c.check_leaf.ensures L)

pub returns-in-End : goal.returns-in-End
returns-in-End g c = λ L types. rw c.in-End.is (c.check_end.ensures g.V.Value.kind L c.args.expected.limit)
