use Rattle.std.proofs.Common.{◌<◌, length, add-one, arith, take-suc-set}
use Rattle.walks.proofs.order.Order.push.Goals as goal

pub returns : goal.returns
returns c = let h : c.args.self.now.count < length c.args.self.now.handles = omega arith in record { items = rw (add-one, take-suc-set) }
