-- Past the end: no bytes, and the numbers that writing gives. Assumes nothing.
use Rattle.std.proofs.Common.{arith}
use Rattle.sheets.proofs.Scanning.{listed, held, extra, all_right, one_wrong}
use Rattle.sheets.proofs.check.finish.Goals as goal

pub returns-then-after-bytes : goal.returns-then-after-bytes
returns-then-after-bytes c = λ K L limit read. rw c.at.ensures (extra read.lawful read.small read.ends read.room c.if-after-bytes.true)

pub new-records-requires : goal.new-records-requires
new-records-requires c = let read = c.requires.3 in (read.ends.at.seen, listed read.lawful read.small read.ends.at read.room)

pub visit-requires : goal.visit-requires
visit-requires c =
    let read = c.requires.3 in
    let at = read.ends.at in
    let e = c.new-records.ensures at.seen (listed read.lawful read.small at read.room) in
    (rw e (omega (arith, read.ends.some, at.counted)), omega arith)

pub bounds-list-stray : goal.bounds-list-stray
bounds-list-stray c =
    let read = c.requires.3 in
    let at = read.ends.at in
    let e = c.new-records.ensures at.seen (listed read.lawful read.small at read.room) in
    let strays = (rw e at c.in-Err.ensures) (held read.lawful read.small at read.room).apart in
    omega (arith, strays.inside, at.fits, read.room)

pub returns-in-Ok : goal.returns-in-Ok
returns-in-Ok c = λ K L limit read.
    let at = read.ends.at in
    let e = c.new-records.ensures at.seen (listed read.lawful read.small at read.room) in
    let keeps = (rw e at c.in-Ok.ensures) (held read.lawful read.small at read.room).apart in
    all_right read.lawful read.small read.ends read.room c.if-after-bytes.false _ keeps

pub returns-in-Err : goal.returns-in-Err
returns-in-Err c = λ K L limit read.
    let at = read.ends.at in
    let e = c.new-records.ensures at.seen (listed read.lawful read.small at read.room) in
    let strays = (rw e at c.in-Err.ensures) (held read.lawful read.small at read.room).apart in
    rw c.at-in-Err.ensures (one_wrong read.lawful read.small read.ends read.room c.if-after-bytes.false c.in-Err.stray.number strays)
