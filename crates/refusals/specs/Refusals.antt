-- The numbers of the refusals, the layers that they come from, and what they say. Assumes nothing.
use Rattle.std.specs.Prelude.{ℕ, cond, ◌&&◌, List, codes, ◌==◌, nat_le}
use Rattle.refusals.specs.declared.layer.Layer.{Layer}
use Rattle.refusals.specs.declared.layer.Layer.TheVariants.{Bytes, Sheet, Table}
use Rattle.refusals.specs.declared.refusal.Refusal.{Refusal}
use Rattle.refusals.specs.declared.refusal.Refusal.TheVariants.{LayoutSize, NoSuchMark, NoSuchType, Capacity, NotAValue, NotLive, NotAConstant, NotAFruit, HoldLimit, NotHeld, WalkTooShort, OutputTooShort, RecordCut, RecordKind, RecordLength, WrongHead, TooManyRecords, LeafNotAValue, BadNode, Dropped, Repeated, WrongCount, BytesAfterEnd, WrongNumber, TableFull}

-- The number of a refusal.
abbrev pub number : Refusal → ℕ
number LayoutSize = 1
number NoSuchMark = 2
number NoSuchType = 3
number Capacity = 4
number NotAValue = 5
number NotLive = 6
number NotAConstant = 7
number NotAFruit = 8
number HoldLimit = 9
number NotHeld = 10
number WalkTooShort = 11
number OutputTooShort = 12
number RecordCut = 13
number RecordKind = 14
number RecordLength = 15
number WrongHead = 16
number TooManyRecords = 17
number LeafNotAValue = 18
number BadNode = 19
number Dropped = 20
number Repeated = 21
number WrongCount = 22
number BytesAfterEnd = 23
number WrongNumber = 24
number TableFull = 25

-- The layer of a number: bytes is 13, sheet 14 to 24, table the rest.
abbrev pub layer_of : ℕ → Layer
layer_of n = cond (n == 13) Bytes (cond (nat_le 14 n && nat_le n 24) Sheet Table)

-- The layer of a refusal.
abbrev pub layer : Refusal → Layer
layer e = layer_of (number e)

-- What a layer is called, as ASCII bytes.
abbrev pub layer_text : Layer → List ℕ
layer_text Bytes = codes "bytes"
layer_text Sheet = codes "sheet"
layer_text Table = codes "table"

-- What a refusal says, as ASCII bytes.
abbrev pub text : Refusal → List ℕ
text LayoutSize = codes "the layout has no marks or more than 32"
text NoSuchMark = codes "the layout has no such mark or level"
text NoSuchType = codes "a type is 0, 1 or 2"
text Capacity = codes "a capacity is a number from 2 to 4096"
text NotAValue = codes "the word is no value of this kind"
text NotLive = codes "the handle names no place in use"
text NotAConstant = codes "a mark is restricted to 0 or 1"
text NotAFruit = codes "the fruit has a mark that the layout lacks"
text HoldLimit = codes "the handle is held 65535 times already"
text NotHeld = codes "the handle is not held"
text WalkTooShort = codes "the walk list is shorter than the capacity"
text OutputTooShort = codes "the output is shorter than the sheet"
text RecordCut = codes "a record is missing or cut short"
text RecordKind = codes "a record of this kind is out of turn"
text RecordLength = codes "a record has not the length of its kind"
text WrongHead = codes "the sheet is for another kind or layout"
text TooManyRecords = codes "the sheet has more records than the table has places"
text LeafNotAValue = codes "a leaf holds no value of this kind"
text BadNode = codes "a node has a wrong level or a wrong child"
text Dropped = codes "the drop rule removes a node"
text Repeated = codes "a record stands twice"
text WrongCount = codes "the end counts the records wrongly"
text BytesAfterEnd = codes "bytes follow the end"
text WrongNumber = codes "a record stands out of the order of writing"
text TableFull = codes "the table is full"
