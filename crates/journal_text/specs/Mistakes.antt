-- What is told of each mistake. Assumes nothing.
use Rattle.std.specs.Prelude.{ℕ, List, codes}
use Rattle.journal_text.specs.declared.mistake.Mistake.{Mistake}
use Rattle.journal_text.specs.declared.mistake.Mistake.TheVariants.{UnknownCommand, MissingCommand, MissingOperand, ExtraOperand, NotANumber, OutOfRange, BadName, BadHandle, UnknownKind, UnknownStore, UnknownList, OddHex, BadHex, NoHandle}

-- the words for a mistake: what is wrong, and what to write
abbrev pub wording : Mistake → List ℕ
wording UnknownCommand = codes "unknown command: begin the line with a command's name, or with NAME = and a command"
wording MissingCommand = codes "nothing follows the =: write a command after it"
wording MissingOperand = codes "an operand is missing: give the command all of its operands"
wording ExtraOperand = codes "an operand too many: end the line after the command's last operand, or write # before a comment"
wording NotANumber = codes "not a number: write decimal digits only"
wording OutOfRange = codes "number out of range: write 0 to 4294967295"
wording BadName = codes "not a name: write a letter a-z, then letters a-z, digits or _"
wording BadHandle = codes "not a handle: write a number or a name, a letter a-z and then letters a-z, digits or _"
wording UnknownKind = codes "unknown kind: write yesno or points"
wording UnknownStore = codes "unknown store: write last, own, or lent and a number"
wording UnknownList = codes "unknown list: write show walk or show output"
wording OddHex = codes "odd number of hex digits: write two for each byte, or - for no bytes"
wording BadHex = codes "not hex: write digits 0-9 and a-f, two for each byte, or - for no bytes"
wording NoHandle = codes "the command answers no handle: write it without NAME ="
